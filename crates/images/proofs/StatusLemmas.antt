-- What `status` prints line by line.
use Rattle.std.proofs.Common.{◌≡◌, ℕ, ◌-◌, List, Option, codes, append-nil, length, sym, subst}
use Rattle.std.proofs.KnownBytes.{Appends-trans}
use Rattle.std.specs.Io.KnownBytes.{Appends}
use Rattle.heap_layout.specs.Versions.{live_in}
use Rattle.model.specs.Image.{entries_of_lines}
use Rattle.images.specs.Printed.{number_line, role_line}
use Rattle.images.specs.Status.{status_text}
use Rattle.images.specs.declared.reading.Reading.{Reading}

-- all lines of a reading, one after another
pub status-whole : (reading : Reading) (taken room versions ended cut entries gaps : ℕ) (a b c p d e f g h i j k : Option (List ℕ))
    → versions ≡ length reading.versions.counted.items
    → ended ≡ length reading.versions.counted.items - length (live_in reading.versions.counted.items)
    → cut ≡ length reading.versions.gapped.items → entries ≡ entries_of_lines reading.current.layout reading.lines → gaps ≡ length reading.current.gaps.items
    → Appends a b (role_line reading.current.role) → Appends b c (number_line (codes "epoch") reading.current.epoch)
    → Appends c p (number_line (codes "pair") reading.pair) → Appends p d (number_line (codes "position") reading.current.position) → Appends d e (number_line (codes "versions") versions)
    → Appends e f (number_line (codes "ended") ended) → Appends f g (number_line (codes "cut") cut)
    → Appends g h (number_line (codes "entries") entries) → Appends h i (number_line (codes "lines") taken)
    → Appends i j (number_line (codes "room") room) → Appends j k (number_line (codes "gaps") gaps) → Appends a k (status_text reading taken room)
status-whole reading taken room versions ended cut entries gaps a b c p d e f g h i j k is_versions is_ended is_cut is_entries is_gaps role epoch pair position one two three four lines all last =
    Appends-trans a b k _ _ role
    (Appends-trans b c k _ _ epoch
    (Appends-trans c p k _ _ pair
    (Appends-trans p d k _ _ position
    (Appends-trans d e k _ _ (subst (λ (n : ℕ). Appends d e (number_line (codes "versions") n)) is_versions one)
    (Appends-trans e f k _ _ (subst (λ (n : ℕ). Appends e f (number_line (codes "ended") n)) is_ended two)
    (Appends-trans f g k _ _ (subst (λ (n : ℕ). Appends f g (number_line (codes "cut") n)) is_cut three)
    (Appends-trans g h k _ _ (subst (λ (n : ℕ). Appends g h (number_line (codes "entries") n)) is_entries four)
    (Appends-trans h i k _ _ lines
    (Appends-trans i j k _ _ all
    (subst (Appends j k) (sym (append-nil (number_line (codes "gaps") (length reading.current.gaps.items))))
    (subst (λ (n : ℕ). Appends j k (number_line (codes "gaps") n)) is_gaps last)))))))))))
