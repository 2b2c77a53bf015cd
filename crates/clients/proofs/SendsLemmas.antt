-- How writes of what was released follow one another.
use Rattle.std.proofs.Common.{◌≡◌, ◌≤◌, ℕ, List, [], ◌++◌, length, take, drop, Option, sym, ap, ◌∙◌, append_assoc, take-append-drop}
use Rattle.std.proofs.lemmas.List.{take-append-le}
use Rattle.std.proofs.KnownBytes.{Appends-trans}
use Rattle.std.specs.Io.KnownBytes.{Appends}
use Rattle.clients.specs.Texts.{Sends}

pub sends-on : (c0 c1 c2 : Option (List ℕ)) (p0 p1 p2 : List ℕ) → Sends c0 c1 p0 p1 → Sends c1 c2 p1 p2 → Sends c0 c2 p0 p2
sends-on c0 c1 c2 p0 p1 p2 one two =
    record {
      first = one.first ++ two.first;
      writes = Appends-trans c0 c1 c2 one.first two.first one.writes two.writes;
      whole = one.whole ∙ ap (λ bytes. one.first ++ bytes) two.whole ∙ sym (append_assoc one.first two.first p2);
    }

-- more was released behind what is still to go out
pub sends-more : (c0 c1 : Option (List ℕ)) (p0 p1 more : List ℕ) → Sends c0 c1 p0 p1 → Sends c0 c1 (p0 ++ more) (p1 ++ more)
sends-more c0 c1 p0 p1 more one =
    record {
      first = one.first;
      writes = one.writes;
      whole = ap (λ bytes. bytes ++ more) one.whole ∙ append_assoc one.first p1 more;
    }

-- the front of the bytes that lie together was written
pub sends-front : (c0 c1 : Option (List ℕ)) (p0 p1 bytes rest : List ℕ) (count : ℕ) → p0 ≡ bytes ++ rest → count ≤ length bytes → Appends c0 c1 (take count bytes) → p1 ≡ drop count p0 → Sends c0 c1 p0 p1
sends-front c0 c1 p0 p1 bytes rest count split most appends left =
    record {
      first = take count bytes;
      writes = appends;
      whole = sym (take-append-drop count p0) ∙ ap (λ xs. xs ++ drop count p0) (ap (λ xs. take count xs) split ∙ take-append-le count bytes rest most) ∙ ap (λ xs. take count bytes ++ xs) (sym left);
    }
