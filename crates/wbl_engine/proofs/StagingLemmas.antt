-- The loops over parts, changes and entries, one step at a time.
use Rattle.std.proofs.Common.{◌≡◌, ℕ, zero, suc, ◌+◌, ◌<◌, List, [], ◌∷◌, ◌++◌, length, map, take, get_or, refl, sym, ap, subst, ◌∙◌, arith, append_assoc}
use Rattle.std.specs.List.{flat_map, AllByRecursion}
use Rattle.std.proofs.lemmas.Grind.{flat_map-append}
use Rattle.std.proofs.lemmas.List.{take_more, map-append, append-nil}
use Rattle.kv_types.specs.declared.place.EntryNo.{EntryNo}
use Rattle.pmem.specs.Device.{State}
use Rattle.pmem.specs.Runs.{Runs, stores, flushes}
use Rattle.model.specs.declared.group.Part.{Part}
use Rattle.model.specs.declared.group.PlacedChange.{PlacedChange}
use Rattle.model.specs.declared.group.PlacedChange.TheVariants as placed
use Rattle.model.specs.declared.group.Put.{Put}
use Rattle.model.specs.Group.{put_of}
use Rattle.heap_layout.specs.Put.{put_pairs, put_lines}
use Rattle.wbl_engine.specs.Stage.{puts_of_changes, puts_pairs, part_pairs, parts_pairs, puts_lines, part_lines, parts_lines}
use Rattle.heap_layout.proofs.LayoutRuns.{Runs-more_stores, Runs-more_flushes}

-- a change that puts nothing
pub no_put : (change : PlacedChange) → ((put : Put) → change ≡ placed.Put put → ⊥) → put_of change ≡ []
no_put (placed.Put put) other = absurd (other put refl)
no_put (placed.Drop id) other = refl
no_put (placed.DropKey key) other = refl
no_put placed.Clear other = refl

pub all_at : {X : Type 0} (P : X → Type 0) (xs : List X) (i : ℕ) (d : X) → i < length xs → AllByRecursion P xs → P (get_or xs i d)
all_at P [] i d below all = absurd (omega arith)
all_at P (y ∷ xs) zero d below all = all.0
all_at P (y ∷ xs) (suc i) d below all = all_at P xs i d (omega arith) all.1

pub all-prefix : {Y : Type 0} (P : Y → Type 0) (a b : List Y) → AllByRecursion P (a ++ b) → AllByRecursion P a
all-prefix P [] b all = tt
all-prefix P (y ∷ a) b all = (all.0, all-prefix P a b all.1)

pub all-back : {Y : Type 0} (P : Y → Type 0) (a b : List Y) → AllByRecursion P (a ++ b) → AllByRecursion P b
all-back P [] b all = all
all-back P (y ∷ a) b all = all-back P a b all.1

all-both : {Y : Type 0} (P : Y → Type 0) (a b : List Y) → AllByRecursion P a → AllByRecursion P b → AllByRecursion P (a ++ b)
all-both P [] b first second = second
all-both P (y ∷ a) b first second = (first.0, all-both P a b first.1 second)

-- what holds of the elements of all the lists holds of the elements of one of them
pub all_of_item : {X Y : Type 0} (P : Y → Type 0) (f : X → List Y) (xs : List X) (i : ℕ) (x : X) → i < length xs → x ≡ get_or xs i x
    → AllByRecursion P (flat_map f xs) → AllByRecursion P (f x)
all_of_item P f [] i x below is all = absurd (omega arith)
all_of_item P f (y ∷ xs) zero x below is all = subst (λ z. AllByRecursion P (f z)) (sym is) (all-prefix P (f y) (flat_map f xs) all)
all_of_item P f (y ∷ xs) (suc i) x below is all = all_of_item P f xs i x (omega arith) is (all-back P (f y) (flat_map f xs) all)

-- one more element
pub take-item : {X : Type 0} (xs : List X) (i : ℕ) (x : X) → i < length xs → x ≡ get_or xs i x → take (i + 1) xs ≡ take i xs ++ x ∷ []
take-item xs i x below is = take_more xs i x below ∙ ap (λ y. take i xs ++ y ∷ []) (sym is)

flat_map-item : {X Y : Type 0} (f : X → List Y) (xs : List X) (i : ℕ) (x : X) → i < length xs → x ≡ get_or xs i x
    → flat_map f (take (i + 1) xs) ≡ flat_map f (take i xs) ++ f x
flat_map-item f xs i x below is =
    ap (flat_map f) (take-item xs i x below is) ∙ flat_map-append f (take i xs) (x ∷ []) ∙ ap (λ ys. flat_map f (take i xs) ++ ys) (append-nil (f x))

pub all_more : {X Y : Type 0} (P : Y → Type 0) (f : X → List Y) (xs : List X) (i : ℕ) (x : X) → i < length xs → x ≡ get_or xs i x
    → AllByRecursion P (flat_map f (take i xs)) → AllByRecursion P (f x) → AllByRecursion P (flat_map f (take (i + 1) xs))
all_more P f xs i x below is prefix one =
    subst (AllByRecursion P) (sym (flat_map-item f xs i x below is)) (all-both P (flat_map f (take i xs)) (f x) prefix one)

-- runs that store or flush what a loop has handled so far
pub stores_more : {a b c : State} (now prefix one : List (ℕ × ℕ)) → now ≡ prefix ++ one → Runs a b (stores prefix a.words) → Runs b c (stores one b.words)
    → Runs a c (stores now a.words)
stores_more {a} {b} {c} now prefix one is run more =
    subst (λ (pairs : List (ℕ × ℕ)). Runs a c (stores pairs a.words)) (sym is) (Runs-more_stores prefix one run more)

flushes_more : {a b c : State} (now prefix one : List ℕ) → now ≡ prefix ++ one → Runs a b (flushes prefix a.words) → Runs b c (flushes one b.words)
    → Runs a c (flushes now a.words)
flushes_more {a} {b} {c} now prefix one is run more =
    subst (λ (lines : List ℕ). Runs a c (flushes lines a.words)) (sym is) (Runs-more_flushes prefix one run more)

-- the loop over changes
pub changes_stored : {a b c : State} (stamp position : ℕ) (changes : List PlacedChange) (i : ℕ) (change : PlacedChange) → i < length changes
    → change ≡ get_or changes i change → Runs a b (stores (puts_pairs stamp position (puts_of_changes (take i changes))) a.words)
    → Runs b c (stores (puts_pairs stamp position (put_of change)) b.words)
    → Runs a c (stores (puts_pairs stamp position (puts_of_changes (take (i + 1) changes))) a.words)
changes_stored {a} {b} {c} stamp position changes i change below is run more =
    stores_more (puts_pairs stamp position (puts_of_changes (take (i + 1) changes))) (puts_pairs stamp position (puts_of_changes (take i changes)))
    (puts_pairs stamp position (put_of change))
    (ap (puts_pairs stamp position) (flat_map-item put_of changes i change below is)
    ∙ flat_map-append (put_pairs stamp position) (puts_of_changes (take i changes)) (put_of change))
    run more

pub changes_flushed : {a b c : State} (changes : List PlacedChange) (i : ℕ) (change : PlacedChange) → i < length changes
    → change ≡ get_or changes i change → Runs a b (flushes (puts_lines (puts_of_changes (take i changes))) a.words)
    → Runs b c (flushes (puts_lines (put_of change)) b.words)
    → Runs a c (flushes (puts_lines (puts_of_changes (take (i + 1) changes))) a.words)
changes_flushed {a} {b} {c} changes i change below is run more =
    flushes_more (puts_lines (puts_of_changes (take (i + 1) changes))) (puts_lines (puts_of_changes (take i changes))) (puts_lines (put_of change))
    (ap puts_lines (flat_map-item put_of changes i change below is) ∙ flat_map-append put_lines (puts_of_changes (take i changes)) (put_of change))
    run more

-- a loop over entries, each of which stores a pair, or flushes a line
pub entries_stored : {a b c : State} (f : EntryNo → ℕ × ℕ) (entries : List EntryNo) (i : ℕ) (d : EntryNo) → i < length entries
    → Runs a b (stores (map f (take i entries)) a.words) → Runs b c (stores (f (get_or entries i d) ∷ []) b.words)
    → Runs a c (stores (map f (take (i + 1) entries)) a.words)
entries_stored f entries i d below run more =
    stores_more (map f (take (i + 1) entries)) (map f (take i entries)) (f (get_or entries i d) ∷ [])
    (ap (map f) (take_more entries i d below) ∙ map-append f (take i entries) (get_or entries i d ∷ [])) run more

pub entries_flushed : {a b c : State} (f : EntryNo → ℕ) (entries : List EntryNo) (i : ℕ) (d : EntryNo) → i < length entries
    → Runs a b (flushes (map f (take i entries)) a.words) → Runs b c (flushes (f (get_or entries i d) ∷ []) b.words)
    → Runs a c (flushes (map f (take (i + 1) entries)) a.words)
entries_flushed f entries i d below run more =
    flushes_more (map f (take (i + 1) entries)) (map f (take i entries)) (f (get_or entries i d) ∷ [])
    (ap (map f) (take_more entries i d below) ∙ map-append f (take i entries) (get_or entries i d ∷ [])) run more

parts_pairs-append : (stamp : ℕ) (a b : List Part) → parts_pairs stamp (a ++ b) ≡ parts_pairs stamp a ++ parts_pairs (stamp + length a) b
parts_pairs-append stamp [] b = let e : stamp ≡ stamp + 0 = omega arith in ap (λ (n : ℕ). parts_pairs n b) e
parts_pairs-append stamp (part ∷ a) b =
    let e : (stamp + 1) + length a ≡ stamp + suc (length a) = omega arith in
    ap (λ (rest : List (ℕ × ℕ)). part_pairs stamp part ++ rest)
    (parts_pairs-append (stamp + 1) a b ∙ ap (λ (n : ℕ). parts_pairs (stamp + 1) a ++ parts_pairs n b) e)
    ∙ sym (append_assoc (part_pairs stamp part) (parts_pairs (stamp + 1) a) (parts_pairs (stamp + suc (length a)) b))

length-take_below : {X : Type 0} (xs : List X) (i : ℕ) → i < length xs → length (take i xs) ≡ i
length-take_below [] i below = absurd (omega arith)
length-take_below (x ∷ xs) zero below = refl
length-take_below (x ∷ xs) (suc i) below = ap suc (length-take_below xs i (omega arith))

-- the loop over parts
pub parts_stored : {a b c : State} (stamp : ℕ) (parts : List Part) (i : ℕ) (part : Part) → i < length parts → part ≡ get_or parts i part
    → Runs a b (stores (parts_pairs stamp (take i parts)) a.words) → Runs b c (stores (part_pairs (stamp + i) part) b.words)
    → Runs a c (stores (parts_pairs stamp (take (i + 1) parts)) a.words)
parts_stored {a} {b} {c} stamp parts i part below is run more =
    stores_more (parts_pairs stamp (take (i + 1) parts)) (parts_pairs stamp (take i parts)) (part_pairs (stamp + i) part)
    (ap (parts_pairs stamp) (take-item parts i part below is) ∙ parts_pairs-append stamp (take i parts) (part ∷ [])
    ∙ ap (λ (n : ℕ). parts_pairs stamp (take i parts) ++ (part_pairs (stamp + n) part ++ [])) (length-take_below parts i below)
    ∙ ap (λ (pairs : List (ℕ × ℕ)). parts_pairs stamp (take i parts) ++ pairs) (append-nil (part_pairs (stamp + i) part)))
    run more

pub parts_flushed : {a b c : State} (parts : List Part) (i : ℕ) (part : Part) → i < length parts → part ≡ get_or parts i part
    → Runs a b (flushes (parts_lines (take i parts)) a.words) → Runs b c (flushes (part_lines part) b.words)
    → Runs a c (flushes (parts_lines (take (i + 1) parts)) a.words)
parts_flushed {a} {b} {c} parts i part below is run more =
    flushes_more (parts_lines (take (i + 1) parts)) (parts_lines (take i parts)) (part_lines part) (flat_map-item part_lines parts i part below is) run more

-- the default for an index past the end of a list of entries
abbrev pub no_entry : EntryNo
no_entry = record { 0 = 0 }

-- ---- a loop over puts

pub all_item : {X : Type 0} (P : X → Type 0) (xs : List X) (i : ℕ) (x : X) → i < length xs → x ≡ get_or xs i x → AllByRecursion P xs → P x
all_item P xs i x below is all = subst P (sym is) (all_at P xs i x below all)

pub all_next : {X : Type 0} (P : X → Type 0) (xs : List X) (i : ℕ) (x : X) → i < length xs → x ≡ get_or xs i x → AllByRecursion P (take i xs) → P x
    → AllByRecursion P (take (i + 1) xs)
all_next P xs i x below is prefix one =
    subst (AllByRecursion P) (sym (take-item xs i x below is)) (all-both P (take i xs) (x ∷ []) prefix (one, tt))

pub next_put_stored : {a b c : State} (stamp position : ℕ) (puts : List Put) (i : ℕ) (put : Put) → i < length puts → put ≡ get_or puts i put
    → Runs a b (stores (puts_pairs stamp position (take i puts)) a.words) → Runs b c (stores (put_pairs stamp position put) b.words)
    → Runs a c (stores (puts_pairs stamp position (take (i + 1) puts)) a.words)
next_put_stored {a} {b} {c} stamp position puts i put below is run more =
    stores_more (puts_pairs stamp position (take (i + 1) puts)) (puts_pairs stamp position (take i puts)) (put_pairs stamp position put)
    (flat_map-item (put_pairs stamp position) puts i put below is) run more

pub next_put_flushed : {a b c : State} (puts : List Put) (i : ℕ) (put : Put) → i < length puts → put ≡ get_or puts i put
    → Runs a b (flushes (puts_lines (take i puts)) a.words) → Runs b c (flushes (put_lines put) b.words)
    → Runs a c (flushes (puts_lines (take (i + 1) puts)) a.words)
next_put_flushed {a} {b} {c} puts i put below is run more =
    flushes_more (puts_lines (take (i + 1) puts)) (puts_lines (take i puts)) (put_lines put) (flat_map-item put_lines puts i put below is) run more
