-- What parts leave of the versions that were begun: each stays at its entry, on its lines, where no put is made there.
use Rattle.std.proofs.Common.{◌≡◌, ℕ, Bool, true, false, cond, ◌||◌, IsTrue, List, [], ◌∷◌, ◌++◌, Option, Some, nat_eq, refl, sym, ap, subst, ◌∙◌, eq-eqb, ne_eqb}
use Rattle.std.proofs.lemmas.Bool.{or_left, or_parts}
use Rattle.std.specs.List.{flat_map, AllByRecursion}
use Rattle.kv_types.specs.declared.change.Change.{Change}
use Rattle.model.specs.declared.group.Part.{Part}
use Rattle.model.specs.declared.group.Put.{Put}
use Rattle.model.specs.declared.group.PlacedChange.{PlacedChange}
use Rattle.model.specs.declared.group.PlacedChange.TheVariants as placed
use Rattle.model.specs.Image.{Version}
use Rattle.model.specs.Group.{AreAllApart, IsApartFrom, Versions, change_of, change_versions, changes_versions, ended_by, ended_where_begun, ends_record, is_put_at, part_versions, parts_versions, put_of, puts_of_part, version_of_put}
use Rattle.model.proofs.GroupsLemmas.{AreAllApart-prefix, AreAllApart-rest, is_put_at-append}
use Rattle.placing.proofs.TakenLemmas.{All-append, All-both, All-rest, apart_distinct}

-- ---- puts that are apart

-- no later put is at the entry of an earlier one
none_later : (xs ys : List Put) → AreAllApart (xs ++ ys) → AllByRecursion (λ put. is_put_at put.entry.0 ys ≡ false) xs
none_later [] ys apart = tt
none_later (x ∷ xs) ys apart = (apart_distinct x ys (All-rest (IsApartFrom x) xs ys apart.0), none_later xs ys apart.1)

nowhere : (ys : List Put) → AllByRecursion (λ put. is_put_at put.entry.0 [] ≡ false) ys
nowhere [] = tt
nowhere (y ∷ ys) = (refl, nowhere ys)

-- no earlier put is at the entry of a later one
pub none_earlier : (xs ys : List Put) → AreAllApart (xs ++ ys) → AllByRecursion (λ put. is_put_at put.entry.0 xs ≡ false) ys
none_earlier [] ys apart = nowhere ys
none_earlier (x ∷ xs) ys apart =
    All-both (IsApartFrom x) (λ put. is_put_at put.entry.0 xs ≡ false) (λ put. is_put_at put.entry.0 (x ∷ xs) ≡ false)
    (λ put other beside. ap (λ b. b || is_put_at put.entry.0 xs) (ne_eqb put.entry.0 x.entry.0 (λ e. other.entries (sym e))) ∙ beside)
    ys (All-rest (IsApartFrom x) xs ys apart.0) (none_earlier xs ys apart.1)

-- ---- versions that stay

-- the version is still there, on its lines, and is ended if it was
pub record IsStill (old : Version) (now : Option Version) : Type 0 where
  pub version : Version
  pub is : now ≡ Some version
  pub first_line : version.first_line ≡ old.first_line
  pub lines : version.lines ≡ old.lines
  pub ended : IsTrue old.is_ended → IsTrue version.is_ended

pub still-same : (version : Version) (now : Option Version) → now ≡ Some version → IsStill version now
still-same version now is = record { version = version; is = is; first_line = refl; lines = refl; ended = λ e. e }

still_ended : (change : Change) (old : Version) (now : Option Version) → IsStill old now → IsStill old (ended_where_begun change now)
still_ended change old now still = record {
  version = ended_by change still.version;
  is = ap (ended_where_begun change) still.is;
  first_line = still.first_line;
  lines = still.lines;
  ended = λ e. or_left still.version.is_ended (ends_record change still.version.id) (still.ended e);
}

still_change : (position : ℕ) (versions : Versions) (c : PlacedChange) (i : ℕ) (old : Version) → IsStill old (versions i) → is_put_at i (put_of c) ≡ false
    → IsStill old (change_versions position versions c i)
still_change position versions (placed.Put put) i old still beside =
    subst (λ here. IsStill old (cond here (Some (version_of_put position put)) (ended_where_begun (change_of (placed.Put put)) (versions i))))
    (sym (or_parts (nat_eq i put.entry.0) false beside).0) (still_ended (change_of (placed.Put put)) old (versions i) still)
still_change position versions (placed.Drop id) i old still beside = still_ended (change_of (placed.Drop id)) old (versions i) still
still_change position versions (placed.DropKey key) i old still beside = still_ended (change_of (placed.DropKey key)) old (versions i) still
still_change position versions placed.Clear i old still beside = still_ended (change_of placed.Clear) old (versions i) still

pub still-changes : (position : ℕ) (versions : Versions) (changes : List PlacedChange) (i : ℕ) (old : Version) → IsStill old (versions i) → is_put_at i (flat_map put_of changes) ≡ false
    → IsStill old (changes_versions position versions changes i)
still-changes position versions [] i old still beside = still
still-changes position versions (c ∷ changes) i old still beside =
    let apart = or_parts (is_put_at i (put_of c)) (is_put_at i (flat_map put_of changes)) (sym (is_put_at-append i (put_of c) (flat_map put_of changes)) ∙ beside) in
    still-changes position (change_versions position versions c) changes i old (still_change position versions c i old still apart.0) apart.1

pub still-parts : (versions : Versions) (parts : List Part) (i : ℕ) (old : Version) → IsStill old (versions i) → is_put_at i (flat_map puts_of_part parts) ≡ false → IsStill old (parts_versions versions parts i)
still-parts versions [] i old still beside = still
still-parts versions (part ∷ parts) i old still beside =
    let apart = or_parts (is_put_at i (puts_of_part part)) (is_put_at i (flat_map puts_of_part parts)) (sym (is_put_at-append i (puts_of_part part) (flat_map puts_of_part parts)) ∙ beside) in
    still-parts (part_versions versions part) parts i old (still-changes part.position versions part.changes.items i old still apart.0) apart.1

-- ---- versions of puts

-- the entry of the put has a version, on its lines
abbrev pub IsBegunIn : Versions → Put → Type 0
IsBegunIn versions put = IsStill (version_of_put 0 put) (versions put.entry.0)

begun_change : (position : ℕ) (versions : Versions) (c : PlacedChange) → AllByRecursion (IsBegunIn (change_versions position versions c)) (put_of c)
begun_change position versions (placed.Put put) =
    let here = λ (b : Bool). cond b (Some (version_of_put position put)) (ended_where_begun (change_of (placed.Put put)) (versions put.entry.0)) in
    let made : IsStill (version_of_put 0 put) (here true) = record { version = version_of_put position put; is = refl; first_line = refl; lines = refl; ended = λ e. cc } in
    (subst (λ b. IsStill (version_of_put 0 put) (here b)) (sym (eq-eqb put.entry.0 put.entry.0 refl)) made, tt)
begun_change position versions (placed.Drop id) = tt
begun_change position versions (placed.DropKey key) = tt
begun_change position versions placed.Clear = tt

begun_changes : (position : ℕ) (versions : Versions) (changes : List PlacedChange) → AreAllApart (flat_map put_of changes)
    → AllByRecursion (IsBegunIn (changes_versions position versions changes)) (flat_map put_of changes)
begun_changes position versions [] apart = tt
begun_changes position versions (c ∷ changes) apart =
    let first = put_of c in
    let others = flat_map put_of changes in
    let after = change_versions position versions c in
    let all = changes_versions position after changes in
    All-append (IsBegunIn all) first others
    (All-both (IsBegunIn after) (λ put. is_put_at put.entry.0 others ≡ false) (IsBegunIn all)
    (λ put begun beside. still-changes position after changes put.entry.0 (version_of_put 0 put) begun beside) first (begun_change position versions c) (none_later first others apart))
    (begun_changes position after changes (AreAllApart-rest first others apart))

-- after parts whose puts are apart, each put has made a version
pub begun-parts : (versions : Versions) (parts : List Part) → AreAllApart (flat_map puts_of_part parts) → AllByRecursion (IsBegunIn (parts_versions versions parts)) (flat_map puts_of_part parts)
begun-parts versions [] apart = tt
begun-parts versions (part ∷ parts) apart =
    let first = puts_of_part part in
    let others = flat_map puts_of_part parts in
    let after = part_versions versions part in
    let all = parts_versions after parts in
    All-append (IsBegunIn all) first others
    (All-both (IsBegunIn after) (λ put. is_put_at put.entry.0 others ≡ false) (IsBegunIn all)
    (λ put begun beside. still-parts after parts put.entry.0 (version_of_put 0 put) begun beside) first
    (begun_changes part.position versions part.changes.items (AreAllApart-prefix first others apart)) (none_later first others apart))
    (begun-parts after parts (AreAllApart-rest first others apart))
