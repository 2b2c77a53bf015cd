-- How many entries have a version, and what puts, ends and freeing do to their number.
use Rattle.std.proofs.Common.{◌≡◌, ◌≢◌, ℕ, zero, suc, ◌+◌, ◌<◌, ◌≤◌, ◌||◌, if◌then◌else◌, Bool, true, false, cond, IsTrue, List, [], ◌∷◌, length, Contains, nat_eq, Option, Some, None, ⊎_elim, refl, sym, ap, ap₂, ◌∙◌, arith, eq-eqb, ne_eqb, length-append, ◌⊎◌}
use Rattle.std.proofs.lemmas.Bool.{cases_eq, false_from_ne_true}
use Rattle.std.specs.List.{AllByRecursion}
use Rattle.kv_types.specs.declared.change.Change.{Change}
use Rattle.kv_types.specs.declared.place.EntryNo.{EntryNo}
use Rattle.model.specs.declared.group.Put.{Put}
use Rattle.model.specs.declared.group.PlacedChange.{PlacedChange}
use Rattle.model.specs.Group.{AreEnded, Contents, Versions, change_of, put_of, change_versions, changes_versions, ended_where_begun, is_ended_version, is_listed, with_puts, entries_of}
use Rattle.model.specs.Image.{Version}
use Rattle.mv_keyspace.specs.Table.{puts_of}
use Rattle.mv_keyspace.proofs.PartTables.{AreDistinct, distinct-first, empty-rest, with_puts-other}
use Rattle.mv_keyspace.proofs.VersionTables.{AreEmpty}
use Rattle.placing.specs.Out.{count_versions, has_version}
use Rattle.placing.proofs.MemberLemmas.{first_or_later, no_member}
use Rattle.placing.proofs.TakenLemmas.{All-map, All-prefix, All-rest}

-- ---- two versions of the same entries

abbrev one_if : Bool → ℕ
one_if has = if has then 1 else 0

-- the same entries have a version
pub same_count : (versions versions' : Versions) (n : ℕ) → ((i : ℕ) → i < n → has_version (versions' i) ≡ has_version (versions i)) → count_versions versions' n ≡ count_versions versions n
same_count versions versions' zero same = refl
same_count versions versions' (suc n) same =
    ap₂ (λ (has : Bool) (k : ℕ). one_if has + k) (same n (omega arith)) (same_count versions versions' n (λ i lt. same i (omega (arith, lt))))

-- one entry has a version that had none
pub one_counted : (versions versions' : Versions) (j n : ℕ) → j < n → has_version (versions j) ≡ false → has_version (versions' j) ≡ true
    → ((i : ℕ) → i ≢ j → has_version (versions' i) ≡ has_version (versions i)) → count_versions versions' n ≡ count_versions versions n + 1
one_counted versions versions' j zero lt none some same = absurd (omega (arith, lt))
one_counted versions versions' j (suc n) lt none some same =
    ⊎_elim
    (λ (at : n ≡ j). grind (arith, none, some, at, same_count versions versions' n (λ i lt'. same i (λ e. omega (arith, lt', at, e)))))
    (λ (other : n ≢ j). grind (arith, same n other, one_counted versions versions' j n (below n j lt other) none some same))
    (cases_eq n j)
  where
    below : (n j : ℕ) → j < suc n → n ≢ j → j < n
    below n j lt other = grind arith

pub none_counted : (versions : Versions) (n : ℕ) → ((i : ℕ) → i < n → has_version (versions i) ≡ false) → count_versions versions n ≡ 0
none_counted versions zero none = refl
none_counted versions (suc n) none = ap₂ (λ (has : Bool) (k : ℕ). one_if has + k) (none n (omega arith)) (none_counted versions n (λ i lt. none i (omega (arith, lt))))

-- ---- entries that a list names

-- without the version of one entry, there is at most one fewer
one_fewer : (m : ℕ) (versions : Versions) (n : ℕ) → count_versions versions n ≤ count_versions (λ i. cond (nat_eq i m) None (versions i)) n + 1
one_fewer m versions zero = omega arith
one_fewer m versions (suc n) =
    let without = λ (i : ℕ). cond (nat_eq i m) None (versions i) in
    ⊎_elim (λ (at : n ≡ m). grind (arith, at, same_count versions without n (λ i lt. ap (λ b. has_version (cond b None (versions i))) (ne_eqb i m (λ e. omega (arith, lt, at, e))))))
    (λ (other : n ≢ m). grind (arith, other, one_fewer m versions n)) (cases_eq n m)

-- there are no more versions than numbers in a list that has those of all their entries
pub listed_counted : (numbers : List ℕ) (versions : Versions) (n : ℕ) → ((i : ℕ) → IsTrue (has_version (versions i)) → Contains numbers i) → count_versions versions n ≤ length numbers
listed_counted [] versions n listed = omega (arith, none_counted versions n (λ i lt. false_from_ne_true (has_version (versions i)) (λ has. no_member i (listed i has))))
listed_counted (m ∷ numbers) versions n listed =
    let without = λ (i : ℕ). cond (nat_eq i m) None (versions i) in
    omega (arith, one_fewer m versions n, listed_counted numbers without n (λ i has. others i has))
  where
    others : (i : ℕ) → IsTrue (has_version (cond (nat_eq i m) None (versions i))) → Contains numbers i
    others i has = let old : IsTrue (has_version (versions i)) → (m ≡ i) ⊎ Contains numbers i = λ h. first_or_later m i numbers (listed i h) in grind (arith, old)

-- ---- changes

ended_has : (change : Change) (entry : Option Version) → has_version (ended_where_begun change entry) ≡ has_version entry
ended_has change None = refl
ended_has change (Some version) = refl

-- a change that ends versions keeps their number
pub ended_counted : (change : Change) (versions : Versions) (n : ℕ) → count_versions (λ i. ended_where_begun change (versions i)) n ≡ count_versions versions n
ended_counted change versions n = same_count versions (λ i. ended_where_begun change (versions i)) n (λ i lt. ended_has change (versions i))

abbrev pub AreBelow : ℕ → List Put → Type 0
AreBelow n puts = AllByRecursion (λ (put : Put). put.entry.0 < n) puts

-- the versions with puts at entries of their own are as many more as there are puts
puts_counted : (position : ℕ) (versions : Versions) (puts : List Put) (n : ℕ) → AreBelow n puts → AreEmpty versions puts → AreDistinct puts → count_versions (with_puts position puts versions) n ≡ count_versions versions n + length puts
puts_counted position versions [] n below empty distinct = omega arith
puts_counted position versions (put ∷ puts) n below empty distinct =
    let rest = puts_counted position versions puts n below.1 empty.1 distinct.1 in
    let one = one_counted (with_puts position puts versions) (with_puts position (put ∷ puts) versions) put.entry.0 n below.0 (ap has_version (with_puts-other position puts versions put.entry.0 distinct.0 ∙ empty.0)) (grind arith) (λ i other. grind arith) in
    omega (arith, rest, one)

-- the versions after changes are as many more as there are puts among them
pub changes_counted : (position : ℕ) (versions : Versions) (changes : List PlacedChange) (n : ℕ) → AreBelow n (puts_of changes) → AreEmpty versions (puts_of changes) → AreDistinct (puts_of changes)
    → count_versions (changes_versions position versions changes) n ≡ count_versions versions n + length (puts_of changes)
changes_counted position versions [] n below empty distinct = omega arith
changes_counted position versions (c ∷ changes) n below empty distinct =
    let ended = λ (i : ℕ). ended_where_begun (change_of c) (versions i) in
    let first = puts_counted position ended (put_of c) n (All-prefix _ (put_of c) (puts_of changes) below)
    (All-map _ _ (λ put none. ap (ended_where_begun (change_of c)) none) (put_of c) (All-prefix _ (put_of c) (puts_of changes) empty)) (distinct-first (put_of c) (puts_of changes) distinct) in
    let after = empty-rest position versions c changes empty distinct in
    omega (arith, first, ended_counted (change_of c) versions n, changes_counted position (change_versions position versions c) changes n (All-rest _ (put_of c) (puts_of changes) below) after.0 after.1, length-append (put_of c) (puts_of changes))

-- ---- freeing

ended_is : (entry : Option Version) → IsTrue (is_ended_version entry) → has_version entry ≡ true
ended_is None ended = ended
ended_is (Some version) ended = refl

-- the versions without those of entries that have ended are as many fewer as there are entries
pub freed_counted : (contents : Contents) (entries : List EntryNo) → AreEnded contents entries
    → count_versions (λ i. if is_listed i entries then None else contents.versions i) (entries_of contents) + length entries ≡ count_versions contents.versions (entries_of contents)
freed_counted contents [] ended = omega arith
freed_counted contents (entry ∷ entries) ended =
    let n = entries_of contents in
    let after = λ (i : ℕ). cond (is_listed i (entry ∷ entries)) None (contents.versions i) in
    let between = λ (i : ℕ). cond (is_listed i entries) None (contents.versions i) in
    let rest = freed_counted contents entries ended.3 in
    let first = one_counted after between entry.0 n ended.0
    (ap (λ b. has_version (cond (b || is_listed entry.0 entries) None (contents.versions entry.0))) (eq-eqb entry.0 entry.0 refl))
    (ap (λ b. has_version (cond b None (contents.versions entry.0))) ended.2 ∙ ended_is (contents.versions entry.0) ended.1)
    (λ i other. sym (ap (λ b. has_version (cond (b || is_listed i entries) None (contents.versions i))) (ne_eqb i entry.0 other))) in
    omega (arith, first, rest)
