-- What has ended is in no map, wherever it lies.
use Rattle.std.proofs.Common.{◌≡◌, ℕ, true, List, ◌⊎◌, inl, inr, Option, None, Some, sym, ap, ◌∙◌}
use Rattle.std.specs.Prelude.{nat_eq, ◌≢◌}
use Rattle.std.proofs.lemmas.Bool.{both_ways, cond-false, cond-true, eq-eqb}
use Rattle.kv_types.specs.declared.record_id.RecordId.{RecordId}
use Rattle.kv_types.specs.Keyspace.{Keyspace}
use Rattle.pmem.proofs.Staging.{same_or_other, unequal}
use Rattle.model.specs.Group.{Contents, Versions, entries_of}
use Rattle.model.specs.Image.{IsLive, IsMapOf, Version}
use Rattle.wbl_migrate.specs.Ended.{HaveOneMap, IsMovable, after_move, at_line, with_copy}

-- ---- versions that are live in the same entries

abbrev LiveAlike : Versions → Versions → Type 0
LiveAlike old new = (i : ℕ) (id : RecordId) (value : List ℕ) → IsLive old i id value → IsLive new i id value

IsMapOf-alike : (old new : Versions) (entries : ℕ) (s : Keyspace) → LiveAlike old new → LiveAlike new old → IsMapOf old entries s → IsMapOf new entries s
IsMapOf-alike old new entries s there back map =
    record {
      held = λ id value at. let live = map.held id value at in (live.0, live.1, there live.0 id value live.2);
      found = λ i id value below live. map.found i id value below (back i id value live);
      once = λ i j id v w below_i below_j live_i live_j. map.once i j id v w below_i below_j (back i id v live_i) (back j id w live_j);
    }

one_map : (old new : Versions) (entries : ℕ) → LiveAlike old new → LiveAlike new old
    → (s : Keyspace) → (IsMapOf old entries s → IsMapOf new entries s) × (IsMapOf new entries s → IsMapOf old entries s)
one_map old new entries there back s = (IsMapOf-alike old new entries s there back, IsMapOf-alike new old entries s back there)

-- ---- what is not live

-- the entry holds no version, or one that has ended
abbrev IsDead : Option Version → Type 0
IsDead held = (version : Version) → held ≡ Some version → version.is_ended ≡ true

dead_none : (held : Option Version) → held ≡ None → IsDead held
dead_none held none version is = let clash : None ≡ Some version = sym none ∙ is in absurd (cc)

dead_ended : (held : Option Version) (version : Version) → held ≡ Some version → version.is_ended ≡ true → IsDead held
dead_ended held version is ended other other_is =
    let same : Some version ≡ Some other = sym is ∙ other_is in
    let one : version ≡ other = cc in
    sym (ap (λ (v : Version). v.is_ended) one) ∙ ended

not_dead : (versions : Versions) (i : ℕ) (id : RecordId) (value : List ℕ) → IsDead (versions i) → IsLive versions i id value → ⊥
not_dead versions i id value dead live = both_ways live.version.is_ended live.not_ended (dead live.version live.begun)

-- in each entry the same, or nothing live in either
abbrev SameOrDead : Versions → Versions → Type 0
SameOrDead old new = (i : ℕ) → (old i ≡ new i) ⊎ (IsDead (old i) × IsDead (new i))

alive : (old new : Versions) → SameOrDead old new → LiveAlike old new
alive old new same i id value live =
    elim (same i) [
      | inl is ↦
          record { version = live.version; begun = sym is ∙ live.begun; not_ended = live.not_ended; id_is = live.id_is; value_is = live.value_is }
      | inr dead ↦ absurd (not_dead old i id value dead.0 live)
    ]

other_way : (old new : Versions) → SameOrDead old new → SameOrDead new old
other_way old new same i = elim (same i) [ inl is ↦ inl (sym is) | inr dead ↦ inr (dead.1, dead.0) ]

-- ---- the move

module _ {contents : Contents} {from to to_line : ℕ} {version : Version} (may : IsMovable contents from to to_line version) where
  pub copied_at : (i : ℕ) → i ≡ to → (with_copy from to to_line contents).versions i ≡ Some (record version { first_line = to_line })
  copied_at i here = cond-true (nat_eq i to) _ _ (eq-eqb i to here) ∙ ap (at_line to_line) may.held

  pub copied_other : (i : ℕ) → i ≢ to → (with_copy from to to_line contents).versions i ≡ contents.versions i
  copied_other i other = cond-false (nat_eq i to) _ _ (unequal i to other)

  copied_alike : SameOrDead contents.versions (with_copy from to to_line contents).versions
  copied_alike i =
      elim (same_or_other i to) [
        | inl here ↦
            inr (dead_none (contents.versions i) (ap contents.versions here ∙ may.empty), dead_ended ((with_copy from to to_line contents).versions i) (record version { first_line = to_line }) (copied_at i here) may.ended)
        | inr other ↦ inl (sym (copied_other i other))
      ]

  pub apart : from ≡ to → ⊥
  apart same = let clash : None ≡ Some version = sym may.empty ∙ ap contents.versions (sym same) ∙ may.held in absurd (cc)

  moved_alike : SameOrDead (with_copy from to to_line contents).versions (after_move from to to_line contents).versions
  moved_alike i =
      elim (same_or_other i from) [
        | inl here ↦
            let was : (with_copy from to to_line contents).versions i ≡ Some version =
            copied_other i (λ same. apart (sym here ∙ same)) ∙ ap contents.versions here ∙ may.held in
            inr (dead_ended ((with_copy from to to_line contents).versions i) version was may.ended, dead_none ((after_move from to to_line contents).versions i) (cond-true (nat_eq i from) _ _ (eq-eqb i from here)))
        | inr other ↦ inl (sym (cond-false (nat_eq i from) _ _ (unequal i from other)))
      ]

  pub copied_map : HaveOneMap contents (with_copy from to to_line contents)
  copied_map =
      one_map contents.versions (with_copy from to to_line contents).versions (entries_of contents) (alive _ _ copied_alike) (alive _ _ (other_way _ _ copied_alike))

  moved_on : HaveOneMap (with_copy from to to_line contents) (after_move from to to_line contents)
  moved_on =
      one_map (with_copy from to to_line contents).versions (after_move from to to_line contents).versions (entries_of contents) (alive _ _ moved_alike) (alive _ _ (other_way _ _ moved_alike))

  pub moved_map : HaveOneMap contents (after_move from to to_line contents)
  moved_map s = (λ map. (moved_on s).0 ((copied_map s).0 map), λ map. (copied_map s).1 ((moved_on s).1 map))
