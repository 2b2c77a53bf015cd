-- What the changes of a part do to the version of one entry.
use Rattle.std.proofs.Common.{◌≡◌, ℕ, Bool, true, false, ◌||◌, List, [], ◌∷◌, ◌++◌, ◌⊎◌, inl, inr, Option, None, Some, refl, sym, ap, subst, ◌∙◌}
use Rattle.std.specs.Prelude.{nat_eq}
use Rattle.std.specs.List.{flat_map, AllByRecursion}
use Rattle.std.proofs.Math.Bool.{or-false, or_assoc}
use Rattle.std.proofs.lemmas.Bool.{cond-true, cond-false, eq-eqb, eqb-true, ne_eqb, or_parts, or_cases, or_from, or_right}
use Rattle.kv_types.specs.declared.change.Change.{Change}
use Rattle.model.specs.declared.group.Put.{Put}
use Rattle.model.specs.declared.group.PlacedChange.{PlacedChange}
use Rattle.model.specs.declared.group.PlacedChange.TheVariants as placed
use Rattle.model.specs.Image.{Version}
use Rattle.model.specs.Group.{Versions, change_of, put_of, ends_record, ended_where_begun, version_of_put, change_versions, changes_versions, IsApartFrom, AreAllApart, is_put_at}

-- the version, ended where the test says so
abbrev pub end_if : Bool → Version → Version
end_if b v = record v { is_ended = v.is_ended || b }

abbrev pub end_if_begun : Bool → Option Version → Option Version
end_if_begun b None = None
end_if_begun b (Some v) = Some (end_if b v)

-- the entry has the version that it had, and this may have been ended
pub record IsKeptOrEnded (old new : Option Version) : Type 0 where
  pub test : Bool
  pub is : new ≡ end_if_begun test old

end_if_begun-twice : (b c : Bool) (o : Option Version) → end_if_begun c (end_if_begun b o) ≡ end_if_begun (b || c) o
end_if_begun-twice b c None = refl
end_if_begun-twice b c (Some v) = ap (λ (e : Bool). Some (record v { is_ended = e })) (or_assoc v.is_ended b c)

end_if_begun-false : (o : Option Version) → o ≡ end_if_begun false o
end_if_begun-false None = refl
end_if_begun-false (Some v) = ap (λ (e : Bool). Some (record v { is_ended = e })) (sym (or-false v.is_ended))

kept : (o : Option Version) → IsKeptOrEnded o o
kept o = record { test = false; is = end_if_begun-false o }

kept_then : {a b c : Option Version} → IsKeptOrEnded a b → IsKeptOrEnded b c → IsKeptOrEnded a c
kept_then {a} {b} {c} first second =
    record {
      test = first.test || second.test;
      is = second.is ∙ ap (end_if_begun second.test) first.is ∙ end_if_begun-twice first.test second.test a;
    }

ended_where_begun-kept : (change : Change) (o : Option Version) → IsKeptOrEnded o (ended_where_begun change o)
ended_where_begun-kept change None = record { test = false; is = refl }
ended_where_begun-kept change (Some v) = record { test = ends_record change v.id; is = refl }

-- one change at an entry where it puts nothing
change_kept : (position : ℕ) (versions : Versions) (change : PlacedChange) (i : ℕ) → is_put_at i (put_of change) ≡ false
    → IsKeptOrEnded (versions i) (change_versions position versions change i)
change_kept position versions (placed.Put put) i none =
    let other = (or_parts (nat_eq i put.entry.0) false none).0 in
    let e : change_versions position versions (placed.Put put) i ≡ ended_where_begun (change_of (placed.Put put)) (versions i) =
    cond-false (nat_eq i put.entry.0) _ _ other in
    subst (λ (o : Option Version). IsKeptOrEnded (versions i) o) (sym e) (ended_where_begun-kept (change_of (placed.Put put)) (versions i))
change_kept position versions (placed.Drop id) i none = ended_where_begun-kept (change_of (placed.Drop id)) (versions i)
change_kept position versions (placed.DropKey key) i none = ended_where_begun-kept (change_of (placed.DropKey key)) (versions i)
change_kept position versions placed.Clear i none = ended_where_begun-kept (change_of placed.Clear) (versions i)

is_put_at-append : (i : ℕ) (a b : List Put) → is_put_at i (a ++ b) ≡ false → (is_put_at i a ≡ false) × (is_put_at i b ≡ false)
is_put_at-append i [] b e = (refl, e)
is_put_at-append i (put ∷ a) b e =
    let parts = or_parts (nat_eq i put.entry.0) (is_put_at i (a ++ b)) e in
    let rest = is_put_at-append i a b parts.1 in
    (or_from (nat_eq i put.entry.0) (is_put_at i a) parts.0 rest.0, rest.1)

-- changes at an entry where they put nothing
pub changes_kept : (position : ℕ) (versions : Versions) (changes : List PlacedChange) (i : ℕ) → is_put_at i (flat_map put_of changes) ≡ false
    → IsKeptOrEnded (versions i) (changes_versions position versions changes i)
changes_kept position versions [] i none = kept (versions i)
changes_kept position versions (change ∷ changes) i none =
    let parts = is_put_at-append i (put_of change) (flat_map put_of changes) none in
    kept_then (change_kept position versions change i parts.0)
    (changes_kept position (change_versions position versions change) changes i parts.1)

-- a put is one of these
abbrev pub IsAmong : Put → List Put → Type 0
IsAmong put [] = ⊥
IsAmong put (other ∷ puts) = (put ≡ other) ⊎ IsAmong put puts

-- the entry is that of a put of the list
pub is_put_at-among : (i : ℕ) (puts : List Put) → is_put_at i puts ≡ true → (put : Put) × IsAmong put puts × (i ≡ put.entry.0)
is_put_at-among i [] e = absurd (cc)
is_put_at-among i (put ∷ puts) e =
    elim (or_cases (nat_eq i put.entry.0) (is_put_at i puts) e) [
      | inl here ↦ (put, inl refl, eqb-true i put.entry.0 here)
      | inr later ↦ let more = is_put_at-among i puts later in (more.0, inr more.1, more.2)
    ]

pub among-is_put_at : (put : Put) (puts : List Put) → IsAmong put puts → is_put_at put.entry.0 puts ≡ true
among-is_put_at put [] among = absurd among
among-is_put_at put (other ∷ puts) (inl here) =
    ap (λ (b : Bool). b || is_put_at put.entry.0 puts) (eq-eqb put.entry.0 other.entry.0 (ap (λ (p : Put). p.entry.0) here))
among-is_put_at put (other ∷ puts) (inr later) =
    or_right (nat_eq put.entry.0 other.entry.0) (is_put_at put.entry.0 puts) (among-is_put_at put puts later)

-- a put is none of those that it is apart from
pub apart-is_put_at : (put : Put) (puts : List Put) → AllByRecursion (IsApartFrom put) puts → is_put_at put.entry.0 puts ≡ false
apart-is_put_at put [] apart = refl
apart-is_put_at put (other ∷ puts) apart =
    or_from (nat_eq put.entry.0 other.entry.0) (is_put_at put.entry.0 puts) (ne_eqb put.entry.0 other.entry.0 apart.0.entries)
    (apart-is_put_at put puts apart.1)

-- the entry of a put has the version that it makes, and this may have been ended by a later change
pub record IsMade (position : ℕ) (put : Put) (new : Option Version) : Type 0 where
  pub test : Bool
  pub is : new ≡ Some (end_if test (version_of_put position put))

made_then : {position : ℕ} {put : Put} {old new : Option Version} → IsMade position put old → IsKeptOrEnded old new → IsMade position put new
made_then {position} {put} {old} {new} first second =
    record {
      test = first.test || second.test;
      is = second.is ∙ ap (end_if_begun second.test) first.is
          ∙ end_if_begun-twice first.test second.test (Some (version_of_put position put));
    }

change_made : (position : ℕ) (versions : Versions) (put : Put) → IsMade position put (change_versions position versions (placed.Put put) put.entry.0)
change_made position versions put =
    record {
      test = false;
      is = cond-true (nat_eq put.entry.0 put.entry.0) _ _ (eq-eqb put.entry.0 put.entry.0 refl);
    }

-- changes at the entry of one of their puts
pub changes_made : (position : ℕ) (versions : Versions) (changes : List PlacedChange) (put : Put) → IsAmong put (flat_map put_of changes)
    → AreAllApart (flat_map put_of changes) → IsMade position put (changes_versions position versions changes put.entry.0)
changes_made position versions [] put among apart = absurd among
changes_made position versions (placed.Put other ∷ changes) put (inl here) apart =
    let after : Versions = change_versions position versions (placed.Put other) in
    let other_made : IsMade position other (changes_versions position after changes other.entry.0) =
    made_then (change_made position versions other)
    (changes_kept position after changes other.entry.0 (apart-is_put_at other (flat_map put_of changes) apart.0)) in
    subst (λ (p : Put). IsMade position p (changes_versions position after changes p.entry.0)) (sym here) other_made
changes_made position versions (placed.Put other ∷ changes) put (inr later) apart =
    changes_made position (change_versions position versions (placed.Put other)) changes put later apart.1
changes_made position versions (placed.Drop id ∷ changes) put among apart =
    changes_made position (change_versions position versions (placed.Drop id)) changes put among apart
changes_made position versions (placed.DropKey key ∷ changes) put among apart =
    changes_made position (change_versions position versions (placed.DropKey key)) changes put among apart
changes_made position versions (placed.Clear ∷ changes) put among apart =
    changes_made position (change_versions position versions placed.Clear) changes put among apart
