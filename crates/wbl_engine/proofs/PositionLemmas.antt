-- At which positions the versions were made.
use Rattle.std.proofs.Common.{◌≡◌, ℕ, ◌≤◌, Bool, true, false, cond, List, [], ◌∷◌, Option, None, Some, nat_eq, refl, subst}
use Rattle.std.specs.List.{AllByRecursion}
use Rattle.kv_types.specs.declared.change.Change.{Change}
use Rattle.model.specs.declared.group.Part.{Part}
use Rattle.model.specs.declared.group.PlacedChange.{PlacedChange}
use Rattle.model.specs.declared.group.Put.{Put}
use Rattle.model.specs.Image.{Version}
use Rattle.model.specs.Group.{Versions, change_of, put_of, ended_by, ended_where_begun, version_of_put, with_puts, change_versions, changes_versions, part_versions, parts_versions}

-- each version was made at this position or an earlier one
abbrev pub AreMadeUpTo : ℕ → Versions → Type 0
AreMadeUpTo top versions = (i : ℕ) (version : Version) → versions i ≡ Some version → version.position ≤ top

-- an end changes no position
ended_made : (top : ℕ) (change : Change) (versions : Versions) → AreMadeUpTo top versions → AreMadeUpTo top (λ i. ended_where_begun change (versions i))
ended_made top change versions made i version is = at (versions i) (made i) is
  where
    at : (old : Option Version) → ((v : Version) → old ≡ Some v → v.position ≤ top) → ended_where_begun change old ≡ Some version → version.position ≤ top
    at None made is = absurd (cc)
    at (Some v) made is =
        let same : ended_by change v ≡ version = cc in
        subst (λ (w : Version). w.position ≤ top) same (made v refl)

-- puts make versions at theirs
puts_made : (top position : ℕ) → position ≤ top → (puts : List Put) (versions : Versions) → AreMadeUpTo top versions
    → AreMadeUpTo top (with_puts position puts versions)
puts_made top position low [] versions made = made
puts_made top position low (put ∷ puts) versions made =
    λ i version is.
    elim (nat_eq i put.entry.0) as (λ (b : Bool). cond b (Some (version_of_put position put)) (with_puts position puts versions i) ≡ Some version → version.position ≤ top) [
      | true ↦ λ here. let same : version_of_put position put ≡ version = cc in subst (λ (w : Version). w.position ≤ top) same low
      | false ↦ λ later. puts_made top position low puts versions made i version later
    ] is

changes_made : (top position : ℕ) → position ≤ top → (changes : List PlacedChange) (versions : Versions) → AreMadeUpTo top versions
    → AreMadeUpTo top (changes_versions position versions changes)
changes_made top position low [] versions made = made
changes_made top position low (change ∷ changes) versions made =
    changes_made top position low changes (change_versions position versions change)
    (puts_made top position low (put_of change) (λ i. ended_where_begun (change_of change) (versions i)) (ended_made top (change_of change) versions made))

pub parts_made : (parts : List Part) (top : ℕ) (versions : Versions) → AreMadeUpTo top versions → AllByRecursion (λ (part : Part). part.position ≤ top) parts
    → AreMadeUpTo top (parts_versions versions parts)
parts_made [] top versions made low = made
parts_made (part ∷ parts) top versions made low =
    parts_made parts top (part_versions versions part) (changes_made top part.position low.0 part.changes.items versions made) low.1
