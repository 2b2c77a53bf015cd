-- What a frame leaves of versions that have ended.
use Rattle.std.proofs.Common.{◌≡◌, ℕ, ◌⊎◌, inl, inr, Bool, true, false, cond, IsTrue, List, [], ◌∷◌, Option, Some, None, nat_eq, refl, sym, ap, subst, ◌∙◌}
use Rattle.kv_types.specs.declared.change.Change.{Change}
use Rattle.model.specs.declared.group.Group.{Group}
use Rattle.model.specs.declared.group.Part.{Part}
use Rattle.model.specs.declared.group.PlacedChange.{PlacedChange}
use Rattle.model.specs.declared.group.Put.{Put}
use Rattle.model.specs.Group.{Contents, Versions, after_group, change_of, change_versions, changes_versions, ended_by, ended_where_begun, is_ended_version, part_versions, parts_versions, put_of, version_of_put, with_puts}
use Rattle.model.specs.Image.{Version}
use Rattle.wbl_engine.specs.Contents.{Same}
use Rattle.standby.specs.Following.{AreGone}

same_some : {X : Type 0} {x y : X} → Some x ≡ Some y → x ≡ y
same_some e = cc

-- the version was made at this position, or has the record, the value and the position of the one that the entry held
record IsMadeOrSame (position : ℕ) (held : Option Version) (version : Version) : Type 0 where
  is : (version.position ≡ position) ⊎ ((was : Version) × (held ≡ Some was) × (was.id ≡ version.id) × (was.value ≡ version.value) × (was.position ≡ version.position))

abbrev AreMadeOrSame : ℕ → Option Version → Option Version → Type 0
AreMadeOrSame position was now = (version : Version) → now ≡ Some version → IsMadeOrSame position was version

-- ---- changes made at one position

same-ended : (position : ℕ) (change : Change) (was held : Option Version) → AreMadeOrSame position was held → AreMadeOrSame position was (ended_where_begun change held)
same-ended position change was None are version is = cc
same-ended position change was (Some old) are version is =
    let same : ended_by change old ≡ version = same_some is in
    subst (λ (v : Version). IsMadeOrSame position was v) same (record { is = (are old refl).is })

same-puts : (position : ℕ) (was : Option Version) (puts : List Put) (versions : Versions) (i : ℕ) → AreMadeOrSame position was (versions i) → AreMadeOrSame position was (with_puts position puts versions i)
same-puts position was [] versions i are = are
same-puts position was (put ∷ puts) versions i are = here (nat_eq i put.entry.0) (with_puts position puts versions i) (same-puts position was puts versions i are)
  where
    here : (b : Bool) (rest : Option Version) → AreMadeOrSame position was rest → AreMadeOrSame position was (cond b (Some (version_of_put position put)) rest)
    here true rest are version is = record { is = inl (ap (λ (v : Version). v.position) (sym (same_some is))) }
    here false rest are version is = are version is

same-changes : (position : ℕ) (was : Option Version) (versions : Versions) (changes : List PlacedChange) (i : ℕ) → AreMadeOrSame position was (versions i)
    → AreMadeOrSame position was (changes_versions position versions changes i)
same-changes position was versions [] i are = are
same-changes position was versions (c ∷ changes) i are =
    same-changes position was (change_versions position versions c) changes i
    (same-puts position was (put_of c) (λ j. ended_where_begun (change_of c) (versions j)) i (same-ended position (change_of c) was (versions i) are))

same-self : (position : ℕ) (held : Option Version) → AreMadeOrSame position held held
same-self position held version is = record { is = inr (version, is, refl, refl, refl) }

-- ---- a frame

-- what a group of one part leaves, where nothing that had ended was left before it
pub gone-group : (contents : Contents) (group : Group) (part : Part) (position : ℕ) → group.parts.items ≡ part ∷ [] → part.position ≡ position
    → ((i : ℕ) → IsTrue (is_ended_version (contents.versions i)) → ⊥) → (after : Contents) → Same (after_group contents group) after → AreGone position contents.versions after.versions
gone-group contents group part position one at none after same i version is ended =
    let made : after.versions i ≡ part_versions contents.versions part i =
    same.versions i ∙ ap (λ (parts : List Part). parts_versions contents.versions parts i) one in
    let from = same-changes part.position (contents.versions i) contents.versions part.changes.items i (same-self part.position (contents.versions i)) version (sym made ∙ is) in
    elim from.is [
      | inl here ↦ inl (here ∙ at)
      | inr held ↦
          inr (record {
            i = i;
            was = held.0;
            begun = held.1;
            not_ended = live held.0 held.1 held.0.is_ended refl;
            id_is = held.2;
            value_is = held.3;
            position_is = held.4;
          })
    ]
  where
    live : (was : Version) → contents.versions i ≡ Some was → (b : Bool) → was.is_ended ≡ b → was.is_ended ≡ false
    live was begun true is_ended = absurd (none i (ap is_ended_version begun ∙ is_ended))
    live was begun false is_ended = is_ended
