-- Where the records of a copy rise, none clashes with one that is staged.
use Rattle.std.proofs.Common.{◌≡◌, ℕ, false, not, List, [], ◌∷◌, inl, inr, Option, None, Some, Less, is_lt, refl, sym, ap, subst, ◌∙◌}
use Rattle.std.specs.Prelude.{nat_eq}
use Rattle.std.specs.List.{AllByRecursion}
use Rattle.std.specs.Ordering.{ordering_reverse}
use Rattle.std.proofs.lemmas.Bool.{cases_Bool, cond-false, cond-true}
use Rattle.kv_types.specs.declared.record_id.RecordId.{RecordId}
use Rattle.kv_types.specs.Keyspace.{record_cmp}
use Rattle.kv_types.specs.Order.{record_cmp_total}
use Rattle.model.specs.declared.group.Put.{Put}
use Rattle.model.specs.Group.{Versions, version_of_put, with_puts}
use Rattle.model.specs.Image.{Version}
use Rattle.model.specs.ReadImage.{is_clash}
use Rattle.heap_layout.proofs.Clashes.{no_clash-far}
use Rattle.wbl_engine.specs.Copying.{AreAllDistinct, AreRising, AreUpTo, Follows, IsFresh, IsUpTo, last_record}

-- what comes after does not come before
not_before : (x z : RecordId) → record_cmp x z ≡ Less → is_lt (record_cmp z x) ≡ false
not_before x z less = ap is_lt (record_cmp_total.antisymm z x ∙ ap ordering_reverse less)

-- what follows the last one clashes with nothing up to that
no_clash : (last : Option RecordId) (x y : RecordId) → IsUpTo last x → Follows last y → is_clash x y ≡ false
no_clash None x y up follows = absurd up
no_clash (Some last) x y (inl same) follows = ap (λ (id : RecordId). is_clash id y) same ∙ follows.1
no_clash (Some last) x y (inr less) follows =
    no_clash-far x last y (not_before x last less.0) (not_before last y follows.0) (ap not less.1)

-- and all of that is up to it
up_next : (last : Option RecordId) (x y : RecordId) → IsUpTo last x → Follows last y → IsUpTo (Some y) x
up_next None x y up follows = absurd up
up_next (Some last) x y (inl same) follows = inr (ap (λ (id : RecordId). record_cmp id y) same ∙ follows.0, no_clash (Some last) x y (inl same) follows)
up_next (Some last) x y (inr less) follows =
    inr (record_cmp_total.trans x last y less.0 follows.0, no_clash (Some last) x y (inr less) follows)

up_all : (last : Option RecordId) (x : RecordId) (puts : List Put) → IsUpTo last x → AreRising last puts → IsUpTo (last_record last puts) x
up_all last x [] up rising = up
up_all last x (put ∷ puts) up rising = up_all (Some put.id) x puts (up_next last x put.id up rising.0) rising.1

-- ---- puts whose records rise

far : (last : Option RecordId) (x : RecordId) (puts : List Put) → IsUpTo last x → AreRising last puts
    → AllByRecursion (λ other. is_clash x other.id ≡ false) puts
far last x [] up rising = tt
far last x (put ∷ puts) up rising = (no_clash last x put.id up rising.0, far (Some put.id) x puts (up_next last x put.id up rising.0) rising.1)

-- no two of them clash
pub rising_distinct : (last : Option RecordId) (puts : List Put) → AreRising last puts → AreAllDistinct puts
rising_distinct last [] rising = tt
rising_distinct last (put ∷ puts) rising = (far (Some put.id) put.id puts (inl refl) rising.1, rising_distinct (Some put.id) puts rising.1)

-- nor any of them with what is staged
pub rising_fresh : (last : Option RecordId) (staged : Versions) (puts : List Put) → AreUpTo last staged → AreRising last puts
    → AllByRecursion (IsFresh staged) puts
rising_fresh last staged [] up rising = tt
rising_fresh last staged (put ∷ puts) up rising = (
  λ i version is. no_clash last version.id put.id (up i version is) rising.0,
  rising_fresh (Some put.id) staged puts (λ i version is. up_next last version.id put.id (up i version is) rising.0) rising.1,
)

-- with the puts, all is up to the last of them
up_to_puts : (last : Option RecordId) (staged : Versions) (puts : List Put) (position : ℕ) → AreUpTo last staged → AreRising last puts
    → AreUpTo (last_record last puts) (with_puts position puts staged)
up_to_puts last staged [] position up rising i version is = up i version is
up_to_puts last staged (put ∷ puts) position up rising i version is =
    elim (cases_Bool (nat_eq i put.entry.0)) [
      | inl here ↦
          let both : Some version ≡ Some (version_of_put position put) = sym is ∙ cond-true (nat_eq i put.entry.0) _ _ here in
          let same : version ≡ version_of_put position put = cc in
          subst (λ (v : Version). IsUpTo (last_record (Some put.id) puts) v.id) (sym same) (up_all (Some put.id) put.id puts (inl refl) rising.1)
      | inr other ↦
          up_to_puts (Some put.id) staged puts position (λ j v held. up_next last v.id put.id (up j v held) rising.0) rising.1 i version
          (sym (cond-false (nat_eq i put.entry.0) _ _ other) ∙ is)
    ]

pub rising_up_to : (last : Option RecordId) (staged new : Versions) (puts : List Put) (position : ℕ) → AreUpTo last staged → AreRising last puts
    → ((i : ℕ) → new i ≡ with_puts position puts staged i) → AreUpTo (last_record last puts) new
rising_up_to last staged new puts position up rising are i version is =
    up_to_puts last staged puts position up rising i version (sym (are i) ∙ is)
