-- Why an image is not read.
use Rattle.std.proofs.Common.{◌≡◌, ℕ, ◌⊎◌, ◌==◌, if◌then◌else◌, inl, inr, sym, ap, subst, ◌∙◌}
use Rattle.kv_types.specs.declared.refusal.Refusal.{Refusal}
use Rattle.kv_types.specs.declared.refusal.Refusal.TheVariants.{Damaged, Memory}
use Rattle.heap_layout.specs.Versions.{AreVersions}
use Rattle.model.specs.declared.record.Record.{Record}
use Rattle.model.specs.declared.layout.Layout.{Layout}
use Rattle.model.specs.declared.layout.Layout.TheVariants.{Version1, Version2, Halfway}
use Rattle.model.specs.Layout.{version}
use Rattle.model.specs.Image.{HasSuperblock, Image}
use Rattle.model.proofs.LayoutLemmas.{same_version}
use Rattle.model.proofs.RecordLemmas.{HasRecord-unique}
use Rattle.wbl_record.specs.Current.{IsCurrent}
use Rattle.wbl_engine.specs.Lawful.{IsUndamaged}
use Rattle.wbl_engine.specs.Reopening.{RefusesReading, layout_in}

-- an image is opened again by the layout of its version
pub layout_in_is : (layout : Layout) (image : Image) → image 1 ≡ version layout → layout_in image ≡ layout
layout_in_is Version1 image is = ap (λ (n : ℕ). if n == 2 then Version2 else if n == 3 then Halfway else Version1) is
layout_in_is Version2 image is = ap (λ (n : ℕ). if n == 2 then Version2 else if n == 3 then Halfway else Version1) is
layout_in_is Halfway image is = ap (λ (n : ℕ). if n == 2 then Version2 else if n == 3 then Halfway else Version1) is

-- an undamaged image has one record
pub undamaged_unique : {lines : ℕ} {image : Image} (r s : Record) → IsCurrent lines image r → IsUndamaged lines s image → s ≡ r
undamaged_unique {lines} {image} r s current whole =
    HasRecord-unique lines image s r whole.current.lawful.few whole.current.version_is current.version_is whole.current.has_record current.has_record

-- the record has the layout that the superblock says
pub layout_read : {layout : Layout} {lines' lines : ℕ} {image : Image} {r : Record} → HasSuperblock layout lines' image → IsCurrent lines image r
    → r.layout ≡ layout
layout_read {layout} {r = r} super current = same_version r.layout layout (sym current.version_is ∙ super.version)

pub super_read : {layout : Layout} {lines' lines : ℕ} {image : Image} {r : Record} → HasSuperblock layout lines' image → lines' ≡ lines
    → IsCurrent lines image r
    → HasSuperblock r.layout lines image
super_read {layout} {lines'} {lines} {image} {r} super of current =
    subst (λ (count : ℕ). HasSuperblock r.layout count image) of
    (subst (λ (other : Layout). HasSuperblock other lines' image) (sym (layout_read super current)) super)

pub no_versions : (layout : Layout) (lines : ℕ) (image : Image) (r : Record) (refusal : Refusal) → IsCurrent lines image r
    → (refusal ≡ Damaged → AreVersions r lines image → ⊥) → (refusal ≡ Damaged) ⊎ (refusal ≡ Memory) → RefusesReading layout lines image refusal
no_versions layout lines image r refusal current none (inl damaged) =
    inr (inl (
      damaged,
      λ s whole. none damaged (subst (λ (q : Record). AreVersions q lines image) (undamaged_unique r s current whole) whole.versions),
    ))
no_versions layout lines image r refusal current none (inr memory) = inr (inr memory)
