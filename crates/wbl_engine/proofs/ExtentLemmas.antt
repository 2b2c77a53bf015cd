-- The lines that an entry names are those of its version.
use Rattle.std.proofs.Common.{◌≡◌, ℕ, ◌<◌, ◌≤◌, Some, ap, arith}
use Rattle.kv_types.specs.declared.place.Extent.{Extent}
use Rattle.pmem.specs.Device.{State}
use Rattle.pmem.specs.Crash.{image_of}
use Rattle.model.specs.declared.image.TheConstants.{MIN_LINES}
use Rattle.model.specs.declared.record.Record.{Record}
use Rattle.model.specs.Image.{Version, entries_of_lines, entry_line}
use Rattle.model.proofs.LayoutLemmas.{entries_fit}
use Rattle.wbl_engine.specs.AtRest.{IsAtRest, contents_of}
use Rattle.wbl_engine.specs.Erasing.{extent_in}
use Rattle.wbl_engine.proofs.PartSteps.{begun_version}
use Rattle.wbl_engine.proofs.Staged.{rest_fits}

pub line_within : (r : Record) (d : State) → MIN_LINES ≤ d.lines → (i : ℕ) → i < entries_of_lines r.layout d.lines → entry_line i < d.lines
line_within r d many i within = omega (arith, within, many, entries_fit r.layout d.lines)

module _ {r : Record} {d : State} (rest : IsAtRest r d) (i : ℕ) (within : i < entries_of_lines r.layout d.lines) where
  pub extent_is : (version : Version) → (contents_of r d).versions i ≡ Some version → (extent : Extent) → extent ≡ extent_in (image_of d.words) i
      → (extent.first_line ≡ version.first_line) × (extent.lines ≡ version.lines)
  extent_is version held extent is =
      let begun = begun_version (rest_fits r d rest) i version within held in (
        omega (arith, ap (λ (v : Version). v.first_line) begun.1, ap (λ (e : Extent). e.first_line) is),
        omega (arith, ap (λ (v : Version). v.lines) begun.1, ap (λ (e : Extent). e.lines) is),
      )
