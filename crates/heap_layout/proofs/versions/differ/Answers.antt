use Rattle.std.proofs.Common.{◌≡◌, map, sym, ap, subst, ◌∙◌}
use Rattle.kv_types.specs.declared.record_id.RecordId.{RecordId}
use Rattle.model.specs.ReadImage.{is_clash}
use Rattle.heap_layout.specs.declared.tagged.Tagged.{Tagged}
use Rattle.heap_layout.specs.Versions.{NoTwo, live_ids}
use Rattle.heap_layout.proofs.NoTwo.{NoTwo-map, NoTwo-unmap}
use Rattle.heap_layout.proofs.versions.differ.Goals as goal

abbrev read : Tagged → RecordId
read tagged = tagged.id.now

pub returns : goal.returns
returns c =
    let ids = c.as_mut_slice.result.now in
    let same : map read ids ≡ live_ids c.args.versions.now = ap (map read) c.as_mut_slice.ensures.value ∙ c.in_ok-ids.ensures in (
      λ distinct. subst (NoTwo is_clash) same (NoTwo-map read is_clash ids (c.are_distinct.ensures.0 distinct)),
      λ none. c.are_distinct.ensures.1 (NoTwo-unmap read is_clash ids (subst (NoTwo is_clash) (sym same) none)),
    )
