use Rattle.std.proofs.Common.{not, ◌≤◌, ◌==◌, sym, ap, subst, ◌∙◌}
use Rattle.std.specs.List.Sorted.{IsStrictlySortedBy}
use Rattle.std.specs.Ordering.{nat_cmp}
use Rattle.kv_types.specs.declared.place.EntryNo.{EntryNo}
use Rattle.heap_layout.specs.declared.entry.Entry.{Entry}
use Rattle.mv_keyspace.specs.Loading.{AreCompatible, HasRows}
use Rattle.mv_keyspace.specs.Versions.{last_among}
use Rattle.placing.specs.Read.{ended_read}
use Rattle.placing.specs.Rebuilt.{AreEndedOf, CanClaimAll, ClaimsAll}
use Rattle.placing.proofs.LastLemmas.{last-read}
use Rattle.placing.proofs.MemberLemmas.{chosen_rise}
use Rattle.placing.proofs.RebuiltLemmas.{can_claim_all, ended_are, free_gaps, fresh_of, rebuilt_of, rows_compatible, table_of_versions}
use Rattle.placing.proofs.rebuilding.rebuild.Goals as goal

pub claim_places-requires : goal.claim_places-requires
claim_places-requires g c =
    let contents = c.requires.read.0 in
    let heap = c.in_ok-heap.heap in
    let fresh = fresh_of contents heap c.args.layout c.args.lines c.first_extent_line.result c.entries_of_lines.result c.requires.read.1 c.requires.read.2 c.first_extent_line.ensures c.entries_of_lines.ensures c.in_ok-heap.ensures.lines c.in_ok-heap.ensures.entries c.in_ok-heap.ensures.room in
    subst (CanClaimAll heap) (sym c.deref.ensures.value) (can_claim_all contents c.args.counted.items c.args.gapped.now c.requires.read.3 heap fresh)

pub claim_entries-requires-clause-free : goal.claim_entries-requires-clause-free
claim_entries-requires-clause-free g c =
    let contents = c.requires.read.0 in
    let heap = c.in_ok-heap.heap in
    let fresh = fresh_of contents heap c.args.layout c.args.lines c.first_extent_line.result c.entries_of_lines.result c.requires.read.1 c.requires.read.2 c.first_extent_line.ensures c.entries_of_lines.ensures c.in_ok-heap.ensures.lines c.in_ok-heap.ensures.entries c.in_ok-heap.ensures.room in
    free_gaps contents c.args.counted.items c.args.gapped.now c.requires.read.3 heap fresh
    c.claim_places.new.heap (subst (λ counted. ClaimsAll heap counted c.claim_places.new.heap) c.deref.ensures.value c.in_ok-claim_places.ensures.ok)

pub load-requires-clause-compatible : goal.load-requires-clause-compatible
load-requires-clause-compatible g c =
    subst (λ rows. AreCompatible rows) (sym c.in_ok-live_rows.ensures.ok) (rows_compatible c.requires.read.0 c.args.counted.items c.args.gapped.now c.requires.read.3)

pub returns-clause-ok : goal.returns-clause-ok
returns-clause-ok g c = λ contents layout_is is are.
    let counted = c.args.counted.items in
    let gapped = c.args.gapped.now in
    let heap = c.in_ok-heap.heap in
    let fresh = fresh_of contents heap c.args.layout c.args.lines c.first_extent_line.result c.entries_of_lines.result layout_is is c.first_extent_line.ensures c.entries_of_lines.ensures c.in_ok-heap.ensures.lines c.in_ok-heap.ensures.entries c.in_ok-heap.ensures.room in
    let table = g.K.Keyspace.table c.load.new.self in
    let has = subst (λ rows. HasRows rows table) c.in_ok-live_rows.ensures.ok c.in_ok-load.ensures.ok in
    let ended = c.in_ok-ended.ensures.ok ∙ ap ended_read c.deref-2.ensures.value in (
      rebuilt_of contents counted gapped are heap fresh
          c.claim_places.new.heap (subst (λ read. ClaimsAll heap read c.claim_places.new.heap) c.deref.ensures.value c.in_ok-claim_places.ensures.ok)
          c.claim_entries.new.heap c.claim_entries.ensures table (table_of_versions contents counted gapped are table has),
      subst (AreEndedOf contents) (sym ended) (ended_are contents counted gapped are),
    )

pub returns-clause-rising : goal.returns-clause-rising
returns-clause-rising g c = λ up.
    subst (IsStrictlySortedBy nat_cmp) (sym (c.in_ok-ended.ensures.ok ∙ ap ended_read c.deref-2.ensures.value))
    (chosen_rise (λ (read : EntryNo × Entry). not (read.1.end == 0)) (λ (read : EntryNo × Entry). read.0.0) c.args.counted.items up)

pub returns-clause-last : goal.returns-clause-last
returns-clause-last g c = λ contents layout_is is are low.
    let first = g.K.Keyspace.last c.args.keyspace.now in
    subst (λ position. position ≤ contents.current.position) (sym (c.load.ensures.last ∙ ap (last_among first) c.in_ok-live_rows.ensures.ok))
    (last-read contents.current.position first c.args.counted.items low are.positions)
