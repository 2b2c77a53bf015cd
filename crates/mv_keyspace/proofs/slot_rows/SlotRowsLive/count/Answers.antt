use Rattle.std.proofs.Common.{◌≡◌, ap, length, arith}
use Rattle.mv_keyspace.specs.Slots.{rows_in}
use Rattle.mv_keyspace.proofs.ListLemmas.{entry_of, length_map}
use Rattle.mv_keyspace.proofs.slot_rows.SlotRowsLive.count.Goals as goal

pub returns : goal.returns
returns c =
    let none : length (rows_in c.loop-entry.entry-iterator) ≡ 0 = ap (λ es. length (rows_in es)) c.in-None.ensures.steps.0 in
    omega (arith, c.loop-entry.invariant.bound, c.loop-entry.invariant.sum, length_map entry_of (rows_in c.args.self.now.slots.entries), none)
