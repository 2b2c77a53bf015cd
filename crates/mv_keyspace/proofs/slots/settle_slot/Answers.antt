use Rattle.std.proofs.Common.{sym}
use Rattle.mv_keyspace.proofs.WritingLemmas.{of-key, same-rows, same-slots}
use Rattle.mv_keyspace.proofs.slots.settle_slot.Goals as goal

pub returns-in-Some-clause-slots : goal.returns-in-Some-clause-slots
returns-in-Some-clause-slots c =
    let key = c.args.key.now in
    let es = c.args.slots.now.entries in
    let slot = c.settle.new.self in
    let found = sym c.in-Some.ensures.value in
    let wrote = c.get_mut.follows.holds slot in
    same-slots key es c.in-Some.slot.now c.requires found slot (c.get_mut.follows.lender slot).entries wrote.0 wrote.4 (c.settle.ensures key (of-key key es c.in-Some.slot.now c.requires found))

pub returns-in-Some-clause-rows : goal.returns-in-Some-clause-rows
returns-in-Some-clause-rows c =
    let key = c.args.key.now in
    let es = c.args.slots.now.entries in
    let slot = c.settle.new.self in
    let found = sym c.in-Some.ensures.value in
    let wrote = c.get_mut.follows.holds slot in
    same-rows key es c.in-Some.slot.now c.requires found slot (c.get_mut.follows.lender slot).entries wrote.0 wrote.4 (c.settle.ensures key (of-key key es c.in-Some.slot.now c.requires found))
