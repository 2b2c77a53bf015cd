use Rattle.std.proofs.Common.{[], inl, inr}
use Rattle.std.proofs.lemmas.Result.{on_ok_weaker, on_err_weaker}
use Rattle.pmem.specs.Runs.{IsPartlyStored, LeavesOnly}
use Rattle.wbl_record.proofs.Results.{on_both, on_err_from}
use Rattle.wbl_engine.specs.Erasing.{erase_pairs}
use Rattle.wbl_engine.proofs.RaisingLemmas.{raised_fault, raised_freed, raised_moments, raised_rest, raised_within, unraised_moments}
use Rattle.wbl_engine.proofs.raising.free_under.Goals as goal

pub returns-in_err-write_raised-clause-stays : goal.returns-in_err-write_raised-clause-stays
returns-in_err-write_raised-clause-stays g c = on_err_from c.from_residual.result (inl (c.in_err-write_raised.ensures.rises, c.in_err-write_raised.ensures.stays))

pub returns-in_err-write_raised-clause-moments : goal.returns-in_err-write_raised-clause-moments
returns-in_err-write_raised-clause-moments g c = unraised_moments c.args.current.now c.args.next.now (g.P.Pmem.state c.args.device.now) (g.P.Pmem.state c.write_raised.new.device) c.args.entries.now c.in_err-write_raised.ensures.moments

pub erase_durably-requires-clause-begins : goal.erase_durably-requires-clause-begins
erase_durably-requires-clause-begins g c =
    raised_within c.args.current.now c.args.next.now (g.P.Pmem.state c.args.device.now) (g.P.Pmem.state c.write_raised.new.device) c.args.entries.now c.requires.after c.in_ok-write_raised.ensures.rest c.in_ok-write_raised.ensures.moved c.requires.ended

pub returns-clause-rest : goal.returns-clause-rest
returns-clause-rest g c =
    let raised = c.in_ok-write_raised.ensures in
    on_ok_weaker c.erase_durably.result (λ staged. raised_rest c.args.current.now c.args.next.now (g.P.Pmem.state c.args.device.now) (g.P.Pmem.state c.write_raised.new.device) c.args.entries.now c.requires.after raised.rest raised.moved c.requires.ended staged) c.erase_durably.ensures.ok

pub returns-clause-moved : goal.returns-clause-moved
returns-clause-moved g c =
    let raised = c.in_ok-write_raised.ensures in
    on_ok_weaker c.erase_durably.result
    (λ staged.
    raised_freed c.args.current.now c.args.next.now (g.P.Pmem.state c.args.device.now) (g.P.Pmem.state c.write_raised.new.device) c.args.entries.now c.requires.after raised.rest raised.moved c.requires.ended (g.P.Pmem.state c.erase_durably.new.device) staged.newest staged.stays.lines)
    c.erase_durably.ensures.ok

pub returns-clause-stays : goal.returns-clause-stays
returns-clause-stays g c =
    let raised = c.in_ok-write_raised.ensures in
    on_err_weaker c.erase_durably.result
    (λ failed.
    inr (raised_fault c.args.current.now c.args.next.now (g.P.Pmem.state c.args.device.now) (g.P.Pmem.state c.write_raised.new.device) c.args.entries.now c.requires.after raised.rest raised.moved c.requires.ended (g.P.Pmem.state c.erase_durably.new.device) failed.newest failed.stays.lines))
    c.erase_durably.ensures.err

pub returns-clause-moments : goal.returns-clause-moments
returns-clause-moments g c =
    let raised = c.in_ok-write_raised.ensures in
    let b = g.P.Pmem.state c.write_raised.new.device in
    let erased : LeavesOnly b (g.P.Pmem.state c.erase_durably.new.device) (IsPartlyStored (erase_pairs c.args.entries.now []) b.words) =
    on_both c.erase_durably.result (on_ok_weaker c.erase_durably.result (λ staged. staged.moments) c.erase_durably.ensures.ok)
    (on_err_weaker c.erase_durably.result (λ failed. failed.moments) c.erase_durably.ensures.err) in
    raised_moments c.args.current.now c.args.next.now (g.P.Pmem.state c.args.device.now) (g.P.Pmem.state c.write_raised.new.device) c.args.entries.now c.requires.after raised.rest raised.moved c.requires.ended raised.moments erased
