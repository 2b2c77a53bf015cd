use Rattle.std.proofs.Common.{subst, sym}
use Rattle.std.proofs.lemmas.Result.{on_ok_weaker, on_err_weaker}
use Rattle.pmem.specs.Runs.{LeavesOnly, IsPartlyStored}
use Rattle.model.specs.declared.record.Record.{Record}
use Rattle.model.specs.Image.{magic_number}
use Rattle.wbl_engine.specs.AtRest.{IsAtRest}
use Rattle.wbl_engine.proofs.FormatLemmas.{magic_pairs, first_moments, second_moments, third_moments, second_staged, second_failed, format_rest}
use Rattle.wbl_record.proofs.Results.{on_both}
use Rattle.wbl_engine.proofs.format.format_device.Goals as goal

pub returns-in_err-persist-clause-moments : goal.returns-in_err-persist-clause-moments
returns-in_err-persist-clause-moments g c =
    first_moments (g.P.Pmem.state c.args.device.now).lines c.args.first.now.role c.args.first.now.epoch c.in_err-persist.ensures.err.moments

pub returns-in_err-write_new-clause-moments : goal.returns-in_err-write_new-clause-moments
returns-in_err-write_new-clause-moments g c =
    let lines = (g.P.Pmem.state c.args.device.now).lines in
    let role = c.args.first.now.role in
    let epoch = c.args.first.now.epoch in
    let first = c.in_ok-persist.ensures.ok in
    second_moments lines role epoch first (second_failed lines role epoch c.args.first.now first.stays.lines c.requires.first c.in_err-write_new.ensures.err).moments

pub returns-clause-rest : goal.returns-clause-rest
returns-clause-rest g c =
    let d = g.P.Pmem.state c.args.device.now in
    let role = c.args.first.now.role in
    let epoch = c.args.first.now.epoch in
    let first = c.in_ok-persist.ensures.ok in
    let second = second_staged d.lines role epoch c.args.first.now first.stays.lines c.requires.first c.in_ok-write_new.ensures.ok in
    on_ok_weaker c.persist_durably.result
    (λ third.
    subst (λ (r : Record). IsAtRest r (g.P.Pmem.state c.persist_durably.new.device)) (sym c.requires.first)
    (format_rest role epoch c.requires.some_epoch c.requires.epoch c.requires.many c.requires.few first second third))
    c.persist_durably.ensures.ok

pub returns-clause-moments : goal.returns-clause-moments
returns-clause-moments g c =
    let lines = (g.P.Pmem.state c.args.device.now).lines in
    let role = c.args.first.now.role in
    let epoch = c.args.first.now.epoch in
    let first = c.in_ok-persist.ensures.ok in
    let second = second_staged lines role epoch c.args.first.now first.stays.lines c.requires.first c.in_ok-write_new.ensures.ok in
    let third : LeavesOnly (g.P.Pmem.state c.write_new.new.device) (g.P.Pmem.state c.persist_durably.new.device)
    (IsPartlyStored (magic_pairs magic_number) (g.P.Pmem.state c.write_new.new.device).words) =
    on_both c.persist_durably.result (on_ok_weaker c.persist_durably.result (λ staged. staged.moments) c.persist_durably.ensures.ok)
    (on_err_weaker c.persist_durably.result (λ failed. failed.moments) c.persist_durably.ensures.err) in
    third_moments lines role epoch c.requires.many first second third
