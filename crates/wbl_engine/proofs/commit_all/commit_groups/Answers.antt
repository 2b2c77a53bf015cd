use Rattle.std.proofs.Common.{sym, subst}
use Rattle.std.proofs.lemmas.Result.{on_ok_weaker, on_err_weaker}
use Rattle.pmem.specs.Device.{State}
use Rattle.pmem.proofs.Floors.{LeavesOnly-synced}
use Rattle.wbl_engine.specs.AtRest.{IsAtRest, contents_of}
use Rattle.wbl_engine.specs.CommittingAll.{CommitsEach, KeepsSome, after_commits}
use Rattle.wbl_engine.specs.Contents.{Same}
use Rattle.wbl_engine.proofs.CommittingAllLemmas.{all_some}
use Rattle.wbl_engine.proofs.commit_all.commit_groups.Goals as goal

pub returns-clause-rest : goal.returns-clause-rest
returns-clause-rest g c =
    on_ok_weaker c.sync.result
    (λ same. subst (λ (d : State). IsAtRest c.store_groups.new.current d) (sym same) c.in_ok-store_groups.ensures.rest) c.sync.ensures.ok

pub returns-clause-moved : goal.returns-clause-moved
returns-clause-moved g c =
    let old = contents_of c.args.current.now (g.P.Pmem.state c.args.device.now) in
    on_ok_weaker c.sync.result
    (λ same. subst (λ (d : State). Same (after_commits c.args.floor old c.args.groups.now) (contents_of c.store_groups.new.current d)) (sym same)
    c.in_ok-store_groups.ensures.moved)
    c.sync.ensures.ok

pub returns-clause-stays : goal.returns-clause-stays
returns-clause-stays g c =
    let old = contents_of c.args.current.now (g.P.Pmem.state c.args.device.now) in
    on_err_weaker c.sync.result
    (λ e.
    all_some c.args.floor old c.args.groups.now
    (subst (λ (d : State). Same (after_commits c.args.floor old c.args.groups.now) (contents_of c.store_groups.new.current d)) (sym e)
    c.in_ok-store_groups.ensures.moved))
    c.sync.ensures.err

pub returns-clause-moments : goal.returns-clause-moments
returns-clause-moments g c =
    LeavesOnly-synced (KeepsSome c.args.floor (contents_of c.args.current.now (g.P.Pmem.state c.args.device.now)) c.args.groups.now) c.sync.result
    c.store_groups.ensures.moments c.sync.ensures.ok c.sync.ensures.err

pub returns-clause-each : goal.returns-clause-each
returns-clause-each g c =
    let d = g.P.Pmem.state c.args.device.now in
    on_ok_weaker c.sync.result
    (λ same. subst (λ (e : State). CommitsEach c.args.floor (contents_of c.args.current.now d) c.args.groups.now d e) (sym same) c.in_ok-store_groups.ensures.each)
    c.sync.ensures.ok
