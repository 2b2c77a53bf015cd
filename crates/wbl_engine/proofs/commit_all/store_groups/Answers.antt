use Rattle.std.proofs.Common.{refl, ap, subst, ◌∙◌, arith}
use Rattle.pmem.proofs.Leaving.{none_leaves}
use Rattle.model.specs.Group.{Contents}
use Rattle.wbl_record.proofs.Results.{on_err_from}
use Rattle.wbl_engine.specs.AtRest.{contents_of}
use Rattle.wbl_engine.specs.CommittingAll.{KeepsSome}
use Rattle.wbl_engine.specs.Contents.{Same}
use Rattle.wbl_engine.proofs.CommittingAllLemmas.{all_each, all_same, each_more, epoch_asked, few_asked, last_exhausts, moments_more, moved_more, now_asked}
use Rattle.wbl_engine.proofs.Erased.{rest_keeps}
use Rattle.wbl_engine.proofs.SuccessorLemmas.{floor_after, record_at_floor}
use Rattle.wbl_engine.proofs.commit_all.store_groups.Goals as goal

pub loop-group-init : goal.loop-group-init
loop-group-init g c =
    let r = c.args.current.now in
    let d = g.P.Pmem.state c.args.device.now in
    record {
      rest = c.requires.rest;
      moved = refl;
      each = refl;
      sound = refl;
      asked_moment = refl;
      moments = none_leaves d (KeepsSome c.args.floor (contents_of r d) c.args.groups.now) (λ image is. (0, omega arith, rest_keeps r d c.requires.rest image is));
    }

pub next_record-requires : goal.next_record-requires
next_record-requires g c =
    let contents = contents_of c.args.current.now (g.P.Pmem.state c.args.device.now) in
    let last_is = ap (λ (c : Contents). c.current) c.loop-group.invariant.moved in
    record {
      lawful = c.loop-group.invariant.rest.lawful;
      few = few_asked c.args.floor contents c.args.groups.now c.loop-group.group-index c.group-item.result c.loop-group-test.true c.group-item.is c.loop-group.current last_is
          c.requires.asked;
      epoch = epoch_asked c.args.floor contents c.args.groups.now c.loop-group.group-index c.group-item.result c.loop-group-test.true c.group-item.is c.loop-group.current last_is
          c.requires.asked;
    }

pub unreachable-requires : goal.unreachable-requires
unreachable-requires g c =
    let contents = contents_of c.args.current.now (g.P.Pmem.state c.args.device.now) in
    c.requires.fits
    (last_exhausts c.args.floor contents c.args.groups.now c.loop-group.group-index c.group-item.result c.loop-group-test.true c.group-item.is c.loop-group.current
    (ap (λ (c : Contents). c.current) c.loop-group.invariant.moved) c.in_default.ensures.exhausted)

pub store_group-requires : goal.store_group-requires
store_group-requires g c =
    let contents = contents_of c.args.current.now (g.P.Pmem.state c.args.device.now) in
    record {
      rest = c.loop-group.invariant.rest;
      asked = now_asked c.args.floor contents c.args.groups.now c.loop-group.group-index c.group-item.result c.loop-group-test.true c.group-item.is
          (contents_of c.loop-group.current (g.P.Pmem.state c.loop-group.device)) c.loop-group.invariant.moved c.requires.asked;
      after = record_at_floor c.loop-group.current c.in-Some.next c.group-item.result c.args.floor c.in-Some.ensures.next;
      lawful = c.in-Some.ensures.lawful;
    }

pub returns-in_err-store_group-clause-stays : goal.returns-in_err-store_group-clause-stays
returns-in_err-store_group-clause-stays g c =
    on_err_from c.from_residual.result (
      c.loop-group.group-index,
      omega (arith, c.loop-group-test.true),
      subst (λ (some : Contents). Same some (contents_of c.loop-group.current (g.P.Pmem.state c.store_group.new.device))) c.loop-group.invariant.moved
          c.in_err-store_group.ensures.stays,
    )

pub returns-in_err-store_group-clause-moments : goal.returns-in_err-store_group-clause-moments
returns-in_err-store_group-clause-moments g c =
    let contents = contents_of c.args.current.now (g.P.Pmem.state c.args.device.now) in
    moments_more c.args.floor contents c.args.groups.now c.loop-group.group-index c.group-item.result c.loop-group-test.true c.group-item.is
    (contents_of c.loop-group.current (g.P.Pmem.state c.loop-group.device)) c.loop-group.invariant.moved c.in-Some.next.floor
    (floor_after c.loop-group.current c.in-Some.next c.group-item.result c.args.floor c.in-Some.ensures.next)
    c.loop-group.invariant.moments c.in_err-store_group.ensures.moments

pub loop-group-preserved : goal.loop-group-preserved
loop-group-preserved g c =
    let contents = contents_of c.args.current.now (g.P.Pmem.state c.args.device.now) in
    let now = contents_of c.loop-group.current (g.P.Pmem.state c.loop-group.device) in
    let floor_is = floor_after c.loop-group.current c.in-Some.next c.group-item.result c.args.floor c.in-Some.ensures.next in
    let stored = c.in_ok-store_group.ensures in
    record {
      rest = stored.rest;
      moved = moved_more c.args.floor contents c.args.groups.now c.loop-group.group-index c.group-item.result c.loop-group-test.true c.group-item.is now
          c.loop-group.invariant.moved c.in-Some.next.floor floor_is (contents_of c.in-Some.next (g.P.Pmem.state c.store_group.new.device)) stored.moved;
      each = each_more c.args.floor contents c.args.groups.now c.loop-group.group-index c.group-item.result c.loop-group-test.true c.group-item.is now
          c.loop-group.invariant.moved c.in-Some.next.floor floor_is (g.P.Pmem.state c.args.device.now) (g.P.Pmem.state c.loop-group.device) (g.P.Pmem.state c.store_group.new.device)
          (contents_of c.in-Some.next (g.P.Pmem.state c.store_group.new.device)) c.loop-group.invariant.each stored.moments
          stored.moved (rest_keeps c.in-Some.next (g.P.Pmem.state c.store_group.new.device) stored.rest);
      sound = stored.sound ∙ c.loop-group.invariant.sound;
      asked_moment = stored.asked_moment ∙ c.loop-group.invariant.asked_moment;
      moments = moments_more c.args.floor contents c.args.groups.now c.loop-group.group-index c.group-item.result c.loop-group-test.true c.group-item.is now
          c.loop-group.invariant.moved c.in-Some.next.floor floor_is c.loop-group.invariant.moments stored.moments;
    }

pub returns-clause-moved : goal.returns-clause-moved
returns-clause-moved g c =
    all_same c.args.floor (contents_of c.args.current.now (g.P.Pmem.state c.args.device.now)) c.args.groups.now c.loop-group.group-index
    (contents_of c.loop-group.current (g.P.Pmem.state c.loop-group.device)) (omega (arith, c.loop-group-test.false)) c.loop-group.invariant.moved

pub returns-clause-each : goal.returns-clause-each
returns-clause-each g c =
    all_each c.args.floor (contents_of c.args.current.now (g.P.Pmem.state c.args.device.now)) c.args.groups.now c.loop-group.group-index
    (g.P.Pmem.state c.args.device.now) (g.P.Pmem.state c.loop-group.device) (omega (arith, c.loop-group-test.false)) c.loop-group.invariant.each
