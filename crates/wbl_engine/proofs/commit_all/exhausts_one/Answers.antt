use Rattle.std.proofs.Common.{List, sym, subst, take_all, ◌∙◌, arith}
use Rattle.model.specs.declared.group.Group.{Group}
use Rattle.wbl_record.specs.Current.{IsLawful}
use Rattle.wbl_engine.specs.CommittingAll.{ExhaustsOne}
use Rattle.wbl_engine.proofs.CommittingAllLemmas.{epoch_asked, few_asked, last_exhausts, last_fits, last_more}
use Rattle.wbl_engine.proofs.commit_all.exhausts_one.Goals as goal

pub loop-group-init : goal.loop-group-init
loop-group-init c = record {
  lawful = subst IsLawful (sym c.copy_record-last.ensures) c.requires.lawful;
  follows = λ contents is. c.copy_record-last.ensures ∙ sym is;
  fits = λ contents is one. one;
}

pub next_record-requires-clause-few : goal.next_record-requires-clause-few
next_record-requires-clause-few c =
    let (contents, is, asked) = c.requires.asked in
    few_asked c.args.floor contents c.args.groups.now c.loop-group.group-index c.group-item.result c.loop-group-test.true c.group-item.is c.loop-group.last
    (c.loop-group.invariant.follows contents is) asked

pub next_record-requires-clause-epoch : goal.next_record-requires-clause-epoch
next_record-requires-clause-epoch c =
    let (contents, is, asked) = c.requires.asked in
    epoch_asked c.args.floor contents c.args.groups.now c.loop-group.group-index c.group-item.result c.loop-group-test.true c.group-item.is c.loop-group.last
    (c.loop-group.invariant.follows contents is) asked

pub returns-in_default-clause-one : goal.returns-in_default-clause-one
returns-in_default-clause-one c = λ yes contents is.
    last_exhausts c.args.floor contents c.args.groups.now c.loop-group.group-index c.group-item.result c.loop-group-test.true c.group-item.is c.loop-group.last
    (c.loop-group.invariant.follows contents is) c.in_default.ensures.exhausted

pub loop-group-preserved : goal.loop-group-preserved
loop-group-preserved c = record {
  lawful = c.in-Some.ensures.lawful;
  follows = λ contents is.
      last_more c.args.floor contents c.args.groups.now c.loop-group.group-index c.group-item.result c.loop-group-test.true c.group-item.is c.loop-group.last
      (c.loop-group.invariant.follows contents is) c.in-Some.next c.in-Some.ensures.next;
  fits = λ contents is.
      last_fits c.args.floor contents c.args.groups.now c.loop-group.group-index c.group-item.result c.loop-group-test.true c.group-item.is c.loop-group.last
      (c.loop-group.invariant.follows contents is) c.in-Some.next c.in-Some.ensures.next c.in-Some.ensures.lawful c.in-Some.ensures.other
      (c.loop-group.invariant.fits contents is);
}

pub returns-clause-none : goal.returns-clause-none
returns-clause-none c = λ none contents is.
    subst (λ (groups : List Group). ¬ ExhaustsOne contents groups) (take_all c.loop-group.group-index c.args.groups.now (omega (arith, c.loop-group-test.false)))
    (c.loop-group.invariant.fits contents is)
