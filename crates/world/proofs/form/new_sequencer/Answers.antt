use Rattle.world.proofs.Words.{IfOk-weaker}
use Rattle.placing.proofs.BesideLemmas.{beside-empty}
use Rattle.world.proofs.FormLemmas.{all-fresh, out-fresh, underlies-new}
use Rattle.world.proofs.form.new_sequencer.Goals as goal

pub new-requires-clause-beside : goal.new-requires-clause-beside
new-requires-clause-beside g c = beside-empty _ c.in_ok-own.own.heap c.requires.empty

pub returns-clause-underlies : goal.returns-clause-underlies
returns-clause-underlies g c =
    IfOk-weaker c.new.result _ _
    (λ _ stands contents new. stands contents
    (underlies-new c.args.lines contents.current.role contents _ c.in_ok-own.own.heap new
    (all-fresh c.args.lines c.in_ok-own.own.heap c.in_ok-own.ensures.room c.in_ok-own.ensures.lines c.in_ok-own.ensures.entries) c.requires.empty))
    c.new.ensures.stands

pub returns-clause-expects : goal.returns-clause-expects
returns-clause-expects g c =
    IfOk-weaker c.new.result _ _
    (λ _ expects contents new. expects contents (out-fresh c.args.lines contents.current.role contents c.in_ok-own.own.heap new c.in_ok-own.ensures.room))
    c.new.ensures.expects
