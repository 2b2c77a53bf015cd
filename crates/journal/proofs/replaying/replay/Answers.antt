use Rattle.std.proofs.Common.{◌≡◌, ℕ, ◌+◌, ◌*◌, true, false, [], ◌∷◌, ◌++◌, length, get_or, sym, ap, ◌∙◌, arith}
use Rattle.journal.specs.Record.{Record, sealed}
use Rattle.journal.specs.Journal.{lines_in, behind, record_in, passes}
use Rattle.journal.specs.Replay.{with_lines}
use Rattle.journal.proofs.RecordLemmas.{passed, length-more, length-sealed_in, length-behind, behind-drop, record_in-take, journal-more, journal-end}
use Rattle.journal.proofs.ReplayLemmas.{replayed-more}
use Rattle.journal.proofs.replaying.replay.Goals as goal

pub loop-rest-preserved : goal.loop-rest-preserved
loop-rest-preserved c =
    let lines = c.args.lines in
    let words = c.args.words.now in
    let rest = c.loop-rest.rest.now in
    let later = c.split_at.result.1.now in
    let done = c.loop-rest.invariant.0.0 in
    let whole : passes lines rest ≡ true = sym c.passes.ensures ∙ c.loop-rest-test.true in
    let next : later ≡ behind rest = c.split_at.ensures.back ∙ behind-drop rest in
    let size : length (sealed (record_in rest)) ≡ 2 + 9 * lines_in rest = length-sealed_in lines rest whole in
    let told : record_in c.split_at.result.0.now ≡ record_in rest = ap record_in c.split_at.ensures.front ∙ record_in-take rest (passed lines rest whole).some in
    let brought : (word : ℕ) → get_or c.put_record.new.image.items word 0
    ≡ with_lines (record_in rest).numbers (record_in rest).words (λ w. get_or c.loop-rest.image.items w 0) word =
    λ word. c.put_record.ensures.image word ∙ ap (λ (r : Record). with_lines r.numbers r.words (λ w. get_or c.loop-rest.image.items w 0) word) told in (
      (
        done ++ record_in rest ∷ [],
        journal-more lines words rest later done whole next c.loop-rest.invariant.0.1,
        omega (arith, length-more done (record_in rest), size, length-behind lines rest whole, ap length next, c.loop-rest.invariant.0.2),
        replayed-more done (record_in rest) (λ w. get_or c.args.image.now.items w 0) (λ w. get_or c.loop-rest.image.items w 0)
            (λ w. get_or c.put_record.new.image.items w 0) c.loop-rest.invariant.0.3 brought,
      ),
      c.put_record.ensures.capacity ∙ c.loop-rest.invariant.1,
    )

pub returns-clause-replayed : goal.returns-clause-replayed
returns-clause-replayed c =
    let none : passes c.args.lines c.loop-rest.rest.now ≡ false = sym c.passes.ensures ∙ c.loop-rest-test.false in (
      c.loop-rest.invariant.0.0,
      journal-end c.args.lines c.args.words.now c.loop-rest.rest.now c.loop-rest.invariant.0.0 none c.loop-rest.invariant.0.1,
      omega (arith, c.loop-rest.invariant.0.2),
      c.loop-rest.invariant.0.3,
    )
