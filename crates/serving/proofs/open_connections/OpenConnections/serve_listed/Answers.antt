use Rattle.std.proofs.Common.{◌-◌, ◌+◌, arith, rules, subst, ◌∙◌}
use Rattle.serving.specs.Visiting.{VisitsFrom, floor_of}
use Rattle.serving.proofs.TurnsLemmas.{serves-still, serves-then}
use Rattle.serving.proofs.VisitLemmas.{from-all, from-full, from-more, from-nobody, from-start, passed-on}
use Rattle.serving.proofs.open_connections.OpenConnections.serve_listed.Goals as goal

pub loop-done-init : goal.loop-done-init
loop-done-init g c = record {
  serves = serves-still _;
  read = search rules;
  short = c.requires.short;
  behind = omega arith;
  callers = search rules;
  visits = λ last visits. from-start c.len-all.result 0 (floor_of c.args.self.now c.args.front.now.sequencer) last visits;
}

pub loop-done-preserved : goal.loop-done-preserved
loop-done-preserved g c =
    let read = c.loop-done.invariant.read in
    let now = c.serve_place-visited.ensures in
    record {
      serves = serves-then _ c.loop-done.front.sequencer _ c.loop-done.invariant.serves now.serves;
      read = (omega (arith, read.0, now.read.0), omega (arith, read.1, now.read.1), λ heard. now.read.2 (read.2 heard));
      short = now.short;
      behind = search rules;
      callers = now.callers ∙ c.loop-done.invariant.callers;
      visits = λ last visits. c.loop-done.invariant.visits last (from-more (c.len-all.result - c.loop-done.done) (c.len-all.result - (c.loop-done.done + 1)) c.loop-done.passed _ c.share-share.result
          c.in-Some.number.number (floor_of c.loop-done.self c.loop-done.front.sequencer) _ last c.serve_place-visited.result.is_passed (omega (arith, c.loop-done-test.true))
          (rw c.position.ensures at c.share-share.ensures.share) c.in-Some.ensures.someone now.visits
          (passed-on c.loop-done.passed _ c.serve_place-visited.result.is_passed (search rules)) visits);
    }

pub returns-then-share-eq0-clause-visits : goal.returns-then-share-eq0-clause-visits
returns-then-share-eq0-clause-visits g c =
    subst (λ n. VisitsFrom n 0 (floor_of c.args.self.now c.args.front.now.sequencer) (floor_of c.loop-done.self c.loop-done.front.sequencer)) c.len-all.ensures
    (c.loop-done.invariant.visits (floor_of c.loop-done.self c.loop-done.front.sequencer) (from-full (c.len-all.result - c.loop-done.done) (c.len-all.result - (c.loop-done.done + 1)) c.loop-done.passed c.share-share.result (floor_of c.loop-done.self c.loop-done.front.sequencer)
    (omega (arith, c.loop-done-test.true)) (rw c.position.ensures at c.share-share.ensures.share) (search rules)))

pub returns-in_default-clause-visits : goal.returns-in_default-clause-visits
returns-in_default-clause-visits g c =
    subst (λ n. VisitsFrom n 0 (floor_of c.args.self.now c.args.front.now.sequencer) (floor_of c.loop-done.self c.loop-done.front.sequencer)) c.len-all.ensures
    (c.loop-done.invariant.visits (floor_of c.loop-done.self c.loop-done.front.sequencer) (from-nobody (c.len-all.result - c.loop-done.done) (c.len-all.result - (c.loop-done.done + 1)) c.loop-done.passed (floor_of c.loop-done.self c.loop-done.front.sequencer) (omega (arith, c.loop-done-test.true)) (search rules)))

pub returns-clause-visits : goal.returns-clause-visits
returns-clause-visits g c =
    subst (λ n. VisitsFrom n 0 (floor_of c.args.self.now c.args.front.now.sequencer) (floor_of c.loop-done.self c.loop-done.front.sequencer)) c.len-all.ensures
    (c.loop-done.invariant.visits (floor_of c.loop-done.self c.loop-done.front.sequencer) (from-all (c.len-all.result - c.loop-done.done) c.loop-done.passed (floor_of c.loop-done.self c.loop-done.front.sequencer) (omega (arith, c.loop-done-test.false))))
