use Rattle.std.proofs.Common.{subst, ◌∙◌, ap}
use Rattle.serving.specs.Callers.{answers_of}
use Rattle.serving.specs.Visiting.{HeedsCalls, floor_of}
use Rattle.serving.specs.declared.callers.Answers.{Answers}
use Rattle.serving.proofs.TurnsLemmas.{serves-then}
use Rattle.serving.proofs.node.serve_connections.Goals as goal

pub returns-clause-serves : goal.returns-clause-serves
returns-clause-serves g c = serves-then _ c.admit-admitted.new.front.sequencer _ c.admit-admitted.ensures.serves c.serve-served.ensures.serves

pub returns-clause-visits : goal.returns-clause-visits
returns-clause-visits g c =
    let visits = c.serve-served.ensures.visits in
    record {
      admitted = floor_of c.admit-admitted.new.self c.admit-admitted.new.front.sequencer;
      admits = c.admit-admitted.ensures.admits;
      asks = record {
        answer = c.admit-admitted.ensures.asks.answer;
        asks = ap answers_of c.serve-served.ensures.arrivals ∙ c.admit-admitted.ensures.asks.asks;
        nobody = c.admit-admitted.ensures.asks.nobody;
      };
      called = visits.0;
      heeds = subst (λ (answers : Answers). HeedsCalls (answers_of answers) (answers_of c.serve-served.new.self.callers.answers)
          (floor_of c.admit-admitted.new.self c.admit-admitted.new.front.sequencer) visits.0) c.admit-admitted.ensures.callers visits.1;
      visits = visits.2;
    }
