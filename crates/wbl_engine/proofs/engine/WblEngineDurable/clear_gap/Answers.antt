use Rattle.std.proofs.Common.{Bool, true, false, inl, inr, length, refl, sym, ap, ◌∙◌}
use Rattle.std.proofs.lemmas.Bool.{cases_Bool}
use Rattle.wbl_engine.specs.Copying.{idle, staged_of}
use Rattle.wbl_engine.proofs.ClearingLemmas.{clear_none}
use Rattle.wbl_engine.proofs.GapLemmas.{some_gap}
use Rattle.wbl_engine.proofs.HalfLemmas.{sound_keeps, sound_quiet}
use Rattle.wbl_engine.proofs.SyncedContents.{same_engine}
use Rattle.wbl_engine.proofs.engine.WblEngineDurable.clear_gap.Goals as goal

pub returns-then-has_no_gap-clause-durable : goal.returns-then-has_no_gap-clause-durable
returns-then-has_no_gap-clause-durable g c =
    let self = c.args.self.now in
    sound_keeps self.copying (self.at_rest c.if-self.false) (self.half c.if-self.false)

pub returns-then-has_no_gap-clause-moments : goal.returns-then-has_no_gap-clause-moments
returns-then-has_no_gap-clause-moments g c sound =
    let self = c.args.self.now in
    clear_none (sound_keeps self.copying (self.at_rest sound) (self.half sound))

pub returns-then-is_last-clause-moments : goal.returns-then-is_last-clause-moments
returns-then-is_last-clause-moments g c sound =
    let self = c.args.self.now in
    clear_none (sound_keeps self.copying (self.at_rest sound) (self.half sound))

pub returns-in_err-stamped-clause-moments : goal.returns-in_err-stamped-clause-moments
returns-in_err-stamped-clause-moments g c sound =
    let self = c.args.self.now in
    clear_none (sound_keeps self.copying (self.at_rest sound) (self.half sound))

pub clear_oldest-requires-clause-quiet : goal.clear_oldest-requires-clause-quiet
clear_oldest-requires-clause-quiet g c =
    let self = c.args.self.now in
    sound_quiet self.copying (self.at_rest c.if-self.false) (self.half c.if-self.false)

-- the engine is as sound as it was, whether parts of a copy are staged or not
pub invariant_of-self-2 : goal.invariant_of-self-2
invariant_of-self-2 g c =
    let self = c.args.self.now in
    record {
      at_rest = λ sound idle. c.in-Ok.ensures.rest (self.at_rest c.if-self.false idle);
      half = λ sound begun. c.in-Ok.ensures.half (self.half c.if-self.false begun);
      synced = λ sound. c.in-Ok.ensures.synced;
    }

pub returns-clause-staged : goal.returns-clause-staged
returns-clause-staged g c i =
    let self = c.args.self.now in
    let d = g.P.Pmem.state self.device in
    let after = g.P.Pmem.state c.clear_oldest.new.device in
    elim (cases_Bool self.copying) [
      | inl begun ↦
          ap (λ (b : Bool). staged_of b c.in-Ok.next after i) begun ∙ c.in-Ok.ensures.staged (self.half c.if-self.false begun) i
          ∙ sym (ap (λ (b : Bool). staged_of b self.current d i) begun)
      | inr none ↦ idle c.in-Ok.next after self.copying none i ∙ sym (idle self.current d self.copying none i)
    ]

pub returns-clause-durable : goal.returns-clause-durable
returns-clause-durable g c =
    let self = c.args.self.now in
    sound_keeps self.copying (λ none. c.in-Ok.ensures.rest (self.at_rest c.if-self.false none)) (λ begun. c.in-Ok.ensures.half (self.half c.if-self.false begun))

pub returns-then-has_no_gap-clause-none : goal.returns-then-has_no_gap-clause-none
returns-then-has_no_gap-clause-none g c sound none =
    let self = c.args.self.now in (
      refl,
      c.none.ensures.entries,
      (same_engine self.faulted self.copying self.current (g.P.Pmem.state self.device) (g.P.Pmem.floor self.device) (λ x y z. record self { at_rest = x; half = y; synced = z })
          _ self.at_rest _ self.half _ self.synced),
    )

pub returns-then-is_last-clause-exhausted : goal.returns-then-is_last-clause-exhausted
returns-then-is_last-clause-exhausted g c is_exhausted =
    let self = c.args.self.now in (
      some_gap (length self.current.gaps.items) c.has_no_gap.result c.has_no_gap.ensures c.if-has_no_gap.false,
      c.is_last.ensures.0 c.if-is_last.true,
      (same_engine self.faulted self.copying self.current (g.P.Pmem.state self.device) (g.P.Pmem.floor self.device) (λ x y z. record self { at_rest = x; half = y; synced = z })
          _ self.at_rest _ self.half _ self.synced),
    )

pub returns-in_err-stamped-clause-memory : goal.returns-in_err-stamped-clause-memory
returns-in_err-stamped-clause-memory g c is_memory =
    let self = c.args.self.now in
    (same_engine self.faulted self.copying self.current (g.P.Pmem.state self.device) (g.P.Pmem.floor self.device) (λ x y z. record self { at_rest = x; half = y; synced = z })
    _ self.at_rest _ self.half _ self.synced)
