use Rattle.std.proofs.Common.{arith, ◌≡◌, Bool, Result, Err, Ok, inl, inr, true, false, refl, sym, ap, subst, ◌∙◌}
use Rattle.std.proofs.lemmas.Result.{err_from_is_err_and}
use Rattle.kv_types.specs.declared.refusal.Refusal.{Refusal}
use Rattle.kv_types.specs.declared.refusal.Refusal.TheVariants.{Memory}
use Rattle.placing.specs.Place.{HasRoomFor}
use Rattle.wbl_engine.specs.Contents.{IsDurable}
use Rattle.standby.specs.Following.{WouldExhaust}
use Rattle.standby.specs.Taking.{Rearranges}
use Rattle.standby.proofs.ClearingLemmas.{Rearranges-tidied}
use Rattle.standby.proofs.RoomLemmas.{IsReady, IsReady-then, Rearranges-done, Rearranges-refused, Rearranges-still, Rearranges-then}
use Rattle.standby.proofs.standby.Standby.clear_gaps.Given.{Over}
use Rattle.standby.proofs.standby.Standby.clear_gaps.Goals as goal
use Rattle.standby.proofs.standby.Standby.clear_gaps.Goals.{After-clear_gap}

pub loop-self-init : goal.loop-self-init
loop-self-init g c =
    let ready : IsReady g.E.Durable.device g.E.Durable.contents g.E.Durable.is_faulted g.K.Keyspace.table c.args.frame.now c.args.self.now =
    record { follows = c.requires.follows; none = c.requires.none; sound = c.requires.sound; durable = c.requires.durable; counters = c.requires.counters } in
    record {
      so_far = Rearranges-still g.E.Durable.device g.E.Durable.contents g.E.Durable.is_faulted g.K.Keyspace.table c.args.frame.now c.args.self.now tt ready;
      ready = ready;
      first = inl refl;
    }

pub returns-in_err-fits-clause-rearranges : goal.returns-in_err-fits-clause-rearranges
returns-in_err-fits-clause-rearranges g c =
    let exit = err_from_is_err_and c.from_residual.result c.from_residual.ensures.1 in
    let refused = c.in_err-fits.ensures.cause in
    let memory : c.in_err-fits.field-0.0 ≡ Memory = cc in
    rw (exit.1 ∙ ap Err (exit.2 ∙ memory), c.fits.ensures.same)
    (Rearranges-then g.E.Durable.device g.E.Durable.contents g.E.Durable.is_faulted g.K.Keyspace.table c.args.frame.now c.args.self.now c.loop-self.self c.loop-self.self tt (Err Memory) c.loop-self.invariant.so_far
    (Rearranges-refused g.E.Durable.device g.E.Durable.contents g.E.Durable.is_faulted g.K.Keyspace.table {X = Bool} c.args.frame.now c.loop-self.self c.loop-self.invariant.ready))

pub clear_gap-requires-clause-durable : goal.clear_gap-requires-clause-durable
clear_gap-requires-clause-durable g c =
    subst (λ node. IsDurable (g.E.Durable.device node.engine) (g.E.Durable.contents node.engine)) (sym c.fits.ensures.same) c.loop-self.invariant.ready.durable

-- the clearing leaves the frame its counters
tidied : (g : Over) (c : After-clear_gap g) (result : Result Bool Refusal) → c.clear_gap.result ≡ result
    → Rearranges g.E.Durable.device g.E.Durable.contents g.E.Durable.is_faulted g.K.Keyspace.table c.args.frame.now c.fits.new.self result c.clear_gap.new.self
tidied g c result is =
    subst (λ (result : Result Bool Refusal). Rearranges g.E.Durable.device g.E.Durable.contents g.E.Durable.is_faulted g.K.Keyspace.table c.args.frame.now c.fits.new.self result c.clear_gap.new.self) is
    (Rearranges-tidied g.E.Durable.device g.E.Durable.contents g.E.Durable.is_faulted g.K.Keyspace.table c.args.frame.now c.fits.new.self c.clear_gap.new.self c.clear_gap.result c.clear_gap.ensures.tidies
    (c.clear_gap.ensures.counters c.args.frame.now
    (subst (λ node. ¬ WouldExhaust (g.E.Durable.contents node.engine).current c.args.frame.now) (sym c.fits.ensures.same) c.loop-self.invariant.ready.counters)))

-- there was no room at first
no_room : (g : Over) (c : After-clear_gap g) → HasRoomFor c.args.self.now.heap c.args.frame.now.changes.items → ⊥
no_room g c has = elim c.loop-self.invariant.first [
  | inl same ↦
      let fits = c.in_ok-fits.ensures.fits.1 (subst (λ node. HasRoomFor node.heap c.args.frame.now.changes.items) (sym same) has) in
      let off = c.if-not-branch.true in
      grind (arith, fits, off)
  | inr none ↦ none has
]

pub returns-in_err-clear_gap-clause-rearranges : goal.returns-in_err-clear_gap-clause-rearranges
returns-in_err-clear_gap-clause-rearranges g c =
    let exit = err_from_is_err_and c.from_residual-in_err-clear_gap.result c.from_residual-in_err-clear_gap.ensures.1 in
    rw (exit.1 ∙ ap Err exit.2)
    (Rearranges-then g.E.Durable.device g.E.Durable.contents g.E.Durable.is_faulted g.K.Keyspace.table c.args.frame.now c.args.self.now c.loop-self.self c.clear_gap.new.self tt (Err c.in_err-clear_gap.field-0.0)
    c.loop-self.invariant.so_far
    (subst (λ node. Rearranges g.E.Durable.device g.E.Durable.contents g.E.Durable.is_faulted g.K.Keyspace.table {X = Bool} c.args.frame.now node (Err c.in_err-clear_gap.field-0.0) c.clear_gap.new.self) c.fits.ensures.same
    (tidied g (goal.at.returns-in_err-clear_gap-clause-rearranges g c).After-clear_gap (Err c.in_err-clear_gap.field-0.0) c.in_err-clear_gap.was)))

pub returns-in_err-clear_gap-clause-unmoved : goal.returns-in_err-clear_gap-clause-unmoved
returns-in_err-clear_gap-clause-unmoved g c = λ has. absurd (no_room g (goal.at.returns-in_err-clear_gap-clause-unmoved g c).After-clear_gap has)

-- what the clearing did, after what was done before
so_far : (g : Over) (c : After-clear_gap g) (done : Bool) → c.clear_gap.result ≡ Ok done
    → Rearranges g.E.Durable.device g.E.Durable.contents g.E.Durable.is_faulted g.K.Keyspace.table {X = Bool} c.args.frame.now c.args.self.now (Ok done) c.clear_gap.new.self
so_far g c done is =
    Rearranges-then g.E.Durable.device g.E.Durable.contents g.E.Durable.is_faulted g.K.Keyspace.table c.args.frame.now c.args.self.now c.loop-self.self c.clear_gap.new.self tt (Ok done) c.loop-self.invariant.so_far
    (subst (λ node. Rearranges g.E.Durable.device g.E.Durable.contents g.E.Durable.is_faulted g.K.Keyspace.table {X = Bool} c.args.frame.now node (Ok done) c.clear_gap.new.self) c.fits.ensures.same
    (tidied g c (Ok done) is))

pub returns-then-not-branch-2-clause-rearranges : goal.returns-then-not-branch-2-clause-rearranges
returns-then-not-branch-2-clause-rearranges g c =
    Rearranges-done g.E.Durable.device g.E.Durable.contents g.E.Durable.is_faulted g.K.Keyspace.table c.args.frame.now c.args.self.now c.clear_gap.new.self c.in_ok-clear_gap.field-0 false
    (so_far g (goal.at.returns-then-not-branch-2-clause-rearranges g c).After-clear_gap c.in_ok-clear_gap.field-0 c.in_ok-clear_gap.was)

pub returns-then-not-branch-2-clause-unmoved : goal.returns-then-not-branch-2-clause-unmoved
returns-then-not-branch-2-clause-unmoved g c = λ has. absurd (no_room g (goal.at.returns-then-not-branch-2-clause-unmoved g c).After-clear_gap has)

pub loop-self-preserved : goal.loop-self-preserved
loop-self-preserved g c =
    let prefix = (goal.at.loop-self-preserved g c).After-clear_gap in
    let now = Rearranges-done g.E.Durable.device g.E.Durable.contents g.E.Durable.is_faulted g.K.Keyspace.table c.args.frame.now c.args.self.now c.clear_gap.new.self c.in_ok-clear_gap.field-0 tt
    (so_far g prefix c.in_ok-clear_gap.field-0 c.in_ok-clear_gap.was) in
    record {
      so_far = now;
      ready = IsReady-then g.E.Durable.device g.E.Durable.contents g.E.Durable.is_faulted g.K.Keyspace.table c.args.frame.now c.args.self.now c.clear_gap.new.self tt now;
      first = inr (no_room g prefix);
    }

pub returns-clause-rearranges : goal.returns-clause-rearranges
returns-clause-rearranges g c =
    rw c.fits.ensures.same
    (Rearranges-done g.E.Durable.device g.E.Durable.contents g.E.Durable.is_faulted g.K.Keyspace.table c.args.frame.now c.args.self.now c.loop-self.self tt true c.loop-self.invariant.so_far)
