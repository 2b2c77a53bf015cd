use Rattle.std.proofs.Common.{◌≡◌, ◌<◌, ◌≤◌, ◌⊎◌, ℕ, false, List, [], ◌∷◌, length, Err, refl, sym, ap, subst, subst₂, ◌∙◌, arith, rules}
use Rattle.std.proofs.lemmas.Result.{err_from_is_err_and}
use Rattle.kv_types.specs.declared.refusal.Refusal.TheVariants.{Memory}
use Rattle.pmem.specs.Runs.{LeavesOnly}
use Rattle.model.specs.declared.group.Part.{Part}
use Rattle.model.specs.declared.group.TheConstants.{MAX_PARTS}
use Rattle.model.specs.declared.record.Record.{Record}
use Rattle.wbl_engine.specs.Contents.{Keeps, Same}
use Rattle.wbl_engine.specs.Relocating.{ExhaustsRelocation, IsRelocation, after_relocation}
use Rattle.standby.specs.Following.{HasCountersFor}
use Rattle.standby.specs.Moving.{AreGathered}
use Rattle.standby.proofs.ClearingLemmas.{failed_now}
use Rattle.standby.proofs.MovingLemmas.{Rearranges-alike, Rearranges-kept, Rearranges-moved, Rearranges-unmoved, Stands-moved, relocates-parts}
use Rattle.standby.proofs.RoomLemmas.{IsReady, Rearranges-still}
use Rattle.standby.proofs.standby.Standby.move_some.Given.{Over}
use Rattle.standby.proofs.standby.Standby.move_some.Goals as goal
use Rattle.standby.proofs.standby.Standby.move_some.Goals.{After-gather, After-deref, After-relocate}

ready : (g : Over) (c : After-gather g) → IsReady g.E.Durable.device g.E.Durable.contents g.E.Durable.is_faulted g.K.Keyspace.table c.args.frame.now c.args.self.now
ready g c = record { follows = c.requires.follows; none = c.requires.none; sound = c.requires.sound; durable = c.requires.durable; counters = c.requires.counters }

none_of : (parts : List Part) → length parts ≡ 0 → parts ≡ []
none_of [] is = refl
none_of (part ∷ parts) is = absurd (omega (arith, is))

fewer : (count most : ℕ) (current : Record) → count ≤ most → HasCountersFor most current → HasCountersFor count current
fewer count most current below enough = let stamps = enough.stamps in record { stamps = omega (arith, below, stamps); number = enough.number }

pub returns-in_err-batch-clause-rearranges : goal.returns-in_err-batch-clause-rearranges
returns-in_err-batch-clause-rearranges g c =
    let exit = err_from_is_err_and c.from_residual.result c.from_residual.ensures.1 in
    let refused = c.in_err-batch.ensures.cause in
    let memory : c.in_err-batch.field-0.0 ≡ Memory = cc in
    rw (exit.1 ∙ ap Err (exit.2 ∙ memory))
    (Rearranges-alike g.E.Durable.device g.E.Durable.contents g.E.Durable.is_faulted g.K.Keyspace.table c.args.frame.now c.args.self.now (ready g (goal.at.returns-in_err-batch-clause-rearranges g c).After-gather)
    c.gather.new.self c.in_err-batch.ensures.engine c.in_err-batch.ensures.table c.in_err-batch.ensures.heap c.in_err-batch.ensures.ended)

pub returns-then-made-eq0-clause-rearranges : goal.returns-then-made-eq0-clause-rearranges
returns-then-made-eq0-clause-rearranges g c =
    rw (c.in_ok-batch.ensures.stays (none_of c.in_ok-batch.batch.parts.items (omega (arith, c.if-made-eq0.true, c.len-made.ensures, c.in_ok-batch.batch.parts.ok.0))))
    (Rearranges-still g.E.Durable.device g.E.Durable.contents g.E.Durable.is_faulted g.K.Keyspace.table c.args.frame.now c.args.self.now 0
    (ready g (goal.at.returns-then-made-eq0-clause-rearranges g c).After-gather))

-- what was gathered
module _ (g : Over) (c : After-deref g) where
  abbrev parts : List Part
  parts = c.in_ok-batch.batch.parts.items

  some : 0 < length parts
  some = omega (arith, c.if-made-eq0.false, c.len-made.ensures, c.in_ok-batch.batch.parts.ok.0)

  few : length parts ≤ MAX_PARTS
  few = let most = c.in_ok-batch.ensures.few in let all = c.moves_left-most.ensures.few in omega (arith, most, all)

  enough : HasCountersFor (length parts) (g.E.Durable.contents c.args.self.now.engine).current
  enough =
      let most = c.in_ok-batch.ensures.few in
      let is = some in
      subst (HasCountersFor (length parts)) c.record.ensures
      (fewer (length parts) c.moves_left-most.result c.record.result.now most (c.moves_left-most.ensures.counters (omega (arith, most, is))))

  gathered : AreGathered (g.K.Keyspace.table c.args.self.now.keyspace) c.args.self.now.heap parts (g.K.Keyspace.table c.gather.new.self.keyspace) c.gather.new.self.heap
  gathered = c.in_ok-batch.ensures.made

pub relocate-requires : goal.relocate-requires
relocate-requires g c =
    let at = goal.at.relocate-requires g c in
    let d = at.After-deref in
    subst₂ (λ e (parts : List Part). IsRelocation (g.E.Durable.contents e) parts) (sym c.in_ok-batch.ensures.engine) (sym c.deref.ensures.value)
    (relocates-parts g.E.Durable.device g.E.Durable.contents g.E.Durable.is_faulted g.K.Keyspace.table c.args.frame.now c.args.self.now (ready g at.After-gather) (parts g d) (some g d) (few g d) (enough g d)
    c.gather.new.self (gathered g d))

-- what the engine tells, of what the standby had
module _ (g : Over) (c : After-relocate g) where
  abbrev taken : List Part
  taken = c.in_ok-batch.batch.parts.items

  same : c.gather.new.self.engine ≡ c.args.self.now.engine
  same = c.in_ok-batch.ensures.engine

  sound : g.E.Durable.is_faulted c.gather.new.self.engine ≡ false
  sound = subst (λ e. g.E.Durable.is_faulted e ≡ false) (sym same) c.requires.sound

  asked_moment : (g.E.Durable.device c.relocate.new.self).kept ≡ (g.E.Durable.device c.args.self.now.engine).kept
  asked_moment = subst (λ e. (g.E.Durable.device c.relocate.new.self).kept ≡ (g.E.Durable.device e).kept) same c.relocate.ensures.fences.asked_moment

  moments : LeavesOnly (g.E.Durable.device c.args.self.now.engine) (g.E.Durable.device c.relocate.new.self)
      (λ image. Keeps (g.E.Durable.contents c.args.self.now.engine) image ⊎ Keeps (after_relocation (g.E.Durable.contents c.args.self.now.engine) taken) image)
  moments =
      subst₂ (λ e (parts : List Part). LeavesOnly (g.E.Durable.device e) (g.E.Durable.device c.relocate.new.self) (λ image. Keeps (g.E.Durable.contents e) image ⊎ Keeps (after_relocation (g.E.Durable.contents e) parts) image)) same c.deref.ensures.value
      (c.relocate.ensures.moments sound)

pub returns-in_err-relocate-clause-rearranges : goal.returns-in_err-relocate-clause-rearranges
returns-in_err-relocate-clause-rearranges g c =
    let exit = err_from_is_err_and c.from_residual-in_err-relocate.result c.from_residual-in_err-relocate.ensures.1 in
    let at = goal.at.returns-in_err-relocate-clause-rearranges g c in
    let d = at.After-deref in
    let told = c.in_err-relocate.ensures in
    let was = same g at.After-relocate in
    rw (exit.1 ∙ ap Err exit.2)
    (Rearranges-unmoved g.E.Durable.device g.E.Durable.contents g.E.Durable.is_faulted g.K.Keyspace.table c.args.frame.now c.args.self.now (ready g at.After-gather) (parts g d) (some g d) (few g d) (enough g d)
    c.gather.new.self (gathered g d) c.relocate.new.self c.in_err-relocate.field-0.0 _ refl refl told.causes
    (λ exhausted. subst₂ (λ e (parts : List Part). ExhaustsRelocation (length parts) (g.E.Durable.contents e).current) was c.deref.ensures.value (told.exhausted (ap Err exhausted)).0)
    (subst (λ e. Same (g.E.Durable.contents e) (g.E.Durable.contents c.relocate.new.self)) was told.stays)
    (λ fault. (
      told.fences.stopped (ap Err fault),
      subst (λ e. (g.E.Durable.device e).failures < (g.E.Durable.device c.relocate.new.self).failures) was
          (failed_now (g.E.Durable.is_faulted c.gather.new.self.engine) (told.fences.fault (ap Err fault)) (sound g at.After-relocate)),
    ))
    (asked_moment g at.After-relocate) (moments g at.After-relocate))

pub free_ended-requires : goal.free_ended-requires
free_ended-requires g c =
    let at = goal.at.free_ended-requires g c in
    let d = at.After-deref in
    let told = c.in_ok-relocate.ensures in
    let was = same g at.After-relocate in
    Stands-moved g.E.Durable.device g.E.Durable.contents g.E.Durable.is_faulted g.K.Keyspace.table c.args.frame.now c.args.self.now (ready g at.After-gather) (parts g d) (some g d) (few g d) (enough g d)
    c.gather.new.self (gathered g d) (record { engine = c.relocate.new.self; keyspace = c.gather.new.self.keyspace; heap = c.gather.new.self.heap; ended = c.in_ok-batch.batch.ended }) refl refl c.in_ok-batch.ensures.named
    (subst₂ (λ e (parts : List Part). Same (after_relocation (g.E.Durable.contents e) parts) (g.E.Durable.contents c.relocate.new.self)) was c.deref.ensures.value told.moved) told.durable
    (told.fences.sound.0, subst (λ e. (g.E.Durable.device c.relocate.new.self).failures ≡ (g.E.Durable.device e).failures) was told.fences.sound.1) (asked_moment g at.After-relocate) (moments g at.After-relocate)

pub returns-in_err-free_ended-clause-rearranges : goal.returns-in_err-free_ended-clause-rearranges
returns-in_err-free_ended-clause-rearranges g c =
    let exit = err_from_is_err_and c.from_residual-in_err-free_ended.result c.from_residual-in_err-free_ended.ensures.1 in
    let at = goal.at.returns-in_err-free_ended-clause-rearranges g c in
    let d = at.After-deref in
    let told = c.in_ok-relocate.ensures in
    let was = same g at.After-relocate in
    rw (exit.1 ∙ ap Err exit.2)
    (Rearranges-kept g.E.Durable.device g.E.Durable.contents g.E.Durable.is_faulted g.K.Keyspace.table c.args.frame.now c.args.self.now (ready g at.After-gather) (parts g d) (some g d) (few g d) (enough g d)
    c.gather.new.self (gathered g d) (record { engine = c.relocate.new.self; keyspace = c.gather.new.self.keyspace; heap = c.gather.new.self.heap; ended = c.in_ok-batch.batch.ended }) refl refl c.in_ok-batch.ensures.named
    (subst₂ (λ e (parts : List Part). Same (after_relocation (g.E.Durable.contents e) parts) (g.E.Durable.contents c.relocate.new.self)) was c.deref.ensures.value told.moved) told.durable
    (told.fences.sound.0, subst (λ e. (g.E.Durable.device c.relocate.new.self).failures ≡ (g.E.Durable.device e).failures) was told.fences.sound.1) (asked_moment g at.After-relocate) (moments g at.After-relocate)
    c.in_err-free_ended.field-0.0 c.free_ended.new.self (search (rules, c.in_err-free_ended.ensures)))

pub returns-clause-rearranges : goal.returns-clause-rearranges
returns-clause-rearranges g c =
    let at = goal.at.returns-clause-rearranges g c in
    let d = at.After-deref in
    let told = c.in_ok-relocate.ensures in
    let was = same g at.After-relocate in
    Rearranges-moved g.E.Durable.device g.E.Durable.contents g.E.Durable.is_faulted g.K.Keyspace.table c.args.frame.now c.args.self.now (ready g at.After-gather) (parts g d) (some g d) (few g d) (enough g d)
    c.gather.new.self (gathered g d) (record { engine = c.relocate.new.self; keyspace = c.gather.new.self.keyspace; heap = c.gather.new.self.heap; ended = c.in_ok-batch.batch.ended }) refl refl c.in_ok-batch.ensures.named
    (subst₂ (λ e (parts : List Part). Same (after_relocation (g.E.Durable.contents e) parts) (g.E.Durable.contents c.relocate.new.self)) was c.deref.ensures.value told.moved) told.durable
    (told.fences.sound.0, subst (λ e. (g.E.Durable.device c.relocate.new.self).failures ≡ (g.E.Durable.device e).failures) was told.fences.sound.1) (asked_moment g at.After-relocate) (moments g at.After-relocate)
    c.len-made.result c.in_ok-free_ended.field-0 c.free_ended.new.self (search (rules, c.in_ok-free_ended.ensures))
