-- What a newcomer's calls leave of it.
use Rattle.std.proofs.Common.{◌≡◌, ◌≢◌, inl, inr, Bool, Result, Ok, Err, sym, subst, ◌∙◌}
use Rattle.kv_types.specs.declared.refusal.Refusal.{Refusal}
use Rattle.kv_types.specs.declared.refusal.Refusal.TheVariants.{Fault}
use Rattle.pmem.specs.Device.{State}
use Rattle.model.specs.Group.{Contents, Versions}
use Rattle.mv_keyspace.specs.Table.{Table}
use Rattle.frames.specs.declared.ack.Ack.{Ack}
use Rattle.frames.specs.declared.copy.CopyEnd.{CopyEnd}
use Rattle.frames.specs.declared.copy.CopyPart.{CopyPart}
use Rattle.standby.specs.declared.newcomer.Newcomer.{Newcomer}
use Rattle.standby.specs.Newcomers.{AwaitsCopy, EndsCopy, HasCopy, TakesPart}

same_refusal : {T : Type 0} {first second : Refusal} → ◌≡◌ {A = Result T Refusal} (Err first) (Err second) → first ≡ second
same_refusal is = cc

err_is_not_ok : {T : Type 0} {x : T} {refusal : Refusal} → ◌≡◌ {A = Result T Refusal} (Ok x) (Err refusal) → ⊥
err_is_not_ok is = cc

module _ {E K D : Type 0} (device : E → State) (contents : E → Contents) (is_faulted : E → Bool) (staged : E → Versions) (table : K → Table) where
  abbrev Waits : Newcomer E K D → Type 0
  Waits node = AwaitsCopy device contents is_faulted staged table node

  -- a part was taken
  pub awaits-after_part : (part : CopyPart) (old new : Newcomer E K D) (done : Unit {0}) → Waits old → TakesPart device contents is_faulted staged table part old (Ok done) new → Waits new
  awaits-after_part part old new done awaits (inl had) = subst (λ (node : Newcomer E K D). Waits node) (sym had.same) awaits
  awaits-after_part part old new done awaits (inr (inl stages)) = elim stages.added [
    | inl next ↦ next.1.awaits
    | inr first ↦ first.3.awaits
  ]
  awaits-after_part part old new done awaits (inr (inr refused)) = absurd (err_is_not_ok refused.answer)

  -- a part was refused
  pub awaits-after_refused_part : (part : CopyPart) (old new : Newcomer E K D) (refusal : Refusal) → Waits old → TakesPart device contents is_faulted staged table part old (Err refusal) new
      → refusal ≢ Fault → Waits new
  awaits-after_refused_part part old new refusal awaits (inl had) sound = subst (λ (node : Newcomer E K D). Waits node) (sym had.same) awaits
  awaits-after_refused_part part old new refusal awaits (inr (inl stages)) sound = elim stages.added [
    | inl next ↦ next.1.awaits
    | inr first ↦ first.3.awaits
  ]
  awaits-after_refused_part part old new refusal awaits (inr (inr refused)) sound = elim refused.state [
    | inl refuses ↦ subst (λ (node : Newcomer E K D). Waits node) (sym refuses.same) awaits
    | inr (inl left) ↦ left.awaits
    | inr (inr broken) ↦ absurd (sound (same_refusal refused.answer ∙ broken.broken.cause))
  ]

  -- the end was taken
  pub has-after_end : (end : CopyEnd) (old new : Newcomer E K D) (ack : Ack) → EndsCopy device contents is_faulted staged table end old (Ok ack) new
      → HasCopy device contents is_faulted staged table new
  has-after_end end old new ack (inl whole) = whole.has
  has-after_end end old new ack (inr refused) = absurd (err_is_not_ok refused.answer)

  -- the end was refused
  pub awaits-after_refused_end : (end : CopyEnd) (old new : Newcomer E K D) (refusal : Refusal) → Waits old → EndsCopy device contents is_faulted staged table end old (Err refusal) new
      → refusal ≢ Fault → Waits new
  awaits-after_refused_end end old new refusal awaits (inl whole) sound = absurd (err_is_not_ok (sym whole.answer))
  awaits-after_refused_end end old new refusal awaits (inr refused) sound = elim refused.state [
    | inl refuses ↦ subst (λ (node : Newcomer E K D). Waits node) (sym refuses.same) awaits
    | inr (inl keeps) ↦ subst (λ (node : Newcomer E K D). Waits node) (sym keeps.same) awaits
    | inr (inr broken) ↦ absurd (sound (same_refusal refused.answer ∙ broken.broken.cause))
  ]
