-- What had ended is freed, and then a gap cleared.
use Rattle.std.proofs.Common.{◌≡◌, ℕ, ◌<◌, inl, inr, Bool, Result, Ok, Err, OnOk, length, refl, sym, ap, subst, ◌∙◌, arith}
use Rattle.kv_types.specs.declared.refusal.Refusal.{Refusal}
use Rattle.kv_types.specs.declared.refusal.Refusal.TheVariants.{Fault, Memory}
use Rattle.pmem.specs.Device.{State}
use Rattle.pmem.proofs.Leaving.{LeavesOnly-then}
use Rattle.model.specs.declared.record.Record.{Record}
use Rattle.model.specs.Group.{Contents}
use Rattle.mv_keyspace.specs.Table.{Table}
use Rattle.wbl_engine.specs.Freeing.{after_free, record_after_clearing}
use Rattle.standby.specs.declared.standby.Standby.{Standby}
use Rattle.standby.specs.Following.{IsGapless}
use Rattle.standby.specs.Taking.{Stands, Tidies}
use Rattle.standby.proofs.ClearingLemmas.{Tidies-refused}
use Rattle.standby.proofs.RearrangedLemmas.{IsRearranged-freed, IsRearranged-then, LeavesOnly-rearranged, LeavesOnly-without}
use Rattle.standby.proofs.TakingLemmas.{Frees}

on_ok : {T E : Type 0} {P Q : Type 0} (result : Result T E) → (P → Q) → OnOk result P → OnOk result Q
on_ok (Ok x) into told = into told
on_ok (Err e) into told = tt

module _ {E K D : Type 0} (device : E → State) (contents : E → Contents) (is_faulted : E → Bool) (table : K → Table) where
  pub Tidies-then : (old mid new : Standby E K D) (done : Unit {0}) (result : Result Bool Refusal) → Stands device contents is_faulted table old
      → Frees device contents is_faulted table old (Ok done) mid → Tidies device contents is_faulted table mid result new → Tidies device contents is_faulted table old result new
  Tidies-then old mid new done result stands frees then =
      let same = frees.freed.contents_are in
      let first = IsRearranged-freed (contents old.engine) (contents mid.engine) old.ended.items stands.follows.listed same in
      let before = (frees.sound (λ is. cc)).1 in
      record {
        causes = then.causes;
        keyspace = then.keyspace ∙ frees.keyspace;
        none = then.none;
        versions = on_ok result (λ are i. are i ∙ ap (λ entries. (after_free entries (contents mid.engine)).versions i) frees.freed.none ∙ same.versions i) then.versions;
        cleared = λ is. rw (← same.current) (then.cleared is);
        gapless = λ is. rw (← same.current) (then.gapless is);
        rearranged = IsRearranged-then (contents old.engine) (contents mid.engine) (contents new.engine) first then.rearranged;
        still = then.still;
        sound = λ sound. let now = then.sound sound in (now.0, now.1 ∙ before);
        durable = then.durable;
        fault = λ is. let told = then.fault is in (told.0, omega (arith, told.1, before));
        asked_moment = then.asked_moment ∙ frees.asked_moment;
        moments =
            LeavesOnly-then (LeavesOnly-without (contents old.engine) old.ended.items (device old.engine) (device mid.engine) stands.follows.listed frees.moments)
            (LeavesOnly-rearranged (contents old.engine) (contents mid.engine) (device mid.engine) (device new.engine) first (frees.still (λ is. cc)).consistent then.moments);
      }

  pub Tidies-unfreed : (old mid : Standby E K D) (refusal : Refusal) → Stands device contents is_faulted table old
      → Frees device contents is_faulted table old (Err refusal) mid → Tidies device contents is_faulted table old (Err refusal) mid
  Tidies-unfreed old mid refusal stands frees = elim frees.causes [
    | inl memory ↦ rw (frees.memory (ap Err memory), memory) (Tidies-refused device contents is_faulted table old stands)
    | inr fault ↦ record {
      causes = inr fault;
      keyspace = frees.keyspace;
      none = tt;
      versions = tt;
      cleared = λ is. cc;
      gapless = λ is. cc;
      rearranged = IsRearranged-freed (contents old.engine) (contents mid.engine) old.ended.items stands.follows.listed (frees.stays (ap Err fault));
      still = λ sound. absurd (sound (ap Err fault));
      sound = λ sound. absurd (sound (ap Err fault));
      durable = λ sound. absurd (sound (ap Err fault));
      fault = λ _. frees.fault (ap Err fault);
      asked_moment = frees.asked_moment;
      moments = LeavesOnly-without (contents old.engine) old.ended.items (device old.engine) (device mid.engine) stands.follows.listed frees.moments;
    }
  ]
