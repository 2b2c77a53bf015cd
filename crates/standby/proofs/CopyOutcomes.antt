-- What the calls of a newcomer come to, by how they end.
use Rattle.std.proofs.Common.{◌≡◌, ◌⊎◌, inl, inr, Bool, Ok, Err, Result, sym, ap, subst, ◌∙◌}
use Rattle.kv_types.specs.declared.refusal.Refusal.{Refusal}
use Rattle.kv_types.specs.declared.refusal.Refusal.TheVariants.{Fault, Full, Memory}
use Rattle.pmem.specs.Device.{State}
use Rattle.pmem.specs.Runs.{LeavesOnly}
use Rattle.pmem.proofs.Leaving.{none_leaves}
use Rattle.model.specs.Group.{Contents, Versions}
use Rattle.mv_keyspace.specs.Table.{Table}
use Rattle.placing.specs.Place.{HasRoomFor}
use Rattle.wbl_engine.specs.Contents.{IsDurable, Keeps}
use Rattle.frames.specs.declared.copy.CopyPart.{CopyPart}
use Rattle.standby.specs.declared.newcomer.Newcomer.{Newcomer}
use Rattle.standby.specs.Copies.{changes_told}
use Rattle.standby.specs.Newcomers.{Adds, AddsPart, BreaksCopy, StaysAsItWas}

abbrev err_of : Refusal → Result (Unit {0}) Refusal
err_of x = Err x

err_is : (x y : Refusal) → err_of x ≡ err_of y → x ≡ y
err_is x y e = cc

full_not_memory : Full ≡ Memory → ⊥
full_not_memory e = cc

fault_not_full : Fault ≡ Full → ⊥
fault_not_full e = cc

fault_not_memory : Fault ≡ Memory → ⊥
fault_not_memory e = cc

done_not_err : (done : Unit {0}) (x : Refusal) → Ok done ≡ Err x → ⊥
done_not_err done x e = cc

module _ {E K D : Type 0} (device : E → State) (contents : E → Contents) (is_faulted : E → Bool) (staged : E → Versions) (table : K → Table) where
  abbrev RestsAt : Newcomer E K D → Newcomer E K D → Type 0
  RestsAt old new = LeavesOnly (device old.engine) (device new.engine) (Keeps (contents old.engine))

  pub rests-same : (old new : Newcomer E K D) → IsDurable (device old.engine) (contents old.engine) → new.engine ≡ old.engine → RestsAt old new
  rests-same old new durable same =
      subst (λ (engine : E). LeavesOnly (device old.engine) (device engine) (Keeps (contents old.engine))) (sym same)
      (none_leaves (device old.engine) (Keeps (contents old.engine)) durable)

  pub Adds-left : (part : CopyPart) (old new : Newcomer E K D) (refusal : Refusal) → (refusal ≡ Full) ⊎ (refusal ≡ Memory)
      → (refusal ≡ Full → ¬ HasRoomFor old.heap (changes_told part.puts.items)) → StaysAsItWas device contents is_faulted staged table old new
      → IsDurable (device old.engine) (contents old.engine) → Adds device contents is_faulted staged table part old (Err refusal) new
  Adds-left part old new refusal (inl full) room stays durable = record {
    added = tt;
    causes = inl full;
    full = λ is. room full;
    stays = λ sound. stays;
    fault = λ is. absurd (fault_not_full (sym (err_is refusal Fault is) ∙ full));
    moments = rests-same old new durable stays.engine;
  }
  Adds-left part old new refusal (inr memory) room stays durable = record {
    added = tt;
    causes = inr (inl memory);
    full = λ is. absurd (full_not_memory (sym (err_is refusal Full is) ∙ memory));
    stays = λ sound. stays;
    fault = λ is. absurd (fault_not_memory (sym (err_is refusal Fault is) ∙ memory));
    moments = rests-same old new durable stays.engine;
  }

  pub Adds-memory : (part : CopyPart) (old new : Newcomer E K D) (refusal : Refusal) → refusal ≡ Memory → StaysAsItWas device contents is_faulted staged table old new
      → IsDurable (device old.engine) (contents old.engine) → Adds device contents is_faulted staged table part old (Err refusal) new
  Adds-memory part old new refusal memory stays durable =
      Adds-left part old new refusal (inr memory) (λ full. absurd (full_not_memory (sym full ∙ memory))) stays durable

  pub Adds-broken : (part : CopyPart) (old new : Newcomer E K D) (refusal : Refusal) → refusal ≡ Fault → BreaksCopy device contents is_faulted staged table old Fault new
      → RestsAt old new → Adds device contents is_faulted staged table part old (Err refusal) new
  Adds-broken part old new refusal fault broken moments = record {
    added = tt;
    causes = inr (inr fault);
    full = λ is. absurd (fault_not_full (sym fault ∙ err_is refusal Full is));
    stays = λ sound. absurd (sound (ap Err fault));
    fault = λ is. broken;
    moments = moments;
  }

  pub Adds-done : (part : CopyPart) (old new : Newcomer E K D) (done : Unit {0}) → AddsPart device contents is_faulted staged table part old new
      → Adds device contents is_faulted staged table part old (Ok done) new
  Adds-done part old new done added = record {
    added = added;
    causes = tt;
    full = λ is. absurd (done_not_err done Full is);
    stays = λ sound. tt;
    fault = λ is. absurd (done_not_err done Fault is);
    moments = added.rests.moments;
  }
