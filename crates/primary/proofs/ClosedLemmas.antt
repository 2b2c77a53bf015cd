-- What is left of a primary where a group or a list is closed, and where a call is made.
use Rattle.std.proofs.Common.{rules, ◌≡◌, Bool, true, false, List, [], Option, Some, None, Result, Ok, Err, IfOk, OnErr, refl, sym, ap, subst, inl, inr, arith}
use Rattle.std.proofs.lemmas.Bool.{both_ways}
use Rattle.pmem.specs.Device.{State}
use Rattle.heap_layout.specs.declared.entry.Entry.{Entry}
use Rattle.kv_types.specs.declared.place.EntryNo.{EntryNo}
use Rattle.placing.specs.Read.{AreOf}
use Rattle.kv_types.specs.declared.refusal.Refusal.{Refusal}
use Rattle.model.specs.declared.work.FreeList.{FreeList}
use Rattle.model.specs.declared.work.Work.{Work}
use Rattle.model.specs.Group.{AreEnded, Contents, IsConsistent}
use Rattle.model.specs.Image.{Version}
use Rattle.wbl_engine.specs.Contents.{IsDurable}
use Rattle.redis_core.specs.declared.turn.Turn.{Turn}
use Rattle.redis_core.specs.declared.turn.Turn.TheVariants as turn
use Rattle.redis_core.specs.Sequencing.{Sequencing}
use Rattle.redis_core.specs.Turn.{OnServed, OnUnserved}
use Rattle.pipes.specs.Waiting.{Waiting}
use Rattle.primary.specs.Closing.{ClosesOne, MayClose}
use Rattle.primary.specs.Leading.{AreLaid}
use Rattle.primary.specs.Resuming.{IsOver}
use Rattle.primary.specs.Standing.{StandsOver}
use Rattle.primary.proofs.LeadsLemmas.{Leads-group, Leads-list}

module _ (device : State) (contents : Contents) (aside : List FreeList) (old new : Sequencing) (before after : Waiting Work) where
  closed-stands : ClosesOne old before new after → StandsOver device contents before.items aside old [] → StandsOver device contents after.items aside new []
  closed-stands (inl group) over = search (rules, Leads-group contents before after aside old new [] over.consistent over.leads group)
  closed-stands (inr list) over = search (rules, Leads-list contents before after aside old new [] over.leads list)

  pub close-stands : (result : Result Bool Refusal) → IfOk result (λ did. did ≡ true → MayClose old before × ClosesOne old before new after)
      → IfOk result (λ did. did ≡ false → (¬ MayClose old before) × (new ≡ old) × (after ≡ before))
      → OnErr result (MayClose old before × (new ≡ old) × (after.items ≡ before.items))
      → StandsOver device contents before.items aside old [] → StandsOver device contents after.items aside new []
  close-stands (Ok true) closed none refused over = closed-stands (closed refl).1 over
  close-stands (Ok false) closed none refused over = let same = none refl in rw (same.2, same.1) over
  close-stands (Err refusal) closed none refused over = rw (refused.2, refused.1) over

-- a turn that served, or did not, left the list of what has ended
pub ended-same : (t : Turn) (old new : Sequencing) (A B : Type 0) → OnServed t A → OnUnserved t B → (A → new.ended ≡ old.ended) → (B → new.ended ≡ old.ended) → new.ended ≡ old.ended
ended-same turn.Served old new A B served unserved a b = a served
ended-same turn.Idle old new A B served unserved a b = b unserved
ended-same turn.Blocked old new A B served unserved a b = b unserved
ended-same turn.GroupFull old new A B served unserved a b = b unserved
ended-same turn.Ended old new A B served unserved a b = b unserved

-- nothing waits at first
pub starts-so : (device : State) (contents : Contents) (s : Sequencing) → IsOver contents s → IsConsistent contents → AreLaid contents → IsDurable device contents → StandsOver device contents [] [] s []
starts-so device contents s over consistent laid durable = record {
  leads = record {
    work_is = tt;
    epochs = tt;
    stands = over.ahead;
    expects = over.expects;
    aside_ended = tt;
    listed = subst (AreEnded contents) (sym (ap (λ (s : Sequencing). s.ended) over.starts_so)) over.listed;
  };
  consistent = consistent;
  laid = laid;
  durable = durable;
}

-- versions that were read in order lie beside one another
pub laid-read : (contents : Contents) (counted : List (EntryNo × Entry)) (gapped : List EntryNo) → AreOf contents counted gapped → AreLaid contents
laid-read contents counted gapped are = record {
  inside = λ i version begun. let placed = are.lawful.placed i version begun in record { above = placed.above; within = placed.within };
  apart = are.lawful.apart;
}

-- and no entry that is free, or is in no directory, has one
pub consistent-read : (contents : Contents) (counted : List (EntryNo × Entry)) (gapped : List EntryNo) → AreOf contents counted gapped → IsConsistent contents
consistent-read contents counted gapped are = record {
  free = λ i is. never (contents.versions i) (λ version begun. both_ways (contents.is_free i) (are.lawful.begun i version begun).1 is);
  beyond = λ i past. never (contents.versions i) (λ version begun. omega (arith, past, (are.lawful.begun i version begun).0));
}
  where
    never : (held : Option Version) → ((version : Version) → held ≡ Some version → ⊥) → held ≡ None
    never None begun = refl
    never (Some version) begun = absurd (begun version refl)
