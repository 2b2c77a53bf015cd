-- What a part comes to, by how the calls of which its taking is made end.
use Rattle.std.proofs.Common.{◌≡◌, ℕ, ◌<◌, ◌⊎◌, inl, inr, Bool, Ok, Err, Result, refl, sym, ap, subst, ◌∙◌}
use Rattle.kv_types.specs.declared.refusal.Refusal.{Refusal}
use Rattle.kv_types.specs.declared.refusal.Refusal.TheVariants.{Fault, Full, Memory}
use Rattle.extent_heap.specs.Room.{Room}
use Rattle.pmem.specs.Device.{State}
use Rattle.pmem.specs.Runs.{LeavesOnly}
use Rattle.pmem.proofs.Leaving.{LeavesOnly-then}
use Rattle.model.specs.Group.{Contents, Versions}
use Rattle.mv_keyspace.specs.Table.{Table}
use Rattle.placing.specs.Back.{GivesAll}
use Rattle.placing.specs.Place.{HasRoomFor}
use Rattle.wbl_engine.specs.Contents.{Keeps, Same}
use Rattle.frames.specs.declared.copy.CopyPart.{CopyPart}
use Rattle.standby.specs.declared.newcomer.Newcomer.{Newcomer}
use Rattle.standby.specs.Copies.{IsHadPart, changes_told}
use Rattle.standby.specs.Newcomers.{Adds, AwaitsCopy, BreaksCopy, CannotTakePart, Clears, DropsHalf, ExhaustsPart, IsCleared, IsFirstTaken, IsNextTaken, IsPartTaken, Rests, StaysAsItWas, TakesPart}
use Rattle.standby.proofs.CopyRests.{Awaits-cleared, Awaits-stays, Rests-cleared, Rests-stays, Rests-then, Stays-same}
use Rattle.standby.proofs.EndedLemmas.{Same-is}

abbrev left_with : Refusal → Result (Unit {0}) Refusal
left_with x = Err x

left_is : (x y : Refusal) → left_with x ≡ left_with y → x ≡ y
left_is x y e = cc

full_no_fault : Full ≡ Fault → ⊥
full_no_fault e = cc

memory_no_fault : Memory ≡ Fault → ⊥
memory_no_fault e = cc

module _ {E K D : Type 0} (device : E → State) (contents : E → Contents) (is_faulted : E → Bool) (staged : E → Versions) (table : K → Table) where
  pub Takes-had : (part : CopyPart) (node : Newcomer E K D) (done : Unit {0}) → part.epoch ≡ (contents node.engine).current.epoch → IsHadPart node.half part.position part.number
      → TakesPart device contents is_faulted staged table part node (Ok done) node
  Takes-had part node done own had = inl (record { own = own; had = had; answer = refl; same = refl })

  pub Takes-cannot : (part : CopyPart) (node : Newcomer E K D) (refusal : Refusal) → CannotTakePart (contents node.engine).current node.half part refusal
      → TakesPart device contents is_faulted staged table part node (Err refusal) node
  Takes-cannot part node refusal cause = inr (inr (record { refusal = refusal; answer = refl; state = inl (record { cause = cause; same = refl }) }))

  -- what was dropped stays so
  drops_so : (old mid new : Newcomer E K D) → DropsHalf device contents is_faulted staged table old mid → StaysAsItWas device contents is_faulted staged table mid new
      → DropsHalf device contents is_faulted staged table old new
  drops_so old mid new dropped stays = record {
    had = dropped.had;
    entries = dropped.entries;
    extents = dropped.extents;
    dropped = dropped.dropped;
    given = subst (λ (room : Room). GivesAll old.heap dropped.entries dropped.extents room) (sym stays.heap) dropped.given;
    none = stays.rows ∙ dropped.none;
    half = stays.half ∙ dropped.half;
    awaits = Awaits-stays device contents is_faulted staged table mid new dropped.awaits stays;
    rests = Rests-then device contents is_faulted staged table old mid new dropped.rests (Rests-stays device contents is_faulted staged table mid new dropped.awaits stays);
  }

  stays_so : (old mid new : Newcomer E K D) → mid ≡ old → StaysAsItWas device contents is_faulted staged table mid new → StaysAsItWas device contents is_faulted staged table old new
  stays_so old mid new same stays = record {
    engine = stays.engine ∙ ap (λ (n : Newcomer E K D). n.engine) same;
    rows = stays.rows ∙ ap (λ (n : Newcomer E K D). table n.keyspace) same;
    heap = stays.heap ∙ ap (λ (n : Newcomer E K D). n.heap) same;
    half = stays.half ∙ ap (λ (n : Newcomer E K D). n.half) same;
  }

  module _ (part : CopyPart) (old : Newcomer E K D) (own : part.epoch ≡ (contents old.engine).current.epoch) (counters : ¬ ExhaustsPart (contents old.engine).current part)
      (awaits : AwaitsCopy device contents is_faulted staged table old) where
    -- for want of room or memory
    left_out : (new : Newcomer E K D) (refusal : Refusal) → IsPartTaken old.half part → ((refusal ≡ Full) × ¬ HasRoomFor new.heap (changes_told part.puts.items)) ⊎ (refusal ≡ Memory)
        → StaysAsItWas device contents is_faulted staged table old new ⊎ (IsFirstTaken old.half part × DropsHalf device contents is_faulted staged table old new)
        → AwaitsCopy device contents is_faulted staged table new → Rests device contents is_faulted staged table old new
        → TakesPart device contents is_faulted staged table part old (Err refusal) new
    left_out new refusal taken cause left awaits' rests =
        inr (inr (record {
          refusal = refusal;
          answer = refl;
          state = inr (inl (record { own = own; taken = taken; counters = counters; cause = cause; left = left; awaits = awaits'; rests = rests }));
        }))

    -- by a fence that failed behind this state
    broken_at : (mid new : Newcomer E K D) (refusal : Refusal) → IsPartTaken old.half part → refusal ≡ Fault → Rests device contents is_faulted staged table old mid
        → BreaksCopy device contents is_faulted staged table mid Fault new → LeavesOnly (device mid.engine) (device new.engine) (Keeps (contents mid.engine))
        → TakesPart device contents is_faulted staged table part old (Err refusal) new
    broken_at mid new refusal taken fault rests broken moments =
        let same : contents mid.engine ≡ contents old.engine = Same-is (contents old.engine) (contents mid.engine) rests.contents_are in
        inr (inr (record {
          refusal = refusal;
          answer = refl;
          state = inr (inr (record {
            own = own;
            taken = taken;
            broken = record {
              cause = fault;
              faulted = broken.faulted;
              failures = subst (λ (n : ℕ). n < (device new.engine).failures) rests.failures broken.failures;
              contents_are = subst (λ (k : Contents). Same k (contents new.engine)) same broken.contents_are;
              asked_moment = broken.asked_moment ∙ rests.asked_moment;
            };
            moments = LeavesOnly-then rests.moments (subst (λ (k : Contents). LeavesOnly (device mid.engine) (device new.engine) (Keeps k)) same moments);
          }));
        }))

    -- room or memory was wanting: that leaves the state before
    wanting : (mid new : Newcomer E K D) (refusal : Refusal) → Adds device contents is_faulted staged table part mid (Err refusal) new
        → (refusal ≡ Full) ⊎ (refusal ≡ Memory)
        → StaysAsItWas device contents is_faulted staged table mid new × (((refusal ≡ Full) × ¬ HasRoomFor new.heap (changes_told part.puts.items)) ⊎ (refusal ≡ Memory))
    wanting mid new refusal adds (inl full) =
        let stays = adds.stays (λ is. full_no_fault (sym full ∙ left_is refusal Fault is)) in
        (stays, inl (full, subst (λ (room : Room). ¬ HasRoomFor room (changes_told part.puts.items)) (sym stays.heap) (adds.full (ap Err full))))
    wanting mid new refusal adds (inr memory) = (adds.stays (λ is. memory_no_fault (sym memory ∙ left_is refusal Fault is)), inr memory)

    -- ---- the next part

    module _ (next : IsNextTaken old.half part) where
      next_wanting : (new : Newcomer E K D) (refusal : Refusal) → Adds device contents is_faulted staged table part old (Err refusal) new → (refusal ≡ Full) ⊎ (refusal ≡ Memory)
          → TakesPart device contents is_faulted staged table part old (Err refusal) new
      next_wanting new refusal adds want =
          let found = wanting old new refusal adds want in
          left_out new refusal (inl next) found.1 (inl found.0) (Awaits-stays device contents is_faulted staged table old new awaits found.0)
          (Rests-stays device contents is_faulted staged table old new awaits found.0)

      next_broken : (new : Newcomer E K D) (refusal : Refusal) → Adds device contents is_faulted staged table part old (Err refusal) new → refusal ≡ Fault
          → TakesPart device contents is_faulted staged table part old (Err refusal) new
      next_broken new refusal adds fault =
          broken_at old new refusal (inl next) fault (Rests-stays device contents is_faulted staged table old old awaits (Stays-same device contents is_faulted staged table old old refl))
          (adds.fault (ap Err fault)) adds.moments

      next_left : (new : Newcomer E K D) (refusal : Refusal) → Adds device contents is_faulted staged table part old (Err refusal) new
          → (refusal ≡ Full) ⊎ (refusal ≡ Memory) ⊎ (refusal ≡ Fault) → TakesPart device contents is_faulted staged table part old (Err refusal) new
      next_left new refusal adds (inl full) = next_wanting new refusal adds (inl full)
      next_left new refusal adds (inr (inl memory)) = next_wanting new refusal adds (inr memory)
      next_left new refusal adds (inr (inr fault)) = next_broken new refusal adds fault

      pub Takes-next : (new : Newcomer E K D) (result : Result (Unit {0}) Refusal) → Adds device contents is_faulted staged table part old result new
          → TakesPart device contents is_faulted staged table part old result new
      Takes-next new (Ok done) adds =
          inr (inl (record { own = own; counters = counters; answer = refl; added = inl (next, adds.added); rests = adds.added.rests }))
      Takes-next new (Err refusal) adds = next_left new refusal adds adds.causes

    -- ---- the first part of another copy

    module _ (first : IsFirstTaken old.half part) where
      -- what there was is not dropped
      pub Takes-uncleared : (new : Newcomer E K D) (refusal : Refusal) → Clears device contents is_faulted staged table old (Err refusal) new
          → TakesPart device contents is_faulted staged table part old (Err refusal) new
      Takes-uncleared new refusal clears = elim clears.causes [
        | inl memory ↦
            let stays = Stays-same device contents is_faulted staged table old new (clears.memory (ap Err memory)) in
            left_out new refusal (inr first) (inr memory) (inl stays) (Awaits-stays device contents is_faulted staged table old new awaits stays)
            (Rests-stays device contents is_faulted staged table old new awaits stays)
        | inr fault ↦
            broken_at old new refusal (inr first) fault (Rests-stays device contents is_faulted staged table old old awaits (Stays-same device contents is_faulted staged table old old refl))
            (clears.fault (ap Err fault)) clears.moments
      ]

      module _ (mid : Newcomer E K D) (cleared : IsCleared device contents is_faulted staged table old mid) where
        rests : Rests device contents is_faulted staged table old mid
        rests = Rests-cleared device contents is_faulted staged table old mid awaits cleared

        awaits_mid : AwaitsCopy device contents is_faulted staged table mid
        awaits_mid = Awaits-cleared device contents is_faulted staged table old mid awaits cleared

        left_as : (new : Newcomer E K D) → StaysAsItWas device contents is_faulted staged table mid new → IsCleared device contents is_faulted staged table old mid
            → StaysAsItWas device contents is_faulted staged table old new ⊎ (IsFirstTaken old.half part × DropsHalf device contents is_faulted staged table old new)
        left_as new stays (inl same) = inl (stays_so old mid new same.1 stays)
        left_as new stays (inr dropped) = inr (first, drops_so old mid new dropped stays)

        first_wanting : (new : Newcomer E K D) (refusal : Refusal) → Adds device contents is_faulted staged table part mid (Err refusal) new → (refusal ≡ Full) ⊎ (refusal ≡ Memory)
            → TakesPart device contents is_faulted staged table part old (Err refusal) new
        first_wanting new refusal adds want =
            let found = wanting mid new refusal adds want in
            left_out new refusal (inr first) found.1 (left_as new found.0 cleared) (Awaits-stays device contents is_faulted staged table mid new awaits_mid found.0)
            (Rests-then device contents is_faulted staged table old mid new rests (Rests-stays device contents is_faulted staged table mid new awaits_mid found.0))

        first_left : (new : Newcomer E K D) (refusal : Refusal) → Adds device contents is_faulted staged table part mid (Err refusal) new
            → (refusal ≡ Full) ⊎ (refusal ≡ Memory) ⊎ (refusal ≡ Fault) → TakesPart device contents is_faulted staged table part old (Err refusal) new
        first_left new refusal adds (inl full) = first_wanting new refusal adds (inl full)
        first_left new refusal adds (inr (inl memory)) = first_wanting new refusal adds (inr memory)
        first_left new refusal adds (inr (inr fault)) = broken_at mid new refusal (inr first) fault rests (adds.fault (ap Err fault)) adds.moments

        pub Takes-first : (new : Newcomer E K D) (result : Result (Unit {0}) Refusal) → Adds device contents is_faulted staged table part mid result new
            → TakesPart device contents is_faulted staged table part old result new
        Takes-first new (Ok done) adds =
            inr (inl (record {
              own = own;
              counters = counters;
              answer = refl;
              added = inr (first, mid, cleared, adds.added);
              rests = Rests-then device contents is_faulted staged table old mid new rests adds.added.rests;
            }))
        Takes-first new (Err refusal) adds = first_left new refusal adds adds.causes
