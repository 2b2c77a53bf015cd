-- A version that is moved is a step that keeps the map and what had ended.
use Rattle.std.proofs.Common.{◌≡◌, ◌≢◌, ◌⊎◌, ◌<◌, ◌||◌, ◌&&◌, inl, inr, ℕ, Bool, false, true, not, IsTrue, nat_eq, [], ◌∷◌, None, Some, Ok, Err, refl, sym, ap, subst, ◌∙◌, arith, eq-eqb, ne_eqb, eqb-true}
use Rattle.std.proofs.lemmas.Bool.{cond-false, cond-true, false_from_ne_true, or_cases, or_left, or_right, true≢false}
use Rattle.kv_types.specs.declared.place.EntryNo.{EntryNo}
use Rattle.kv_types.specs.declared.refusal.Refusal.{Refusal}
use Rattle.kv_types.specs.declared.refusal.Refusal.TheVariants.{Exhausted, Fault, Memory}
use Rattle.heap_layout.specs.declared.entry.Entry.{Entry}
use Rattle.pmem.specs.Device.{State}
use Rattle.pmem.specs.Runs.{LeavesOnly}
use Rattle.pmem.proofs.Leaving.{LeavesOnly-then, LeavesOnly-weaken}
use Rattle.model.specs.declared.group.Part.{Part}
use Rattle.model.specs.Group.{Contents, IsConsistent, Versions, is_ended_version, is_put_at}
use Rattle.model.specs.Image.{Image, Version}
use Rattle.wbl_engine.specs.Contents.{IsDurable, Keeps, Same}
use Rattle.wbl_engine.specs.Freeing.{AreEnded, KeepsWithoutSome, after_free, is_listed, without}
use Rattle.wbl_engine.specs.Lawful.{AreLawful}
use Rattle.wbl_engine.specs.Relocating.{ExhaustsRelocation, IsRelocation, after_relocation}
use Rattle.wbl_engine.specs.Stage.{puts_of_parts}
use Rattle.wbl_engine.proofs.RelocatingLemmas.{relocated_consistent, relocated_lawful, relocated_map}
use Rattle.wbl_engine.proofs.WithoutLemmas.{IsMapOf-contents_without, consistent_without, lawful_without}
use Rattle.wbl_migrate.specs.declared.moving.Place.{Place}
use Rattle.wbl_migrate.specs.Moving.{HasMoved, HoldsBy, IsReady, IsStep, MovesLive, version_read}
use Rattle.wbl_migrate.proofs.MovedLemmas.{IsMove, all_puts_are, differ, ended_there, from_within, made, made_is, made_kept, made_there}
use Rattle.wbl_migrate.proofs.StepLemmas.{no_step, ok_no_error}
use Rattle.wbl_engine.proofs.CommitAndFree.{same_is}
use Rattle.wbl_migrate.proofs.Picks.{none_some}

-- ---- live versions that lie elsewhere

pub moves_same : (a : Contents) → MovesLive a a
moves_same a =
    record {
      layout = refl;
      position = refl;
      epoch = refl;
      role = refl;
      line_count = refl;
      gaps = refl;
      map = λ s lawful map. map;
      ended = λ i version is ended. is;
      lawful = λ lawful. lawful;
    }

pub moves_then : (a b c : Contents) → MovesLive a b → MovesLive b c → MovesLive a c
moves_then a b c first second =
    record {
      layout = second.layout ∙ first.layout;
      position = second.position ∙ first.position;
      epoch = second.epoch ∙ first.epoch;
      role = second.role ∙ first.role;
      line_count = second.line_count ∙ first.line_count;
      gaps = second.gaps ∙ first.gaps;
      map = λ s lawful map. second.map s lawful (first.map s lawful map);
      ended = λ i version is ended. second.ended i version (first.ended i version is ended) ended;
      lawful = λ lawful. second.lawful (first.lawful lawful);
    }

listed_one : (from : EntryNo) (i : ℕ) → IsTrue (is_listed i (from ∷ [])) → i ≡ from.0
listed_one from i listed =
    elim (or_cases (nat_eq i from.0) false listed) [
      | inl same ↦ eqb-true i from.0 same
      | inr none ↦ absurd (true≢false (sym none))
    ]

not_listed : (from : EntryNo) (i : ℕ) → i ≢ from.0 → is_listed i (from ∷ []) ≡ false
not_listed from i other = ap (λ (b : Bool). b || false) (ne_eqb i from.0 other)

listed_itself : (from : EntryNo) → is_listed from.0 (from ∷ []) ≡ true
listed_itself from = or_left (nat_eq from.0 from.0) false (eq-eqb from.0 from.0 refl)

module _ {a : Contents} {from : EntryNo} {entry : Entry} {place : Place} {part : Part} (move : IsMove a from entry place part) (asked : IsRelocation a (part ∷ [])) where
  abbrev again : Contents
  again = after_relocation a (part ∷ [])

  again_at : (i : ℕ) → again.versions i ≡ made move i
  again_at i = ap (λ (versions : Versions). versions i) (made_is move)

  still_ended : (i : ℕ) (version : Version) → a.versions i ≡ Some version → version.is_ended ≡ true → (i ≢ from.0) × (again.versions i ≡ Some version)
  still_ended i version is ended = (other, again_at i ∙ made_kept move i other elsewhere ∙ is)
    where
      other : i ≢ from.0
      other same =
          let one : Some version ≡ Some (version_read entry) = sym is ∙ ap a.versions same ∙ move.held in
          let live : (version_read entry).is_ended ≡ false = ap (λ (end : ℕ). not (nat_eq end 0)) move.live in
          let alike : version.is_ended ≡ (version_read entry).is_ended = cc in
          true≢false (sym ended ∙ alike ∙ live)

      elsewhere : i ≢ place.entry.0
      elsewhere same = none_some (sym (move.consistent.free place.entry.0 move.room.unused.entry) ∙ ap a.versions (sym same) ∙ is)

  had_ended : (gone : ℕ → Bool) → ((i : ℕ) → IsTrue (gone i) → IsTrue (is_listed i (from ∷ []))) → (i : ℕ) → IsTrue (gone i)
      → IsTrue (is_ended_version (again.versions i))
  had_ended gone listed i is =
      subst (λ (n : ℕ). IsTrue (is_ended_version (again.versions n))) (sym (listed_one from i (listed i is)))
      (ap is_ended_version (again_at from.0) ∙ ended_there move)

  pub ended_again : AreEnded again (from ∷ [])
  ended_again = (from_within move, ap is_ended_version (again_at from.0) ∙ ended_there move, refl, tt)

  module _ (room : ¬ ExhaustsRelocation 1 a.current) where
    pub moves_again : MovesLive a again
    moves_again =
        record {
          layout = refl;
          position = refl;
          epoch = refl;
          role = refl;
          line_count = refl;
          gaps = refl;
          map = relocated_map move.consistent asked;
          ended = λ i version is ended. (still_ended i version is ended).1;
          lawful = λ lawful. relocated_lawful a (part ∷ []) lawful asked room;
        }

    pub moves_freed : (gone : ℕ → Bool) → ((i : ℕ) → IsTrue (gone i) → IsTrue (is_listed i (from ∷ []))) → MovesLive a (without gone again)
    moves_freed gone listed =
        record {
          layout = refl;
          position = refl;
          epoch = refl;
          role = refl;
          line_count = refl;
          gaps = refl;
          map = λ s lawful map. IsMapOf-contents_without again gone s (had_ended gone listed) (relocated_map move.consistent asked s lawful map);
          ended = λ i version is ended.
              let still = still_ended i version is ended in
              cond-false (gone i) None (again.versions i) (left i still.0) ∙ still.1;
          lawful = λ lawful. lawful_without again gone (had_ended gone listed) (relocated_lawful a (part ∷ []) lawful asked room);
        }
      where
        left : (i : ℕ) → i ≢ from.0 → gone i ≡ false
        left i other = false_from_ne_true (gone i) (λ is. other (listed_one from i (listed i is)))

    holds_again : (image : Image) → Keeps a image ⊎ Keeps again image → HoldsBy MovesLive a image
    holds_again image (inl keeps) = record { new = a; stands = moves_same a; consistent = λ consistent. consistent; keeps = keeps }
    holds_again image (inr keeps) =
        record { new = again; stands = moves_again; consistent = λ consistent. relocated_consistent consistent asked; keeps = keeps }

    holds_freed : (image : Image) → KeepsWithoutSome (from ∷ []) again image → HoldsBy MovesLive a image
    holds_freed image some =
        record {
          new = without some.0 again;
          stands = moves_freed some.0 some.1;
          consistent = λ consistent. consistent_without again some.0 (relocated_consistent consistent asked);
          keeps = some.2;
        }

    pub run_again : {d b : State} → LeavesOnly d b (λ image. Keeps a image ⊎ Keeps again image) → LeavesOnly d b (HoldsBy MovesLive a)
    run_again moments = LeavesOnly-weaken (HoldsBy MovesLive a) holds_again moments

    pub run_freed : {d b : State} → LeavesOnly d b (KeepsWithoutSome (from ∷ []) again) → LeavesOnly d b (HoldsBy MovesLive a)
    run_freed moments = LeavesOnly-weaken (HoldsBy MovesLive a) holds_freed moments

  -- ---- what stands at last

  abbrev last : Contents
  last = after_free (from ∷ []) again

  pub has_moved : HasMoved a from entry place last
  has_moved =
      record {
        gone = cond-true (is_listed from.0 (from ∷ [])) None (again.versions from.0) (listed_itself from);
        freed = or_right (again.is_free from.0) (is_listed from.0 (from ∷ [])) (listed_itself from);
        made = kept place.entry.0 (λ same. differ move (sym same)) ∙ again_at place.entry.0 ∙ made_there move;
        taken = free_kept place.entry.0 (λ same. differ move (sym same)) ∙ taken_there;
        others = λ i other elsewhere. kept i other ∙ again_at i ∙ made_kept move i other elsewhere;
        others_free = λ i other elsewhere. free_kept i other ∙ not_put i elsewhere;
      }
    where
      kept : (i : ℕ) → i ≢ from.0 → last.versions i ≡ again.versions i
      kept i other = cond-false (is_listed i (from ∷ [])) None (again.versions i) (not_listed from i other)

      or_none : (x y : Bool) → y ≡ false → (x || y) ≡ x
      or_none true y none = refl
      or_none false y none = none

      free_kept : (i : ℕ) → i ≢ from.0 → last.is_free i ≡ again.is_free i
      free_kept i other = or_none (again.is_free i) (is_listed i (from ∷ [])) (not_listed from i other)

      and_not : (x y : Bool) → y ≡ true → (x && not y) ≡ false
      and_not true y is = ap not is
      and_not false y is = refl

      and_none : (x y : Bool) → y ≡ false → (x && not y) ≡ x
      and_none true y is = ap not is
      and_none false y is = refl

      taken_there : again.is_free place.entry.0 ≡ false
      taken_there =
          and_not (a.is_free place.entry.0) (is_put_at place.entry.0 (puts_of_parts (part ∷ [])))
          (ap (is_put_at place.entry.0) (all_puts_are move) ∙ or_left (nat_eq place.entry.0 place.entry.0) false (eq-eqb place.entry.0 place.entry.0 refl))

      not_put : (i : ℕ) → i ≢ place.entry.0 → again.is_free i ≡ a.is_free i
      not_put i elsewhere =
          and_none (a.is_free i) (is_put_at i (puts_of_parts (part ∷ [])))
          (ap (is_put_at i) (all_puts_are move) ∙ ap (λ (b : Bool). b || false) (ne_eqb i place.entry.0 elsewhere))

-- ---- the calls

module _ {E : Type 0} (device : E → State) (contents : E → Contents) (is_faulted : E → Bool) (old : E) (ready : IsReady device contents is_faulted old)
    {from : EntryNo} {entry : Entry} {place : Place} {part : Part} (move : IsMove (contents old) from entry place part) (asked : IsRelocation (contents old) (part ∷ [])) where
  -- the version was not moved
  pub unmoved_step : {X : Type 0} (new : E) (refusal : Refusal) → (refusal ≡ Fault) ⊎ (refusal ≡ Exhausted)
      → (refusal ≡ Fault → ¬ ExhaustsRelocation 1 (contents old).current) → (refusal ≡ Exhausted → new ≡ old) → Same (contents old) (contents new)
      → (refusal ≡ Fault → (is_faulted new ≡ true) × ((device old).failures < (device new).failures)) → (device new).kept ≡ (device old).kept
      → LeavesOnly (device old) (device new) (λ image. Keeps (contents old) image ⊎ Keeps (after_relocation (contents old) (part ∷ [])) image)
      → IsStep device contents is_faulted {X = X} MovesLive old (Err refusal) new
  unmoved_step {X} new refusal causes room exhausted stays fault asked_moment moments =
      elim causes [
        | inl is_fault ↦
            record {
              stands = subst (MovesLive (contents old)) (sym (same_is (contents old) (contents new) stays)) (moves_same (contents old));
              ready = λ sound. absurd (sound (ap Err is_fault));
              failures = λ sound. absurd (sound (ap Err is_fault));
              fault = λ _. fault is_fault;
              asked_moment = asked_moment;
              moments = run_again move asked (room is_fault) moments;
            }
        | inr is_exhausted ↦
            rw (exhausted is_exhausted)
            (no_step device contents is_faulted MovesLive moves_same moves_then old (Err refusal) (λ err. let same : refusal ≡ Fault = cc in let both : Exhausted ≡ Fault = sym is_exhausted ∙ same in cc)
            ready)
      ]

  module _ (mid : E) (room : ¬ ExhaustsRelocation 1 (contents old).current) (moved : Same (after_relocation (contents old) (part ∷ [])) (contents mid))
      (durable : IsDurable (device mid) (contents mid)) (sound : (is_faulted mid ≡ false) × ((device mid).failures ≡ (device old).failures))
      (asked_moment : (device mid).kept ≡ (device old).kept)
      (moments : LeavesOnly (device old) (device mid) (λ image. Keeps (contents old) image ⊎ Keeps (after_relocation (contents old) (part ∷ [])) image)) where
    mid_is : contents mid ≡ after_relocation (contents old) (part ∷ [])
    mid_is = same_is (after_relocation (contents old) (part ∷ [])) (contents mid) moved

    pub mid_ended : AreEnded (contents mid) (from ∷ [])
    mid_ended = subst (λ (contents : Contents). AreEnded contents (from ∷ [])) (sym mid_is) (ended_again move asked)

    -- it lies in both places
    kept_step : {X : Type 0} (refusal : Refusal) → ¬ (refusal ≡ Fault) → IsStep device contents is_faulted {X = X} MovesLive old (Err refusal) mid
    kept_step refusal other =
        record {
          stands = subst (MovesLive (contents old)) (sym mid_is) (moves_again move asked room);
          ready = λ _. record {
            sound = sound.0;
            durable = durable;
            consistent = subst IsConsistent (sym mid_is) (relocated_consistent ready.consistent asked);
            lawful = subst AreLawful (sym mid_is) (relocated_lawful (contents old) (part ∷ []) ready.lawful asked room);
          };
          failures = λ _. sound.1;
          fault = λ err. absurd (other (cc));
          asked_moment = asked_moment;
          moments = run_again move asked room moments;
        }

    module _ (new : E) (asked_moment' : (device new).kept ≡ (device mid).kept)
        (moments' : LeavesOnly (device mid) (device new) (KeepsWithoutSome (from ∷ []) (contents mid))) where
      run : LeavesOnly (device old) (device new) (HoldsBy MovesLive (contents old))
      run =
          LeavesOnly-then (run_again move asked room moments)
          (run_freed move asked room
          (subst (λ (contents : Contents). LeavesOnly (device mid) (device new) (KeepsWithoutSome (from ∷ []) contents)) mid_is moments'))

      new_is : Same (after_free (from ∷ []) (contents mid)) (contents new) → contents new ≡ after_free (from ∷ []) (after_relocation (contents old) (part ∷ []))
      new_is freed = same_is (after_free (from ∷ []) (contents mid)) (contents new) freed ∙ ap (after_free (from ∷ [])) mid_is

      stands : Same (after_free (from ∷ []) (contents mid)) (contents new) → MovesLive (contents old) (contents new)
      stands freed =
          subst (MovesLive (contents old)) (sym (new_is freed)) (moves_freed move asked room (λ (i : ℕ). is_listed i (from ∷ [])) (λ i listed. listed))

      -- the old place is free
      pub moved_step : Same (after_free (from ∷ []) (contents mid)) (contents new) → IsDurable (device new) (contents new)
          → (is_faulted new ≡ false) × ((device new).failures ≡ (device mid).failures)
          → IsStep device contents is_faulted {X = Unit {0}} MovesLive old (Ok tt) new
      moved_step freed durable' sound' =
          record {
            stands = stands freed;
            ready = λ _. record {
              sound = sound'.0;
              durable = durable';
              consistent = subst IsConsistent (sym (new_is freed))
                  (consistent_without (after_relocation (contents old) (part ∷ [])) (λ (i : ℕ). is_listed i (from ∷ [])) (relocated_consistent ready.consistent asked));
              lawful = (stands freed).lawful ready.lawful;
            };
            failures = λ _. sound'.1 ∙ sound.1;
            fault = λ is. absurd (ok_no_error tt Fault is);
            asked_moment = asked_moment' ∙ asked_moment;
            moments = run;
          }

      pub moved_has : Same (after_free (from ∷ []) (contents mid)) (contents new) → HasMoved (contents old) from entry place (contents new)
      moved_has freed = subst (HasMoved (contents old) from entry place) (sym (new_is freed)) (has_moved move asked)

      -- that was refused
      pub unfreed_step : {X : Type 0} (refusal : Refusal) → (refusal ≡ Fault) ⊎ (refusal ≡ Memory) → (refusal ≡ Memory → new ≡ mid)
          → (refusal ≡ Fault → Same (after_free (from ∷ []) (contents mid)) (contents new))
          → (refusal ≡ Fault → (is_faulted new ≡ true) × ((device mid).failures < (device new).failures))
          → IsStep device contents is_faulted {X = X} MovesLive old (Err refusal) new
      unfreed_step {X} refusal causes memory stays fault =
          elim causes [
            | inl is_fault ↦
                let told = fault is_fault in
                let before = sound.1 in
                let more = told.1 in
                record {
                  stands = stands (stays is_fault);
                  ready = λ sound. absurd (sound (ap Err is_fault));
                  failures = λ sound. absurd (sound (ap Err is_fault));
                  fault = λ _. (told.0, omega (arith, more, before));
                  asked_moment = asked_moment' ∙ asked_moment;
                  moments = run;
                }
            | inr is_memory ↦
                rw (memory is_memory) (kept_step {X = X} refusal (λ is. let both : Memory ≡ Fault = sym is_memory ∙ is in cc))
          ]
