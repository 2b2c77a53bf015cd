-- A gap that is cleared is a step that keeps all versions.
use Rattle.std.proofs.Common.{◌≡◌, ◌⊎◌, ◌+◌, ◌<◌, inl, inr, ℕ, Bool, false, true, List, Ok, Err, refl, sym, ap, subst, ◌∙◌}
use Rattle.std.proofs.lemmas.Bool.{true≢false}
use Rattle.kv_types.specs.declared.place.EntryNo.{EntryNo}
use Rattle.kv_types.specs.declared.refusal.Refusal.{Refusal}
use Rattle.kv_types.specs.declared.refusal.Refusal.TheVariants.{Exhausted, Fault, Memory}
use Rattle.pmem.specs.Device.{State}
use Rattle.pmem.specs.Runs.{LeavesOnly}
use Rattle.pmem.proofs.Leaving.{LeavesOnly-weaken}
use Rattle.model.specs.declared.image.TheConstants.{COUNTER_LIMIT}
use Rattle.model.specs.declared.record.Record.{Record}
use Rattle.model.specs.Group.{Contents, entries_of}
use Rattle.model.specs.Image.{Image, IsMapOf}
use Rattle.model.proofs.DirectoryLemmas.{entries_same}
use Rattle.model.proofs.MapLemmas.{IsMapOf-same}
use Rattle.wbl_engine.specs.Contents.{IsDurable, Keeps}
use Rattle.wbl_engine.specs.Freeing.{Clears, KeepsMap, KeepsVersions, cleared_contents}
use Rattle.wbl_engine.specs.Lawful.{AreLawful}
use Rattle.wbl_engine.proofs.GapLemmas.{lawful_but_one}
use Rattle.wbl_engine.proofs.LawfulLemmas.{lawful_from}
use Rattle.wbl_engine.proofs.WithoutLemmas.{consistent_cleared, lawful_cleared}
use Rattle.wbl_migrate.specs.Moving.{HoldsBy, IsReady, IsStep, KeepsAllVersions}
use Rattle.wbl_migrate.proofs.StepLemmas.{no_step}

-- ---- versions that stay

same_map : (a b : Contents) → b.current.layout ≡ a.current.layout → b.lines ≡ a.lines → ((i : ℕ) → b.versions i ≡ a.versions i) → KeepsMap a b
same_map a b layout lines versions s map =
    subst (λ (n : ℕ). IsMapOf b.versions n s) (sym (entries_same a b layout lines))
    (IsMapOf-same a.versions b.versions (entries_of a) s (λ i within. sym (versions i)) map)

-- under a record that has the same layout, position, epoch and role
pub keeps_recorded : (a b : Contents) → b.current.layout ≡ a.current.layout → b.current.position ≡ a.current.position → b.current.epoch ≡ a.current.epoch
    → b.current.role ≡ a.current.role → b.lines ≡ a.lines → ((i : ℕ) → b.versions i ≡ a.versions i) → (AreLawful a → AreLawful b) → KeepsAllVersions a b
keeps_recorded a b layout position epoch role lines versions lawful =
    record {
      layout = layout;
      position = position;
      epoch = epoch;
      role = role;
      line_count = lines;
      versions = versions;
      map = same_map a b layout lines versions;
      lawful = lawful;
    }

pub keeps_same : (a : Contents) → KeepsAllVersions a a
keeps_same a = keeps_recorded a a refl refl refl refl refl (λ i. refl) (λ lawful. lawful)

pub keeps_then : (a b c : Contents) → KeepsAllVersions a b → KeepsAllVersions b c → KeepsAllVersions a c
keeps_then a b c first second =
    keeps_recorded a c (second.layout ∙ first.layout) (second.position ∙ first.position) (second.epoch ∙ first.epoch) (second.role ∙ first.role)
    (second.line_count ∙ first.line_count) (λ i. second.versions i ∙ first.versions i) (λ lawful. second.lawful (first.lawful lawful))

-- ---- the oldest gap

pub next_keeps : (a : Contents) → a.current.number + 1 < COUNTER_LIMIT → KeepsAllVersions a (cleared_contents a)
next_keeps a room =
    keeps_recorded a (cleared_contents a) refl refl refl refl refl (λ i. refl)
    (λ are. lawful_from a (cleared_contents a) (lawful_but_one a.current are.current room) refl (λ newcomer. newcomer) refl (λ i. refl) are)

pub clears_keeps : (a b : Contents) (cleared : List EntryNo) → Clears a cleared b → a.current.number + 1 < COUNTER_LIMIT → KeepsAllVersions a b
clears_keeps a b cleared clears room =
    let current = clears.current in
    keeps_recorded a b (ap (λ (r : Record). r.layout) current) (ap (λ (r : Record). r.position) current) (ap (λ (r : Record). r.epoch) current)
    (ap (λ (r : Record). r.role) current) clears.lines_are clears.versions (λ are. lawful_cleared a b cleared clears room are)

faulted_keeps : (a b : Contents) → KeepsVersions a b → KeepsAllVersions a b
faulted_keeps a b kept =
    let current = kept.current in
    keeps_recorded a b (ap (λ (r : Record). r.layout) current) (ap (λ (r : Record). r.position) current) (ap (λ (r : Record). r.epoch) current)
    (ap (λ (r : Record). r.role) current) kept.lines_are kept.versions
    (λ are. lawful_from a b (rw current are.current) (ap (λ (r : Record). r.layout) current) (λ newcomer. ap (λ (r : Record). r.role) (sym current) ∙ newcomer) kept.lines_are kept.versions are)

abbrev pub IsClearedOrNot : Contents → Image → Type 0
IsClearedOrNot a image = Keeps a image ⊎ Keeps (cleared_contents a) image

holds_cleared : (a : Contents) (image : Image) → a.current.number + 1 < COUNTER_LIMIT → IsClearedOrNot a image → HoldsBy KeepsAllVersions a image
holds_cleared a image room (inl keeps) = record { new = a; stands = keeps_same a; consistent = λ consistent. consistent; keeps = keeps }
holds_cleared a image room (inr keeps) =
    record {
      new = cleared_contents a;
      stands = next_keeps a room;
      consistent = λ consistent. record { free = consistent.free; beyond = consistent.beyond };
      keeps = keeps;
    }

-- a fence that fails now did not fail before
pub failed_now : {A : Type 0} (before : Bool) → (before ≡ true) ⊎ A → before ≡ false → A
failed_now before (inl was) sound = absurd (true≢false (sym was ∙ sound))
failed_now before (inr now) sound = now

-- ---- the call

module _ {E : Type 0} (device : E → State) (contents : E → Contents) (is_faulted : E → Bool) (old new : E) (ready : IsReady device contents is_faulted old)
    (asked_moment : (device new).kept ≡ (device old).kept) (moments : LeavesOnly (device old) (device new) (IsClearedOrNot (contents old))) where
  run : (contents old).current.number + 1 < COUNTER_LIMIT → LeavesOnly (device old) (device new) (HoldsBy KeepsAllVersions (contents old))
  run room = LeavesOnly-weaken (HoldsBy KeepsAllVersions (contents old)) (λ image either. holds_cleared (contents old) image room either) moments

  -- the gap was cleared
  pub cleared_step : (cleared : List EntryNo) → (contents old).current.number + 1 < COUNTER_LIMIT → Clears (contents old) cleared (contents new)
      → IsDurable (device new) (contents new) → (is_faulted new ≡ false) × ((device new).failures ≡ (device old).failures)
      → IsStep device contents is_faulted {X = Unit {0}} KeepsAllVersions old (Ok tt) new
  cleared_step cleared room clears durable sound =
      record {
        stands = clears_keeps (contents old) (contents new) cleared clears room;
        ready = λ _. record {
          sound = sound.0;
          durable = durable;
          consistent = consistent_cleared (contents old) (contents new) cleared clears ready.consistent;
          lawful = lawful_cleared (contents old) (contents new) cleared clears room ready.lawful;
        };
        failures = λ _. sound.1;
        fault = λ is. cc;
        asked_moment = asked_moment;
        moments = run room;
      }

  -- that was refused
  pub uncleared_step : {X : Type 0} (refusal : Refusal) → (refusal ≡ Fault) ⊎ ((refusal ≡ Exhausted) ⊎ (refusal ≡ Memory))
      → (refusal ≡ Fault → (contents old).current.number + 1 < COUNTER_LIMIT) → (refusal ≡ Exhausted → new ≡ old) → (refusal ≡ Memory → new ≡ old)
      → (refusal ≡ Fault → KeepsVersions (contents old) (contents new))
      → (refusal ≡ Fault → (is_faulted new ≡ true) × ((device old).failures < (device new).failures))
      → IsStep device contents is_faulted {X = X} KeepsAllVersions old (Err refusal) new
  uncleared_step {X} refusal causes room exhausted memory stays fault =
      elim causes [
        | inl is_fault ↦
            record {
              stands = faulted_keeps (contents old) (contents new) (stays is_fault);
              ready = λ sound. absurd (sound (ap Err is_fault));
              failures = λ sound. absurd (sound (ap Err is_fault));
              fault = λ _. fault is_fault;
              asked_moment = asked_moment;
              moments = run (room is_fault);
            }
        | inr (inl is_exhausted) ↦ still (exhausted is_exhausted) (λ is. let both : Exhausted ≡ Fault = sym is_exhausted ∙ is in cc)
        | inr (inr is_memory) ↦ still (memory is_memory) (λ is. let both : Memory ≡ Fault = sym is_memory ∙ is in cc)
      ]
    where
      still : new ≡ old → ¬ (refusal ≡ Fault) → IsStep device contents is_faulted {X = X} KeepsAllVersions old (Err refusal) new
      still is other =
          rw is
          (no_step device contents is_faulted KeepsAllVersions keeps_same keeps_then old (Err refusal) (λ err. other (cc)) ready)
