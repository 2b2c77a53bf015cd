-- A gap that a standby clears to make room.
use Rattle.std.proofs.Common.{◌≡◌, ℕ, ◌+◌, ◌<◌, ◌≤◌, ◌||◌, ◌⊎◌, inl, inr, Bool, true, false, IsTrue, List, [], ◌∷◌, Result, Ok, Err, IsErrOf, length, nat_eq, refl, sym, ap, subst, ◌∙◌, arith, eq-eqb}
use Rattle.std.proofs.lemmas.Bool.{false_from_ne_true, or_cases, or_left, or_right, true≢false}
use Rattle.std.specs.List.{AllByRecursion}
use Rattle.kv_types.specs.declared.place.EntryNo.{EntryNo}
use Rattle.kv_types.specs.declared.refusal.Refusal.{Refusal}
use Rattle.kv_types.specs.declared.refusal.Refusal.TheVariants.{Exhausted, Fault, Memory}
use Rattle.pmem.specs.Device.{State}
use Rattle.pmem.specs.Runs.{LeavesOnly}
use Rattle.pmem.proofs.Leaving.{LeavesOnly-weaken, none_leaves}
use Rattle.extent_heap.specs.Room.{IsOutEntry, Room, is_free_entry, is_free_line}
use Rattle.model.specs.declared.image.TheConstants.{COUNTER_LIMIT}
use Rattle.model.specs.declared.record.Record.{Record}
use Rattle.model.specs.Group.{Contents, Versions, is_ended_version, is_listed}
use Rattle.model.specs.Image.{Image}
use Rattle.model.proofs.DirectoryLemmas.{entries_same}
use Rattle.mv_keyspace.specs.Table.{IsTable, Table, records}
use Rattle.placing.specs.Back.{CanGiveAll, GivesAll}
use Rattle.placing.proofs.MemberLemmas.{distinct_none}
use Rattle.wbl_engine.specs.Contents.{IsDurable, Keeps}
use Rattle.wbl_engine.specs.Freeing.{Clears, KeepsVersions, cleared_contents, record_after_clearing}
use Rattle.wbl_engine.specs.Lawful.{AreLawful}
use Rattle.wbl_engine.proofs.LawfulLemmas.{lawful_from}
use Rattle.wbl_engine.proofs.WithoutLemmas.{consistent_cleared, lawful_cleared}
use Rattle.frames.specs.declared.frame.Frame.{Frame}
use Rattle.standby.specs.declared.standby.Standby.{Standby}
use Rattle.standby.specs.Following.{Follows, HoldsRearranged, IsGapless, IsNearLimit, IsRearranged, WouldExhaust}
use Rattle.standby.specs.Taking.{Rearranges, Stands, Tidies}
use Rattle.standby.proofs.RearrangedLemmas.{HoldsRearranged-keeps, IsRearranged-recorded, IsRearranged-refl}

-- ---- entries that are listed

all-listed : (P : ℕ → Type 0) (entries : List EntryNo) → ((i : ℕ) → IsTrue (is_listed i entries) → P i) → AllByRecursion (λ entry. P entry.0) entries
all-listed P [] each = tt
all-listed P (entry ∷ entries) each =
    (each entry.0 (or_left (nat_eq entry.0 entry.0) (is_listed entry.0 entries) (eq-eqb entry.0 entry.0 refl)), all-listed P entries (λ i listed. each i (or_right (nat_eq i entry.0) (is_listed i entries) listed)))

or_false : (b : Bool) → (b || false) ≡ b
or_false true = refl
or_false false = refl

module _ (old new : Contents) (table : Table) (room : Room) (follows : Follows old table room []) (entries : List EntryNo) (clears : Clears old entries new) where
  -- the entries that were begun in the gap can be given back
  out : (i : ℕ) → IsTrue (is_listed i entries) → (i < room.end_entry) × (is_free_entry room i ≡ false)
  out i listed = (
    subst (λ n. i < n) (sym follows.out.end_entry) (clears.within i listed),
    false_from_ne_true (is_free_entry room i) (λ free. true≢false (sym (follows.left.entries i free).1 ∙ clears.were_not_free i listed)),
  )

  pub CanGiveAll-cleared : CanGiveAll room entries []
  CanGiveAll-cleared = record {
    once = clears.once;
    entries_out = all-listed (λ i. IsOutEntry room (record { 0 = i })) entries (λ i listed. let is = out i listed in record { within = is.0; taken = is.1 });
    apart = tt;
    extents_out = tt;
    held = omega arith;
  }

  same : new.versions ≡ old.versions
  same = λ p i. clears.versions i p

  -- and the tables follow
  pub Follows-cleared : (room' : Room) → GivesAll room entries [] room' → Follows new table room' []
  Follows-cleared room' given =
      let lines : (line : ℕ) → is_free_line room' line ≡ is_free_line room line = λ line. given.lines_given line ∙ or_false (is_free_line room line) in
      record {
        consistent = consistent_cleared old new entries clears follows.consistent;
        left = record {
          entries = λ i free. elim (or_cases (is_free_entry room i) (is_listed i entries) (sym (given.entries_given i) ∙ free)) [
            | inl was ↦
                let before = follows.left.entries i was in (
                  subst (λ n. i < n) (sym (entries_same old new (ap (λ (r : Record). r.layout) clears.current) clears.lines_are)) before.0,
                  clears.is_free i ∙ or_left (old.is_free i) (is_listed i entries) before.1,
                  clears.versions i ∙ before.2,
                )
            | inr listed ↦ (
              subst (λ n. i < n) (sym (entries_same old new (ap (λ (r : Record). r.layout) clears.current) clears.lines_are)) (clears.within i listed),
              clears.is_free i ∙ or_right (old.is_free i) (is_listed i entries) listed,
              clears.versions i ∙ clears.held_none i listed,
            )
          ];
          lines = λ line free.
              let before = follows.left.lines line (sym (lines line) ∙ free) in
              rw clears.lines_are before;
          apart = λ i version begun.
              let was = follows.left.apart i version (sym (clears.versions i) ∙ begun) in
              record { some = was.some; none = λ line low high. lines line ∙ was.none line low high };
        };
        table_is = subst (λ (versions : Versions). IsTable versions table) (sym same) follows.table_is;
        apart = λ i j v w differ is_v is_w. follows.apart i j v w differ (sym (clears.versions i) ∙ is_v) (sym (clears.versions j) ∙ is_w);
        out = record {
          end_line = given.end_line ∙ follows.out.end_line ∙ sym clears.lines_are;
          end_entry = given.end_entry ∙ follows.out.end_entry ∙ sym (entries_same old new (ap (λ (r : Record). r.layout) clears.current) clears.lines_are);
          held =
              let was = follows.out.held in
              let held = given.held in
              rw (same, entries_same old new (ap (λ (r : Record). r.layout) clears.current) clears.lines_are) (omega (arith, was, held));
        };
        listed = tt;
        all = λ i is. follows.all i (sym (ap is_ended_version (clears.versions i)) ∙ is);
      }

-- ---- the map

lawful_next : (a : Contents) → a.current.number + 1 < COUNTER_LIMIT → AreLawful a → AreLawful (cleared_contents a)
lawful_next a room are =
    lawful_cleared a (cleared_contents a) [] (record {
      current = refl;
      lines_are = refl;
      versions = λ i. refl;
      is_free = λ i. sym (or_false (a.is_free i));
      within = λ i listed. cc;
      were_not_free = λ i listed. cc;
      held_none = λ i listed. cc;
      once = distinct_none nat_eq;
    }) room are

module _ {E K D : Type 0} (device : E → State) (contents : E → Contents) (is_faulted : E → Bool) (table : K → Table) where
  -- nothing was cleared, and nothing had ended
  pub Tidies-still : (node : Standby E K D) → Stands device contents is_faulted table node → node.ended.items ≡ [] → IsGapless (contents node.engine).current
      → Tidies device contents is_faulted table node (Ok false) node
  Tidies-still node stands none gapless = record {
    causes = tt;
    keyspace = refl;
    none = none;
    versions = λ i. rw none refl;
    cleared = λ is. cc;
    gapless = λ _. (gapless, refl);
    rearranged = IsRearranged-refl (contents node.engine);
    still = λ _. stands.follows;
    sound = λ _. (stands.sound, refl);
    durable = λ _. stands.durable;
    fault = λ is. cc;
    asked_moment = refl;
    moments = none_leaves (device node.engine) (HoldsRearranged (contents node.engine)) (λ image is. HoldsRearranged-keeps (contents node.engine) image (stands.durable image is));
  }

  -- memory was refused before anything happened
  pub Tidies-refused : (node : Standby E K D) → Stands device contents is_faulted table node → Tidies device contents is_faulted table node (Err Memory) node
  Tidies-refused node stands = record {
    causes = inl refl;
    keyspace = refl;
    none = tt;
    versions = tt;
    cleared = λ is. cc;
    gapless = λ is. cc;
    rearranged = IsRearranged-refl (contents node.engine);
    still = λ _. stands.follows;
    sound = λ _. (stands.sound, refl);
    durable = λ _. stands.durable;
    fault = λ is. cc;
    asked_moment = refl;
    moments = none_leaves (device node.engine) (HoldsRearranged (contents node.engine)) (λ image is. HoldsRearranged-keeps (contents node.engine) image (stands.durable image is));
  }

  -- what is ready for a frame may be tidied
  pub Rearranges-tidied : (frame : Frame) (old new : Standby E K D) (result : Result Bool Refusal) → Tidies device contents is_faulted table old result new
      → (¬ IsErrOf result Fault → ¬ WouldExhaust (contents new.engine).current frame) → Rearranges device contents is_faulted table frame old result new
  Rearranges-tidied frame old new result is counters = record {
    causes = is.causes;
    map = ap (λ (keyspace : K). records (table keyspace)) is.keyspace;
    rearranged = is.rearranged;
    none = is.none;
    still = is.still;
    sound = is.sound;
    durable = is.durable;
    fault = is.fault;
    counters = counters;
    asked_moment = is.asked_moment;
    moments = is.moments;
  }

  module _ (old : Standby E K D) (stands : Stands device contents is_faulted table old) (nothing : old.ended.items ≡ [])
      (far : ¬ IsNearLimit (contents old.engine).current) where
    follows : Follows (contents old.engine) (table old.keyspace) old.heap []
    follows = subst (Follows (contents old.engine) (table old.keyspace) old.heap) nothing stands.follows

    below : (contents old.engine).current.number + 1 < COUNTER_LIMIT
    below = grind (arith, far)

    cleared : IsRearranged (contents old.engine) (cleared_contents (contents old.engine))
    cleared = IsRearranged-recorded (contents old.engine) (cleared_contents (contents old.engine)) refl refl refl refl refl (λ i. refl)
        (λ are. lawful_next (contents old.engine) below are)

    run : (device' : State) → LeavesOnly (device old.engine) device' (λ image. Keeps (contents old.engine) image ⊎ Keeps (cleared_contents (contents old.engine)) image)
        → LeavesOnly (device old.engine) device' (HoldsRearranged (contents old.engine))
    run device' moments = LeavesOnly-weaken (HoldsRearranged (contents old.engine)) (λ image either. holds image either) moments
      where
        holds : (image : Image) → Keeps (contents old.engine) image ⊎ Keeps (cleared_contents (contents old.engine)) image → HoldsRearranged (contents old.engine) image
        holds image (inl keeps) = HoldsRearranged-keeps (contents old.engine) image keeps
        holds image (inr keeps) = record {
          after = cleared_contents (contents old.engine);
          rearranged = cleared;
          consistent = λ consistent. record { free = consistent.free; beyond = consistent.beyond };
          keeps = keeps;
        }

    -- the gap was cleared
    pub Tidies-cleared : (engine : E) (entries : List EntryNo) (room' : Room) (new : Standby E K D) → new.engine ≡ engine → new.keyspace ≡ old.keyspace → new.heap ≡ room' → new.ended ≡ old.ended
        → 0 < length (contents old.engine).current.gaps.items → Clears (contents old.engine) entries (contents engine) → GivesAll old.heap entries [] room'
        → IsDurable (device engine) (contents engine) → (is_faulted engine ≡ false) × ((device engine).failures ≡ (device old.engine).failures)
        → (device engine).kept ≡ (device old.engine).kept
        → LeavesOnly (device old.engine) (device engine) (λ image. Keeps (contents old.engine) image ⊎ Keeps (cleared_contents (contents old.engine)) image)
        → Tidies device contents is_faulted table old (Ok true) new
    Tidies-cleared engine entries room' new engine_is keyspace_is heap_is ended_is some clears given durable sound asked_moment moments =
        let now = Follows-cleared (contents old.engine) (contents engine) (table old.keyspace) old.heap follows entries clears room' given in
        let none : new.ended.items ≡ [] = ap (λ ended. ended.items) ended_is ∙ nothing in
        let current = clears.current in
        record {
          causes = tt;
          keyspace = keyspace_is;
          none = none;
          versions = λ i. rw (engine_is, nothing) (clears.versions i);
          cleared = λ _. (some, rw engine_is current);
          gapless = λ is. cc;
          rearranged = rw engine_is (IsRearranged-recorded (contents old.engine) (contents engine) (ap (λ (r : Record). r.position) current) (ap (λ (r : Record). r.epoch) current)
              (ap (λ (r : Record). r.role) current) (ap (λ (r : Record). r.layout) current) clears.lines_are clears.versions (λ are. lawful_cleared (contents old.engine) (contents engine) entries clears below are));
          still = λ _. rw (engine_is, keyspace_is, heap_is, none) now;
          sound = λ _. rw engine_is sound;
          durable = λ _. rw engine_is durable;
          fault = λ is. cc;
          asked_moment = rw engine_is asked_moment;
          moments = rw engine_is (run (device engine) moments);
        }

    three : (refusal : Refusal) → (refusal ≡ Fault) ⊎ ((refusal ≡ Exhausted) ⊎ (refusal ≡ Memory)) → (refusal ≡ Exhausted → ⊥) → (refusal ≡ Memory) ⊎ (refusal ≡ Fault)
    three refusal (inl fault) none = inr fault
    three refusal (inr (inl exhausted)) none = absurd (none exhausted)
    three refusal (inr (inr memory)) none = inl memory

    -- that was refused
    pub Tidies-uncleared : (engine : E) (refusal : Refusal) (new : Standby E K D) → new.engine ≡ engine → new.keyspace ≡ old.keyspace → new.heap ≡ old.heap → new.ended ≡ old.ended
        → (refusal ≡ Fault) ⊎ ((refusal ≡ Exhausted) ⊎ (refusal ≡ Memory)) → (refusal ≡ Exhausted → COUNTER_LIMIT ≤ (contents old.engine).current.number + 1) → (refusal ≡ Memory → engine ≡ old.engine)
        → (refusal ≡ Fault → KeepsVersions (contents old.engine) (contents engine)) → (refusal ≡ Fault → (is_faulted engine ≡ true) × ((device old.engine).failures < (device engine).failures))
        → (device engine).kept ≡ (device old.engine).kept
        → LeavesOnly (device old.engine) (device engine) (λ image. Keeps (contents old.engine) image ⊎ Keeps (cleared_contents (contents old.engine)) image)
        → Tidies device contents is_faulted table old (Err refusal) new
    Tidies-uncleared engine refusal new engine_is keyspace_is heap_is ended_is causes limit memory stays fault asked_moment moments =
        elim (three refusal causes (λ exhausted. let reached = limit exhausted in omega (arith, reached, below))) [
          | inl is_memory ↦
              let same : new ≡ old = λ p. record { engine = (engine_is ∙ memory is_memory) p; keyspace = keyspace_is p; heap = heap_is p; ended = ended_is p } in
              rw (same, is_memory) (Tidies-refused old stands)
          | inr is_fault ↦
              let kept = stays is_fault in
              let told = fault is_fault in
              record {
                causes = inr is_fault;
                keyspace = keyspace_is;
                none = tt;
                versions = tt;
                cleared = λ is. cc;
                gapless = λ is. cc;
                rearranged = rw engine_is (IsRearranged-recorded (contents old.engine) (contents engine) (ap (λ (r : Record). r.position) kept.current) (ap (λ (r : Record). r.epoch) kept.current)
                    (ap (λ (r : Record). r.role) kept.current) (ap (λ (r : Record). r.layout) kept.current) kept.lines_are kept.versions
                    (λ are.
                    lawful_from (contents old.engine) (contents engine) (rw kept.current are.current) (ap (λ (r : Record). r.layout) kept.current)
                    (λ newcomer. ap (λ (r : Record). r.role) (sym kept.current) ∙ newcomer) kept.lines_are kept.versions are));
                still = λ sound. absurd (sound (ap Err is_fault));
                sound = λ sound. absurd (sound (ap Err is_fault));
                durable = λ sound. absurd (sound (ap Err is_fault));
                fault = λ _. rw engine_is told;
                asked_moment = rw engine_is asked_moment;
                moments = rw engine_is (run (device engine) moments);
              }
        ]

-- one more record leaves the counters of a frame, where they are not near their limit
pub not_exhausting : (r : Record) (frame : Frame) → ¬ IsNearLimit r → ¬ WouldExhaust r frame → ¬ WouldExhaust (record_after_clearing r) frame
not_exhausting r frame far fits (inl stamps) = fits (inl stamps)
not_exhausting r frame far fits (inr (inl position)) = fits (inr (inl position))
not_exhausting r frame far fits (inr (inr (inl number))) = far (inr number)
not_exhausting r frame far fits (inr (inr (inr epoch))) = fits (inr (inr (inr epoch)))

-- a record that has a gap
pub some_gap : {A : Type 0} (xs : List A) → (xs ≡ [] → ⊥) → 0 < length xs
some_gap [] none = absurd (none refl)
some_gap (x ∷ xs) none = omega arith

-- a fence that fails now did not fail before
pub failed_now : {A : Type 0} (before : Bool) → (before ≡ true) ⊎ A → before ≡ false → A
failed_now before (inl was) sound = absurd (true≢false (sym was ∙ sound))
failed_now before (inr now) sound = now
