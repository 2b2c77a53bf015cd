-- What a newcomer still has after a call that left its copy as it was, or dropped it.
use Rattle.std.proofs.Common.{◌≡◌, ℕ, inl, inr, Bool, false, [], ◌∷◌, Option, None, Some, refl, sym, ap, subst, ◌∙◌}
use Rattle.std.proofs.lemmas.Bool.{true≢false}
use Rattle.std.proofs.lemmas.Option.{none-some}
use Rattle.extent_heap.specs.Room.{Room}
use Rattle.pmem.specs.Device.{State}
use Rattle.pmem.specs.Runs.{LeavesOnly}
use Rattle.pmem.proofs.Leaving.{LeavesOnly-then, none_leaves}
use Rattle.model.specs.Group.{Contents, Versions, is_live_version}
use Rattle.mv_keyspace.specs.Table.{IsTable, Table, entries_of}
use Rattle.mv_keyspace.proofs.PartTables.{live-from_entry}
use Rattle.placing.proofs.MemberLemmas.{here}
use Rattle.wbl_engine.specs.Contents.{IsDurable, Keeps, Same}
use Rattle.standby.specs.declared.copies.Half.{Half}
use Rattle.standby.specs.declared.newcomer.Newcomer.{Newcomer}
use Rattle.standby.specs.Gathering.{AreOfHalf, Gathers}
use Rattle.standby.specs.Newcomers.{AwaitsCopy, IsCleared, Rests, StaysAsItWas}
use Rattle.standby.proofs.EndedLemmas.{Same-is}

-- a table of no versions has no row
pub rows_none : (versions : Versions) (table : Table) → ((i : ℕ) → versions i ≡ None) → IsTable versions table → table ≡ []
rows_none versions [] none is = refl
rows_none versions (row ∷ rows) none is =
    absurd (true≢false (sym (live-from_entry versions (row ∷ rows) row.1.entry is (here row.1.entry (entries_of rows))) ∙ ap is_live_version (none row.1.entry)))

-- nothing is staged without a half copy
pub none_staged : (half : Option Half) (staged : Versions) → AreOfHalf half staged → half ≡ None → (i : ℕ) → staged i ≡ None
none_staged None staged none is i = none i
none_staged (Some half) staged of_half is i = absurd (none-some half (sym is))

pub same_itself : (contents : Contents) → Same contents contents
same_itself contents = record { current = refl; lines = refl; versions = λ i. refl; is_free = λ i. refl }

module _ {E K D : Type 0} (device : E → State) (contents : E → Contents) (is_faulted : E → Bool) (staged : E → Versions) (table : K → Table) where
  abbrev Awaits : Newcomer E K D → Type 0
  Awaits node = AwaitsCopy device contents is_faulted staged table node

  abbrev Stays : Newcomer E K D → Newcomer E K D → Type 0
  Stays old new = StaysAsItWas device contents is_faulted staged table old new

  abbrev Cleared : Newcomer E K D → Newcomer E K D → Type 0
  Cleared old new = IsCleared device contents is_faulted staged table old new

  abbrev RestsFrom : Newcomer E K D → Newcomer E K D → Type 0
  RestsFrom old new = Rests device contents is_faulted staged table old new

  pub Stays-same : (old new : Newcomer E K D) → new ≡ old → Stays old new
  Stays-same old new same = record {
    engine = ap (λ (n : Newcomer E K D). n.engine) same;
    rows = ap (λ (n : Newcomer E K D). table n.keyspace) same;
    heap = ap (λ (n : Newcomer E K D). n.heap) same;
    half = ap (λ (n : Newcomer E K D). n.half) same;
  }

  -- what a newcomer awaits does not depend on more than this
  awaits_so : (old : Newcomer E K D) → Awaits old → (engine : E) (rows : Table) (heap : Room) (half : Option Half) → engine ≡ old.engine → rows ≡ table old.keyspace → heap ≡ old.heap → half ≡ old.half
      → Gathers (contents engine) (staged engine) rows heap half × (is_faulted engine ≡ false) × IsDurable (device engine) (contents engine)
  awaits_so old awaits engine rows heap half engine_is rows_is heap_is half_is =
      let whole = awaits.gathers in
      let by_half = subst (λ (h : Option Half). Gathers (contents old.engine) (staged old.engine) (table old.keyspace) old.heap h) (sym half_is) whole in
      let by_heap = subst (λ (room : Room). Gathers (contents old.engine) (staged old.engine) (table old.keyspace) room half) (sym heap_is) by_half in
      let by_rows = subst (λ (t : Table). Gathers (contents old.engine) (staged old.engine) t heap half) (sym rows_is) by_heap in (
        subst (λ (e : E). Gathers (contents e) (staged e) rows heap half) (sym engine_is) by_rows,
        subst (λ (e : E). is_faulted e ≡ false) (sym engine_is) awaits.sound,
        subst (λ (e : E). IsDurable (device e) (contents e)) (sym engine_is) awaits.durable,
      )

  pub Awaits-stays : (old new : Newcomer E K D) → Awaits old → Stays old new → Awaits new
  Awaits-stays old new awaits stays =
      let so = awaits_so old awaits new.engine (table new.keyspace) new.heap new.half stays.engine stays.rows stays.heap stays.half in
      record { gathers = so.0; sound = so.1; durable = so.2 }

  pub Rests-stays : (old new : Newcomer E K D) → Awaits old → Stays old new → RestsFrom old new
  Rests-stays old new awaits stays = record {
    contents_are = subst (λ (e : E). Same (contents old.engine) (contents e)) (sym stays.engine) (same_itself (contents old.engine));
    failures = ap (λ (e : E). (device e).failures) stays.engine;
    asked_moment = ap (λ (e : E). (device e).kept) stays.engine;
    moments = subst (λ (e : E). LeavesOnly (device old.engine) (device e) (Keeps (contents old.engine))) (sym stays.engine)
        (none_leaves (device old.engine) (Keeps (contents old.engine)) awaits.durable);
  }

  pub Rests-then : (old mid new : Newcomer E K D) → RestsFrom old mid → RestsFrom mid new → RestsFrom old new
  Rests-then old mid new first second =
      let same = Same-is (contents old.engine) (contents mid.engine) first.contents_are in
      record {
        contents_are = subst (λ (k : Contents). Same k (contents new.engine)) same second.contents_are;
        failures = second.failures ∙ first.failures;
        asked_moment = second.asked_moment ∙ first.asked_moment;
        moments = LeavesOnly-then first.moments (subst (λ (k : Contents). LeavesOnly (device mid.engine) (device new.engine) (Keeps k)) same second.moments);
      }

  -- ---- what there was is dropped

  pub Rests-cleared : (old mid : Newcomer E K D) → Awaits old → Cleared old mid → RestsFrom old mid
  Rests-cleared old mid awaits (inl same) = Rests-stays old mid awaits (Stays-same old mid same.1)
  Rests-cleared old mid awaits (inr dropped) = dropped.rests

  pub Awaits-cleared : (old mid : Newcomer E K D) → Awaits old → Cleared old mid → Awaits mid
  Awaits-cleared old mid awaits (inl same) = Awaits-stays old mid awaits (Stays-same old mid same.1)
  Awaits-cleared old mid awaits (inr dropped) = dropped.awaits

  pub half_cleared : (old mid : Newcomer E K D) → Cleared old mid → mid.half ≡ None
  half_cleared old mid (inl same) = ap (λ (n : Newcomer E K D). n.half) same.1 ∙ same.0
  half_cleared old mid (inr dropped) = dropped.half

  pub none_cleared : (old mid : Newcomer E K D) → Awaits old → Cleared old mid → (i : ℕ) → staged mid.engine i ≡ None
  none_cleared old mid awaits cleared = none_staged mid.half (staged mid.engine) (Awaits-cleared old mid awaits cleared).gathers.of_half (half_cleared old mid cleared)

  pub rows_cleared : (old mid : Newcomer E K D) → Awaits old → Cleared old mid → table mid.keyspace ≡ []
  rows_cleared old mid awaits cleared =
      rows_none (staged mid.engine) (table mid.keyspace) (none_cleared old mid awaits cleared) (Awaits-cleared old mid awaits cleared).gathers.follows.table_is
