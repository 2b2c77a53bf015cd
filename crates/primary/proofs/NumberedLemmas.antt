-- The same contents under a record of another number and with another floor: nothing that waits, and nothing that the sequencer holds, depends on these.
use Rattle.std.proofs.Common.{◌≡◌, ℕ, ◌+◌, ◌<◌, ◌≤◌, nat_lt, inl, inr, arith, List, [], ◌∷◌, ◌++◌, refl, subst, sym}
use Rattle.std.proofs.lemmas.Bool.{cases_Bool, cases_lt, cond-false, cond-true, ltb-true}
use Rattle.kv_types.specs.declared.place.EntryNo.{EntryNo}
use Rattle.kv_types.specs.declared.place.Extent.{Extent}
use Rattle.model.specs.declared.group.Group.{Group}
use Rattle.model.specs.declared.work.FreeList.{FreeList}
use Rattle.model.specs.declared.work.Work.{Work}
use Rattle.model.specs.declared.work.Work.TheVariants as work
use Rattle.model.specs.declared.image.TheConstants.{COUNTER_LIMIT}
use Rattle.model.specs.declared.record.Record.{Record}
use Rattle.model.specs.Floor.{floor_raised, raised_record}
use Rattle.model.specs.Group.{AreEnded, Contents, IsConsistent, IsGroup, after_group}
use Rattle.wbl_engine.specs.Lawful.{AreLawful}
use Rattle.wbl_engine.specs.Raising.{ExhaustsRaising}
use Rattle.wbl_engine.proofs.RaisingLemmas.{raised_is_lawful}
use Rattle.wbl_engine.specs.declared.freeing.Freed.{Freed}
use Rattle.extent_heap.specs.Room.{Room}
use Rattle.placing.specs.Back.{ComesBack, IsEntryBack, IsLineBack}
use Rattle.placing.specs.Left.{IsLeftOf}
use Rattle.placing.specs.Out.{HasOut}
use Rattle.redis_core.specs.Sequencing.{Expects, IsAheadOf, Sequencing, contents_ahead}
use Rattle.group_commit.specs.Group.{AreWork, after_groups, after_work, groups_of, lists_of}
use Rattle.group_commit.specs.Working.{entries_of_lists}
use Rattle.primary.specs.Leading.{AreLaid, Leads, entries_told, extents_told}

abbrev pub renumbered : ℕ → ℕ → Contents → Contents
renumbered number floor c = record c { current = record c.current { number = number; floor = floor } }

-- ---- contents

pub consistent_renumbered : (number floor : ℕ) (c : Contents) → IsConsistent c → IsConsistent (renumbered number floor c)
consistent_renumbered number floor c consistent = record { free = consistent.free; beyond = consistent.beyond }

pub laid_renumbered : (number floor : ℕ) (c : Contents) → AreLaid c → AreLaid (renumbered number floor c)
laid_renumbered number floor c laid = record { inside = laid.inside; apart = laid.apart }

pub ended_renumbered : (number floor : ℕ) (c : Contents) (entries : List EntryNo) → AreEnded c entries → AreEnded (renumbered number floor c) entries
ended_renumbered number floor c [] ended = tt
ended_renumbered number floor c (entry ∷ entries) ended = (ended.0, ended.1, ended.2, ended_renumbered number floor c entries ended.3)

-- they obey the rules, where the number is below its limit
pub lawful_renumbered : (number floor : ℕ) (c : Contents) → AreLawful c → c.current.number ≤ number → number < COUNTER_LIMIT → AreLawful (renumbered number floor c)
lawful_renumbered number floor c are up below =
    record {
      many = are.many;
      few = are.few;
      current = raised_is_lawful c.current number floor are.current up below;
      apart = are.apart;
      keyspace = are.keyspace;
      lawful = are.lawful;
      map = are.map;
      uncopied = are.uncopied;
    }

-- under a record that raises the floor
raised_number : (floor : ℕ) (r : Record) → r.number < COUNTER_LIMIT → ¬ ExhaustsRaising floor r
    → (r.number ≤ (raised_record floor r).number) × ((raised_record floor r).number < COUNTER_LIMIT)
raised_number floor r below fits =
    elim (cases_Bool (nat_lt r.floor floor)) [
      | inl rises ↦
          let number = cond-true (nat_lt r.floor floor) (r.number + 1) r.number rises in
          let under : r.number + 1 < COUNTER_LIMIT =
          elim (cases_lt (r.number + 1) COUNTER_LIMIT) [ inl lt ↦ lt | inr reached ↦ absurd (fits (ltb-true r.floor floor rises, inl reached)) ] in
          (omega (arith, number), omega (arith, number, under))
      | inr stays ↦
          let number = cond-false (nat_lt r.floor floor) (r.number + 1) r.number stays in
          (omega (arith, number), omega (arith, number, below))
    ]

pub lawful_raised : (floor : ℕ) (c : Contents) → AreLawful c → ¬ ExhaustsRaising floor c.current → AreLawful (floor_raised floor c)
lawful_raised floor c are fits =
    let next = raised_record floor c.current in
    let number = raised_number floor c.current are.current.number fits in
    lawful_renumbered next.number next.floor c are number.0 number.1

-- ---- what waits

group_renumbered : (number floor : ℕ) (c : Contents) (group : Group) → IsGroup c group → IsGroup (renumbered number floor c) group
group_renumbered number floor c group is =
    record {
      epoch = is.epoch;
      before = is.before;
      some = is.some;
      few = is.few;
      parts = is.parts;
      placed = is.placed;
      fitting = is.fitting;
      unused = is.unused;
      apart = is.apart;
    }

work_renumbered : (number floor : ℕ) (c : Contents) (items : List Work) → AreWork c items → AreWork (renumbered number floor c) items
work_renumbered number floor c [] are = tt
work_renumbered number floor c (work.Commit group ∷ items) are = (
  group_renumbered number floor c group are.0,
  work_renumbered (number + 1) floor (after_group c group) items are.1,
)
work_renumbered number floor c (work.Free list ∷ items) are = (ended_renumbered number floor c list.entries.items are.0, work_renumbered number floor c items are.1)

-- the number once these groups are committed
numbered : ℕ → List Group → ℕ
numbered number [] = number
numbered number (group ∷ groups) = numbered (number + 1) groups

groups_renumbered : (number floor : ℕ) (c : Contents) (groups : List Group)
    → after_groups (renumbered number floor c) groups ≡ renumbered (numbered number groups) floor (after_groups c groups)
unfolding numbered
groups_renumbered number floor c [] = refl
groups_renumbered number floor c (group ∷ groups) = groups_renumbered (number + 1) floor (after_group c group) groups

-- ---- the sequencer

left_renumbered : (number floor : ℕ) (c : Contents) (room : Room) → IsLeftOf c room → IsLeftOf (renumbered number floor c) room
left_renumbered number floor c room left = record { entries = left.entries; lines = left.lines; apart = left.apart }

ahead_renumbered : (number floor : ℕ) (c : Contents) (s : Sequencing) → IsAheadOf s c → IsAheadOf s (renumbered number floor c)
ahead_renumbered number floor c s ahead =
    record {
      epoch = ahead.epoch;
      before = ahead.before;
      last = ahead.last;
      parts = ahead.parts;
      once = ahead.once;
      placed = ahead.placed;
      fitting = ahead.fitting;
      unused = ahead.unused;
      empty = ahead.empty;
      apart = ahead.apart;
      taken = ahead.taken;
      left = left_renumbered number floor c s.room ahead.left;
      table = ahead.table;
    }

entry_renumbered : (number floor : ℕ) (c : Contents) (room : Room) (i : ℕ) → IsEntryBack c room i → IsEntryBack (renumbered number floor c) room i
entry_renumbered number floor c room i back = record { within = back.within; is_free = back.is_free; none = back.none; out = back.out }

line_renumbered : (number floor : ℕ) (c : Contents) (room : Room) (line : ℕ) → IsLineBack c room line → IsLineBack (renumbered number floor c) room line
line_renumbered number floor c room line back = record { above = back.above; within = back.within; none = back.none; out = back.out }

back_renumbered : (number floor : ℕ) (c : Contents) (room : Room) (entries : List EntryNo) (extents : List Extent) → ComesBack c room entries extents
    → ComesBack (renumbered number floor c) room entries extents
back_renumbered number floor c room entries extents back =
    record {
      once = back.once;
      entries_back = λ i listed. entry_renumbered number floor c room i (back.entries_back i listed);
      apart = back.apart;
      some = back.some;
      lines_back = λ line has. line_renumbered number floor c room line (back.lines_back line has);
      out = record { end_line = back.out.end_line; end_entry = back.out.end_entry; held = back.out.held };
    }

expects_renumbered : (number floor : ℕ) (c : Contents) (s : Sequencing) (entries : List EntryNo) (extents : List Extent) → Expects s c entries extents
    → Expects s (renumbered number floor c) entries extents
expects_renumbered number floor c s entries extents expects = back_renumbered number floor (contents_ahead c s.waiting) s.room entries extents expects

-- ---- all of it

pub leads_renumbered : (number floor : ℕ) (c : Contents) (items : List Work) (aside : List FreeList) (s : Sequencing) (notices : List Freed) → Leads c items aside s notices
    → Leads (renumbered number floor c) items aside s notices
leads_renumbered number floor c items aside s notices leads =
    record {
      work_is = work_renumbered number floor c items leads.work_is;
      epochs = leads.epochs;
      stands = subst (IsAheadOf s) same (ahead_renumbered last floor all s leads.stands);
      expects = subst (λ (there : Contents). Expects s there (entries_told notices) (extents_told notices)) same
          (expects_renumbered last floor all s (entries_told notices) (extents_told notices) leads.expects);
      aside_ended = ended_renumbered number floor c (entries_of_lists aside) leads.aside_ended;
      listed = subst (λ (there : Contents). AreEnded there listed) same (ended_renumbered last floor all listed leads.listed);
    }
  where
    last : ℕ
    last = numbered number (groups_of items)

    all : Contents
    all = after_work c items

    same : renumbered last floor all ≡ after_work (renumbered number floor c) items
    same = sym (groups_renumbered number floor c (groups_of items))

    listed : List EntryNo
    listed = entries_of_lists (aside ++ lists_of items) ++ s.ended
