-- A half copy that is dropped: its places go back to the heap, and the newcomer gathers nothing then.
use Rattle.std.proofs.Common.{◌≡◌, ◌≢◌, ℕ, ◌+◌, ◌<◌, ◌≤◌, true, not, IsTrue, List, [], ◌++◌, Option, Some, None, inl, inr, refl, sym, ap, subst, subst₂, ◌∙◌, arith}
use Rattle.std.proofs.lemmas.Bool.{and_from, and_parts, or_cases, true≢false}
use Rattle.std.proofs.lemmas.List.{append-nil}
use Rattle.std.proofs.lemmas.Option.{none-some}
use Rattle.std.specs.Prelude.{is_none}
use Rattle.kv_types.specs.declared.place.EntryNo.{EntryNo}
use Rattle.kv_types.specs.declared.place.Extent.{Extent}
use Rattle.extent_heap.specs.Room.{Room, is_free_entry, is_free_line}
use Rattle.extent_heap.specs.Runs.{has_line}
use Rattle.model.specs.Group.{AreApart, AreEnded, Contents, Versions, after_free, entries_of, extent_of, extents_of, is_ended_version, is_listed}
use Rattle.model.specs.Image.{Version, first_extent_line}
use Rattle.mv_keyspace.specs.Table.{Table}
use Rattle.mv_keyspace.proofs.PartTables.{table-none}
use Rattle.placing.specs.Back.{CanGiveAll, ComesBack, GivesAll, HasOut, has_version}
use Rattle.placing.specs.Left.{HasNoFreeLine, IsLeftOf}
use Rattle.placing.specs.Read.{LiesIn}
use Rattle.placing.proofs.BackLemmas.{can-give}
use Rattle.placing.proofs.CountLemmas.{none_counted, same_count}
use Rattle.placing.proofs.EndedLemmas.{AreEnded-from_members, nothing-back}
use Rattle.placing.proofs.FreedPlaces.{comes-back-freed, extents-ahead}
use Rattle.placing.proofs.MemberLemmas.{listed-from_member}
use Rattle.wbl_engine.specs.Contents.{Same}
use Rattle.wbl_engine.specs.Copying.{Drops, IsCopy, after_copy, is_unstaged}
use Rattle.wbl_engine.proofs.CopyLaws.{copy_consistent, none_copy}
use Rattle.standby.specs.declared.copies.Half.{Half}
use Rattle.standby.specs.Following.{Follows}
use Rattle.standby.specs.Gathering.{Gathers}
use Rattle.standby.proofs.EndedLemmas.{Same-is}

-- what is staged, said to have ended: places of ended versions come back to a heap
abbrev ended_one : Option Version → Option Version
ended_one None = None
ended_one (Some version) = Some (record version { is_ended = true })

there : (held : Option Version) → IsTrue (not (is_none held)) → (version : Version) × (held ≡ Some version)
there None is = absurd (true≢false (sym is))
there (Some version) is = (version, refl)

is_there : (held : Option Version) → IsTrue (is_ended_version (ended_one held)) → (version : Version) × (held ≡ Some version)
is_there None is = absurd (true≢false (sym is))
is_there (Some version) is = (version, refl)

was_one : (held : Option Version) (version : Version) → ended_one held ≡ Some version → (was : Version) × (held ≡ Some was) × (was.first_line ≡ version.first_line) × (was.lines ≡ version.lines)
was_one None version is = absurd (none-some version is)
was_one (Some was) version is =
    let same : record was { is_ended = true } ≡ version = some_is (record was { is_ended = true }) version is in
    (was, refl, ap (λ (v : Version). v.first_line) same, ap (λ (v : Version). v.lines) same)
  where
    some_is : (a b : Version) → Some a ≡ Some b → a ≡ b
    some_is a b e = cc

same_extent : (held : Option Version) → extent_of (ended_one held) ≡ extent_of held
same_extent None = refl
same_extent (Some version) = refl

same_has : (held : Option Version) → has_version (ended_one held) ≡ has_version held
same_has None = refl
same_has (Some version) = refl

module _ (contents : Contents) (staged : Versions) (room : Room) (half : Option Half) (table : Table) (gathers : Gathers contents staged table room half)
    (entries : List EntryNo) (extents : List Extent) (drops : Drops staged entries extents) where
  abbrev marked : Contents
  marked = record (after_copy contents staged 0) { versions = λ i. ended_one (staged i) }

  lies_in : (i : ℕ) (version : Version) → marked.versions i ≡ Some version → LiesIn contents.lines version
  lies_in i version is =
      let was = was_one (staged i) version is in
      let lies = gathers.placed i was.0 was.1 in
      record {
        some = subst (λ (n : ℕ). 0 < n) was.3 lies.some;
        above = subst (λ (n : ℕ). first_extent_line contents.lines ≤ n) was.2 lies.above;
        within = subst₂ (λ (first lines : ℕ). first + lines ≤ contents.lines) was.2 was.3 lies.within;
      }

  apart : (i j : ℕ) (v w : Version) → i ≢ j → marked.versions i ≡ Some v → marked.versions j ≡ Some w → AreApart v.first_line v.lines w.first_line w.lines
  apart i j v w differ is_v is_w =
      let a = was_one (staged i) v is_v in
      let b = was_one (staged j) w is_w in
      subst₂ (λ (first lines : ℕ). AreApart first lines w.first_line w.lines) a.2 a.3
      (subst₂ (λ (first lines : ℕ). AreApart a.0.first_line a.0.lines first lines) b.2 b.3 (gathers.copy.apart i j a.0 b.0 differ a.1 b.1))

  taken : (i : ℕ) (v : Version) → marked.versions i ≡ Some v → HasNoFreeLine room v.first_line v.lines
  taken i v is =
      let was = was_one (staged i) v is in
      subst₂ (HasNoFreeLine room) was.2 was.3 (gathers.follows.left.apart i was.0 was.1)

  listed : (i : ℕ) → IsTrue (is_listed i entries) → (version : Version) × (staged i ≡ Some version)
  listed i is = there (staged i) (sym (drops.listed i) ∙ is)

  are_ended : AreEnded marked entries
  are_ended =
      AreEnded-from_members marked entries drops.once
      (λ i member.
      let found = listed i (listed-from_member i entries member) in
      (gathers.copy.within i found.0 found.1, ap (λ (held : Option Version). is_ended_version (ended_one held)) found.1))

  none_free : (i : ℕ) → IsTrue (is_free_entry room i) → marked.versions i ≡ None
  none_free i free = ap ended_one (gathers.follows.left.entries i free).2

  out : HasOut marked room 0
  out =
      let count = same_count staged marked.versions (entries_of contents) (λ i lt. same_has (staged i)) in
      record {
        end_line = gathers.follows.out.end_line;
        end_entry = gathers.follows.out.end_entry;
        held = omega (arith, count, gathers.follows.out.held);
      }

  back : ComesBack (after_free entries marked) room entries (extents_of marked.versions entries)
  back = comes-back-freed marked lies_in apart room [] [] entries none_free taken are_ended (nothing-back marked room out)

  comes_back : ComesBack (after_free entries marked) room (entries ++ []) (extents_of marked.versions entries ++ [])
  comes_back = rw (append-nil, append-nil) back

  extents_are : extents_of marked.versions entries ≡ extents
  extents_are = extents-ahead marked.versions staged entries (λ i is. same_extent (staged i)) ∙ sym drops.extents_are

  pub CanGiveAll-dropped : CanGiveAll room entries extents
  CanGiveAll-dropped =
      subst (CanGiveAll room entries) extents_are (can-give (after_free entries marked) room entries [] (extents_of marked.versions entries) [] comes_back)

  back_line : (line : ℕ) → IsTrue (has_line extents line) → (first_extent_line contents.lines ≤ line) × (line < contents.lines)
  back_line line has =
      let is = back.lines_back line (subst (λ (xs : List Extent). IsTrue (has_line xs line)) (sym extents_are) has) in
      (is.above, is.within)

  module _ (contents' : Contents) (same : Same contents contents') (staged' : Versions) (none : (i : ℕ) → staged' i ≡ None)
      (new : Room) (given : GivesAll room entries extents new) where
    copy' : IsCopy (entries_of contents) staged'
    copy' = none_copy (entries_of contents) staged' none

    unstaged' : (i : ℕ) → IsTrue (contents.is_free i) → IsTrue (is_unstaged contents staged' i)
    unstaged' i free = and_from (contents.is_free i) (is_none (staged' i)) free (ap is_none (none i))

    left' : IsLeftOf (after_copy contents staged' 0) new
    left' = record {
      entries = λ i free. elim (or_cases (is_free_entry room i) (is_listed i entries) (sym (given.entries_given i) ∙ free)) [
        | inl was ↦
            let before = gathers.follows.left.entries i was in
            (before.0, unstaged' i (and_parts (contents.is_free i) (is_none (staged i)) before.1).0, none i)
        | inr freed ↦
            let found = listed i freed in
            (gathers.copy.within i found.0 found.1, unstaged' i (gathers.is_free i found.0 found.1), none i)
      ];
      lines = λ line free. elim (or_cases (is_free_line room line) (has_line extents line) (sym (given.lines_given line) ∙ free)) [
        | inl was ↦ gathers.follows.left.lines line was
        | inr has ↦ back_line line has
      ];
      apart = λ i version is. absurd (none-some version (sym (none i) ∙ is));
    }

    out' : HasOut (after_copy contents staged' 0) new 0
    out' =
        let count = none_counted staged' (entries_of contents) (λ i lt. ap has_version (none i)) in
        record {
          end_line = given.end_line ∙ gathers.follows.out.end_line;
          end_entry = given.end_entry ∙ gathers.follows.out.end_entry;
          held = omega (arith, count);
        }

    follows' : Follows (after_copy contents staged' 0) [] new []
    follows' = record {
      consistent = copy_consistent contents staged' 0 copy';
      left = left';
      table_is = table-none staged' none;
      apart = copy'.apart;
      out = out';
      listed = tt;
      all = λ i is. absurd (true≢false (sym is ∙ ap is_ended_version (none i)));
    }

    -- the newcomer has none of it then
    pub Gathers-none : Gathers contents' staged' [] new None
    Gathers-none =
        subst (λ (k : Contents). Gathers k staged' [] new None) (sym (Same-is contents contents' same)) (record {
          newcomer = gathers.newcomer;
          empty = gathers.empty;
          of_half = none;
          copy = copy';
          is_free = λ i version is. absurd (none-some version (sym (none i) ∙ is));
          placed = λ i version is. absurd (none-some version (sym (none i) ∙ is));
          follows = follows';
        })
