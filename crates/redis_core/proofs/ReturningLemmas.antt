-- Where places come back to the heap, the sequencer stays ahead of the contents.
use Rattle.std.proofs.Common.{rules, ◌≡◌, ℕ, ◌+◌, ◌<◌, ◌≤◌, Bool, true, false, not, ◌&&◌, ◌||◌, IsTrue, List, ◌++◌, Option, None, Some, refl, sym, ap₂, subst, ◌∙◌}
use Rattle.std.proofs.lemmas.Bool.{false_from_ne_true, or_left}
use Rattle.kv_types.specs.declared.place.EntryNo.{EntryNo}
use Rattle.kv_types.specs.declared.place.Extent.{Extent}
use Rattle.extent_heap.specs.Room.{Room, is_free_entry, is_free_line}
use Rattle.extent_heap.specs.Runs.{has_line}
use Rattle.extent_heap.proofs.RunsLemmas.{has_line-append}
use Rattle.model.specs.declared.group.Put.{Put}
use Rattle.model.specs.Image.{Version}
use Rattle.model.specs.Group.{Contents, Versions, is_listed, is_put_at, parts_versions, version_of_put}
use Rattle.placing.specs.Back.{CanGiveAll, GivesAll}
use Rattle.placing.specs.Left.{HasNoFreeLine, IsLeftOf, IsTaken}
use Rattle.placing.specs.Rebuilt.{IsLineOfVersion}
use Rattle.placing.proofs.BackLemmas.{can-give, listed-append, rest-comes-back}
use Rattle.placing.proofs.LeftLemmas.{left-after_parts}
use Rattle.placing.proofs.TakenLemmas.{All-both}
use Rattle.redis_core.specs.Sequencing.{Sequencing, Expects, IsAheadOf, TakesBack, contents_ahead, puts_of_parts}
use Rattle.redis_core.specs.Stored.{IsBesideWith}
use Rattle.redis_core.proofs.BegunLemmas.{IsBegunIn, IsStill, begun-parts, still-parts, still-same}
use Rattle.redis_core.proofs.ListedLemmas.{none_at_begun}

or_elim : (a b : Bool) (P : Type 0) → IsTrue (a || b) → (IsTrue a → P) → (IsTrue b → P) → P
or_elim true b P t left right = left refl
or_elim false b P t left right = right t

both_true : (a b : Bool) → IsTrue (a && not b) → IsTrue a × (b ≡ false)
both_true true true e = cc
both_true true false e = (refl, refl)
both_true false b e = cc

-- a version that is still there has the lines that it had
line_still : (versions : Versions) (i : ℕ) (old : Version) (line : ℕ) → IsStill old (versions i) → old.first_line ≤ line → line < old.first_line + old.lines → IsLineOfVersion versions line
line_still versions i old line still low high = record {
  i = i;
  version = still.version;
  begun = still.is;
  from = subst (λ first. first ≤ line) (sym still.first_line) low;
  before = subst (λ lines. line < still.version.first_line + lines) (sym still.lines) (subst (λ first. line < first + old.lines) (sym still.first_line) high);
}

not_none : (old : Version) (now : Option Version) → IsStill old now → now ≡ None → ⊥
not_none old now still none = let some = still.is in cc

module _ (old : Sequencing) (contents : Contents) (entries rest : List EntryNo) (extents others : List Extent) (stands : IsAheadOf old contents)
    (expects : Expects old contents (entries ++ rest) (extents ++ others)) where
  abbrev ahead : Contents
  ahead = contents_ahead contents old.waiting

  pub can-take_back : CanGiveAll old.room entries extents
  can-take_back = can-give ahead old.room entries rest extents others expects

  listed_first : (i : ℕ) → IsTrue (is_listed i entries) → IsTrue (is_listed i (entries ++ rest))
  listed_first i listed = listed-append i entries rest ∙ or_left (is_listed i entries) (is_listed i rest) listed

  line_first : (line : ℕ) → IsTrue (has_line extents line) → IsTrue (has_line (extents ++ others) line)
  line_first line has = has_line-append extents others line ∙ or_left (has_line extents line) (has_line others line) has

  -- the table is still beside the heap with what comes back
  pub beside-back : IsBesideWith old.table old.room entries
  beside-back = record {
    versions = parts_versions contents.versions old.waiting;
    table_is = stands.table;
    empty = λ i free.
        or_elim (is_free_entry old.room i) (is_listed i entries) _ free
        (λ was. ((left-after_parts 0 contents old.room old.waiting stands.left stands.taken).entries i was).2)
        (λ listed. (expects.entries_back i (listed_first i listed)).none);
  }

  -- a line of a version that is there after the parts that wait is none of what comes back
  no_line : (i : ℕ) (version : Version) (line : ℕ) → IsStill version (parts_versions contents.versions old.waiting i) → version.first_line ≤ line → line < version.first_line + version.lines
      → has_line extents line ≡ false
  no_line i version line still low high =
      false_from_ne_true (has_line extents line) (λ has. (expects.lines_back line (line_first line has)).none (line_still (parts_versions contents.versions old.waiting) i version line still low high))

  module _ (room : Room) (gives : GivesAll old.room entries extents room) where
    still_none : (i : ℕ) (version : Version) → IsStill version (parts_versions contents.versions old.waiting i) → HasNoFreeLine old.room version.first_line version.lines
        → HasNoFreeLine room version.first_line version.lines
    still_none i version still none = record {
      some = none.some;
      none = λ line low high. gives.lines_given line ∙ ap₂ (λ (a b : Bool). a || b) (none.none line low high) (no_line i version line still low high);
    }

    still_taken : (put : Put) → IsTaken old.room put → IsBegunIn (parts_versions contents.versions old.waiting) put → IsTaken room put
    still_taken put taken begun = record {
      entry =
          gives.entries_given put.entry.0
          ∙ ap₂ (λ (a b : Bool). a || b) taken.entry
          (false_from_ne_true (is_listed put.entry.0 entries) (λ listed. not_none _ _ begun (expects.entries_back put.entry.0 (listed_first put.entry.0 listed)).none));
      lines = still_none put.entry.0 (version_of_put 0 put) begun taken.lines;
    }

    -- an entry that comes back is free in the contents, and has no version in them
    free_before : (i : ℕ) → IsTrue (is_listed i entries) → IsTrue (contents.is_free i) × (contents.versions i ≡ None)
    free_before i listed =
        let back = expects.entries_back i (listed_first i listed) in
        let free = both_true (contents.is_free i) (is_put_at i (puts_of_parts old.waiting)) back.is_free in
        (free.0, by (contents.versions i) refl free.1 back.none)
      where
        by : (now : Option Version) → contents.versions i ≡ now → is_put_at i (puts_of_parts old.waiting) ≡ false → parts_versions contents.versions old.waiting i ≡ None → now ≡ None
        by None e beside none = refl
        by (Some version) e beside none = absurd (not_none version _ (still-parts contents.versions old.waiting i version (still-same version (contents.versions i) e) beside) none)

    left_back : IsLeftOf contents room
    left_back = record {
      entries = λ i free.
          or_elim (is_free_entry old.room i) (is_listed i entries) _ (sym (gives.entries_given i) ∙ free) (stands.left.entries i)
          (λ listed. let before = free_before i listed in ((expects.entries_back i (listed_first i listed)).within, before.0, before.1));
      lines = λ line free.
          or_elim (is_free_line old.room line) (has_line extents line) _ (sym (gives.lines_given line) ∙ free) (stands.left.lines line)
          (λ has. let back = expects.lines_back line (line_first line has) in (back.above, back.within));
      apart = λ i version begun.
          still_none i version
          (still-parts contents.versions old.waiting i version (still-same version (contents.versions i) begun) (none_at_begun contents.versions (puts_of_parts old.waiting) i version stands.empty begun))
          (stands.left.apart i version begun);
    }

    back_in_room : IsAheadOf (record old { room = room }) contents
    back_in_room =
        search (
          rules,
          left_back,
          All-both (IsTaken old.room) (IsBegunIn (parts_versions contents.versions old.waiting)) (IsTaken room) still_taken (puts_of_parts old.waiting) stands.taken
              (begun-parts contents.versions old.waiting stands.apart),
        )

    expects_rest : Expects (record old { room = room }) contents rest others
    expects_rest = rest-comes-back ahead old.room entries rest extents others expects room gives

  pub IsAheadOf-back : (new : Sequencing) → TakesBack old entries extents new → IsAheadOf new contents × Expects new contents rest others
  IsAheadOf-back new takes = (
    subst (λ s. IsAheadOf s contents) (sym takes.after) (back_in_room new.room takes.room),
    subst (λ s. Expects s contents rest others) (sym takes.after) (expects_rest new.room takes.room),
  )
