-- Where a group leaves, the sequencer leads on: it expects what it expected, and has listed entries of ended versions alone.
use Rattle.std.proofs.Common.{◌≡◌, ℕ, ◌<◌, Bool, true, false, ◌&&◌, IsTrue, List, [], ◌∷◌, ◌++◌, refl, sym, subst, append_assoc}
use Rattle.kv_types.specs.declared.place.EntryNo.{EntryNo}
use Rattle.kv_types.specs.declared.place.Extent.{Extent}
use Rattle.model.specs.declared.group.Group.{Group}
use Rattle.model.specs.declared.record.Record.{Record}
use Rattle.model.specs.Group.{AreEnded, Contents, IsConsistent, after_group, parts_versions}
use Rattle.model.proofs.DirectoryLemmas.{entries_same}
use Rattle.placing.proofs.LeftLemmas.{after_parts}
use Rattle.redis_core.specs.Sequencing.{Sequencing, Expects, HandsOut, IsAheadOf, LeadsOn, contents_ahead, ended_by_parts, newest_end}
use Rattle.redis_core.proofs.ExpectingLemmas.{comes_back-like}
use Rattle.redis_core.proofs.ListedLemmas.{ended-parts}
use Rattle.redis_core.proofs.StandingLemmas.{IsAheadOf-group}

-- ---- contents that differ in nothing that counts

ended_like : (contents : Contents) (current : Record) (is_free : ℕ → Bool) → current.layout ≡ contents.current.layout → (entries : List EntryNo) → AreEnded contents entries
    → AreEnded (record contents { current = current; is_free = is_free }) entries
ended_like contents current is_free layout [] ended = tt
ended_like contents current is_free layout (entry ∷ entries) ended = (
  subst (λ n. entry.0 < n) (sym (entries_same contents (record contents { current = current; is_free = is_free }) layout refl)) ended.0,
  ended.1,
  ended.2,
  ended_like contents current is_free layout entries ended.3,
)

-- ---- a group leaves

also : (b : Bool) → IsTrue b → IsTrue (b && true)
also true t = t
also false t = t

module _ (old : Sequencing) (group : Group) (new : Sequencing) (hands : HandsOut old group new) where
  abbrev later : Sequencing
  later = record old { before = old.position; waiting = []; ended = old.ended ++ ended_by_parts old.waiting; newest = newest_end old.newest old.waiting }

  expects_on : (contents : Contents) (entries : List EntryNo) (extents : List Extent) → Expects old contents entries extents → Expects new (after_group contents group) entries extents
  expects_on contents entries extents expects =
      let after = after_parts group.epoch contents old.waiting in
      let ahead = contents_ahead contents old.waiting in
      subst (λ s. Expects s (after_group contents group) entries extents) (sym hands.after)
      (subst (λ items. Expects later (after_parts group.epoch contents items) entries extents) (sym hands.all)
      (comes_back-like contents.lines ahead.versions ahead.current after.current ahead.is_free (λ i. ahead.is_free i && true) refl (λ i free. also (ahead.is_free i) free) old.room entries extents expects))

  lists_on : (contents : Contents) (listed : List EntryNo) → IsAheadOf old contents → IsConsistent contents → AreEnded contents (listed ++ old.ended) → AreEnded (after_group contents group) (listed ++ new.ended)
  lists_on contents listed stands consistent ended =
      let after = after_parts group.epoch contents old.waiting in
      let all = ended-parts old.before contents old.waiting consistent.beyond stands.parts stands.once stands.placed stands.empty stands.apart (listed ++ old.ended) ended in
      subst (λ (s : Sequencing). AreEnded (after_group contents group) (listed ++ s.ended)) (sym hands.after)
      (subst (λ items. AreEnded (after_parts group.epoch contents items) (listed ++ later.ended)) (sym hands.all)
      (ended_like (record contents { versions = parts_versions contents.versions old.waiting }) after.current after.is_free refl (listed ++ later.ended)
      (subst (AreEnded (record contents { versions = parts_versions contents.versions old.waiting })) (append_assoc listed old.ended (ended_by_parts old.waiting)) all)))

  pub LeadsOn-group : LeadsOn old group new
  LeadsOn-group = record {
    stands = IsAheadOf-group old group new hands;
    expects = λ contents entries extents stands. expects_on contents entries extents;
    lists = lists_on;
  }
