-- What a sequencer expects to come back to its heap stays so, whatever calls do.
use Rattle.std.proofs.Common.{rules, ◌≡◌, ℕ, Bool, IsTrue, List, [], ◌∷◌, ◌++◌, Option, nat_eq, refl, sym, subst, subst₂}
use Rattle.kv_types.specs.declared.change.Change.{Change}
use Rattle.kv_types.specs.declared.place.EntryNo.{EntryNo}
use Rattle.kv_types.specs.declared.place.Extent.{Extent}
use Rattle.extent_heap.specs.Room.{Room}
use Rattle.model.specs.declared.group.Part.{Part}
use Rattle.model.specs.declared.record.Record.{Record}
use Rattle.model.specs.Group.{Contents, Versions, puts_of_part}
use Rattle.mv_keyspace.specs.Table.{Table}
use Rattle.multi_watch.specs.Sessions.{Sessions}
use Rattle.placing.specs.Back.{ComesBack, HasOut}
use Rattle.placing.specs.Place.{TakesPlaces}
use Rattle.placing.proofs.BackLemmas.{comes-back-part}
use Rattle.placing.proofs.FreedPlaces.{comes-back-same}
use Rattle.placing.proofs.LeftLemmas.{after_parts, left-after_parts}
use Rattle.placing.proofs.MemberLemmas.{distinct_none}
use Rattle.redis_core.specs.Copying.{CopyOf}
use Rattle.redis_core.specs.Sequencing.{Sequencing, Expects, IsAheadOf, MovesCopy, contents_ahead, starts}
use Rattle.redis_core.specs.Turn.{Moves}

-- ---- contents that differ in nothing that counts

-- of the record of the contents only the layout matters, and what is free may be more
pub comes_back-like : (lines : ℕ) (versions : Versions) (current current' : Record) (is_free is_free' : ℕ → Bool) → current'.layout ≡ current.layout
    → ((i : ℕ) → IsTrue (is_free i) → IsTrue (is_free' i))
    → (room : Room) (entries : List EntryNo) (extents : List Extent)
    → ComesBack (record { current = current; lines = lines; versions = versions; is_free = is_free }) room entries extents
    → ComesBack (record { current = current'; lines = lines; versions = versions; is_free = is_free' }) room entries extents
comes_back-like lines versions current current' is_free is_free' layout more room entries extents back =
    let old : Contents = record { current = current; lines = lines; versions = versions; is_free = is_free } in
    let new : Contents = record { current = current'; lines = lines; versions = versions; is_free = is_free' } in
    comes-back-same old new room layout refl (λ i. refl) entries extents more back

-- ---- a new sequencer

-- it expects nothing
pub Expects-starts : (table : Table) (room : Room) (ended : List EntryNo) (position epoch : ℕ) (sessions : Sessions) (contents : Contents) → HasOut contents room 0
    → Expects (starts table room ended position epoch sessions) contents [] []
Expects-starts table room ended position epoch sessions contents out = search (rules, distinct_none nat_eq)

-- ---- one more part waits

module _ (s : Sequencing) (contents : Contents) (part : Part) (room : Room) (entries : List EntryNo) (extents : List Extent) where
  expects_part : IsAheadOf s contents → TakesPlaces s.room (puts_of_part part) room → Expects s contents entries extents → ComesBack (contents_ahead contents (s.waiting ++ part ∷ [])) room entries extents
  expects_part stands takes expects =
      let ahead = contents_ahead contents s.waiting in
      let before = after_parts 0 contents s.waiting in
      let after = after_parts 0 contents (s.waiting ++ part ∷ []) in
      comes_back-like contents.lines after.versions after.current contents.current after.is_free after.is_free refl (λ i free. free) room entries extents
      (comes-back-part 0 0 contents s.waiting part s.room room entries extents takes (λ i free. ((left-after_parts 0 contents s.room s.waiting stands.left stands.taken).entries i free).2)
      (comes_back-like contents.lines before.versions contents.current before.current before.is_free before.is_free refl (λ i free. free) s.room entries extents expects))

-- ---- calls

-- whatever a call moved, as much is expected
pub Expects-moves : (changes : List Change) (old new : Sequencing) → Moves changes old new → (contents : Contents) (entries : List EntryNo) (extents : List Extent) → IsAheadOf old contents
    → Expects old contents entries extents → Expects new contents entries extents
Expects-moves [] old new moves contents entries extents stands expects =
    subst₂ (λ waiting room. ComesBack (contents_ahead contents waiting) room entries extents) (sym moves.waiting) (sym moves.room) expects
Expects-moves (change ∷ changes) old new moves contents entries extents stands expects =
    let adds = moves.1 in
    subst₂ (λ waiting room. ComesBack (contents_ahead contents waiting) room entries extents) (sym adds.waiting) refl
    (expects_part old contents moves.0 new.room entries extents stands adds.performs.places expects)

-- whatever copy there is, too
pub Expects-copied : (old : Sequencing) (copy : Option CopyOf) (new : Sequencing) → MovesCopy old copy new → (contents : Contents) (entries : List EntryNo) (extents : List Extent)
    → Expects old contents entries extents → Expects new contents entries extents
Expects-copied old copy new moves contents entries extents expects = subst (λ (s : Sequencing). Expects s contents entries extents) (sym moves) expects
