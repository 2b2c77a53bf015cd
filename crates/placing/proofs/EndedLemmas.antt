-- Entries of versions that have ended, and what comes back to the heap.
use Rattle.std.proofs.Common.{rules, ℕ, ◌<◌, IsTrue, List, [], ◌∷◌, Contains, nat_eq}
use Rattle.std.proofs.lemmas.Map.Keys.{IsDistinct-head, IsDistinct-tail}
use Rattle.std.specs.List.{IsDistinct}
use Rattle.kv_types.specs.declared.place.EntryNo.{EntryNo}
use Rattle.extent_heap.specs.Room.{Room}
use Rattle.model.specs.Group.{AreEnded, Contents, IsConsistent, is_ended_version, is_listed, entries_of}
use Rattle.model.proofs.DirectoryLemmas.{ended-directory}
use Rattle.mv_keyspace.specs.Row.{numbers_of}
use Rattle.placing.specs.Back.{ComesBack, HasOut}
use Rattle.placing.specs.Rebuilt.{AreEndedOf}
use Rattle.placing.proofs.MemberLemmas.{distinct_none, here, later, listed-from_member, unlisted}

-- entries with distinct numbers, of which each holds a version that has ended
pub AreEnded-from_members : (contents : Contents) (entries : List EntryNo) → IsDistinct nat_eq (numbers_of entries)
    → ((i : ℕ) → Contains (numbers_of entries) i → (i < entries_of contents) × IsTrue (is_ended_version (contents.versions i))) → AreEnded contents entries
AreEnded-from_members contents [] once told = tt
AreEnded-from_members contents (entry ∷ entries) once told =
    let first = told entry.0 (here entry.0 (numbers_of entries)) in (
      first.0,
      first.1,
      unlisted entry.0 entries (IsDistinct-head nat_eq entry.0 (numbers_of entries) once),
      AreEnded-from_members contents entries (IsDistinct-tail nat_eq entry.0 (numbers_of entries) once) (λ i m. told i (later entry.0 i (numbers_of entries) m)),
    )

-- the entries that a rebuilding names
module _ (contents : Contents) (ended : List EntryNo) (are : AreEndedOf contents (numbers_of ended)) where
  pub rebuilt_ended : IsConsistent contents → AreEnded contents ended
  rebuilt_ended consistent = AreEnded-from_members contents ended are.once (λ i m. let is = (are.these i).0 m in (ended-directory contents consistent i is, is))

  pub rebuilt_all : (i : ℕ) → IsTrue (is_ended_version (contents.versions i)) → IsTrue (is_listed i ended)
  rebuilt_all i is = listed-from_member i ended ((are.these i).1 is)

-- nothing is to come back
pub nothing-back : (contents : Contents) (room : Room) → HasOut contents room 0 → ComesBack contents room [] []
nothing-back contents room out = search (rules, distinct_none nat_eq, out)
