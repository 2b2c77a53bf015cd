-- The entries that parts end are in the directory.
use Rattle.std.proofs.Common.{ℕ, ◌+◌, ◌<◌, ◌||◌, IsTrue, List, [], ◌∷◌, inl, inr, refl, arith}
use Rattle.std.specs.List.{AllByRecursion}
use Rattle.kv_types.specs.declared.place.EntryNo.{EntryNo}
use Rattle.pmem.specs.Device.{State}
use Rattle.model.specs.declared.record.Record.{Record}
use Rattle.model.specs.declared.group.Part.{Part}
use Rattle.model.specs.Group.{Versions, is_put_at, is_live_version, part_versions}
use Rattle.model.proofs.LayoutLemmas.{entries_fit}
use Rattle.wbl_engine.specs.AtRest.{contents_of, IsAtRest}
use Rattle.wbl_engine.specs.Committing.{AreCommittable, AreNamed}
use Rattle.wbl_engine.specs.Stage.{puts_of_parts, AreEndsWithin}
use Rattle.wbl_engine.proofs.PartWords.{named-contains}
use Rattle.wbl_engine.proofs.PutPairs.{IsNamed}
use Rattle.wbl_engine.proofs.Staged.{live_within}
use Rattle.wbl_engine.proofs.StoredBy.{live_then, live_prefix}

each_named : (P : ℕ → Type 0) (ended : List EntryNo) → ((i : ℕ) → IsNamed i ended → P i) → AllByRecursion (λ (entry : EntryNo). P entry.0) ended
each_named P [] each = tt
each_named P (entry ∷ ended) each = (each entry.0 (inl refl), each_named P ended (λ i named. each i (inr named)))

-- what holds of each live entry and of each put holds of all that is ended
each_ended : (P : ℕ → Type 0) (parts : List Part) (versions : Versions)
    → ((i : ℕ) → IsTrue (is_live_version (versions i) || is_put_at i (puts_of_parts parts)) → P i) → AreNamed versions parts
    → AllByRecursion (λ (part : Part). AllByRecursion (λ (entry : EntryNo). P entry.0) part.ended.items) parts
each_ended P [] versions each follow = tt
each_ended P (part ∷ parts) versions each follow = (
  each_named P part.ended.items
      (λ i named.
      each i (live_prefix versions part (puts_of_parts parts) i ((follow.0 i).0 (named-contains i part.ended.items named)).0)),
  each_ended P parts (part_versions versions part)
      (λ i live. each i (live_then versions part (puts_of_parts parts) i live)) follow.1,
)

pub ends_within : (r : Record) (d : State) (parts : List Part) (position : ℕ) → IsAtRest r d → AreCommittable (contents_of r d) parts position
    → AreEndsWithin d.lines parts
ends_within r d parts position rest asked =
    each_ended (λ i. 8 + i < d.lines) parts (contents_of r d).versions
    (λ i live. omega (arith, live_within r d parts asked.placed i live, rest.many, entries_fit r.layout d.lines)) asked.names
