-- Images that hold a record and a keyspace, and that stand at a position.
use Rattle.std.proofs.Common.{◌≡◌, ℕ, ◌<◌, ◌≤◌, Option, List, ◌++◌, length, sym, subst}
use Rattle.kv_types.specs.Keyspace.{Keyspace, IsKeyspace}
use Rattle.model.specs.declared.call.Call.{Call}
use Rattle.model.specs.declared.record.Record.{Record}
use Rattle.model.specs.Call.{position_of}
use Rattle.model.specs.Layout.{max_gaps}
use Rattle.model.specs.Image.{Image, Version, entries_of_lines, HasSuperblock, HasRecord, version_at, IsMapOf, Holds}
use Rattle.model.specs.Standing.{Holder, StandsAt}
use Rattle.model.proofs.CallsLemmas.{keyspace_after-cut_at-append}
use Rattle.model.proofs.MapLemmas.{IsMapOf-unique, IsMapOf-same}
use Rattle.model.proofs.RecordLemmas.{HasRecord-unique}

-- an image with this record holds the map of the versions that its entries have
pub Holds-versions : (lines : ℕ) (r : Record) (versions : ℕ → Option Version) (s : Keyspace) (image : Image) → HasSuperblock r.layout lines image → HasRecord lines r image
    → ((i : ℕ) → i < entries_of_lines r.layout lines → version_at r image i ≡ versions i) → IsMapOf versions (entries_of_lines r.layout lines) s → Holds lines r s image
Holds-versions lines r versions s image superblock has_record same map =
    record { superblock = superblock; has_record = has_record; map = IsMapOf-same versions (version_at r image) (entries_of_lines r.layout lines) s (λ i lt. sym (same i lt)) map }

-- an image holds one record and one keyspace
pub Holds-record : {lines : ℕ} {a b : Record} {s t : Keyspace} {image : Image} → length a.gaps.items ≤ max_gaps a.layout → Holds lines a s image → Holds lines b t image → a ≡ b
Holds-record {lines} {a} {b} {image = image} few in_a in_b = HasRecord-unique lines image a b few in_a.superblock.version in_b.superblock.version in_a.has_record in_b.has_record

pub Holds-keyspace : {lines : ℕ} {r : Record} {s t : Keyspace} {image : Image} → IsKeyspace s → IsKeyspace t → Holds lines r s image → Holds lines r t image → s ≡ t
Holds-keyspace lawful_s lawful_t in_s in_t = IsMapOf-unique in_s.map in_t.map lawful_s lawful_t

-- ---- standing

-- an image that stands at a position stands there while the list grows
pub StandsAt-append : (holder : Holder) (calls more : List Call) (p : ℕ) (image : Image) → p ≤ position_of calls → StandsAt holder calls p image → StandsAt holder (calls ++ more) p image
StandsAt-append holder calls more p image le stands = record {
  current = stands.current;
  position = stands.position;
  role = stands.role;
  epoch = stands.epoch;
  holds = subst (λ s. Holds holder.lines stands.current s image) (sym (keyspace_after-cut_at-append calls more p le)) stands.holds;
}
