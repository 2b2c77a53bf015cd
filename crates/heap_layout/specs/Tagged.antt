-- The order of records by the numbers of their keys (this project's profile).
use Rattle.std.specs.declared.cmp.Ordering.{Ordering}
use Rattle.std.specs.Ordering.{nat_cmp, ordering_then}
use Rattle.kv_types.specs.Keyspace.{record_cmp}
use Rattle.heap_layout.specs.declared.tagged.Tagged.{Tagged}

-- by numbers, and of one number by records
abbrev pub tagged_cmp : Tagged → Tagged → Ordering
tagged_cmp a b = ordering_then (nat_cmp a.tag b.tag) (record_cmp a.id.now b.id.now)
