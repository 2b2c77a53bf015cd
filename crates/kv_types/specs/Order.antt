-- The order of records is a total order, in which only equal records tie.
use Rattle.std.specs.Cmp.{IsTotalOrder, then_total, on_total}
use Rattle.std.specs.Cmp.Lexicographic.{nat_list_cmp_total, options_total}
use Rattle.kv_types.specs.Keyspace.{key_of, field_of, record_cmp}

pub record_cmp_total : IsTotalOrder record_cmp
record_cmp_total = then_total (on_total key_of nat_list_cmp_total) (on_total field_of (options_total nat_list_cmp_total))
