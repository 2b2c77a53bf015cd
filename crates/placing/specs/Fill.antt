-- How much a node holds, and how much it has room for.
use Rattle.std.specs.Prelude.{length}
use Rattle.cmd_core.specs.Contents.{keys_of}
use Rattle.extent_heap.specs.Entries.{count_free}
use Rattle.extent_heap.specs.Room.{Room, free_lines_below}
use Rattle.mv_keyspace.specs.Table.{Table, records}
use Rattle.placing.specs.declared.fill.Fill.{Fill}

-- the keys of the table, and what of the heap is free
abbrev pub fill_of : Table → Room → Fill
fill_of table room = record {
  keys = length (keys_of (records table));
  free_entries = count_free room.entries;
  free_lines = free_lines_below room room.end_line;
}
