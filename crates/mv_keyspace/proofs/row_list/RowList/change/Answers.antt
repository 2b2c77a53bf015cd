use Rattle.std.proofs.Common.{[], ◌∷◌, arith}
use Rattle.mv_keyspace.proofs.ListLemmas.{in_order-placed}
use Rattle.mv_keyspace.proofs.row_list.RowList.change.Goals as goal

pub invariant_of-self : goal.invariant_of-self
invariant_of-self c =
    let staged = c.requires.staged in
    let placed = (c.make_change.ensures.table staged.0 staged.1 staged.2).0 in
    record {
      in_order = in_order-placed staged.0 c.args.self.now.rows.items c.make_change.new.rows.items (c.args.change.now ∷ []) placed c.args.self.now.in_order;
      has_room = omega (arith, c.count_puts.ensures, c.requires.awaited, c.make_change.ensures.fewer, c.make_change.ensures.capacity, c.args.self.now.has_room);
    }
