use Rattle.std.proofs.Common.{List, subst}
use Rattle.std.specs.Option.{option_copied}
use Rattle.mv_keyspace.specs.declared.row.Row.{Row}
use Rattle.mv_keyspace.specs.Row.{table_of}
use Rattle.mv_keyspace.specs.Versions.{past_of, table_in}
use Rattle.mv_keyspace.proofs.PagingLemmas.{IsLastOfFull, last-found, live-sorted, page-shown}
use Rattle.mv_keyspace.proofs.versioned.VersionedKeyspace.view_page.Goals as goal

pub overlaid-requires : goal.overlaid-requires
overlaid-requires g c =
    let now = c.args.self.now in
    record {
      order = live-sorted c.args.bytes c.args.pin.now.position (option_copied c.args.after) (g.L.Live.table now.live) (table_of c.in_ok-live.live.items) now.passed.ordered c.in_ok-live.ensures.ok;
    }

pub returns-clause-ok : goal.returns-clause-ok
returns-clause-ok g c =
    let now = c.args.self.now in
    let until = option_copied c.last_of_full-until.result in
    let last = subst (λ (rows : List Row). IsLastOfFull c.args.bytes (table_of rows) until) c.deref.ensures.value (last-found c.args.bytes c.deref.result.now c.last_of_full-until.result c.last_of_full-until.ensures) in
    page-shown c.args.bytes c.args.pin.now.position (option_copied c.args.after) until (g.L.Live.table now.live) (past_of now.past) c.in_ok-live.live.items (table_in c.in_ok-past.past.entries) (table_of c.page_of.result.items)
    (table_of c.in_ok-overlaid.field-0.items) now.passed.ordered c.in_ok-live.ensures.ok last c.in_ok-past.ensures c.in_ok-overlaid.ensures c.page_of.ensures
