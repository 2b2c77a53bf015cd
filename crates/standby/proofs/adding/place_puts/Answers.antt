use Rattle.std.proofs.Common.{◌≡◌, ◌++◌, ℕ, List, map, length, sym, ap, ap₂, subst, ◌∙◌, arith}
use Rattle.model.specs.declared.group.PlacedChange.{PlacedChange}
use Rattle.model.specs.declared.group.Put.{Put}
use Rattle.model.specs.Group.{change_of}
use Rattle.mv_keyspace.specs.Table.{place_all, puts_of}
use Rattle.standby.specs.Copies.{changes_told}
use Rattle.standby.specs.Gathering.{PlacesPuts}
use Rattle.standby.proofs.CopiesLemmas.{all_puts, as_many}
use Rattle.standby.proofs.adding.place_puts.Goals as goal

pub perform-requires : goal.perform-requires
perform-requires g c = c.requires

pub move_puts-requires : goal.move_puts-requires
move_puts-requires g c =
    let ok = c.in_ok-perform.ensures.ok in
    let told : map change_of ok.places.placed ≡ changes_told c.args.puts.items = ok.places.changes_are ∙ c.in_ok-changes.ensures in
    let all = ok.places.after_is ∙ ap (λ (before : List PlacedChange). before ++ ok.places.placed) c.empty_part-part.ensures.changes in
    let many = ap (λ (cs : List PlacedChange). length cs) all in
    let count = as_many ok.places.placed c.args.puts.items told in
    omega (arith, many, count, c.in_ok-placed.ensures.len, c.in_ok-placed.ensures.capacity, c.len.ensures, c.args.puts.ok.0)

pub returns-clause-ok : goal.returns-clause-ok
returns-clause-ok g c =
    let ok = c.in_ok-perform.ensures.ok in
    let told : map change_of ok.places.placed ≡ changes_told c.args.puts.items = ok.places.changes_are ∙ c.in_ok-changes.ensures in
    let both = all_puts ok.places.placed c.args.puts.items told in
    let puts_are : c.move_puts.new.placed.items ≡ puts_of ok.places.placed =
    c.move_puts.ensures
    ∙ ap₂ (λ (before : List Put) (changes : List PlacedChange). before ++ puts_of changes) c.in_ok-placed.ensures.items
    (ok.places.after_is ∙ ap (λ (before : List PlacedChange). before ++ ok.places.placed) c.empty_part-part.ensures.changes) in
    subst (λ (puts : List Put). PlacesPuts (g.K.Keyspace.table c.args.keyspace.now) c.args.heap.now c.args.position c.args.puts.items puts (g.K.Keyspace.table c.perform.new.keyspace) c.perform.new.heap)
    (sym puts_are)
    (record {
      these = both.1;
      places = ok.places.places;
      after_is = ok.table_is ∙ ap₂ (λ (position : ℕ) (changes : List PlacedChange). place_all position (g.K.Keyspace.table c.args.keyspace.now) changes) c.empty_part-part.ensures.position both.0;
    })
