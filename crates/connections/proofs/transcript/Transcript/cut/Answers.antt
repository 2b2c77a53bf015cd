use Rattle.std.proofs.Common.{◌≡◌, leb, ℕ, rules, sym, ap, ◌∙◌}
use Rattle.std.proofs.lemmas.List.Sorted.{IsPartitionPoint-from_clause, IsPartitionedBy-leb}
use Rattle.connections.specs.Session.{positions_of}
use Rattle.connections.proofs.PositionsLemmas.{IsCount, positions-rise, take-cut, take-positions}
use Rattle.connections.proofs.transcript.Transcript.cut.Goals as goal

pub returns-clause-calls : goal.returns-clause-calls
returns-clause-calls c = λ are.
    let positions = c.deref.result.now in
    let limit = c.args.position in
    let held : positions ≡ positions_of c.args.self.now.calls.items = c.deref.ensures.value ∙ are in
    let parted = IsPartitionedBy-leb (λ (q : ℕ). q) positions limit (positions-rise positions c.args.self.now.calls.items held) in
    let point : IsCount limit positions c.partition_point-count.result =
    IsPartitionPoint-from_clause (λ (q : ℕ). leb q limit) _ _ c.partition_point-count.ensures.partitioned parted (λ a r q k. search rules) in
    c.truncate.ensures.items ∙ take-cut positions c.args.self.now.calls.items limit c.partition_point-count.result held c.partition_point-count.ensures.bound point

pub returns-clause-positions : goal.returns-clause-positions
returns-clause-positions c = λ are.
    c.truncate-2.ensures.items ∙ take-positions c.args.self.now.positions.items c.args.self.now.calls.items c.partition_point-count.result are ∙ ap positions_of (sym c.truncate.ensures.items)
