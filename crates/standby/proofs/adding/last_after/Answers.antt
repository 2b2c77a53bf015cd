use Rattle.std.proofs.Common.{ℕ, List, Some, length, ap, sym, ◌∙◌}
use Rattle.std.proofs.lemmas.Bool.{ltb-true}
use Rattle.kv_types.specs.declared.record_id.RecordId.{RecordId}
use Rattle.standby.specs.Copies.{last_of}
use Rattle.standby.proofs.CopiesLemmas.{last_told-get}
use Rattle.standby.proofs.adding.last_after.Goals as goal

pub returns-in-Some-clause-after : goal.returns-in-Some-clause-after
returns-in-Some-clause-after c =
    let item = c.in-Some.ensures.item in
    ap Some (c.in_ok-clone.ensures.cases ∙ ap (λ (put : RecordId × List ℕ). put.0) item.1)
    ∙ sym (last_told-get (last_of c.args.half.now) c.args.puts.now c.in-Some.put.now (ltb-true 0 (length c.args.puts.now) (sym item.0)))
