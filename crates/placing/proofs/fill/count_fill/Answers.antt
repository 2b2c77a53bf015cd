use Rattle.std.proofs.Common.{length, ap, ◌∙◌}
use Rattle.kv_types.specs.Keyspace.{Keyspace}
use Rattle.cmd_core.specs.Contents.{keys_of}
use Rattle.placing.proofs.fill.count_fill.Goals as goal

pub returns : goal.returns
returns g c =
    let keys = c.count_keys.ensures.value ∙ ap (λ (s : Keyspace). length (keys_of s)) (g.met.K.Keyspace.reads c.args.keyspace.now) in
    let entries = c.free_entries.ensures in
    let lines = c.free_lines.ensures in
    cc
