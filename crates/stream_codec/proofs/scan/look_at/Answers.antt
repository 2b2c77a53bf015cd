use Rattle.std.proofs.Common.{arith}
use Rattle.stream_codec.proofs.Skipping.{look_whole, look_begun, look_broken}
use Rattle.stream_codec.proofs.scan.look_at.Goals as goal

pub returns-in-Whole : goal.returns-in-Whole
returns-in-Whole c = look_whole c.args.bytes.now c.args.progress c.split_at.result.1.now c.in-Whole.rest.now c.requires c.split_at.ensures.back c.in-Whole.ensures

pub returns-in-Begun : goal.returns-in-Begun
returns-in-Begun c =
    let h = c.in-Begun.ensures in
    look_begun c.args.bytes.now c.args.progress c.split_at.result.1.now c.in-Begun.next c.in-Begun.rest.now c.saturating_add.result c.missing_of.result c.requires c.split_at.ensures.back h.0 h.1 h.3 c.missing_of.ensures (omega (arith, c.saturating_add.ensures))

pub returns-in-Broken : goal.returns-in-Broken
returns-in-Broken c = look_broken c.args.bytes.now c.args.progress c.split_at.result.1.now c.requires c.split_at.ensures.back c.in-Broken.ensures
