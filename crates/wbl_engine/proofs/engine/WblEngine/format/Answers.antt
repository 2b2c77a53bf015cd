use Rattle.std.proofs.Common.{inl}
use Rattle.pmem.proofs.Leaving.{none_leaves}
use Rattle.wbl_engine.specs.Formatting.{IsFormatting}
use Rattle.wbl_engine.proofs.Erased.{rest_keeps}
use Rattle.wbl_engine.proofs.engine.WblEngine.format.Goals as goal

pub returns-then-lines-lt-MIN_LINES-clause-moments : goal.returns-then-lines-lt-MIN_LINES-clause-moments
returns-then-lines-lt-MIN_LINES-clause-moments g c =
    let d = g.P.Pmem.state c.args.device in
    none_leaves d (IsFormatting d.words d.lines c.args.role c.args.epoch) (λ image is. inl is)

pub returns-in-Ok-clause-durable : goal.returns-in-Ok-clause-durable
returns-in-Ok-clause-durable g c =
    rest_keeps c.first_record-current.result (g.P.Pmem.state c.format_device.new.device) c.in-Ok.ensures.rest
