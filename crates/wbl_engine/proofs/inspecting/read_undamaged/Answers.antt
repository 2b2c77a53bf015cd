use Rattle.std.proofs.Common.{Err, ap}
use Rattle.pmem.specs.Crash.{image_of}
use Rattle.wbl_engine.proofs.ReadingLemmas.{layout_read, no_versions, super_read}
use Rattle.wbl_engine.proofs.inspecting.read_undamaged.Goals as goal

pub returns-in-Ok-clause-undamaged : goal.returns-in-Ok-clause-undamaged
returns-in-Ok-clause-undamaged g c =
    record {
      superblock = super_read c.in_ok-read_super.ensures.ok c.in_ok-read_super.ensures.lines c.in_ok-current.ensures.ok;
      current = c.in_ok-current.ensures.ok;
      versions = c.in-Ok.ensures.whole;
    }

pub returns-in-Ok-clause-layout : goal.returns-in-Ok-clause-layout
returns-in-Ok-clause-layout g c = layout_read c.in_ok-read_super.ensures.ok c.in_ok-current.ensures.ok

pub returns-in-Err-clause-refused : goal.returns-in-Err-clause-refused
returns-in-Err-clause-refused g c =
    no_versions c.args.layout (g.P.Pmem.state c.args.device.now).lines (image_of (g.P.Pmem.state c.args.device.now).words) c.in_ok-current.current
    c.in-Err.refusal
    c.in_ok-current.ensures.ok (λ is. c.in-Err.ensures.damaged (ap Err is)) c.in-Err.ensures.causes
