use Rattle.std.proofs.Common.{Err, inl, ap}
use Rattle.kv_types.specs.declared.refusal.Refusal.TheVariants.{Exhausted, Full}
use Rattle.pmem.specs.Crash.{image_of}
use Rattle.wbl_migrate.proofs.Limits.{switching_exhausts, told_cause, vacating_exhausts}
use Rattle.wbl_migrate.proofs.Migratable.{told_damaged, upgraded, upgrading, vacating}
use Rattle.wbl_migrate.proofs.migrating.upgrade.Goals as goal

pub returns-in-Ok-switch-clause-ok : goal.returns-in-Ok-switch-clause-ok
returns-in-Ok-switch-clause-ok g c r s old =
    let vacated = c.in-Ok-vacate.ensures in
    upgraded (g.P.Pmem.state c.args.device) (g.P.Pmem.state c.in-Ok-vacate.device) (g.P.Pmem.state c.switch.new.device) r c.in-Ok-vacate.current s
    old.layout vacated.line_count (vacated.goes_on r s old) (vacated.ok r s old) (c.in-Ok-switch.ensures.ok s)

pub returns-in-Ok-switch-clause-moments : goal.returns-in-Ok-switch-clause-moments
returns-in-Ok-switch-clause-moments g c r s old =
    let vacated = c.in-Ok-vacate.ensures in
    upgrading (g.P.Pmem.state c.args.device) (g.P.Pmem.state c.in-Ok-vacate.device) (g.P.Pmem.state c.switch.new.device) r c.in-Ok-vacate.current s
    vacated.line_count (vacated.goes_on r s old) (vacated.ok r s old) (vacated.moments r s old) (c.switch.ensures.unmarked s)

pub returns-in-Err-switch-clause-moments : goal.returns-in-Err-switch-clause-moments
returns-in-Err-switch-clause-moments g c r s old =
    let vacated = c.in-Ok-vacate.ensures in
    upgrading (g.P.Pmem.state c.args.device) (g.P.Pmem.state c.in-Ok-vacate.device) (g.P.Pmem.state c.switch.new.device) r c.in-Ok-vacate.current s
    vacated.line_count (vacated.goes_on r s old) (vacated.ok r s old) (vacated.moments r s old) (c.switch.ensures.unmarked s)

pub returns-in-Err-vacate-clause-damaged : goal.returns-in-Err-vacate-clause-damaged
returns-in-Err-vacate-clause-damaged g c =
    told_damaged c.requires.whole c.in-Ok.ensures.ok (record { wrong = c.of_its_role.ensures.wrong; other = c.of_its_role.ensures.other })
    c.in-Err-vacate.ensures.causes

pub returns-in-Err-vacate-clause-moments : goal.returns-in-Err-vacate-clause-moments
returns-in-Err-vacate-clause-moments g c r s old =
    let a = g.P.Pmem.state c.args.device in
    vacating a (g.P.Pmem.state c.in-Err-vacate.device) a.lines r s (c.in-Err-vacate.ensures.moments r s old)

pub returns-in-Err-vacate-clause-full : goal.returns-in-Err-vacate-clause-full
returns-in-Err-vacate-clause-full g c is =
    c.in-Err-vacate.ensures.full
    (told_cause Full (λ e. cc) (record { wrong = c.of_its_role.ensures.wrong; other = c.of_its_role.ensures.other }) is)

pub returns-in-Err-vacate-clause-exhausted : goal.returns-in-Err-vacate-clause-exhausted
returns-in-Err-vacate-clause-exhausted g c is r s old =
    let a = g.P.Pmem.state c.args.device in
    let cause = told_cause Exhausted (λ e. cc) (record { wrong = c.of_its_role.ensures.wrong; other = c.of_its_role.ensures.other }) is in
    vacating_exhausts a.lines (image_of a.words) c.in-Ok.current r s (g.P.Pmem.state c.in-Err-vacate.device) c.requires.whole old
    (c.in-Err-vacate.ensures.exhausted cause r s old)

pub returns-in-Err-switch-clause-exhausted : goal.returns-in-Err-switch-clause-exhausted
returns-in-Err-switch-clause-exhausted g c is r s old =
    let vacated = c.in-Ok-vacate.ensures in
    switching_exhausts (g.P.Pmem.state c.args.device).lines r c.in-Ok-vacate.current s (g.P.Pmem.state c.in-Ok-vacate.device) (g.P.Pmem.state c.switch.new.device)
    (vacated.goes_on r s old) (vacated.ok r s old) (c.in-Err-switch.ensures.exhausted (ap Err is))

pub returns-in-Ok-switch-clause-only : goal.returns-in-Ok-switch-clause-only
returns-in-Ok-switch-clause-only g c =
    let old = c.in-Ok-vacate.ensures.only in
    record { current = old.0; keyspace = old.1; is = inl old.2 }
