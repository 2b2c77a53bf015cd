use Rattle.std.proofs.Common.{Err, inl, inr, ap}
use Rattle.pmem.specs.Crash.{image_of}
use Rattle.wbl_migrate.proofs.Halfway.{halfway_can_be, not_broken}
use Rattle.wbl_migrate.proofs.Limits.{finishing_exhausts}
use Rattle.wbl_migrate.proofs.Migratable.{finished, finishing, stays}
use Rattle.wbl_migrate.proofs.migrating.finish.Goals as goal

pub returns-in-Ok-go_on-clause-ok : goal.returns-in-Ok-go_on-clause-ok
returns-in-Ok-go_on-clause-ok g c r s =
    finished (g.P.Pmem.state c.args.device) (g.P.Pmem.state c.go_on.new.device) r c.in-Ok.current s c.requires.settled c.in-Ok.ensures.ok
    (c.in-Ok-go_on.ensures.ok s)

pub returns-in-Ok-go_on-clause-moments : goal.returns-in-Ok-go_on-clause-moments
returns-in-Ok-go_on-clause-moments g c r s =
    finishing (g.P.Pmem.state c.args.device) (g.P.Pmem.state c.go_on.new.device) r c.in-Ok.current s c.requires.settled c.in-Ok.ensures.ok
    (c.go_on.ensures.moments s)

pub returns-in-Err-go_on-clause-moments : goal.returns-in-Err-go_on-clause-moments
returns-in-Err-go_on-clause-moments g c r s =
    finishing (g.P.Pmem.state c.args.device) (g.P.Pmem.state c.go_on.new.device) r c.in-Ok.current s c.requires.settled c.in-Ok.ensures.ok
    (c.go_on.ensures.moments s)

pub returns-in-Err-go_on-clause-exhausted : goal.returns-in-Err-go_on-clause-exhausted
returns-in-Err-go_on-clause-exhausted g c is r s halfway =
    let told = c.in-Err-go_on.ensures.exhausted (ap Err is) in
    finishing_exhausts (g.P.Pmem.state c.args.device) (g.P.Pmem.state c.go_on.new.device) r c.in-Ok.current s c.in-Ok.ensures.ok halfway told.0

pub returns-in-Ok-go_on-clause-broken : goal.returns-in-Ok-go_on-clause-broken
returns-in-Ok-go_on-clause-broken g c none =
    let d = g.P.Pmem.state c.args.device in
    not_broken d.lines c.in-Ok.current (image_of d.words) c.requires.stage c.in-Ok.ensures.ok none

pub returns-in-Err-go_on-clause-broken : goal.returns-in-Err-go_on-clause-broken
returns-in-Err-go_on-clause-broken g c none =
    let d = g.P.Pmem.state c.args.device in
    not_broken d.lines c.in-Ok.current (image_of d.words) c.requires.stage c.in-Ok.ensures.ok none

pub returns-in-Err-clause-broken : goal.returns-in-Err-clause-broken
returns-in-Err-clause-broken g c none =
    elim c.in-Err.ensures.causes [
      | inl damaged ↦ inl (ap (λ refusal. Err (refusal, c.args.device)) damaged)
      | inr memory ↦ inr (ap (λ refusal. Err (refusal, c.args.device)) memory)
    ]

pub returns-in-Err-clause-moments : goal.returns-in-Err-clause-moments
returns-in-Err-clause-moments g c r s halfway =
    let d = g.P.Pmem.state c.args.device in
    stays d d.lines r s c.requires.settled (inr (inl halfway))

pub returns-in-Ok-go_on-clause-only : goal.returns-in-Ok-go_on-clause-only
returns-in-Ok-go_on-clause-only g c =
    let d = g.P.Pmem.state c.args.device in
    halfway_can_be d.lines c.in-Ok.current (image_of d.words) c.requires.stage c.in-Ok.ensures.ok
