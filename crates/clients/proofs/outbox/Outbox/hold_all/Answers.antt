use Rattle.std.proofs.Common.{◌≡◌, rules, refl, sym, subst}
use Rattle.pipes.specs.Ring.{taken_at}
use Rattle.clients.specs.Texts.{Holds, HoldsAllButLast}
use Rattle.clients.proofs.HoldsLemmas.{holds-nothing, holds-but-last}
use Rattle.clients.proofs.outbox.Outbox.hold_all.Goals as goal

pub loop-count-init : goal.loop-count-init
loop-count-init c = record {
  pending = refl;
  taken = holds-nothing (taken_at c.args.replies.now) c.args.self.now.gate;
  nothing = λ _. refl;
}

pub returns-in_default-clause-taken : goal.returns-in_default-clause-taken
returns-in_default-clause-taken c =
    let same : taken_at c.take.new.self ≡ taken_at c.loop-count.replies = search rules in
    subst (λ taken. Holds (taken_at c.args.replies.now) taken c.args.self.now.gate c.loop-count.self.gate) (sym same) c.loop-count.invariant.taken

pub returns-in_err-hold-clause-lost : goal.returns-in_err-hold-clause-lost
returns-in_err-hold-clause-lost c =
    let lost : HoldsAllButLast (taken_at c.args.replies.now) (taken_at c.take.new.self) c.args.self.now.gate c.hold.new.self.gate =
    holds-but-last (taken_at c.args.replies.now) (taken_at c.loop-count.replies) (taken_at c.take.new.self) c.args.self.now.gate c.loop-count.self.gate c.hold.new.self.gate c.in-Some.held
    c.loop-count.invariant.taken c.in-Some.ensures.1 c.in_err-hold.ensures.err in
    search rules
