use Rattle.std.proofs.Common.{sym, subst}
use Rattle.clients.specs.declared.reply_side.ReplySide.{ReplySide}
use Rattle.clients.specs.ReplySide.{IsVisited}
use Rattle.clients.proofs.driven.DrivenConnection.write.Goals as goal

pub returns-in-Fails-clause-replies : goal.returns-in-Fails-clause-replies
returns-in-Fails-clause-replies g c =
    subst (λ (side : ReplySide). IsVisited c.args.seen.now c.args.self.now.replies side) (sym c.cut_off.ensures.replies) (record { said = c.go_on.result; goes_on = c.go_on.ensures.goes_on })

pub returns-in-Ends-clause-replies : goal.returns-in-Ends-clause-replies
returns-in-Ends-clause-replies g c =
    subst (λ (side : ReplySide). IsVisited c.args.seen.now c.args.self.now.replies side) (sym c.end.ensures.replies) (record { said = c.go_on.result; goes_on = c.go_on.ensures.goes_on })
