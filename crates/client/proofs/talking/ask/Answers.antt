use Rattle.std.proofs.Common.{subst, ◌∙◌}
use Rattle.std.specs.Io.KnownBytes.{Appends}
use Rattle.client.proofs.ExchangeLemmas.{talks-one}
use Rattle.client.proofs.talking.ask.Goals as goal

pub returns-in-Ok : goal.returns-in-Ok
returns-in-Ok g c =
    talks-one c.args.words.now _ _ _ _ _ _ _ _ c.in_ok-reply.reply c.is_error.result c.is_error.ensures c.in_ok-reply.ensures.asked c.in_ok-reply.ensures.answered
    (subst (Appends (g.O.Write.contents c.args.out.now) (g.O.Write.contents c.print.new.out)) (c.deref.ensures.value ∙ c.in_ok-text.ensures) c.in-Ok.ensures)
