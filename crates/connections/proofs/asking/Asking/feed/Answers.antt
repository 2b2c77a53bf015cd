use Rattle.std.proofs.Common.{◌≡◌, not, refl, sym, ap, subst, ◌∙◌}
use Rattle.inbound.specs.declared.inbound.Inbound.{Inbound}
use Rattle.inbound.specs.ToCome.{with_piece, GivesAll}
use Rattle.connections.proofs.AskingLemmas.{fed-stands}
use Rattle.connections.proofs.asking.Asking.feed.Goals as goal

pub returns-clause-feeds : goal.returns-clause-feeds
returns-clause-feeds c = λ machine stands.
    let old = c.args.self.now in
    let fed : c.feed.new.self ≡ with_piece old.source c.args.piece.now =
    c.in_ok-feed.ensures.fed ∙ ap (λ (inbound : Inbound). with_piece inbound c.in_ok-clone.field-0) c.in_ok-tried.ensures.cases ∙ ap (with_piece old.source) c.in_ok-clone.ensures.cases in
    record {
      done = sym (ap not (sym stands.closed ∙ sym c.is_closed.ensures ∙ c.if-is_closed.false));
      taken = λ did. fed-stands old _ machine c.args.piece.now stands
          (subst (λ (inbound : Inbound). GivesAll old.asked.items c.take_all.new.asked.items inbound c.take_all.new.inbound) fed c.in_ok-take_all.ensures.gives) refl;
      stays = λ did. cc;
    }
