use Rattle.std.proofs.Common.{◌≡◌, ℕ, List, [], false, sym, subst, ◌∙◌}
use Rattle.std.proofs.lemmas.Bool.{eqb-true}
use Rattle.std.proofs.lemmas.List.{nil_from_length}
use Rattle.client.specs.Asked.{one_request, words_of}
use Rattle.client.specs.Exchange.{Talks}
use Rattle.client.proofs.ExchangeLemmas.{talks-none}
use Rattle.client.proofs.talking.ask_line.Goals as goal

pub returns-then-is_empty : goal.returns-then-is_empty
returns-then-is_empty g c =
    let none : words_of c.args.line.now ≡ [] =
    sym (c.as_slice.ensures.value ∙ c.in_ok-words.ensures) ∙ nil_from_length c.as_slice.result.now (eqb-true _ _ (sym c.is_empty.ensures ∙ c.if-is_empty.true)) in
    let sent = g.W.Write.contents c.args.connection.now.writer in
    let left = g.R.Read.remaining c.args.connection.now.reader in
    let held = c.args.connection.now.parser in
    let printed = g.O.Write.contents c.args.out.now in
    subst (λ (words : List (List ℕ)). Talks (one_request words) false sent sent left left held held printed printed) (sym none) (talks-none sent left held printed)
