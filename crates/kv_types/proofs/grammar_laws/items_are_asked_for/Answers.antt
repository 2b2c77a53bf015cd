use Rattle.kv_types.proofs.GrammarRequests.{HasNumbers}
use Rattle.kv_types.proofs.GrammarAsks.{AsksFor-items_at}
use Rattle.kv_types.proofs.GrammarUnique.{items_at-AsksFor}
use Rattle.kv_types.proofs.grammar_laws.items_are_asked_for.Goals as goal

pub returns : goal.returns
returns c = λ limits few short text items.
    let numbers : HasNumbers limits = record { words = few; word_bytes = short } in
    (items_at-AsksFor limits text items numbers, λ e. rw e (AsksFor-items_at limits text numbers))
