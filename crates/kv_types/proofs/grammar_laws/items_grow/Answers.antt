use Rattle.kv_types.proofs.GrammarItems.{items_at-append, items_at-after_fault, items_at-continues, later_items, unread_at}
use Rattle.kv_types.proofs.grammar_laws.items_grow.Goals as goal

pub returns-clause-stays : goal.returns-clause-stays
returns-clause-stays c = λ limits text more. (later_items limits (unread_at limits text) more, items_at-append limits text more)

pub returns-clause-ends : goal.returns-clause-ends
returns-clause-ends c = items_at-after_fault

pub returns-clause-continues : goal.returns-clause-continues
returns-clause-continues c = items_at-continues
