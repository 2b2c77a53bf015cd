use Rattle.std.proofs.Common.{sym, ◌∙◌}
use Rattle.lobby.proofs.SlotsLemmas.{IsSound-all, All-free}
use Rattle.lobby.proofs.lobby.Lobby.new.Goals as goal

pub invariant_of-result : goal.invariant_of-result
invariant_of-result c = (IsSound-all _ _ c.in_ok-slots.ensures (sym c.in_ok-all.field-0.ok.0 ∙ c.in_ok-all.ensures.count) c.in_ok-all.ensures.each_once, tt)

pub returns-clause-all_free : goal.returns-clause-all_free
returns-clause-all_free c = All-free _ _ c.in_ok-slots.ensures
