use Rattle.std.proofs.Common.{◌≡◌, None, Some, sym, ap, subst, ◌∙◌}
use Rattle.std.specs.Prelude.{MatchOption}
use Rattle.mv_keyspace.specs.Slots.{slot_at}
use Rattle.mv_keyspace.specs.Version.{cell_of_shown}
use Rattle.mv_keyspace.proofs.NotedLemmas.{cell-found, cell-missing}
use Rattle.mv_keyspace.proofs.slot_rows.SlotRowsLive.find.Goals as goal

pub returns-in-Some : goal.returns-in-Some
returns-in-Some c =
    let es = c.args.self.now.slots.entries in
    let found = ap (λ key. slot_at key es) (sym c.key.ensures) ∙ sym c.in-Some.ensures.value in
    subst (λ cell. MatchOption c.find_in.result (cell ≡ None) (λ shown. cell ≡ Some (cell_of_shown shown))) (cell-found c.args.id.now es c.args.self.now.slotted c.in-Some.slot.now found) c.find_in.ensures

pub returns-in-None : goal.returns-in-None
returns-in-None c =
    let es = c.args.self.now.slots.entries in
    cell-missing c.args.id.now es c.args.self.now.slotted (ap (λ key. slot_at key es) (sym c.key.ensures) ∙ sym c.in-None.ensures.value)
