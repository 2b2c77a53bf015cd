use Rattle.std.proofs.Common.{sym, subst}
use Rattle.marks.specs.declared.view.MarkView.{MarkView}
use Rattle.clients.specs.Places.{Visits, seen_by}
use Rattle.clients.proofs.driven_connections.DrivenConnections.take_round.Goals as goal

pub returns : goal.returns
returns g c = record {
  between = c.note.new.self.places.items;
  notes = c.note.ensures.notes;
  ready = c.note.ensures.ready;
  visits = subst (λ (known : MarkView). Visits (seen_by known) c.note.new.self.places.items c.visit.new.self.places.items) (sym c.read-seen.ensures.knows) c.visit.ensures.visits;
  busy = c.visit.ensures.busy;
}
