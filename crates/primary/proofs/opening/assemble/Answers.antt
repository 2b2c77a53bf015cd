use Rattle.std.proofs.Common.{ap, sym, ◌∙◌}
use Rattle.standby_stream.proofs.FitLemmas.{deltas_fit}
use Rattle.model.specs.declared.record.Record.{Record}
use Rattle.model.specs.declared.record.Role.TheVariants as role
use Rattle.primary.proofs.ClosedLemmas.{consistent-read, laid-read}
use Rattle.primary.proofs.KeptImages.{delta-leads, keeps-opened}
use Rattle.primary.proofs.OpenedLemmas.{leads_to}
use Rattle.primary.proofs.opening.assemble.Goals as goal

pub resume-requires-clause-read : goal.resume-requires-clause-read
resume-requires-clause-read g c = (g.E.Durable.contents c.args.engine, sym (ap (λ (r : Record). r.layout) c.record.ensures), sym c.lines-lines.ensures, sym c.position.ensures, c.requires.read)

pub returns : goal.returns
returns g c =
    let contents = g.E.Durable.contents c.args.engine in
    let resumed = c.in_ok-sequencer.ensures in
    let made = c.in_ok-new.ensures in
    let layout = sym (ap (λ (r : Record). r.layout) c.record.ensures) in
    let lines = sym c.lines-lines.ensures in
    let position = sym c.position.ensures in
    let epoch = ap (λ (r : Record). r.epoch) c.record-2.ensures in
    let over = resumed.sequencer contents layout lines position (sym epoch) c.requires.read in
    let consistent = consistent-read contents _ _ c.requires.read in
    let at = resumed.opening.0 ∙ c.position.ensures in
    let floor = resumed.floor ∙ ap (λ (r : Record). r.floor) c.record-3.ensures in
    let leads = leads_to contents _ _ consistent over (resumed.opening.1 contents layout lines c.requires.read) in
    record {
      stands = made.stands over consistent (laid-read contents _ _ c.requires.read) c.requires.durable;
      engine = made.engine;
      opened = rw made.sequencer (record {
        over = over;
        opened_at = at;
        floor = floor;
        opening_is = resumed.opening.1 contents layout lines c.requires.read;
        leads = leads;
        fits = λ from. deltas_fit contents _ from (resumed.opening.1 contents layout lines c.requires.read) c.requires.read.lawful c.requires.lines c.requires.size;
        position_is = c.position.ensures;
        epoch_is = epoch;
        keys_are = resumed.keys;
      });
      ready = (made.ready.0, made.ready.1, made.ready.2, made.ready.3 ∙ position);
      keeps = λ past of image keyspaces recalled reopened. (
        rw (made.sequencer, made.engine, made.ready.0, made.ready.2) (keeps-opened past of image role.Primary contents recalled reopened _ over consistent keyspaces),
        rw c.position.ensures (delta-leads past of image role.Primary contents recalled reopened _ over consistent keyspaces _ at floor leads),
      );
      cause = tt;
    }
