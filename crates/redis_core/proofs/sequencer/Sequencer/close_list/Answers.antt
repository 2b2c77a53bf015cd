use Rattle.std.proofs.Common.{[], ◌∷◌, ◌++◌, ap, refl, ◌∙◌}
use Rattle.model.specs.declared.work.FreeList.{FreeList}
use Rattle.model.specs.declared.work.Work.TheVariants as Work
use Rattle.redis_core.specs.Sequencing.{HandsList, Sequencing}
use Rattle.redis_core.proofs.sequencer.Sequencer.close_list.Goals as goal

pub returns-clause-ok : goal.returns-clause-ok
returns-clause-ok g c =
    let old = c.args.self.now in
    let list : FreeList = record { position = c.self.inside.listed.position; entries = c.replace-entries.result } in
    let hands : HandsList old list _ = record {
      entries = rw (c.replace-entries.ensures.value) (ap (λ (s : Sequencing). s.ended) c.self.view_is);
      position = ap (λ (s : Sequencing). s.newest) c.self.view_is;
      after = rw (c.replace-entries.ensures.after, c.new.ensures.items) (ap (λ (s : Sequencing). record s { ended = [] }) c.self.view_is);
    } in
    (list, c.in-Ok.ensures.last ∙ ap (λ items. items ++ Work.Free list ∷ []) c.room.ensures.unchanged, hands)

pub offer-requires : goal.offer-requires
offer-requires g c =
    let old = c.args.self.now in
    let list : FreeList = record { position = c.self.inside.listed.position; entries = c.replace-entries.result } in
    let hands : HandsList old list (record old { ended = [] }) = record {
      entries = rw (c.replace-entries.ensures.value) (ap (λ (s : Sequencing). s.ended) c.self.view_is);
      position = ap (λ (s : Sequencing). s.newest) c.self.view_is;
      after = refl;
    } in
    g.met.W.Outlet.may_still c.args.outlet.now c.room.new.self (Work.Free list) c.room.ensures.same c.room.ensures.unchanged
    (c.requires.may list (record old { ended = [] }) hands)
