use Rattle.std.proofs.Common.{◌≡◌, ◌≢◌, ◌<◌, ◌≤◌, [], ◌∷◌, ◌++◌, List, length, Vec, Global, refl, ap, subst, ◌∙◌, arith}
use Rattle.model.specs.declared.group.Group.{Group}
use Rattle.model.specs.declared.group.Part.{Part}
use Rattle.model.specs.declared.work.Work.TheVariants as Work
use Rattle.model.specs.declared.group.TheConstants.{MAX_PARTS}
use Rattle.redis_core.specs.Sequencing.{Sequencing, HandsOut, ended_by_parts, newest_end}
use Rattle.redis_core.proofs.LeadingLemmas.{LeadsOn-group}
use Rattle.redis_core.proofs.sequencer.Sequencer.close_group.Goals as goal

some : (parts : List Part) → parts ≢ [] → 0 < length parts
some [] none = absurd (none refl)
some (part ∷ parts) none = omega arith

pub returns-clause-ok : goal.returns-clause-ok
returns-clause-ok g c =
    let old = c.args.self.now in
    let group : Group = record { epoch = c.self.inside.epoch; before = c.replace-before.result; parts = c.replace-parts.result } in
    let waits : c.self.inside.waiting.items ≡ old.waiting = ap (λ (s : Sequencing). s.waiting) c.self.view_is in
    let emptied : c.replace-parts.new.dest.items ≡ [] = ap (λ (parts : Vec Part Global). parts.items) c.replace-parts.ensures.after ∙ c.in_ok-empty.ensures.items in
    let hands : HandsOut old group _ = record {
      some = some old.waiting c.requires.some;
      few = subst (λ (parts : List Part). length parts ≤ MAX_PARTS) waits c.self.invariant.few;
      all = ap (λ (parts : Vec Part Global). parts.items) c.replace-parts.ensures.value ∙ waits;
      epoch = ap (λ (s : Sequencing). s.epoch) c.self.view_is;
      before = c.replace-before.ensures.value ∙ ap (λ (s : Sequencing). s.before) c.self.view_is;
      after = rw (c.replace-before.ensures.after, emptied, c.in_ok-list_ended.ensures.entries, c.in_ok-list_ended.ensures.position, c.deref.ensures.value)
          (ap (λ (s : Sequencing). record s { before = s.position; waiting = []; ended = s.ended ++ ended_by_parts s.waiting; newest = newest_end s.newest s.waiting }) c.self.view_is);
    } in
    (group, c.in-Ok.ensures.last ∙ ap (λ items. items ++ Work.Commit group ∷ []) c.room.ensures.unchanged, hands, LeadsOn-group old group _ hands)

pub offer-requires : goal.offer-requires
offer-requires g c =
    let old = c.args.self.now in
    let group : Group = record { epoch = c.self.inside.epoch; before = c.replace-before.result; parts = c.replace-parts.result } in
    let new : Sequencing = record old { before = old.position; waiting = []; ended = old.ended ++ ended_by_parts old.waiting; newest = newest_end old.newest old.waiting } in
    let waits : c.self.inside.waiting.items ≡ old.waiting = ap (λ (s : Sequencing). s.waiting) c.self.view_is in
    let hands : HandsOut old group new = record {
      some = some old.waiting c.requires.some;
      few = subst (λ (parts : List Part). length parts ≤ MAX_PARTS) waits c.self.invariant.few;
      all = ap (λ (parts : Vec Part Global). parts.items) c.replace-parts.ensures.value ∙ waits;
      epoch = ap (λ (s : Sequencing). s.epoch) c.self.view_is;
      before = c.replace-before.ensures.value ∙ ap (λ (s : Sequencing). s.before) c.self.view_is;
      after = refl;
    } in
    g.met.G.Outlet.may_still c.args.outlet.now c.room.new.self (Work.Commit group) c.room.ensures.same c.room.ensures.unchanged
    (c.requires.may group new hands (LeadsOn-group old group new hands))
