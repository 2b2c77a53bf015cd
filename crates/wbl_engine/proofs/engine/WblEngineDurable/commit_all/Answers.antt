use Rattle.std.proofs.Common.{◌≡◌, ◌==◌, true, false, List, [], length, refl, sym, subst, ◌∙◌, arith}
use Rattle.std.proofs.lemmas.Bool.{true≢false}
use Rattle.pmem.proofs.Leaving.{none_leaves}
use Rattle.model.specs.declared.group.Group.{Group}
use Rattle.wbl_engine.specs.AtRest.{contents_of}
use Rattle.wbl_engine.specs.CommittingAll.{KeepsSome}
use Rattle.wbl_engine.proofs.CommittingAllLemmas.{newcomer_exhausts}
use Rattle.wbl_engine.proofs.Erased.{rest_keeps}
use Rattle.wbl_engine.proofs.HalfLemmas.{sound_keeps}
use Rattle.wbl_engine.proofs.engine.WblEngineDurable.commit_all.Goals as goal
use Rattle.wbl_engine.proofs.engine.WblEngineDurable.commit_all.Goals.{then-self-2-via-then-self-2, then-self-2-via-else-self-2+then-exhausts_one}

pub returns-clause-durable : goal.returns-clause-durable
returns-clause-durable g c = rest_keeps c.commit_groups.new.current (g.P.Pmem.state c.commit_groups.new.device) c.in-Ok.ensures.rest

pub returns-then-is_empty-clause-durable : goal.returns-then-is_empty-clause-durable
returns-then-is_empty-clause-durable g c =
    let self = c.args.self.now in
    sound_keeps self.copying (self.at_rest c.if-self.false) (self.half c.if-self.false)

pub returns-then-is_empty-clause-moments : goal.returns-then-is_empty-clause-moments
returns-then-is_empty-clause-moments g c sound =
    let self = c.args.self.now in
    let d = g.P.Pmem.state self.device in
    none_leaves d (KeepsSome c.args.floor (contents_of self.current d) c.args.groups.now)
    (λ image is. (0, omega arith, sound_keeps self.copying (self.at_rest sound) (self.half sound) image is))

pub returns-then-self-2-clause-exhausted : goal.returns-then-self-2-clause-exhausted
returns-then-self-2-clause-exhausted g c e =
    let self = c.args.self.now in
    let d = g.P.Pmem.state self.device in
    let groups = c.args.groups.now in
    let no : false ≡ (length groups == 0) = sym c.if-is_empty.false ∙ c.is_empty.ensures in
    let some : groups ≡ [] → ⊥ =
    λ none.
    let yes : (length groups == 0) ≡ true = subst (λ (these : List Group). (length these == 0) ≡ true) (sym none) refl in
    true≢false (sym yes ∙ sym no) in
    elim c.then-self-2.branch [
      | then-self-2-via-then-self-2 w ↦ (newcomer_exhausts (contents_of self.current d) groups some (self.half c.if-self.false w.if-self-2.true).newcomer, refl)
      | then-self-2-via-else-self-2+then-exhausts_one w ↦ (w.exhausts_one.ensures.one w.if-exhausts_one.true (contents_of self.current d) refl, refl)
    ]

pub returns-then-self-2-clause-moments : goal.returns-then-self-2-clause-moments
returns-then-self-2-clause-moments g c sound =
    let self = c.args.self.now in
    let d = g.P.Pmem.state self.device in
    none_leaves d (KeepsSome c.args.floor (contents_of self.current d) c.args.groups.now)
    (λ image is. (0, omega arith, sound_keeps self.copying (self.at_rest sound) (self.half sound) image is))
