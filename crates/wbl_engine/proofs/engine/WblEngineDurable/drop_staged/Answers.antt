use Rattle.std.proofs.Common.{true, false}
use Rattle.pmem.proofs.Leaving.{none_leaves}
use Rattle.wbl_engine.specs.AtRest.{contents_of}
use Rattle.wbl_engine.specs.Contents.{Keeps}
use Rattle.wbl_engine.specs.Copying.{idle, staged_of}
use Rattle.wbl_engine.proofs.CopyDropping.{drops_none}
use Rattle.wbl_engine.proofs.Erased.{rest_keeps}
use Rattle.wbl_engine.proofs.HalfLemmas.{sound_keeps}
use Rattle.wbl_engine.proofs.SyncedContents.{same_engine}
use Rattle.wbl_engine.proofs.engine.WblEngineDurable.drop_staged.Goals as goal

pub returns-then-not-self-clause-freed : goal.returns-then-not-self-clause-freed
returns-then-not-self-clause-freed g c =
    let self = c.args.self.now in
    let d = g.P.Pmem.state self.device in
    drops_none (staged_of self.copying self.current d) c.none.result.entries.items c.none.result.extents.items
    (idle self.current d self.copying c.if-not-self.true) c.none.ensures.entries c.none.ensures.extents

pub returns-then-not-self-clause-durable : goal.returns-then-not-self-clause-durable
returns-then-not-self-clause-durable g c =
    let self = c.args.self.now in
    sound_keeps self.copying (self.at_rest c.if-self.false) (self.half c.if-self.false)

pub returns-then-not-self-clause-moments : goal.returns-then-not-self-clause-moments
returns-then-not-self-clause-moments g c sound =
    let self = c.args.self.now in
    let d = g.P.Pmem.state self.device in
    none_leaves d (Keeps (contents_of self.current d)) (sound_keeps self.copying (self.at_rest sound) (self.half sound))

pub returns-in_err-freed-clause-memory : goal.returns-in_err-freed-clause-memory
returns-in_err-freed-clause-memory g c is_memory =
    let self = c.args.self.now in
    (same_engine self.faulted self.copying self.current (g.P.Pmem.state self.device) (g.P.Pmem.floor self.device) (λ x y z. record self { at_rest = x; half = y; synced = z })
    _ self.at_rest _ self.half _ self.synced)

pub returns-in_err-freed-clause-moments : goal.returns-in_err-freed-clause-moments
returns-in_err-freed-clause-moments g c sound =
    let self = c.args.self.now in
    let d = g.P.Pmem.state self.device in
    none_leaves d (Keeps (contents_of self.current d)) (sound_keeps self.copying (self.at_rest sound) (self.half sound))

pub returns-clause-durable : goal.returns-clause-durable
returns-clause-durable g c = rest_keeps c.args.self.now.current (g.P.Pmem.state c.erase_copy.new.device) c.in-Ok.ensures.rest
