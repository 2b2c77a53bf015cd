use Rattle.std.proofs.Common.{◌≡◌, ◌∷◌, Ok, refl, sym, subst, drop, ◌∙◌, arith}
use Rattle.model.specs.declared.work.FreeList.{FreeList}
use Rattle.group_commit.specs.Working.{FreesFirst}
use Rattle.group_commit.specs.declared.committer.Committer.{Committer}
use Rattle.group_commit.specs.declared.stage.Done.TheVariants.{Freed}
use Rattle.group_commit.proofs.TurnLemmas.{first-is, first-ended}
use Rattle.group_commit.proofs.committer.Committer.free_first.Given.{Over}
use Rattle.group_commit.proofs.committer.Committer.free_first.Goals as goal
use Rattle.group_commit.proofs.committer.Committer.free_first.Goals.{In-Some}

first : (g : Over) (c : In-Some g) → c.args.self.now.aside.items ≡ c.in-Some.list.now ∷ drop 1 c.args.self.now.aside.items
first g c = first-is c.args.self.now.aside.items c.in-Some.list.now (omega (arith, c.in-Some.ensures.variant.0 refl, c.args.self.now.aside.ok.0)) c.in-Some.ensures.lookup

pub free-requires : goal.free-requires
free-requires g c =
    let items = c.args.self.now.aside.items in
    rw c.deref.ensures.value (first-ended (g.E.Durable.contents c.args.self.now.engine) items c.in-Some.list.now (drop 1 items) (first g (goal.at.free-requires g c).In-Some) c.requires.lawful)

pub returns-clause-frees : goal.returns-clause-frees
returns-clause-frees g c = λ list rest is.
    let E = g.E.Durable in
    let items = c.args.self.now.aside.items in
    let old = c.args.self.now in
    let engine = rw c.deref.ensures.value at c.in_ok-freed.ensures in
    let same = sym (first g (goal.at.returns-clause-frees g c).In-Some) ∙ is in
    let new : Committer g.row.E.Denot = record old { engine = c.free.new.self; aside = c.pop_front.new.self } in
    let first_is : c.in-Some.list.now ≡ list = cc in
    let rest_is : drop 1 items ≡ rest = cc in
    subst (λ (l : FreeList). FreesFirst E.device E.contents E.is_faulted old l rest (Ok (Freed c.in_ok-freed.freed)) new) first_is (record {
      answer = (c.in_ok-freed.freed, refl, engine.entries, engine.extents);
      aside = c.pop_front.ensures.rest ∙ rest_is;
      moved = engine.moved;
      durable = engine.durable;
      sound = engine.fences.sound;
      causes = tt;
      kept = tt;
      memory = λ of. cc;
      exhausted = λ of. cc;
      exhausts = λ sound reached. let told = engine.exhausts sound reached in cc;
      fault = λ of. cc;
      stopped = λ of. cc;
      lines = engine.moved.lines;
      stage = c.requires.ready;
      local = refl;
      moments = engine.moments;
    })
