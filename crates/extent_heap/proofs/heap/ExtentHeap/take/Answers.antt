use Rattle.std.proofs.Common.{◌<◌, refl, subst}
use Rattle.extent_heap.specs.Runs.{longest, IsFirstFit}
use Rattle.extent_heap.specs.Room.{Room, IsRoom}
use Rattle.extent_heap.proofs.HeapLemmas.{fit_is_free, takes_extent, none_is_free}
use Rattle.extent_heap.proofs.heap.ExtentHeap.take.Goals as goal

pub returns-in_default-clause-full_only : goal.returns-in_default-clause-full_only
returns-in_default-clause-full_only c = λ _.
    none_is_free c.args.self.now (subst IsRoom c.self.view_is (record { lines = c.self.invariant.pool.ordered; entries = refl })) c.args.lines
    (subst (λ (r : Room). longest r.lines < c.args.lines) c.self.view_is c.in_default.ensures)

pub claim-requires-clause-free : goal.claim-requires-clause-free
claim-requires-clause-free c =
    fit_is_free c.args.self.now (subst IsRoom c.self.view_is (record { lines = c.self.invariant.pool.ordered; entries = refl })) c.args.lines c.in-Some.run'
    (subst (λ (r : Room). IsFirstFit c.args.lines r.lines c.in-Some.run') c.self.view_is c.in-Some.ensures)

pub returns-clause-ok : goal.returns-clause-ok
returns-clause-ok c =
    takes_extent c.args.self.now (subst IsRoom c.self.view_is (record { lines = c.self.invariant.pool.ordered; entries = refl })) c.claim.new.self
    (record { first_line = c.in-Some.run'.first_line; lines = c.args.lines }) c.in-Some.run'
    (subst (λ (r : Room). IsFirstFit c.args.lines r.lines c.in-Some.run') c.self.view_is c.in-Some.ensures) c.requires refl c.in_ok-claim.ensures.ok
