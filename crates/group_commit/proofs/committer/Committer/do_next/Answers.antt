use Rattle.std.proofs.Common.{nat_lt, inl, inr, sym, ◌∙◌}
use Rattle.group_commit.specs.declared.due.Due.TheVariants as due
use Rattle.group_commit.proofs.DueLemmas.{clear-now, free-now}
use Rattle.group_commit.proofs.TurnLemmas.{takes-step}
use Rattle.group_commit.proofs.committer.Committer.do_next.Goals as goal

pub clear_gap-requires-clause-alone : goal.clear_gap-requires-clause-alone
clear_gap-requires-clause-alone g c = (clear-now g.E.Durable.contents c.args.self.now c.args.work.now (nat_lt 0 c.room-room.result) c.args.remote (sym c.due.ensures ∙ c.in-Clear.is)).no_aside

pub returns-in-Free-clause-takes : goal.returns-in-Free-clause-takes
returns-in-Free-clause-takes g c =
    let E = g.E.Durable in
    let O = g.O.Outlet in
    let is = sym c.due.ensures ∙ c.in-Free.is in
    let so = free-now E.contents c.args.self.now c.args.work.now (nat_lt 0 c.room-room.result) c.args.remote is in
    takes-step E.device E.contents E.is_faulted O.offered O.known_room c.args.self.now c.free_reached.new.self c.args.work.now c.free_reached.new.work c.args.link.now c.room-room.new.self c.args.remote
    c.free_reached.result due.Free c.room-room.result c.room-room.ensures.value is (
      record { offered_is = c.room-room.ensures.unchanged; room = c.room-room.ensures.kept },
      elim (c.free_reached.ensures.frees so.list so.rest so.reached) [
        | inl frees ↦ inl (record {
          list = so.list;
          rest = so.rest;
          reached = so.reached;
          passed = so.passed;
          left = frees.0;
          frees = frees.1;
        })
        | inr lacks ↦ inr lacks
      ],
    )
