use Rattle.std.proofs.Common.{rules, refl, ◌∙◌}
use Rattle.clients.proofs.ReaderLemmas.{offers-join, offers-owed, reads-after, reads-nothing, reads-trans}
use Rattle.clients.proofs.reading.RequestReader.read_blocks.Goals as goal

pub loop-init : goal.loop-init
loop-init g c = record {
  reads = reads-nothing (g.S.Read.remaining c.args.stream.now) c.offer_all.new.self (g.O.Outlet.offered c.offer_all.new.outlet);
  all = c.in_ok-progress.ensures.all;
  end = search rules;
  done = refl;
  same = g.met.O.Outlet.same_refl c.offer_all.new.outlet;
}

pub loop-preserved : goal.loop-preserved
loop-preserved g c = record {
  reads = reads-trans (g.S.Read.remaining c.args.stream.now) (g.S.Read.remaining c.loop.stream) (g.S.Read.remaining c.read_next.new.stream) c.offer_all.new.self c.loop.self c.read_next.new.self
      (g.O.Outlet.offered c.offer_all.new.outlet) (g.O.Outlet.offered c.loop.outlet) (g.O.Outlet.offered c.read_next.new.outlet) c.loop.invariant.reads c.in_ok-progress-2.ensures.reads;
  all = c.in_ok-progress-2.ensures.all;
  end = c.in_ok-progress-2.ensures.end;
  done = c.read_next.ensures.done ∙ c.loop.invariant.done;
  same = g.met.O.Outlet.same_trans c.offer_all.new.outlet c.loop.outlet c.read_next.new.outlet c.loop.invariant.same c.in_ok-progress-2.ensures.same;
}

pub returns-in_err-progress-clause-offers : goal.returns-in_err-progress-clause-offers
returns-in_err-progress-clause-offers g c = offers-owed _ _ _ _ c.offer_all.ensures.offers

pub returns-then-ne-clause-reads : goal.returns-then-ne-clause-reads
returns-then-ne-clause-reads g c = reads-after _ _ _ _ _ _ _ _ c.offer_all.ensures.offers c.loop.invariant.reads

pub returns-in_err-progress-2-clause-offers : goal.returns-in_err-progress-2-clause-offers
returns-in_err-progress-2-clause-offers g c =
    offers-join _ _ _ _ _ _ (reads-after _ _ _ _ _ _ _ _ c.offer_all.ensures.offers c.loop.invariant.reads).part c.read_next.ensures.offers

pub returns-clause-reads : goal.returns-clause-reads
returns-clause-reads g c = reads-after _ _ _ _ _ _ _ _ c.offer_all.ensures.offers c.loop.invariant.reads
