use Rattle.std.proofs.Common.{◌≡◌, take}
use Rattle.pmem.specs.Runs.{LeavesOnly}
use Rattle.wbl_engine.specs.AtRest.{IsAtRest, contents_of}
use Rattle.wbl_engine.specs.CommittingAll.{CommitsEach, KeepsSome, after_commits}
use Rattle.wbl_engine.proofs.commit_all.store_groups.Given as goal

abbrev pub invariant-loop-group : goal.invariant-loop-group
invariant-loop-group g l = record {
  rest : IsAtRest l.current (g.P.Pmem.state l.device);
  moved : contents_of l.current (g.P.Pmem.state l.device)
      ≡ after_commits l.floor (contents_of l.fn.current (g.P.Pmem.state l.fn.device)) (take l.group-index l.groups);
  each : CommitsEach l.floor (contents_of l.fn.current (g.P.Pmem.state l.fn.device)) (take l.group-index l.groups) (g.P.Pmem.state l.fn.device) (g.P.Pmem.state l.device);
  sound : (g.P.Pmem.state l.device).failures ≡ (g.P.Pmem.state l.fn.device).failures;
  asked_moment : (g.P.Pmem.state l.device).kept ≡ (g.P.Pmem.state l.fn.device).kept;
  moments : LeavesOnly (g.P.Pmem.state l.fn.device) (g.P.Pmem.state l.device)
      (KeepsSome l.floor (contents_of l.fn.current (g.P.Pmem.state l.fn.device)) l.groups);
}
