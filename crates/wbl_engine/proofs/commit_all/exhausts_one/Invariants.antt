use Rattle.std.proofs.Common.{◌≡◌, take}
use Rattle.model.specs.Group.{Contents}
use Rattle.wbl_record.specs.Current.{IsLawful}
use Rattle.wbl_engine.specs.CommittingAll.{ExhaustsOne, after_commits}
use Rattle.wbl_engine.proofs.commit_all.exhausts_one.Given as goal

abbrev pub invariant-loop-group : goal.invariant-loop-group
invariant-loop-group l = record {
  lawful : IsLawful l.last;
  follows : (contents : Contents) → contents.current ≡ l.current → l.last ≡ (after_commits l.floor contents (take l.group-index l.groups)).current;
  fits : (contents : Contents) → contents.current ≡ l.current → ¬ ExhaustsOne contents (take l.group-index l.groups);
}
