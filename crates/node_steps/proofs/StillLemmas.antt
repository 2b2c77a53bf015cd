-- What a pair keeps where its sequencer stands, to an engine, as it did.
use Rattle.std.proofs.Common.{◌≡◌, List, length, ap, ◌∙◌}
use Rattle.model.specs.declared.work.FreeList.{FreeList}
use Rattle.model.specs.declared.work.Work.{Work}
use Rattle.model.specs.Group.{Contents}
use Rattle.redis_core.specs.Sequencing.{Sequencing}
use Rattle.wbl_engine.specs.declared.freeing.Freed.{Freed}
use Rattle.connections.specs.Session.{StandsStill}
use Rattle.machine.specs.Event.{Primary}
use Rattle.primary.specs.Leading.{Leads}
use Rattle.node_steps.specs.Node.{FreeingRefines}
use Rattle.primary.proofs.LeadsLemmas.{Leads-still}

pub leads-still : (contents : Contents) (items : List Work) (aside : List FreeList) (old new : Sequencing) (notices : List Freed) → StandsStill old new
    → Leads contents items aside old notices → Leads contents items aside new notices
leads-still contents items aside old new notices still leads = Leads-still contents items aside old new notices still.stands still.expects still.ended leads

pub freeing-still : (old new : Sequencing) (notices : List Freed) (contents : Contents) (before after : Primary) → StandsStill old new
    → before.ended ≡ after.ended → before.newest ≡ after.newest → before.notices ≡ after.notices → before.gaps ≡ after.gaps
    → FreeingRefines old notices contents before → FreeingRefines new notices contents after
freeing-still old new notices contents before after still ended newest told gaps freeing =
    record {
      ended = ap length still.ended ∙ freeing.ended ∙ ended;
      newest = still.newest ∙ freeing.newest ∙ newest;
      notices_are = freeing.notices_are ∙ told;
      gaps = freeing.gaps ∙ gaps;
    }
