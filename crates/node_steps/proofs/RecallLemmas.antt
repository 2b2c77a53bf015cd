-- The keyspaces of the list of calls as a primary's past.
use Rattle.std.proofs.Common.{◌≡◌, ℕ, ◌+◌, ◌≤◌, List, [], ◌∷◌, ◌++◌, length, sym, ap, subst, ◌∙◌, arith, le_refl}
use Rattle.kv_types.specs.Keyspace.{play_all}
use Rattle.model.specs.declared.call.Call.{Call}
use Rattle.model.specs.declared.group.Part.{Part}
use Rattle.model.specs.declared.work.FreeList.{FreeList}
use Rattle.model.specs.declared.work.Work.{Work}
use Rattle.model.specs.Call.{position_of}
use Rattle.model.specs.Group.{Contents}
use Rattle.model.proofs.CallsLemmas.{keyspace_after-cut_at-append}
use Rattle.model.proofs.PositionsLemmas.{keyspace_after-cut_at-next}
use Rattle.wbl_engine.specs.declared.freeing.Freed.{Freed}
use Rattle.redis_core.specs.Sequencing.{Sequencing}
use Rattle.group_commit.proofs.WorkLemmas.{AreGroups-of-work}
use Rattle.primary.specs.Leading.{Leads}
use Rattle.primary.specs.Recalling.{LeadAlong, Remembers}
use Rattle.primary.proofs.RecallLemmas.{remembers-later, remembers-on}
use Rattle.connections.specs.Session.{AreOpen, SequencerRefines}
use Rattle.node_steps.specs.Node.{past_of}

-- the parts that are open lead along it
open-along : (calls : List Call) (from : ℕ) (parts : List Part) → from + length parts ≤ position_of calls → AreOpen calls from parts → LeadAlong (past_of calls) from parts
open-along calls from [] within opens = tt
open-along calls from (part ∷ parts) within opens = (
  opens.0,
  ap (play_all (past_of calls from)) opens.1 ∙ sym (keyspace_after-cut_at-next calls from (omega (arith, within))),
  open-along calls (from + 1) parts (omega (arith, within)) opens.2,
)

pub waits-along : (calls : List Call) (closed : ℕ) (s : Sequencing) → SequencerRefines calls closed s → LeadAlong (past_of calls) s.before s.waiting
waits-along calls closed s stands =
    subst (λ n. LeadAlong (past_of calls) n s.waiting) (sym stands.before) (open-along calls closed s.waiting (omega (arith, stands.count)) stands.waiting)

-- the list grows
pub remembers-still : (low position closed : ℕ) (calls more : List Call) (contents : Contents) (items : List Work) (aside : List FreeList) (old new : Sequencing) (notices : List Freed)
    → contents.current.position ≡ position → SequencerRefines calls closed old → Leads contents items aside old notices → new.ended ≡ old.ended → new.newest ≡ old.newest
    → Remembers low position (past_of calls) contents items aside old → Remembers low position (past_of (calls ++ more)) contents items aside new
remembers-still low position closed calls more contents items aside old new notices at stands leads ended newest remembers =
    remembers-on low low position (past_of (calls ++ more)) contents items aside old new (le_refl low) ended newest
    (remembers-later low position (position_of calls) (past_of calls) (past_of (calls ++ more)) contents items aside old at (AreGroups-of-work contents items leads.work_is)
    (omega (arith, leads.stands.before, stands.before, stands.count)) (keyspace_after-cut_at-append calls more) remembers)
