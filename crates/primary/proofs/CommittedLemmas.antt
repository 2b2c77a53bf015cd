-- What groups that commit one after another leave of a primary.
use Rattle.std.proofs.Common.{ℕ, zero, suc, ◌≤◌, max, List, [], ◌∷◌, ◌++◌, take, Some, refl, sym, ap, subst, ◌∙◌, append-nil, append_assoc, arith, le_refl}
use Rattle.model.specs.declared.group.Group.{Group}
use Rattle.model.specs.declared.group.Part.{Part}
use Rattle.model.specs.declared.work.FreeList.{FreeList}
use Rattle.model.specs.declared.work.Work.{Work}
use Rattle.model.specs.declared.work.Work.TheVariants as work
use Rattle.model.specs.Floor.{floored}
use Rattle.model.specs.Group.{AreParts, Contents, IsConsistent, IsGroup, Versions, after_group, last_position, part_versions}
use Rattle.model.proofs.GroupsLemmas.{IsConsistent-after_group}
use Rattle.wbl_engine.specs.declared.freeing.Freed.{Freed as Places}
use Rattle.wbl_engine.specs.CommittingAll.{after_commits}
use Rattle.redis_core.specs.Sequencing.{Sequencing}
use Rattle.group_commit.specs.Group.{AreWork}
use Rattle.group_commit.specs.Working.{AreTaken, AreTakenEach}
use Rattle.group_commit.proofs.WorkLemmas.{AreWork-behind}
use Rattle.primary.specs.Leading.{AreLaid, Leads}
use Rattle.primary.proofs.AheadLemmas.{laid-group}
use Rattle.primary.proofs.LeadsLemmas.{leads-after}
use Rattle.primary.proofs.NumberedLemmas.{consistent_renumbered, laid_renumbered, leads_renumbered}

-- ---- the last part of a group is the newest

pub rises_within : (before : ℕ) (versions : Versions) (parts : List Part) → AreParts before versions parts → before ≤ last_position before parts
rises_within before versions [] are = le_refl before
rises_within before versions (part ∷ parts) are = omega (arith, are.0, rises_within part.position (part_versions versions part) parts are.2)

-- ---- what is in hand

-- what waits leads from the contents to what the sequencer holds, and the versions lie beside one another
pub record AreLed (contents : Contents) (items : List Work) (aside : List FreeList) (s : Sequencing) (notices : List Places) : Type 0 where
  pub leads : Leads contents items aside s notices
  pub consistent : IsConsistent contents
  pub laid : AreLaid contents

-- the first group, behind the free lists before it
module _ (remote : ℕ) (contents : Contents) (before after : List Work) (aside lists : List FreeList) (group : Group) (s : Sequencing) (notices : List Places)
    (taken : AreTaken before lists (Some group) after) (led : AreLed contents before aside s notices) where
  pub first-is : IsGroup contents group
  first-is = (AreWork-behind contents lists (work.Commit group ∷ after) (subst (AreWork contents) taken led.leads.work_is)).0

  pub led-first : AreLed (after_group (floored remote contents) group) after (aside ++ lists) s notices
  led-first =
      let made = after_group contents group in
      let floor = max contents.current.floor remote in
      record {
        leads = leads_renumbered made.current.number floor made after (aside ++ lists) s notices
            (leads-after contents lists group after aside s notices led.consistent (subst (λ (xs : List Work). Leads contents xs aside s notices) taken led.leads));
        consistent = consistent_renumbered made.current.number floor made (IsConsistent-after_group contents group led.consistent first-is);
        laid = laid_renumbered made.current.number floor made (laid-group contents group led.laid first-is);
      }

  pub first-rises : contents.current.position ≤ (after_group (floored remote contents) group).current.position
  first-rises =
      let lawful = first-is in
      subst (λ (p : ℕ). p ≤ last_position p group.parts.items) lawful.before (rises_within group.before contents.versions group.parts.items lawful.parts)

-- ---- all of them

pub led-each : (remote : ℕ) (contents : Contents) (before after : List Work) (aside lists : List FreeList) (groups : List Group) (s : Sequencing) (notices : List Places)
    → AreTakenEach before lists groups after → AreLed contents before aside s notices → AreLed (after_commits remote contents groups) after (aside ++ lists) s notices
led-each remote contents before after aside lists [] s notices taken led =
    subst (λ (xs : List FreeList). AreLed contents after xs s notices) (sym (ap (λ (xs : List FreeList). aside ++ xs) taken.0 ∙ append-nil aside))
    (subst (λ (xs : List Work). AreLed contents xs aside s notices) (sym taken.1) led)
led-each remote contents before after aside lists (group ∷ groups) s notices taken led =
    let (front, rest, between, is, one, others) = taken in
    let made = after_group (floored remote contents) group in
    subst (λ (xs : List FreeList). AreLed (after_commits remote made groups) after xs s notices)
    (append_assoc aside front rest ∙ sym (ap (λ (xs : List FreeList). aside ++ xs) is))
    (led-each remote made between after (aside ++ front) rest groups s notices others (led-first remote contents before between aside front group s notices one led))

pub rises-each : (remote : ℕ) (contents : Contents) (before after : List Work) (aside lists : List FreeList) (groups : List Group) (s : Sequencing) (notices : List Places)
    → AreTakenEach before lists groups after → AreLed contents before aside s notices → contents.current.position ≤ (after_commits remote contents groups).current.position
rises-each remote contents before after aside lists [] s notices taken led = le_refl contents.current.position
rises-each remote contents before after aside lists (group ∷ groups) s notices taken led =
    let (front, rest, between, is, one, others) = taken in
    let made = after_group (floored remote contents) group in
    omega (
      arith,
      first-rises remote contents before between aside front group s notices one led,
      rises-each remote made between after (aside ++ front) rest groups s notices others (led-first remote contents before between aside front group s notices one led),
    )

-- the first ones of them are taken, too
pub each-some : (before after : List Work) (lists : List FreeList) (groups : List Group) (n : ℕ) → AreTakenEach before lists groups after
    → (lists' : List FreeList) × (after' : List Work) × AreTakenEach before lists' (take n groups) after'
each-some before after lists groups zero taken = ([], before, (refl, refl))
each-some before after lists [] (suc n) taken = ([], before, (refl, refl))
each-some before after lists (group ∷ groups) (suc n) taken =
    let (front, rest, between, is, one, others) = taken in
    let (more, left, some) = each-some between after rest groups n others in
    (front ++ more, left, (front, more, between, refl, one, some))
