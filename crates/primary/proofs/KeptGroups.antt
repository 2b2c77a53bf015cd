-- What of its past a primary keeps where groups commit one after another.
use Rattle.std.proofs.Common.{◌≡◌, ℕ, List, [], ◌∷◌, ◌++◌, Some, refl, sym, ap, subst, ◌∙◌, max, append-nil, append_assoc}
use Rattle.std.proofs.Math.Nat.{le-max_left}
use Rattle.model.specs.declared.group.Group.{Group}
use Rattle.model.specs.declared.work.FreeList.{FreeList}
use Rattle.model.specs.declared.work.Work.{Work}
use Rattle.model.specs.Floor.{floored}
use Rattle.model.specs.Group.{Contents, after_group, entries_of, last_position}
use Rattle.model.specs.Image.{IsMapOf}
use Rattle.wbl_engine.specs.declared.freeing.Freed.{Freed as Places}
use Rattle.wbl_engine.specs.CommittingAll.{after_commits}
use Rattle.redis_core.specs.Sequencing.{Sequencing}
use Rattle.group_commit.specs.Working.{AreTaken, AreTakenEach}
use Rattle.primary.specs.Recalling.{KeepsPast, Past, Remembers}
use Rattle.primary.proofs.CommittedLemmas.{AreLed, first-is, led-first}
use Rattle.primary.proofs.KeptLemmas.{keeps-raised}
use Rattle.primary.proofs.NumberedLemmas.{renumbered}
use Rattle.primary.proofs.RecallParts.{map-committed, remembers-committed}

-- under a record of another number and with another floor
pub keeps-renumbered : (low number floor : ℕ) (past : Past) (contents : Contents) (items : List Work) (aside : List FreeList) (s : Sequencing) → KeepsPast low past contents items aside s
    → KeepsPast low past (renumbered number floor contents) items aside s
keeps-renumbered low number floor past contents items aside s keeps =
    record { now = keeps.now; follows = keeps.follows; remembers = record { earlier = keeps.remembers.earlier; groups = keeps.remembers.groups } }

-- the first group
module _ (remote : ℕ) (contents : Contents) (before after : List Work) (aside lists : List FreeList) (group : Group) (s : Sequencing) (notices : List Places) (past : Past)
    (taken : AreTaken before lists (Some group) after) (led : AreLed contents before aside s notices) (keeps : KeepsPast contents.current.floor past contents before aside s) where
  -- what an engine then contains
  made-keeps : KeepsPast contents.current.floor past (after_group contents group) after (aside ++ lists) s
  made-keeps =
      let low = contents.current.floor in
      let at = contents.current.position in
      let parts = group.parts.items in
      let lawful = first-is remote contents before after aside lists group s notices taken led in
      let remembers = subst (λ (xs : List Work). Remembers low at past contents xs aside s) taken keeps.remembers in
      let ends : last_position group.before parts ≡ last_position at parts = ap (λ p. last_position p parts) lawful.before in
      let map_is = map-committed low at past contents lists group after aside s refl led.consistent keeps.now lawful remembers in
      let remembered = remembers-committed low at past contents lists group after aside s refl led.consistent keeps.now lawful remembers in
      record {
        now = subst (λ p. IsMapOf (after_group contents group).versions (entries_of contents) (past p)) ends map_is;
        follows = keeps.follows;
        remembers = subst (λ p. Remembers low p past (after_group contents group) after (aside ++ lists) s) ends remembered;
      }

  -- the floor is no lower than the remote mark then
  pub keeps-first : KeepsPast (max contents.current.floor remote) past (after_group (floored remote contents) group) after (aside ++ lists) s
  keeps-first =
      let made = after_group contents group in
      let floor = max contents.current.floor remote in
      keeps-renumbered floor made.current.number floor past made after (aside ++ lists) s
      (keeps-raised contents.current.floor floor past made after (aside ++ lists) s (le-max_left contents.current.floor remote) made-keeps)

-- all of them
pub keeps-each : (remote : ℕ) (contents : Contents) (before after : List Work) (aside lists : List FreeList) (groups : List Group) (s : Sequencing) (notices : List Places) (past : Past)
    → AreTakenEach before lists groups after → AreLed contents before aside s notices → KeepsPast contents.current.floor past contents before aside s
    → KeepsPast (after_commits remote contents groups).current.floor past (after_commits remote contents groups) after (aside ++ lists) s
keeps-each remote contents before after aside lists [] s notices past taken led keeps =
    subst (λ (xs : List FreeList). KeepsPast contents.current.floor past contents after xs s) (sym (ap (λ (xs : List FreeList). aside ++ xs) taken.0 ∙ append-nil aside))
    (subst (λ (xs : List Work). KeepsPast contents.current.floor past contents xs aside s) (sym taken.1) keeps)
keeps-each remote contents before after aside lists (group ∷ groups) s notices past taken led keeps =
    let (front, rest, between, is, one, others) = taken in
    let made = after_group (floored remote contents) group in
    let last = after_commits remote made groups in
    subst (λ (xs : List FreeList). KeepsPast last.current.floor past last after xs s) (append_assoc aside front rest ∙ sym (ap (λ (xs : List FreeList). aside ++ xs) is))
    (keeps-each remote made between after (aside ++ front) rest groups s notices past others (led-first remote contents before between aside front group s notices one led)
    (keeps-first remote contents before between aside front group s notices past one led keeps))
