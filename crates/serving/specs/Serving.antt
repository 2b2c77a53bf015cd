-- What serving connections does to the sequencer and to what is known of the marks, and what those wait for who wait for room.
use Rattle.std.specs.Prelude.{◌≡◌, ◌≤◌, ℕ, Bool, true, false, List, []}
use Rattle.marks.specs.declared.view.MarkView.{MarkView}
use Rattle.model.specs.declared.work.FreeList.{FreeList}
use Rattle.model.specs.declared.work.Work.{Work}
use Rattle.model.specs.Group.{Contents}
use Rattle.redis_core.specs.Sequencing.{Sequencing}
use Rattle.primary.specs.Leading.{KeepsLead, Leads}
use Rattle.primary.specs.Recalling.{AgreeUpTo, AreKeyspaces, KeepsPast, Past}
use Rattle.primary.specs.Settled.{HasNothingOpen}

-- Whatever the committer has in hand, a past that was kept goes on: one that is the same up to where the sequencer was is kept, with what is served now.
abbrev pub GoesOn : Sequencing → Sequencing → Type 0
GoesOn old new =
    (low : ℕ) (past : Past) (contents : Contents) (items : List Work) (aside : List FreeList) → Leads contents items aside old [] → AreKeyspaces past
    → KeepsPast low past contents items aside old
    → (later : Past) × AreKeyspaces later × AgreeUpTo old.position past later × KeepsPast low later contents items aside new

-- The sequencer is ahead of all that it was ahead of, what waited there to be closed waits still, and the past goes on.
pub record Serves (old new : Sequencing) : Type 0 where
  pub keeps : KeepsLead old new
  pub waits : HasNothingOpen new → HasNothingOpen old
  pub rises : old.position ≤ new.position
  pub goes_on : GoesOn old new

-- no less is known of either mark, nor of whether the standby was heard
abbrev pub HasRead : MarkView → MarkView → Type 0
HasRead old new = (old.local ≤ new.local) × (old.remote ≤ new.remote) × (old.heard ≡ 1 → new.heard ≡ 1)

-- Where somebody waits for room, the committer has something in hand, or something waits to be closed.
abbrev pub WaitsOnlyFor : Bool → Bool → Sequencing → Type 0
WaitsOnlyFor is_short is_working s = is_short ≡ true → ¬ ((is_working ≡ false) × HasNothingOpen s)
