-- A newcomer's image that is opened, and the gaps of its record that are cleared then.
use Rattle.std.specs.Prelude.{◌≡◌, ℕ, ◌+◌, drop, IsTrue}
use Rattle.model.specs.declared.record.Record.{Record}
use Rattle.model.specs.declared.record.Role.TheVariants.{Newcomer}
use Rattle.model.specs.Group.{Contents}
use Rattle.model.specs.Image.{Image}
use Rattle.wbl_engine.specs.Restarting.{IsReopened}
use Rattle.standby.specs.Following.{IsGapless}

-- the record once so many of its gaps are cleared, the oldest first
abbrev pub without_oldest : ℕ → Record → Record
without_oldest count r = record r { number = r.number + count; gaps = record { items = drop count r.gaps.items } }

-- Some gaps are cleared, the oldest first: no version changes, and no entry that was free is in use.
pub record ClearsGaps (old new : Contents) : Type 0 where
  pub count : ℕ
  pub current : new.current ≡ without_oldest count old.current
  pub lines_are : new.lines ≡ old.lines
  pub versions : (i : ℕ) → new.versions i ≡ old.versions i
  pub is_free : (i : ℕ) → IsTrue (old.is_free i) → IsTrue (new.is_free i)

-- The image was opened again as a newcomer's, and then all gaps were cleared, as far as the counters allow it.
pub record IsBegun (lines' : ℕ) (image : Image) (contents : Contents) : Type 0 where
  pub opened : Contents
  pub reopened : IsReopened lines' image Newcomer opened
  pub cleared : ClearsGaps opened contents
  pub gapless : IsGapless contents.current
