-- What seats know: at the start, after a split and after a join.
use Rattle.std.specs.Prelude.{ℕ, max, Bool, true, false, not, ◌&&◌, ◌||◌, if◌then◌else◌}
use Rattle.marks.specs.declared.view.MarkView.{MarkView}

-- the first seat raises both marks
abbrev pub opening : ℕ → MarkView
opening local = record { local = local; remote = 0; heard = 0; raises_local = true; raises_remote = true }

-- what a split leaves: the raises that the new seat does not take
abbrev pub keeping : Bool → Bool → MarkView → MarkView
keeping takes_local takes_remote v = record v { raises_local = v.raises_local && not takes_local; raises_remote = v.raises_remote && not takes_remote }

-- what a split gives to the new seat: all that was seen, and the raises that it takes
abbrev pub taking : Bool → Bool → MarkView → MarkView
taking takes_local takes_remote v = record v { raises_local = v.raises_local && takes_local; raises_remote = v.raises_remote && takes_remote }

-- of what two seats know of one word: the number of the seat that raises it, and otherwise the greater number
abbrev pub number_of_both : Bool → Bool → ℕ → ℕ → ℕ
number_of_both a_raises b_raises a b = if a_raises then a else (if b_raises then b else max a b)

abbrev pub joined : MarkView → MarkView → MarkView
joined v w = record {
  local = number_of_both v.raises_local w.raises_local v.local w.local;
  remote = number_of_both v.raises_remote w.raises_remote v.remote w.remote;
  heard = max v.heard w.heard;
  raises_local = v.raises_local || w.raises_local;
  raises_remote = v.raises_remote || w.raises_remote;
}

-- a seat that was joined into another no longer knows anything
abbrev pub spent : MarkView
spent = record { local = 0; remote = 0; heard = 0; raises_local = false; raises_remote = false }
