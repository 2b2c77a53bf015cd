-- The lines that wait for a fence, and the writes that bring them to the file.
use Rattle.std.specs.Prelude.{◌≡◌, ℕ, ◌+◌, ◌*◌, ◌/◌, Bool, true, false, ◌||◌, ◌&&◌, ◌==◌, nat_lt, if◌then◌else◌, List, [], ◌∷◌, take, drop, slice_index}
use Rattle.pmem_file.specs.declared.run.TheConstants.{LINES_A_WRITE}
use Rattle.pmem_file.specs.Byte.{bytes_of}
use Rattle.pmem_file.specs.Call.{Call, Wrote, may_hold}

-- whether a line is one of these
abbrev pub has_line : List ℕ → ℕ → Bool
has_line [] line = false
has_line (l ∷ lines) line = (line == l) || has_line lines line

abbrev pub one_if : Bool → ℕ
one_if true = 1
one_if false = 0

-- how many marks are set
abbrev pub marked : List Bool → ℕ
marked [] = 0
marked (mark ∷ marks) = one_if mark + marked marks

-- the runs of neighbours, each as its first line and how many lines it has, where a run of `count` lines from `first` on is open and these follow
abbrev pub runs_from : ℕ → ℕ → List ℕ → List (ℕ × ℕ)
runs_from first count [] = (first, count) ∷ []
runs_from first count (line ∷ lines) =
    if (line == first + count) && nat_lt count LINES_A_WRITE then runs_from first (count + 1) lines else (first, count) ∷ runs_from line 1 lines

-- the runs of these lines. A run is no longer than one write may be
abbrev pub runs_of : List ℕ → List (ℕ × ℕ)
runs_of [] = []
runs_of (line ∷ lines) = runs_from line 1 lines

-- the bytes of a run of lines of these words
abbrev pub run_bytes : List ℕ → ℕ × ℕ → List ℕ
run_bytes words run = bytes_of (take (8 * run.1) (drop (8 * run.0) words))

-- the calls after one write of each run, in order
abbrev pub with_writes : List ℕ → List (ℕ × ℕ) → List Call → List Call
with_writes words [] calls = calls
with_writes words (run ∷ runs) calls = with_writes words runs (Wrote (64 * run.0) (run_bytes words run) true ∷ calls)

-- a crash leaves in each word of these lines its value of these words, and no other
abbrev pub Fixes : List ℕ → List ℕ → List Call → Type 0
Fixes words lines calls =
    (read : List ℕ) (word x : ℕ) → may_hold read calls word x ≡ true → has_line lines (word / 8) ≡ true → x ≡ slice_index words word
