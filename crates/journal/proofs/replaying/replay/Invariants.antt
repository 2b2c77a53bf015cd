use Rattle.std.proofs.Common.{◌≡◌, ℕ, ◌+◌, List, ◌++◌, length, get_or, vec_capacity}
use Rattle.journal.specs.Record.{Record, all_sealed}
use Rattle.journal.specs.Journal.{IsJournal}
use Rattle.journal.specs.Replay.{replayed}
use Rattle.journal.proofs.replaying.replay.Given as goal

abbrev pub invariant-loop-rest : goal.invariant-loop-rest
invariant-loop-rest l =
    ((done : List Record) × ((more : List Record) → IsJournal l.lines l.rest more → IsJournal l.lines l.words (done ++ more))
    × (length (all_sealed done) + length l.rest ≡ length l.words)
    × ((word : ℕ) → get_or l.image.items word 0 ≡ replayed done (λ w. get_or l.fn.image.items w 0) word))
    × (vec_capacity l.image ≡ vec_capacity l.fn.image)

abbrev pub decreases-loop-rest : goal.decreases-loop-rest
decreases-loop-rest l = length l.rest
