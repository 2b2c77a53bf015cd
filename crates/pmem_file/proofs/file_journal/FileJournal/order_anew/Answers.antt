use Rattle.std.proofs.Common.{◌≡◌, ℕ, ◌<◌, true, ap, arith}
use Rattle.pmem_file.specs.Call.{calls_of}
use Rattle.pmem_file.specs.Line.{has_line}
use Rattle.pmem_file.proofs.OrderLemmas.{Orders-anew, Orders-placed, Stops-placed}
use Rattle.pmem_file.specs.Journaled.{Orders}
use Rattle.pmem_file.proofs.ClearedLemmas.{Orders-cleared, Stops-cleared}
use Rattle.pmem_file.proofs.file_journal.FileJournal.order_anew.Goals as goal
use Rattle.pmem_file.proofs.file_journal.FileJournal.order_anew.Goals.{After-clear_away-then-persist}

pub returns-then-has_room-clause-ordered : goal.returns-then-has_room-clause-ordered
returns-then-has_room-clause-ordered c e =
    Orders-anew c.args.self.now c.clear_away.new.self c.seal.new.self (calls_of c.args.file.now.calls) (calls_of c.clear_away.new.file.calls) c.args.words.now
    c.args.lines.now (c.clear_away.ensures.begun c.if-not-clear_away.false) c.seal.ensures

in-place : (c : After-clear_away-then-persist) → Orders c.args.self.now c.clear_away.new.self (calls_of c.args.file.now.calls) (calls_of c.persist.new.self.calls) c.args.words.now
    c.args.lines.now
in-place c =
    let within : (line : ℕ) → has_line c.args.lines.now line ≡ true → line < c.clear_away.new.self.head.shape.lines =
    λ line has.
    let inside = c.requires.in_range line has in
    omega (arith, inside, c.requires.sized, ap (λ s. s.lines) c.clear_away.ensures.shape) in
    Orders-placed c.args.self.now c.clear_away.new.self (calls_of c.args.file.now.calls) (calls_of c.clear_away.new.file.calls)
    (calls_of c.persist.new.self.calls) c.args.words.now c.args.lines.now within (c.clear_away.ensures.begun c.if-not-clear_away.false)
    (c.persist.ensures.committed c.if-persist.true)

pub returns-then-persist-clause-ordered : goal.returns-then-persist-clause-ordered
returns-then-persist-clause-ordered c e =
    Orders-cleared c.args.self.now c.clear_away.new.self c.clear_away-then-persist.new.self (calls_of c.args.file.now.calls) (calls_of c.persist.new.self.calls)
    (calls_of c.clear_away-then-persist.new.file.calls) c.args.words.now c.args.lines.now (in-place c) (c.clear_away-then-persist.ensures.begun e)

pub returns-then-persist-clause-stopped : goal.returns-then-persist-clause-stopped
returns-then-persist-clause-stopped c e =
    Stops-cleared c.args.self.now c.clear_away.new.self c.clear_away-then-persist.new.self (calls_of c.args.file.now.calls) (calls_of c.persist.new.self.calls)
    (calls_of c.clear_away-then-persist.new.file.calls) c.args.words.now c.args.lines.now c.clear_away.ensures.shape (in-place c) (c.clear_away-then-persist.ensures.stopped e)

pub returns-else-persist-clause-stopped : goal.returns-else-persist-clause-stopped
returns-else-persist-clause-stopped c e =
    let within : (line : ℕ) → has_line c.args.lines.now line ≡ true → line < c.clear_away.new.self.head.shape.lines =
    λ line has.
    let inside = c.requires.in_range line has in
    omega (arith, inside, c.requires.sized, ap (λ s. s.lines) c.clear_away.ensures.shape) in
    Stops-placed c.args.self.now c.clear_away.new.self (calls_of c.args.file.now.calls) (calls_of c.clear_away.new.file.calls)
    (calls_of c.persist.new.self.calls) c.args.words.now c.args.lines.now c.clear_away.ensures.shape c.requires.sized within
    (c.clear_away.ensures.begun c.if-not-clear_away.false) c.persist.ensures.only
