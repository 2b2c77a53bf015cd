use Rattle.std.proofs.Common.{ℕ, length, subst}
use Rattle.std.proofs.Math.Logic.{∥∥₁_map}
use Rattle.pmem.specs.History.{words_of, past_of}
use Rattle.pmem_file.specs.Following.{IsBlankBehind}
use Rattle.pmem_file.proofs.FollowingLemmas.{left-decided}
use Rattle.pmem_file.proofs.journaled.JournaledFile.leaves_an_image.Goals as goal

pub returns-clause-image : goal.returns-clause-image
returns-clause-image c file image is made =
    let device = c.args.self.now in
    left-decided device.journal.head.shape.lines (words_of device.history) (past_of device.history) (length (past_of device.synced.value)) image
    (subst (λ (n : ℕ). IsBlankBehind n (words_of device.history) (past_of device.history)) device.shaped device.blank) made.behind (∥∥₁_map device.kept (λ k. k.leaves file image is made))

pub returns-clause-head : goal.returns-clause-head
returns-clause-head c = ∥∥₁_map c.args.self.now.kept (λ k. k.head)
