use Rattle.std.proofs.Common.{◌≡◌, ◌*◌, ◌++◌, take, replicate}
use Rattle.std.specs.List.{flat_map}
use Rattle.model.specs.Image.{gap_words}
use Rattle.wbl_record.proofs.record.push_gaps.Given as goal

abbrev pub invariant-loop-k : goal.invariant-loop-k
invariant-loop-k l = l.words.items ≡ l.fn.words.items ++ take (2 * l.k) (flat_map gap_words l.gaps.items ++ replicate (2 * l.room) 0)
