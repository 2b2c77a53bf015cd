use Rattle.std.proofs.Common.{◌≡◌, ◌*◌, w64}
use Rattle.std.specs.Int.{to_le_bytes}
use Rattle.std.specs.List.{flat_map}
use Rattle.model.specs.Image.{words_from}
use Rattle.model.specs.ReadImage.{image_of}
use Rattle.model.proofs.image_entries.bytes_at.Given as goal

abbrev pub invariant-loop-k : goal.invariant-loop-k
invariant-loop-k l = l.bytes.items ≡ flat_map (to_le_bytes w64) (words_from (image_of l.words) (8 * l.line) l.k)
