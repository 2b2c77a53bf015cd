use Rattle.std.proofs.Common.{◌≡◌, ◌+◌, ◌*◌, ◌/◌, ◌++◌, length, take, w64, sym, ap, ◌∙◌, arith}
use Rattle.std.specs.Int.{to_le_bytes}
use Rattle.std.specs.List.{flat_map}
use Rattle.pmem.specs.Crash.{image_of}
use Rattle.model.specs.Image.{words_from}
use Rattle.model.proofs.ReadEntryLemmas.{word_bytes-more, length-bytes_at}
use Rattle.heap_layout.proofs.shape.bytes_at.Goals as goal

pub loop-k-preserved : goal.loop-k-preserved
loop-k-preserved g c =
    let image = image_of (g.P.Pmem.state c.args.device.now).words in
    let before = flat_map (to_le_bytes w64) (words_from image (8 * c.args.line) c.loop-k.k) in
    c.in_ok-extend_from_slice.ensures.items ∙ ap (λ bytes. bytes ++ c.to_le_bytes.result) c.loop-k.invariant
    ∙ ap (λ bytes. before ++ bytes) (c.to_le_bytes.ensures ∙ ap (to_le_bytes w64) c.load.ensures)
    ∙ sym (word_bytes-more image (8 * c.args.line) c.loop-k.k)

pub returns-clause-bytes : goal.returns-clause-bytes
returns-clause-bytes g c =
    let image = image_of (g.P.Pmem.state c.args.device.now).words in
    let end : c.loop-k.k ≡ (c.args.count + 7) / 8 = omega arith in
    c.truncate.ensures.items
    ∙ ap (take c.args.count) (c.loop-k.invariant ∙ ap (λ k. flat_map (to_le_bytes w64) (words_from image (8 * c.args.line) k)) end)

pub returns-clause-len : goal.returns-clause-len
returns-clause-len g c =
    c.truncate.new.self.ok.0 ∙ ap length (returns-clause-bytes g c)
    ∙ length-bytes_at (image_of (g.P.Pmem.state c.args.device.now).words) c.args.line c.args.count
