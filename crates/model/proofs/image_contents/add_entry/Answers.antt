use Rattle.std.proofs.Common.{◌≡◌, ℕ, List, Bool, sym, ap, ◌∙◌}
use Rattle.kv_types.specs.declared.record_id.RecordId.{RecordId}
use Rattle.model.specs.declared.record.Record.{Record}
use Rattle.model.specs.Image.{Image, counts, entry_word}
use Rattle.model.specs.ReadImage.{image_of, line_count}
use Rattle.model.proofs.ReadMapLemmas.{CannotAdd-clash, AddsEntry-put}
use Rattle.model.proofs.image_contents.add_entry.Goals as goal

-- what testing a stamp returned
stamp_counts : (r : Record) (image : Image) (i k word stamp : ℕ) (b said : Bool) → word ≡ entry_word i k → stamp ≡ image word → b ≡ counts r stamp → b ≡ said → counts r (image (entry_word i k)) ≡ said
stamp_counts r image i k word stamp b said at is tests e = ap (λ w. counts r (image w)) (sym at) ∙ ap (counts r) (sym is) ∙ sym tests ∙ e

pub returns-then-has_clash : goal.returns-then-has_clash
returns-then-has_clash c =
    let image = image_of c.args.words.now in
    let read = (rw c.in-Some.is at c.in_ok-id.ensures).1 in
    CannotAdd-clash (line_count c.args.words.now) c.args.current.now image c.args.i c.args.keyspace.now c.in-Some.id
    (stamp_counts c.args.current.now image c.args.i 0 c.entry_word.result c.word_at.result c.counts.result _ c.entry_word.ensures c.word_at.ensures c.counts.ensures c.if-not-counts.false)
    (stamp_counts c.args.current.now image c.args.i 1 c.entry_word-2.result c.word_at-2.result c.counts-2.result _ c.entry_word-2.ensures c.word_at-2.ensures c.counts-2.ensures c.if-counts.false)
    (ap (λ (p : RecordId × List ℕ). p.0) read) (sym c.has_clash.ensures ∙ c.if-has_clash.true)

pub returns : goal.returns
returns c =
    let image = image_of c.args.words.now in
    let read = (rw c.in-Some.is at c.in_ok-id.ensures).1 in
    AddsEntry-put c.args.current.now image c.args.i c.args.keyspace.now c.play.new.self c.in-Some.id c.in-Some.value
    (stamp_counts c.args.current.now image c.args.i 0 c.entry_word.result c.word_at.result c.counts.result _ c.entry_word.ensures c.word_at.ensures c.counts.ensures c.if-not-counts.false)
    (stamp_counts c.args.current.now image c.args.i 1 c.entry_word-2.result c.word_at-2.result c.counts-2.result _ c.entry_word-2.ensures c.word_at-2.ensures c.counts-2.ensures c.if-counts.false)
    (ap (λ (p : RecordId × List ℕ). p.0) read) (ap (λ (p : RecordId × List ℕ). p.1) read) (sym c.has_clash.ensures ∙ c.if-has_clash.false) c.in_ok-play.ensures.ok
