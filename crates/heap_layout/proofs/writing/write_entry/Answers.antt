use Rattle.std.proofs.Common.{◌≡◌, ℕ, ◌++◌, List, [], ◌∷◌, arith, length, ap, ◌∙◌}
use Rattle.pmem.specs.Device.{State}
use Rattle.pmem.specs.Crash.{image_of}
use Rattle.pmem.specs.Runs.{Runs, stores, written}
use Rattle.pmem.proofs.Staging.{newest-stores}
use Rattle.heap_layout.specs.Put.{entry_words, put_pairs}
use Rattle.heap_layout.proofs.LayoutRuns.{put_runs, length-name, read_bytes}
use Rattle.heap_layout.proofs.ReadBack.{put_reads}
use Rattle.heap_layout.proofs.ReadAlike.{ReadsAlike-put}
use Rattle.heap_layout.proofs.writing.write_entry.Goals as goal

-- what loads return after the stores
newest : (old new : State) (pairs : List (ℕ × ℕ)) → Runs old new (stores pairs old.words) → (word : ℕ) → image_of new.words word ≡ written pairs (image_of old.words) word
newest old new pairs run word = ap (λ words. image_of words word) run.words ∙ newest-stores pairs old.words word

pub write_extent-requires-clause-short : goal.write_extent-requires-clause-short
write_extent-requires-clause-short g c =
    omega (
      arith,
      length-name c.name_of.result.0.now c.name_of.result.1.now c.args.put.now.id c.name_of.ensures,
      c.lengths_of.ensures.short,
      ap length c.as_slice.ensures,
      c.len.ensures.value,
      c.len.ensures.bound,
    )

pub returns-clause-stored : goal.returns-clause-stored
returns-clause-stored g c =
    let put = c.args.put.now in
    let words : List ℕ =
    c.args.begin ∷ 0 ∷ c.args.position ∷ put.extent.first_line ∷ put.extent.lines ∷ c.kind_of.result ∷ c.lengths_of.result ∷ c.len.result ∷ [] in
    let kind = c.kind_of.ensures in
    let lengths = c.lengths_of.ensures.value in
    let value = c.len.ensures.value in
    let is_words : words ≡ entry_words c.args.begin c.args.position put = cc in
    put_runs c.args.begin c.args.position put (c.name_of.result.0.now ++ c.name_of.result.1.now ++ c.as_slice.result.now) words c.entry_word.result
    (read_bytes put c.name_of.result.0.now c.name_of.result.1.now c.as_slice.result.now c.name_of.ensures c.as_slice.ensures) is_words
    c.entry_word.ensures c.write_extent.ensures.stored c.store_words.ensures

pub returns-clause-storable : goal.returns-clause-storable
returns-clause-storable g c =
    record {
      bytes =
          rw (read_bytes c.args.put.now c.name_of.result.0.now c.name_of.result.1.now c.as_slice.result.now c.name_of.ensures c.as_slice.ensures)
          at c.write_extent.ensures.bytes;
      key = omega (arith, c.lengths_of.ensures.name.key);
    }

pub returns-clause-whole : goal.returns-clause-whole
returns-clause-whole g c =
    let old = g.P.Pmem.state c.args.device.now in
    let new = g.P.Pmem.state c.store_words.new.device in
    (put_reads old.lines c.args.begin c.args.position c.args.put.now (image_of old.words) (image_of new.words) c.requires.placed c.requires.fitting (returns-clause-storable g c)
    c.lengths_of.ensures.name (omega (arith, c.len.ensures.value, c.len.ensures.bound)) (newest old new (put_pairs c.args.begin c.args.position c.args.put.now) (returns-clause-stored g c))).0

pub returns-clause-read : goal.returns-clause-read
returns-clause-read g c =
    let old = g.P.Pmem.state c.args.device.now in
    let new = g.P.Pmem.state c.store_words.new.device in
    (put_reads old.lines c.args.begin c.args.position c.args.put.now (image_of old.words) (image_of new.words) c.requires.placed c.requires.fitting (returns-clause-storable g c)
    c.lengths_of.ensures.name (omega (arith, c.len.ensures.value, c.len.ensures.bound)) (newest old new (put_pairs c.args.begin c.args.position c.args.put.now) (returns-clause-stored g c))).1

pub returns-clause-others : goal.returns-clause-others
returns-clause-others g c i below other =
    let put = c.args.put.now in
    let old = g.P.Pmem.state c.args.device.now in
    let new = g.P.Pmem.state c.store_words.new.device in
    ReadsAlike-put old.lines c.args.begin c.args.position put (image_of old.words) (image_of new.words) i c.requires.placed below other
    (newest old new (put_pairs c.args.begin c.args.position put) (returns-clause-stored g c))
