use Rattle.std.proofs.Common.{◌≡◌, ℕ, List, [], ◌∷◌}
use Rattle.pmem.specs.Crash.{image_of}
use Rattle.model.specs.Image.{entry_word}
use Rattle.wbl_migrate.specs.Ended.{words_after_begin}
use Rattle.wbl_migrate.proofs.EndedRuns.{entry_copied, loaded}
use Rattle.wbl_migrate.proofs.ended.copy_entry.Goals as goal

pub returns : goal.returns
returns g c =
    let old = g.P.Pmem.state c.args.device.now in
    let from = c.args.from.0 in
    let end : c.load.result ≡ image_of old.words (entry_word from 1) = loaded old c.load.ensures c.entry_word.ensures in
    let position : c.load-2.result ≡ image_of old.words (entry_word from 2) = loaded old c.load-2.ensures c.entry_word-2.ensures in
    let count : c.load-3.result ≡ image_of old.words (entry_word from 4) = loaded old c.load-3.ensures c.entry_word-3.ensures in
    let kind : c.load-4.result ≡ image_of old.words (entry_word from 5) = loaded old c.load-4.ensures c.entry_word-4.ensures in
    let lengths : c.load-5.result ≡ image_of old.words (entry_word from 6) = loaded old c.load-5.ensures c.entry_word-5.ensures in
    let value : c.load-6.result ≡ image_of old.words (entry_word from 7) = loaded old c.load-6.ensures c.entry_word-6.ensures in
    let words : List ℕ =
    c.load.result ∷ c.load-2.result ∷ c.args.to_line ∷ c.load-3.result ∷ c.load-4.result ∷ c.load-5.result ∷ c.load-6.result ∷ [] in
    let is_words : words ≡ words_after_begin (image_of old.words) from c.args.to_line = cc in
    entry_copied from c.args.to.0 c.args.to_line c.entry_word-7.result words c.entry_word-7.ensures is_words c.store_words.ensures
