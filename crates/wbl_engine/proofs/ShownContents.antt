-- An image that was opened again shows consistent contents.
use Rattle.std.proofs.Common.{◌≡◌, ℕ, ◌<◌, ◌≤◌, ⊎_elim, cond, IsTrue, List, Some, None, sym, ap, ◌∙◌, arith, eqb-true}
use Rattle.std.proofs.lemmas.Bool.{cases_lt, le-ltb}
use Rattle.kv_types.specs.declared.place.EntryNo.{EntryNo}
use Rattle.heap_layout.specs.declared.entry.Entry.{Entry}
use Rattle.model.specs.declared.record.Role.{Role}
use Rattle.model.specs.Group.{Contents, IsConsistent, entries_of}
use Rattle.model.specs.Image.{Image, counts, entries_of_lines, entry_word, version_at, version_in}
use Rattle.wbl_engine.specs.Contents.{Keeps}
use Rattle.wbl_engine.specs.Reopening.{IsShown, Reopens}
use Rattle.wbl_engine.proofs.ReopeningLaws.{new_entries}

module _ (lines' : ℕ) (image opened : Image) (role : Role) (contents : Contents) (counted : List (EntryNo × Entry)) (gapped : List EntryNo)
    (reopens : Reopens lines' image role contents counted gapped) (shown : IsShown contents counted gapped opened) (keeps : Keeps contents opened) where
  abbrev count : ℕ
  count = entries_of contents

  -- an entry that was not begun has no version
  none_where_free : (i : ℕ) → i < count → IsTrue (contents.is_free i) → contents.versions i ≡ None
  none_where_free i lt is =
      let unbegun = eqb-true (opened (entry_word i 0)) 0 (sym (shown.is_free i lt) ∙ is) in
      sym (keeps.versions i lt) ∙ ap (λ stamp. cond (counts contents.current stamp) (Some (version_in contents.current opened i)) None) unbegun

  none_beyond : (i : ℕ) → count ≤ i → contents.versions i ≡ None
  none_beyond i past =
      let entries : ℕ = entries_of_lines reopens.before.layout lines' in
      reopens.versions i
      ∙ ap (λ b. cond b (version_at reopens.before image i) None) (le-ltb i entries (omega (arith, past, new_entries reopens)))

  pub shown_consistent : IsConsistent contents
  shown_consistent = record {
    free = λ i is. ⊎_elim (λ (lt : i < count). none_where_free i lt is) (none_beyond i) (cases_lt i count);
    beyond = none_beyond;
  }
