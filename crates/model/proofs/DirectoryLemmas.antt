-- Entries of the directory of consistent contents.
use Rattle.std.proofs.Common.{◌≡◌, ℕ, ◌<◌, inl, inr, IsTrue, None, sym, ap, ◌∙◌}
use Rattle.std.proofs.lemmas.Bool.{cases_lt, true≢false}
use Rattle.model.specs.declared.layout.Layout.{Layout}
use Rattle.model.specs.Layout.{entries_of_lines}
use Rattle.model.specs.Group.{Contents, IsConsistent, entries_of, is_ended_version}

-- an entry that has a version is in the directory
pub in-directory : (contents : Contents) → IsConsistent contents → (i : ℕ) → (contents.versions i ≡ None → ⊥) → i < entries_of contents
in-directory contents consistent i some = elim (cases_lt i (entries_of contents)) [
  | inl within ↦ within
  | inr past ↦ absurd (some (consistent.beyond i past))
]

pub ended-directory : (contents : Contents) → IsConsistent contents → (i : ℕ) → IsTrue (is_ended_version (contents.versions i)) → i < entries_of contents
ended-directory contents consistent i is = in-directory contents consistent i (λ none. true≢false (sym is ∙ ap is_ended_version none))

-- contents of one layout and one size have as many entries
pub entries_same : (old new : Contents) → new.current.layout ≡ old.current.layout → new.lines ≡ old.lines → entries_of new ≡ entries_of old
entries_same old new layout lines = ap (λ (l : Layout). entries_of_lines l new.lines) layout ∙ ap (entries_of_lines old.current.layout) lines
