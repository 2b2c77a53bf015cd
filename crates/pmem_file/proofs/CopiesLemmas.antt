-- The copy of a device in memory through each call: a load gives the newest candidate, and lines with passed ones are noted.
use Rattle.std.proofs.Common.{◌≡◌, ℕ, ◌/◌, ◌<◌, ◌||◌, ◌==◌, List, [], length, set, get_or, refl, inl, inr, sym, ap, ◌∙◌, get_or-set_same, get_or-set_other, Bool, false, not, ◌∷◌, ◌++◌, filter}
use Rattle.std.proofs.lemmas.Bool.{or_parts, eqb-false, or_from, not-true, cond_both}
use Rattle.pmem.specs.Device.{Word, settled, store_at, flush_at, fenced, Older}
use Rattle.pmem.proofs.Staging.{same_or_other, store_at-same, store_at-other, flush_at-other, newest-flush_at}
use Rattle.pmem_file.specs.declared.notes.Notes.{Notes}
use Rattle.pmem_file.specs.Noted.{is_noted}
use Rattle.pmem_file.specs.Holding.{has_passed}
use Rattle.pmem_file.specs.Following.{Copies}

pub has_passed-push : (older : List Older) (x : ℕ) → has_passed (older ++ record { value = x; passed = false } ∷ []) ≡ has_passed older
has_passed-push [] x = refl
has_passed-push (o ∷ older) x = ap (λ (b : Bool). o.passed || b) (has_passed-push older x)

-- after a fence no candidate is passed
pub fence_leaves : (older : List Older) → has_passed (filter (λ o. not o.passed) older) ≡ false
fence_leaves [] = refl
fence_leaves (o ∷ older) =
    cond_both (not o.passed) (o ∷ filter (λ o. not o.passed) older) (filter (λ o. not o.passed) older) (λ (os : List Older). has_passed os ≡ false)
    (λ kept. or_from o.passed _ (not-true o.passed kept) (fence_leaves older)) (λ _. fence_leaves older)

pub Copies-read : (copy : List ℕ) (notes : Notes) → Copies copy notes (λ (word : ℕ). settled (get_or copy word 0))
Copies-read copy notes = record { newest = λ word. refl; noted = λ word un. refl }

pub Copies-stored : (copy : List ℕ) (notes : Notes) (words : ℕ → Word) (at x : ℕ) → at < length copy → Copies copy notes words
    → Copies (set copy at x) notes (store_at at x words)
Copies-stored copy notes words at x below copies =
    record {
      newest = λ word.
          elim (same_or_other word at) [
            | inl e ↦ rw e (get_or-set_same copy at x 0 below) ∙ sym (ap (λ (w : Word). w.newest) (store_at-same at x words word e))
            | inr n ↦ get_or-set_other copy at word x 0 n ∙ copies.newest word ∙ sym (ap (λ (w : Word). w.newest) (store_at-other at x words word n))
          ];
      noted = λ word un.
          elim (same_or_other word at) [
            | inl e ↦
                ap (λ (w : Word). has_passed w.older) (store_at-same at x words word e)
                ∙ has_passed-push (words word).older (words word).newest ∙ copies.noted word un
            | inr n ↦ ap (λ (w : Word). has_passed w.older) (store_at-other at x words word n) ∙ copies.noted word un
          ];
    }

pub Copies-flushed : (copy : List ℕ) (notes notes' : Notes) (words : ℕ → Word) (line : ℕ)
    → ((other : ℕ) → is_noted notes' other ≡ ((other == line) || is_noted notes other)) → Copies copy notes words
    → Copies copy notes' (flush_at line words)
Copies-flushed copy notes notes' words line noted copies =
    record {
      newest = λ word. copies.newest word ∙ sym (newest-flush_at line words word);
      noted = λ word un.
          let both = or_parts (word / 8 == line) (is_noted notes (word / 8)) (sym (noted (word / 8)) ∙ un) in
          ap (λ (w : Word). has_passed w.older) (flush_at-other line words word (eqb-false (word / 8) line both.0)) ∙ copies.noted word both.1;
    }

pub Copies-fenced : (copy : List ℕ) (notes notes' : Notes) (words : ℕ → Word) → Copies copy notes words → Copies copy notes' (fenced words)
Copies-fenced copy notes notes' words copies = record { newest = copies.newest; noted = λ word un. fence_leaves (words word).older }

pub Copies-noted : (copy : List ℕ) (notes notes' : Notes) (words : ℕ → Word) → ((line : ℕ) → is_noted notes' line ≡ is_noted notes line)
    → Copies copy notes words → Copies copy notes' words
Copies-noted copy notes notes' words same copies =
    record { newest = copies.newest; noted = λ word un. copies.noted word (sym (same (word / 8)) ∙ un) }
