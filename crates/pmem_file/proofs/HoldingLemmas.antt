-- A device over a file knows its candidates through each call.
use Rattle.std.proofs.Common.{◌≡◌, ℕ, ◌/◌, ◌<◌, true, false, not, ◌||◌, ◌==◌, List, [], ◌∷◌, filter, length, get_or, set, refl, inl, inr, sym, subst, ap, ◌∙◌, arith}
use Rattle.std.proofs.lemmas.List.{length-set}
use Rattle.std.proofs.lemmas.Bool.{or_cases, or_left, or_parts, not_from_false, cond-true, cases_Bool, eqb-true}
use Rattle.pmem.specs.Device.{Older, Word, store_word, flush_word, fence_word, store_at, flush_at, fenced, settled}
use Rattle.pmem.specs.Cell.{may_be}
use Rattle.pmem.proofs.Words.{MayBe-store_word, flush_word-MayBe}
use Rattle.pmem.proofs.Chains.{may_be-MayBe, MayBe-may_be}
use Rattle.pmem.proofs.Staging.{same_or_other, store_at-same, store_at-other, flush_at-same, flush_at-other}
use Rattle.pmem_file.specs.declared.notes.Notes.{Notes}
use Rattle.pmem_file.specs.Call.{Call, may_hold, Brings}
use Rattle.pmem_file.specs.Line.{has_line, Fixes}
use Rattle.pmem_file.specs.Noted.{is_noted}
use Rattle.pmem_file.specs.Holding.{has_passed, Holds}
use Rattle.pmem_file.specs.Following.{Copies}
use Rattle.pmem_file.proofs.CopiesLemmas.{Copies-flushed, Copies-stored, fence_leaves}

-- a file that was just read holds its words
pub Holds-read : (copy : List ℕ) (notes : Notes) (read : List ℕ) → ((word : ℕ) → word < length copy → get_or copy word 0 ≡ get_or read word 0)
    → Holds copy notes read [] (λ (word : ℕ). settled (get_or copy word 0))
Holds-read copy notes read same =
    record {
      newest = λ word. refl;
      noted = λ word un. refl;
      within = λ word x below may.
          or_left (x == get_or copy word 0) false (subst (λ (y : ℕ). (x == y) ≡ true) (sym (same word below)) may);
    }

copied : (copy : List ℕ) (notes : Notes) (read : List ℕ) (calls : List Call) (words : ℕ → Word) → Holds copy notes read calls words → Copies copy notes words
copied copy notes read calls words holds = record { newest = holds.newest; noted = holds.noted }

-- a store
pub Holds-stored : (copy : List ℕ) (notes : Notes) (read : List ℕ) (calls : List Call) (words : ℕ → Word) (at x : ℕ) → at < length copy
    → Holds copy notes read calls words → Holds (set copy at x) notes read calls (store_at at x words)
Holds-stored copy notes read calls words at x below holds =
    let copies = Copies-stored copy notes words at x below (copied copy notes read calls words holds) in
    record {
      newest = copies.newest;
      noted = copies.noted;
      within = λ word y below' may.
          let inside : word < length copy = omega (arith, below', length-set copy at x) in
          elim (same_or_other word at) [
            | inl e ↦
                subst (λ (w : Word). may_be w y ≡ true) (sym (store_at-same at x words word e))
                (MayBe-may_be (store_word x (words word)) y (MayBe-store_word x (words word) y (may_be-MayBe (words word) y (holds.within word y inside may))))
            | inr n ↦ subst (λ (w : Word). may_be w y ≡ true) (sym (store_at-other at x words word n)) (holds.within word y inside may)
          ];
    }

-- a flush, which notes its line
pub Holds-flushed : (copy : List ℕ) (notes notes' : Notes) (read : List ℕ) (calls : List Call) (words : ℕ → Word) (line : ℕ)
    → ((other : ℕ) → is_noted notes' other ≡ ((other == line) || is_noted notes other))
    → Holds copy notes read calls words → Holds copy notes' read calls (flush_at line words)
Holds-flushed copy notes notes' read calls words line noted holds =
    let copies = Copies-flushed copy notes notes' words line noted (copied copy notes read calls words holds) in
    record {
      newest = copies.newest;
      noted = copies.noted;
      within = λ word y below may.
          elim (same_or_other (word / 8) line) [
            | inl e ↦
                subst (λ (w : Word). may_be w y ≡ true) (sym (flush_at-same line words word e))
                (MayBe-may_be (flush_word (words word)) y (flush_word-MayBe (words word) y (may_be-MayBe (words word) y (holds.within word y below may))))
            | inr n ↦ subst (λ (w : Word). may_be w y ≡ true) (sym (flush_at-other line words word n)) (holds.within word y below may)
          ];
    }

pub fence_keeps : (older : List Older) → has_passed older ≡ false → filter (λ o. not o.passed) older ≡ older
fence_keeps [] none = refl
fence_keeps (o ∷ older) none =
    let both = or_parts o.passed (has_passed older) none in
    cond-true (not o.passed) _ _ (not_from_false o.passed both.0) ∙ ap (λ (os : List Older). o ∷ os) (fence_keeps older both.1)

-- a fence that succeeded, after which no line is noted
pub Holds-fenced : (copy : List ℕ) (notes notes' : Notes) (lines : List ℕ) (read : List ℕ) (calls calls' : List Call) (words : ℕ → Word)
    → ((line : ℕ) → has_line lines line ≡ is_noted notes line) → Brings copy calls calls' → Fixes copy lines calls'
    → Holds copy notes read calls words → Holds copy notes' read calls' (fenced words)
Holds-fenced copy notes notes' lines read calls calls' words listed brings fixes holds =
    record {
      newest = holds.newest;
      noted = λ word un. fence_leaves (words word).older;
      within = λ word y below may.
          elim (cases_Bool (is_noted notes (word / 8))) [
            | inl is ↦
                MayBe-may_be (fence_word (words word)) y (inl (fixes read word y may (listed (word / 8) ∙ is) ∙ holds.newest word))
            | inr is ↦
                let same : fence_word (words word) ≡ words word =
                ap (λ (os : List Older). record { newest = (words word).newest; older = os }) (fence_keeps (words word).older (holds.noted word is)) in
                subst (λ (w : Word). may_be w y ≡ true) (sym same)
                (elim (or_cases (may_hold read calls word y) (y == get_or copy word 0) (brings read word y may)) [
                  | inl before ↦ holds.within word y below before
                  | inr new ↦ MayBe-may_be (words word) y (inl (eqb-true y (get_or copy word 0) new ∙ holds.newest word))
                ])
          ];
    }
