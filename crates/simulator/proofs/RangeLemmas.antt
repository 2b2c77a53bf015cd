-- A list that is built index by index.
use Rattle.std.proofs.Common.{◌≡◌, ℕ, ◌+◌, List, [], ◌∷◌, ◌++◌, map, arith, sym, ap₂, ◌∙◌}
use Rattle.std.specs.List.{range_with_len}
use Rattle.std.proofs.lemmas.List.FromFn.{map-range_with_len_more}

pub one_more : (f : ℕ → ℕ) (old new : List ℕ) (n x : ℕ) → old ≡ map f (range_with_len 0 n) → new ≡ old ++ x ∷ [] → x ≡ f n → new ≡ map f (range_with_len 0 (n + 1))
one_more f old new n x is pushed same =
    pushed ∙ ap₂ (λ prefix last. prefix ++ last ∷ []) is same ∙ sym (map-range_with_len_more f 0 n n (omega arith))
