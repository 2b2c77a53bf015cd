-- The watched keys of one session, as the entries of a table whose keys differ.
use Rattle.std.proofs.Common.{◌≡◌, ℕ, Bool, true, false, cond, ◌||◌, List, [], ◌∷◌, ◌++◌, map, None, Result, Ok, Err, OnOk, refl, sym, ap, ap₂, ◌∙◌, arith, append_assoc, append-nil}
use Rattle.std.specs.Prelude.{is_some}
use Rattle.std.specs.Global.{Vec}
use Rattle.std.specs.List.{list_any, AllByRecursion, IsDistinct}
use Rattle.std.specs.Map.{lookup, set_value}
use Rattle.std.specs.Cmp.Lexicographic.{nat_list_eq_equiv}
use Rattle.std.proofs.Math.Bool.{or-true}
use Rattle.std.proofs.lemmas.Bool.{or_parts}
use Rattle.std.proofs.lemmas.Map.Keys.{IsDistinct-head, IsDistinct-tail}
use Rattle.cmd_core.specs.Contents.{same_bytes}
use Rattle.indexmap.specs.IndexMap.{insert_entry, insert_all}
use Rattle.multi_watch.specs.declared.watch.Watch.{Watch}
use Rattle.multi_watch.specs.Session.{is_watched, marked}
use Rattle.multi_watch.specs.Watches.{Marks, keys_of, watch_of, watches_of, AreShort, is_key_in}
use Rattle.multi_watch.proofs.SessionsLemmas.{same_is, marked_other, not_marked, with_mark}

-- the test by which the table finds a key
abbrev pub is_at : List ℕ → Vec ℕ → Bool
is_at own key = same_bytes own key.items

abbrev pub vec_eq : Vec ℕ → Vec ℕ → Bool
vec_eq x y = same_bytes x.items y.items

flipped : (a b : List ℕ) → same_bytes a b ≡ same_bytes b a
flipped a b = nat_list_eq_equiv.symm a b

-- ---- looking a key up

pub found_watched : (own : List ℕ) (marks : Marks) → is_some (lookup (is_at own) marks) ≡ is_watched own (watches_of marks)
found_watched own [] = refl
found_watched own (mark ∷ marks) = grind (arith, flipped own mark.0.items, found_watched own marks)

pub keys_watched : (own : List ℕ) (marks : Marks) → is_key_in own (keys_of marks) ≡ is_watched own (watches_of marks)
keys_watched own [] = refl
keys_watched own (mark ∷ marks) = ap (λ b. same_bytes mark.0.items own || b) (keys_watched own marks)

-- ---- marking a key

pub none_marked : (own : List ℕ) (marks : Marks) → lookup (is_at own) marks ≡ None → map (marked own) (watches_of marks) ≡ watches_of marks
none_marked own marks none = not_marked own (watches_of marks) (sym (found_watched own marks) ∙ ap is_some none)

-- no later key is the first one
no_later : (own : List ℕ) (key : Vec ℕ) (marks : Marks) → own ≡ key.items → AllByRecursion (λ other. vec_eq key other ≡ false) (keys_of marks) → is_watched own (watches_of marks) ≡ false
no_later own key [] is apart = refl
no_later own key (mark ∷ marks) is apart =
    ap₂ (λ a b. a || b) (flipped mark.0.items own ∙ ap (λ k. same_bytes k mark.0.items) is ∙ apart.0) (no_later own key marks is apart.1)

pub one_marked : (own : List ℕ) (marks : Marks) → IsDistinct vec_eq (keys_of marks) → watches_of (set_value (is_at own) marks true) ≡ map (marked own) (watches_of marks)
one_marked own [] apart = refl
one_marked own (mark ∷ marks) apart = by_same (one_marked own marks (IsDistinct-tail vec_eq mark.0 (keys_of marks) apart)) (same_bytes own mark.0.items) refl where
  by_same : watches_of (set_value (is_at own) marks true) ≡ map (marked own) (watches_of marks) → (same : Bool) → same_bytes own mark.0.items ≡ same
      → watches_of (cond same ((mark.0, true) ∷ marks) (mark ∷ set_value (is_at own) marks true)) ≡ map (marked own) (watches_of (mark ∷ marks))
  by_same rest true is =
      let later = no_later own mark.0 marks (same_is own mark.0.items is) (IsDistinct-head vec_eq mark.0 (keys_of marks) apart) in
      let here : (mark.1 || same_bytes mark.0.items own) ≡ true = ap (λ b. mark.1 || b) (flipped mark.0.items own ∙ is) ∙ or-true mark.1 in
      ap₂ (λ w ws. w ∷ ws) (ap (λ b. with_mark mark.0.items b) (sym here)) (sym (not_marked own (watches_of marks) later))
  by_same rest false is = ap₂ (λ w ws. w ∷ ws) (sym (marked_other own (watch_of mark) (flipped mark.0.items own ∙ is))) rest

-- ---- adding keys

pub watches_of-append : (first more : Marks) → watches_of (first ++ more) ≡ watches_of first ++ watches_of more
watches_of-append [] more = refl
watches_of-append (mark ∷ first) more = ap (λ ws. watch_of mark ∷ ws) (watches_of-append first more)

pub short-append : (first more : Marks) → AreShort (keys_of first) → AreShort (keys_of more) → AreShort (keys_of (first ++ more))
short-append [] more short later = later
short-append (mark ∷ first) more short later = (short.0, short-append first more short.1 later)

-- a key that is not there goes last
goes_last : (key : Vec ℕ) (value : Bool) (marks : Marks) → is_watched key.items (watches_of marks) ≡ false → insert_entry vec_eq marks key value ≡ marks ++ (key, value) ∷ []
goes_last key value [] new = refl
goes_last key value (mark ∷ marks) new = grind (arith, or_parts, flipped key.items mark.0.items, goes_last key value marks)

pub one_added : (key : Vec ℕ) (own : List ℕ) (value : Bool) (marks : Marks) → key.items ≡ own → is_watched own (watches_of marks) ≡ false → insert_entry vec_eq marks key value ≡ marks ++ (key, value) ∷ []
one_added key own value marks is new = goes_last key value marks (ap (λ k. is_watched k (watches_of marks)) is ∙ new)

is_watched-append : (own : List ℕ) (first more : List Watch) → is_watched own first ≡ false → is_watched own more ≡ false → is_watched own (first ++ more) ≡ false
is_watched-append own [] more none later = later
is_watched-append own (watch ∷ first) more none later = grind (arith, or_parts, is_watched-append own first more)

-- the later keys are none of the first ones, nor the next one
still_apart : (first : Marks) (mark : Vec ℕ × Bool) (more : Marks) → AllByRecursion (λ other. vec_eq mark.0 other ≡ false) (keys_of more)
    → list_any (λ watch. is_watched watch.key (watches_of first)) (watches_of more) ≡ false
    → list_any (λ watch. is_watched watch.key (watches_of (first ++ mark ∷ []))) (watches_of more) ≡ false
still_apart first mark [] differ apart = refl
still_apart first mark (next ∷ more) differ apart =
    let parts = or_parts (is_watched next.0.items (watches_of first)) (list_any (λ watch. is_watched watch.key (watches_of first)) (watches_of more)) apart in
    ap₂ (λ a b. a || b)
    (ap (is_watched next.0.items) (watches_of-append first (mark ∷ [])) ∙ is_watched-append next.0.items (watches_of first) (watch_of mark ∷ []) parts.0 (ap (λ b. b || false) differ.0))
    (still_apart first mark more differ.1 parts.1)

pub all_added : (first more : Marks) → IsDistinct vec_eq (keys_of more) → list_any (λ watch. is_watched watch.key (watches_of first)) (watches_of more) ≡ false
    → insert_all vec_eq first more ≡ first ++ more
all_added first [] differ apart = sym (append-nil first)
all_added first (mark ∷ more) differ apart =
    let parts = or_parts (is_watched mark.0.items (watches_of first)) (list_any (λ watch. is_watched watch.key (watches_of first)) (watches_of more)) apart in
    ap (λ done. insert_all vec_eq done more) (goes_last mark.0 mark.1 first parts.0)
    ∙ all_added (first ++ mark ∷ []) more (IsDistinct-tail vec_eq mark.0 (keys_of more) differ)
    (still_apart first mark more (IsDistinct-head vec_eq mark.0 (keys_of more) differ) parts.1)
    ∙ append_assoc first (mark ∷ []) more

-- ---- some key was modified

pub some_modified : (marks : Marks) → list_any (λ is_modified. is_modified) (map (λ mark. mark.1) marks) ≡ list_any (λ watch. watch.is_modified) (watches_of marks)
some_modified [] = refl
some_modified (mark ∷ marks) = ap (λ b. mark.1 || b) (some_modified marks)

pub then_on_ok : {X E P Q : Type 0} (result : Result X E) → OnOk result P → (P → Q) → OnOk result Q
then_on_ok (Ok x) done next = next done
then_on_ok (Err e) done next = tt
