-- Marking one key after the other, and marking what a clear takes away.
use Rattle.std.proofs.Common.{◌≡◌, ℕ, suc, ◌+◌, ◌<◌, ◌≤◌, Bool, true, false, ◌||◌, List, [], ◌∷◌, length, map, drop, drop-cons, get_or, Option, Some, None, refl, sym, ap, ◌∙◌, arith}
use Rattle.std.specs.List.{list_any}
use Rattle.std.specs.Option.{option_map}
use Rattle.std.proofs.lemmas.List.{drop_all}
use Rattle.std.proofs.Math.Bool.{or-false}
use Rattle.kv_types.specs.declared.change.Change.{Change}
use Rattle.kv_types.specs.Keyspace.{Keyspace}
use Rattle.cmd_core.specs.Contents.{same_bytes}
use Rattle.multi_watch.specs.Session.{Session, is_watched, modified, modified_where}
use Rattle.multi_watch.specs.Modified.{names, modifies}
use Rattle.multi_watch.specs.Sessions.{Sessions, slot, session_of}
use Rattle.multi_watch.proofs.ModifiedLemmas.{modified_where-twice, modified_where-none, modified_where-watched}
use Rattle.redis_core.specs.Marking.{Marks, AreCleared}

abbrev Test : Type 0
Test = List ℕ → Bool

abbrev pub marked : Test → Option Session → Option Session
marked is_modified o = option_map (modified_where is_modified) o

same_test : (p q : Test) → ((own : List ℕ) → p own ≡ q own) → p ≡ q
same_test p q same = λ i own. same own i

marked-same : (p q : Test) → ((own : List ℕ) → p own ≡ q own) → (o : Option Session) → marked p o ≡ marked q o
marked-same p q same o = ap (λ (t : Test). marked t o) (same_test p q same)

marked-twice : (p q : Test) (o : Option Session) → marked q (marked p o) ≡ marked (λ own. p own || q own) o
marked-twice p q None = refl
marked-twice p q (Some session) = ap Some (modified_where-twice p q session)

marked-none : (o : Option Session) → marked (λ own. false) o ≡ o
marked-none None = refl
marked-none (Some session) = ap Some (modified_where-none session)

-- ---- one after the other

module _ {A : Type 0} (test : List ℕ → A → Bool) (xs : List A) where
  -- what the elements from this one on modify
  abbrev from : ℕ → Test
  from i own = list_any (test own) (drop i xs)

  next_one : (i : ℕ) (x : A) → i < length xs → x ≡ get_or xs i x → (own : List ℕ) → (test own x || from (i + 1) own) ≡ from i own
  next_one i x within is own =
      let e : suc i ≡ i + 1 = omega arith in
      ap (λ y. test own y || from (i + 1) own) is ∙ sym (ap (list_any (test own)) (drop-cons xs i x within ∙ ap (λ m. get_or xs i x ∷ drop m xs) e))

  pub marked_next : (i : ℕ) (x : A) → i < length xs → x ≡ get_or xs i x → (was now : Option Session) → now ≡ marked (λ own. test own x) was → marked (from (i + 1)) now ≡ marked (from i) was
  marked_next i x within is was now step =
      ap (marked (from (i + 1))) step ∙ marked-twice (λ own. test own x) (from (i + 1)) was ∙ marked-same (λ own. test own x || from (i + 1) own) (from i) (next_one i x within is) was

  pub marked_last : (i : ℕ) → length xs ≤ i → (now : Option Session) → now ≡ marked (from i) now
  marked_last i past now = sym (marked-same (from i) (λ own. false) (λ own. ap (list_any (test own)) (drop_all i xs past)) now ∙ marked-none now)

-- ---- the key of a change, if it has one

pub marked_key : (key : List ℕ) (test : Test) → ((own : List ℕ) → list_any (λ k. same_bytes own k) (key ∷ []) ≡ test own) → (was now : Option Session) → now ≡ option_map (modified key) was → now ≡ marked test was
marked_key key test is was now step = step ∙ marked-same (λ own. same_bytes own key) test (λ own. sym (or-false (same_bytes own key)) ∙ is own) was

pub no_key : (test : Test) → ((own : List ℕ) → false ≡ test own) → (was : Option Session) → was ≡ marked test was
no_key test is was = sym (marked-none was) ∙ marked-same (λ own. false) test is was

list_any-map : {A B : Type 0} (p : B → Bool) (f : A → B) (xs : List A) → list_any p (map f xs) ≡ list_any (λ x. p (f x)) xs
list_any-map p f [] = refl
list_any-map p f (x ∷ xs) = ap (λ b. p (f x) || b) (list_any-map p f xs)

pub marked_mapped : {A B : Type 0} (test : List ℕ → B → Bool) (f : A → B) (xs : List A) (o : Option Session) → marked (λ own. list_any (λ x. test own (f x)) xs) o ≡ marked (λ own. list_any (test own) (map f xs)) o
marked_mapped test f xs o = marked-same (λ own. list_any (λ x. test own (f x)) xs) (λ own. list_any (test own) (map f xs)) (λ own. sym (list_any-map (test own) f xs)) o

-- ---- what changes modify, in two parts

marked-watched : (p q : Test) (o : Option Session) → ((own : List ℕ) → is_watched own (session_of o).watched ≡ true → p own ≡ q own) → marked p o ≡ marked q o
marked-watched p q None same = refl
marked-watched p q (Some session) same = ap Some (modified_where-watched p q session same)

pub marks_parts : (s : Keyspace) (made : List Change) (old middle new : Sessions) (cleared : List (List ℕ)) → AreCleared s made old cleared
    → ((seat : ℕ) → slot middle seat ≡ marked (λ own. list_any (names own) made) (slot old seat))
    → ((seat : ℕ) → slot new seat ≡ marked (λ own. list_any (λ key. same_bytes own key) cleared) (slot middle seat))
    → Marks s made old new
marks_parts s made old middle new cleared are first second seat =
    let changed : Test = λ own. list_any (names own) made in
    let gone : Test = λ own. list_any (λ key. same_bytes own key) cleared in
    second seat ∙ ap (marked gone) (first seat) ∙ marked-twice changed gone (slot old seat)
    ∙ marked-watched (λ own. changed own || gone own) (modifies s made) (slot old seat) (λ own is. ap (λ b. changed own || b) (are seat own is))
