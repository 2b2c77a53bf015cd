-- Each step, split and join keeps the mark rule.
use Rattle.std.proofs.Common.{◌≡◌, ◌≢◌, ℕ, zero, suc, ◌≤◌, max, Bool, true, false, true≢false, List, [], ◌∷◌, sym, refl, ap, ◌∙◌, subst, ⊎_elim, le_refl, le_trans, arith}
use mathlib.Core.Option.{none, some, some-ne-none, some-injective}
use lib.ListN.{get_elem?}
use Rattle.std.specs.Prelude.{slice_index, slice_set}
use Rattle.atomic_table.specs.Table.{State, Me, step, keeps, Allows, Splits, Joins}
use Rattle.atomic_table.specs.Table as table
use Rattle.atomic_table.proofs.Lists.{at_set}
use Rattle.marks.proofs.Holders.{has_after}
use Rattle.marks.specs.declared.view.MarkView.{MarkView}
use Rattle.marks.specs.View.{opening}
use Rattle.marks.specs.Rule.{Suits, Marked, RaisesLocal, RaisesRemote, FindsLocal, FindsRemote, Hears, FindsHeard}

off : {X : Type 0} → (b : Bool) → b ≡ false → b ≡ true → X
off b unset is_set = absurd (true≢false (sym is_set ∙ unset))

-- by cases on whether the flag is set
by_flag : {X : Type 0} (b : Bool) → (b ≡ true → X) → (b ≡ false → X) → X
by_flag true if_set if_unset = if_set refl
by_flag false if_set if_unset = if_unset refl

-- the seat `own` may have raised a word: a seat other than `own` that raises the word still knows it exactly
still : (own raiser seat known old new : ℕ) (owns raises : Bool) → seat ≢ own → (owns ≡ true → own ≡ raiser) → (owns ≡ false → new ≡ old)
    → (raises ≡ true → (seat ≡ raiser) × (known ≡ old)) → raises ≡ true → (seat ≡ raiser) × (known ≡ new)
still own raiser seat known old new owns raises apart mine same was is = by_flag owns
    (λ owns_it. absurd (apart ((was is).0 ∙ sym (mine owns_it))))
    (λ unset. ((was is).0, (was is).1 ∙ sym (same unset)))

-- what every seat but `own` knows suits the words that `own` has raised
others : (committer link local remote heard own : ℕ) (v : MarkView) → Suits committer link local remote heard own v
    → (l r s : ℕ) → local ≤ l → remote ≤ r → heard ≤ s → (v.raises_local ≡ false → l ≡ local) → (v.raises_remote ≡ false → r ≡ remote)
    → (seat : ℕ) (u : MarkView) → seat ≢ own → Suits committer link local remote heard seat u → Suits committer link l r s seat u
others committer link local remote heard own v mine l r s up_l up_r up_s only_l only_r seat u apart was = record {
  below_local = le_trans was.below_local up_l;
  below_remote = le_trans was.below_remote up_r;
  below_heard = le_trans was.below_heard up_s;
  raising_local = still own committer seat u.local local l v.raises_local u.raises_local apart (λ y. (mine.raising_local y).0) only_l was.raising_local;
  raising_remote = still own link seat u.remote remote r v.raises_remote u.raises_remote apart (λ y. (mine.raising_remote y).0) only_r was.raising_remote;
}

-- the words that a step leaves, and what its seat then knows
pub record Stepped (committer link local remote heard own : ℕ) (v : MarkView) (words : List ℕ) (tells : MarkView → Type 0) : Type 0 where
  pub l : ℕ
  pub r : ℕ
  pub s : ℕ
  pub w : MarkView
  pub words_are : words ≡ l ∷ r ∷ s ∷ []
  pub up : (local ≤ l) × (remote ≤ r) × (heard ≤ s) × (s ≤ 1)
  pub only : (v.raises_local ≡ false → l ≡ local) × (v.raises_remote ≡ false → r ≡ remote)
  pub suits : Suits committer link l r s own w
  pub same_raises : (w.raises_local ≡ v.raises_local) × (w.raises_remote ≡ v.raises_remote)
  pub told : tells w

-- A step on the word i keeps the rule, if it does so for all numbers of the words that suit its seat
pub allows : (slots own : ℕ) (v : MarkView) (held : List (ℕ × Unit {0})) (i : ℕ) (f : ℕ → ℕ) (tells : ℕ → Me (Unit {0}) MarkView → Type 0)
    → ((committer link l r s : ℕ) → s ≤ 1 → Suits committer link l r s own v
    → Stepped committer link l r s own v (slice_set (l ∷ r ∷ s ∷ []) i (f (slice_index (l ∷ r ∷ s ∷ []) i))) (λ w. tells (slice_index (l ∷ r ∷ s ∷ []) i) (w, held)))
    → Allows Marked slots own (v, held) i f tells
allows slots own v held i f tells does t m wide at fits =
    let mine = m.each own v at in
    let p = does m.committer m.link m.local m.remote m.heard m.heard_once mine in (
      p.w,
      keeps,
      tt,
      record {
        committer = m.committer;
        link = m.link;
        local = p.l;
        remote = p.r;
        heard = p.s;
        words = ap (λ ws. slice_set ws i (f (slice_index ws i))) m.words ∙ p.words_are;
        heard_once = p.up.3;
        has_committer = has_after (λ u. u.raises_local) t.views own m.committer v p.w at p.same_raises.0 m.has_committer;
        has_link = has_after (λ u. u.raises_remote) t.views own m.link v p.w at p.same_raises.1 m.has_link;
        each = λ seat u there. ⊎_elim
            (λ (x : (seat ≡ own) × (p.w ≡ u)). subst (λ (y : ℕ × MarkView). Suits m.committer m.link p.l p.r p.s y.0 y.1) (λ k. (sym x.0 k, x.1 k)) p.suits)
            (λ (x : (seat ≢ own) × (get_elem? t.views seat ≡ some u)). others m.committer m.link m.local m.remote m.heard own v mine p.l p.r p.s p.up.0 p.up.1 p.up.2 p.only.0 p.only.1 seat u x.0 (m.each seat u x.1))
            (at_set t.views own seat p.w u there);
      },
      subst (λ ws. tells (slice_index ws i) (p.w, held)) (sym m.words) p.told,
    )

pub begins : (local : ℕ) → Marked (table.opening (local ∷ 0 ∷ 0 ∷ []) [] (opening local))
begins local = record { committer = 0; link = 0; local = local; remote = 0; heard = 0; words = refl; heard_once = omega arith; has_committer = (opening local, refl, refl); has_link = (opening local, refl, refl); each = first }
  where
    first : (seat : ℕ) (v : MarkView) → get_elem? (opening local ∷ []) seat ≡ some v → Suits 0 0 local 0 0 seat v
    first zero v e = subst (Suits 0 0 local 0 0 0) (some-injective _ _ e)
        (record { below_local = le_refl local; below_remote = le_refl 0; below_heard = le_refl 0; raising_local = λ _. (refl, refl); raising_remote = λ _. (refl, refl) })
    first (suc seat) v e = absurd (some-ne-none v (sym e))

module _ (slots own : ℕ) (v : MarkView) (held : List (ℕ × Unit {0})) where
  pub raises_local : (k : ℕ) → v.raises_local ≡ true → Allows Marked slots own (v, held) 0 (λ n. max n k) (RaisesLocal (step slots 0 k 0 none) (v, held))
  raises_local k is = allows slots own v held 0 (λ n. max n k) (RaisesLocal (step slots 0 k 0 none) (v, held)) (λ committer link l r s once mine.
      let exact = (mine.raising_local is).1 in
      record {
        l = max l k;
        r = r;
        s = s;
        w = record v { local = max v.local k };
        words_are = refl;
        up = (omega arith, le_refl r, le_refl s, once);
        only = ((λ unset. off v.raises_local unset is), λ _. refl);
        suits = record {
          below_local = omega (arith, exact);
          below_remote = mine.below_remote;
          below_heard = mine.below_heard;
          raising_local = λ _. ((mine.raising_local is).0, ap (λ (n : ℕ). max n k) exact);
          raising_remote = mine.raising_remote;
        };
        same_raises = (refl, refl);
        told = (refl, refl);
      })

  pub raises_remote : (k : ℕ) → v.raises_remote ≡ true → Allows Marked slots own (v, held) 1 (λ n. max n k) (RaisesRemote (step slots 1 k 0 none) (v, held))
  raises_remote k is = allows slots own v held 1 (λ n. max n k) (RaisesRemote (step slots 1 k 0 none) (v, held)) (λ committer link l r s once mine.
      let exact = (mine.raising_remote is).1 in
      record {
        l = l;
        r = max r k;
        s = s;
        w = record v { remote = max v.remote k };
        words_are = refl;
        up = (le_refl l, omega arith, le_refl s, once);
        only = ((λ _. refl), λ unset. off v.raises_remote unset is);
        suits = record {
          below_local = mine.below_local;
          below_remote = omega (arith, exact);
          below_heard = mine.below_heard;
          raising_local = mine.raising_local;
          raising_remote = λ _. ((mine.raising_remote is).0, ap (λ (n : ℕ). max n k) exact);
        };
        same_raises = (refl, refl);
        told = (refl, refl);
      })

  pub finds_local : Allows Marked slots own (v, held) 0 (λ n. n) (FindsLocal (step slots 0 0 0 none) (v, held))
  finds_local = allows slots own v held 0 (λ n. n) (FindsLocal (step slots 0 0 0 none) (v, held)) (λ committer link l r s once mine. record {
    l = l;
    r = r;
    s = s;
    w = record v { local = l };
    words_are = refl;
    up = (le_refl l, le_refl r, le_refl s, once);
    only = ((λ _. refl), λ _. refl);
    suits = record {
      below_local = le_refl l;
      below_remote = mine.below_remote;
      below_heard = mine.below_heard;
      raising_local = λ is. ((mine.raising_local is).0, refl);
      raising_remote = mine.raising_remote;
    };
    same_raises = (refl, refl);
    told = (mine.below_local, (λ is. sym (mine.raising_local is).1), (refl, refl));
  })

  pub finds_remote : Allows Marked slots own (v, held) 1 (λ n. n) (FindsRemote (step slots 1 0 0 none) (v, held))
  finds_remote = allows slots own v held 1 (λ n. n) (FindsRemote (step slots 1 0 0 none) (v, held)) (λ committer link l r s once mine. record {
    l = l;
    r = r;
    s = s;
    w = record v { remote = r };
    words_are = refl;
    up = (le_refl l, le_refl r, le_refl s, once);
    only = ((λ _. refl), λ _. refl);
    suits = record {
      below_local = mine.below_local;
      below_remote = le_refl r;
      below_heard = mine.below_heard;
      raising_local = mine.raising_local;
      raising_remote = λ is. ((mine.raising_remote is).0, refl);
    };
    same_raises = (refl, refl);
    told = (mine.below_remote, (λ is. sym (mine.raising_remote is).1), (refl, refl));
  })

  pub hears : Allows Marked slots own (v, held) 2 (λ _. 1) (λ _. Hears (step slots 2 1 0 none) (v, held) 1)
  hears = allows slots own v held 2 (λ _. 1) (λ _. Hears (step slots 2 1 0 none) (v, held) 1) (λ committer link l r s once mine. record {
    l = l;
    r = r;
    s = 1;
    w = record v { heard = 1 };
    words_are = refl;
    up = (le_refl l, le_refl r, once, le_refl 1);
    only = ((λ _. refl), λ _. refl);
    suits = record {
      below_local = mine.below_local;
      below_remote = mine.below_remote;
      below_heard = le_refl 1;
      raising_local = mine.raising_local;
      raising_remote = mine.raising_remote;
    };
    same_raises = (refl, refl);
    told = (refl, refl);
  })

  pub finds_heard : Allows Marked slots own (v, held) 2 (λ n. n) (FindsHeard (step slots 2 0 0 none) (v, held))
  finds_heard = allows slots own v held 2 (λ n. n) (FindsHeard (step slots 2 0 0 none) (v, held)) (λ committer link l r s once mine. record {
    l = l;
    r = r;
    s = s;
    w = record v { heard = s };
    words_are = refl;
    up = (le_refl l, le_refl r, le_refl s, once);
    only = ((λ _. refl), λ _. refl);
    suits = record {
      below_local = mine.below_local;
      below_remote = mine.below_remote;
      below_heard = le_refl s;
      raising_local = mine.raising_local;
      raising_remote = mine.raising_remote;
    };
    same_raises = (refl, refl);
    told = (mine.below_heard, once, (refl, refl));
  })
