-- Each step and the split keep the rule of a lending.
use Rattle.std.proofs.Common.{◌≡◌, ◌≢◌, ◌⊎◌, ◌==◌, ℕ, zero, suc, true, false, true≢false, List, [], ◌∷◌, ◌++◌, length, set, sym, refl, ap, ◌∙◌, subst, inl, inr, ⊎_elim, arith, Option, Some, None}
use mathlib.Core.Option.{none, some, some-ne-none, some-injective}
use lib.ListN.{get_elem?}
use prog.Atomic.{either}
use Rattle.std.specs.Prelude.{slice_index, slice_set, is_some}
use Rattle.atomic_table.specs.Table.{State, Me, Act, step, takes, gives, homes_after, carried_after, Valid, Allows, Splits, rest}
use Rattle.atomic_table.specs.Table as table
use Rattle.atomic_table.proofs.Lists.{at_set}
use Rattle.lending.specs.declared.view.LendingView.{LendingView}
use Rattle.lending.specs.Phases.{Phase, new, home, lent, taken, returned, word_of, place_of, is_new, lent_of, taken_of, Agrees, lender_has, borrower_has}
use Rattle.lending.specs.Rule.{Suits, Ruled, opening, asking, lending, borrowing, Opens, Lends, Gives, Takes, TakesBack}

at_end : {A : Type 0} (l : List A) (a b : A) (j : ℕ) → get_elem? (l ++ a ∷ []) j ≡ some b → (get_elem? l j ≡ some b) ⊎ ((j ≡ length l) × (a ≡ b))
at_end [] a b zero e = inr (refl, some-injective a b e)
at_end [] a b (suc j) e = absurd (some-ne-none b (sym e))
at_end (x ∷ xs) a b zero e = inl e
at_end (x ∷ xs) a b (suc j) e = ⊎_elim (λ t. inl t) (λ t. inr (ap suc t.0, t.1)) (at_end xs a b j e)

module _ {T : Type 0} where
  unlike : {X : Type 0} (o : Option T) (v : T) → o ≡ None → o ≡ Some v → X
  unlike o v is_none is = absurd (true≢false (ap is_some (sym is ∙ is_none)))

  same_value : (v w : T) (o : Option T) → o ≡ Some v → o ≡ Some w → v ≡ w
  same_value v w o a b = let or_v : Option T → T = λ p. value_or p in ap or_v (sym a ∙ b)
    where
      value_or : Option T → T
      value_or None = v
      value_or (Some x) = x

  -- a list that begins with `x`
  pub begins_with : (c old : List (ℕ × Option T)) (x : ℕ × Option T) → c ≡ x ∷ old → c ≡ x ∷ rest c
  begins_with c old x is = is ∙ ap (λ l. x ∷ rest l) (sym is)

module _ {T : Type 0} (offers : T → Type 0) (keeps : T → T → Type 0) where
  -- what a step of the seat `own` leaves, where the word becomes `n`, and what the seat is then told
  record Stepped (lender borrower own n : ℕ) (p : Phase T) (held : List (ℕ × Option T)) (tells : Me (Option T) (LendingView T) → Type 0) : Type 0 where
    pub after : Phase T
    pub w : LendingView T
    pub act : Act (Option T)
    pub valid : Valid (place_of p ∷ []) held act
    pub word : n ≡ word_of after
    pub place : homes_after (place_of p ∷ []) held act ≡ place_of after ∷ []
    pub agrees : Agrees offers keeps after
    pub suits : Suits lender borrower after own w
    pub others : (seat : ℕ) (u : LendingView T) → seat ≢ own → Suits lender borrower p seat u → Suits lender borrower after seat u
    pub told : tells (w, carried_after held act)

  -- a step keeps the rule, if it does so in each phase that suits its seat
  allows : (slots own : ℕ) (v : LendingView T) (held : List (ℕ × Option T)) (f : ℕ → ℕ) (tells : ℕ → Me (Option T) (LendingView T) → Type 0)
      → ((lender borrower : ℕ) (p : Phase T) → Agrees offers keeps p → Suits lender borrower p own v → Stepped lender borrower own (f (word_of p)) p held (tells (word_of p)))
      → Allows (Ruled offers keeps) slots own (v, held) 0 f tells
  allows slots own v held f tells does t m deep at fits =
      let p = does m.lender m.borrower m.phase m.agrees (m.each own v at) in (
        p.w,
        p.act,
        subst (λ hs. Valid hs held p.act) (sym m.homes) p.valid,
        record {
          phase = p.after;
          lender = m.lender;
          borrower = m.borrower;
          words = ap (λ ws. slice_set ws 0 (f (slice_index ws 0))) m.words ∙ ap (λ n. n ∷ []) p.word;
          homes = ap (λ hs. homes_after hs held p.act) m.homes ∙ p.place;
          agrees = p.agrees;
          each = λ seat u there. ⊎_elim
              (λ (x : (seat ≡ own) × (p.w ≡ u)). subst (λ (y : ℕ × LendingView T). Suits m.lender m.borrower p.after y.0 y.1) (λ k. (sym x.0 k, x.1 k)) p.suits)
              (λ (x : (seat ≢ own) × (get_elem? t.views seat ≡ some u)). p.others seat u x.0 (m.each seat u x.1))
              (at_set t.views own seat p.w u there);
        },
        subst (λ ws. tells (slice_index ws 0) (p.w, carried_after held p.act)) (sym m.words) p.told,
      )

  module _ (lender borrower own : ℕ) (v : LendingView T) (p after : Phase T) (mine : Suits lender borrower p own v) where
    -- a step of the lender leaves what the borrower knows
    beside_lender : v.lends ≡ true → taken_of after ≡ taken_of p → (seat : ℕ) (u : LendingView T) → seat ≢ own → Suits lender borrower p seat u → Suits lender borrower after seat u
    beside_lender lends same seat u apart was = record {
      lending = λ is. absurd (apart ((was.lending is).0 ∙ sym (mine.lending lends).0));
      borrowing = λ is. ((was.borrowing is).0, (was.borrowing is).1 ∙ sym same);
    }

    -- a step of the borrower leaves what the lender knows
    beside_borrower : v.borrows ≡ true → is_new after ≡ is_new p → lent_of after ≡ lent_of p → (seat : ℕ) (u : LendingView T) → seat ≢ own → Suits lender borrower p seat u → Suits lender borrower after seat u
    beside_borrower borrows as_new same seat u apart was = record {
      lending = λ is. ((was.lending is).0, (was.lending is).1 ∙ sym as_new, (was.lending is).2 ∙ sym same);
      borrowing = λ is. absurd (apart ((was.borrowing is).0 ∙ sym (mine.borrowing borrows).0));
    }

  -- a step that finds another word than it looks for
  stays : (lender borrower own n : ℕ) (v : LendingView T) (p : Phase T) (held : List (ℕ × Option T)) (tells : Me (Option T) (LendingView T) → Type 0)
      → n ≡ word_of p → Agrees offers keeps p → Suits lender borrower p own v → tells (asking n v, held) → Stepped lender borrower own n p held tells
  stays lender borrower own n v p held tells word agrees mine told = record {
    after = p;
    w = asking n v;
    act = table.keeps;
    valid = tt;
    word = word;
    place = refl;
    agrees = agrees;
    suits = record { lending = mine.lending; borrowing = mine.borrowing };
    others = λ seat u apart was. was;
    told = told;
  }

  module _ (slots own : ℕ) (v : LendingView T) where
    opens : v.lends ≡ true → v.new ≡ true → Allows (Ruled offers keeps) slots own (v, []) 0 (λ _. 0) (λ _. Opens (step slots 0 0 0 none) (v, []) 0)
    opens lends is_first = allows slots own v [] (λ _. 0) (λ _. Opens (step slots 0 0 0 none) (v, []) 0) by_phase
      where
        by_phase : (l b : ℕ) (p : Phase T) → Agrees offers keeps p → Suits l b p own v → Stepped l b own 0 p [] (Opens (step slots 0 0 0 none) (v, []) 0)
        by_phase l b new agrees mine = record {
          after = home;
          w = record v { new = false };
          act = takes 0 None;
          valid = refl;
          word = refl;
          place = refl;
          agrees = tt;
          suits = record { lending = λ is. ((mine.lending is).0, refl, (mine.lending is).2); borrowing = mine.borrowing };
          others = beside_lender l b own v new home mine lends refl;
          told = (refl, refl);
        }
        by_phase l b home agrees mine = absurd (true≢false (sym is_first ∙ (mine.lending lends).1))
        by_phase l b (lent x) agrees mine = absurd (true≢false (sym is_first ∙ (mine.lending lends).1))
        by_phase l b (taken x) agrees mine = absurd (true≢false (sym is_first ∙ (mine.lending lends).1))
        by_phase l b (returned x y) agrees mine = absurd (true≢false (sym is_first ∙ (mine.lending lends).1))

    lends_one : (x : T) → offers x → v.lends ≡ true → v.new ≡ false → v.lent ≡ None → Allows (Ruled offers keeps) slots own (v, (0, Some x) ∷ []) 0 (λ _. 1) (λ _. Lends (step slots 0 1 0 none) (v, (0, Some x) ∷ []) 1)
    lends_one x offered lends begun nothing = allows slots own v ((0, Some x) ∷ []) (λ _. 1) (λ _. Lends (step slots 0 1 0 none) (v, (0, Some x) ∷ []) 1) by_phase
      where
        by_phase : (l b : ℕ) (p : Phase T) → Agrees offers keeps p → Suits l b p own v → Stepped l b own 1 p ((0, Some x) ∷ []) (Lends (step slots 0 1 0 none) (v, (0, Some x) ∷ []) 1)
        by_phase l b new agrees mine = absurd (true≢false (sym (mine.lending lends).1 ∙ begun))
        by_phase l b home agrees mine = record {
          after = lent x;
          w = record v { lent = Some x };
          act = gives;
          valid = tt;
          word = refl;
          place = refl;
          agrees = offered;
          suits = record { lending = λ is. ((mine.lending is).0, (mine.lending is).1, refl); borrowing = mine.borrowing };
          others = beside_lender l b own v home (lent x) mine lends refl;
          told = (refl, refl);
        }
        by_phase l b (lent y) agrees mine = unlike v.lent y nothing (mine.lending lends).2
        by_phase l b (taken y) agrees mine = unlike v.lent y nothing (mine.lending lends).2
        by_phase l b (returned y z) agrees mine = unlike v.lent y nothing (mine.lending lends).2

    gives_one : (x y : T) → v.borrows ≡ true → v.taken ≡ Some x → keeps x y → Allows (Ruled offers keeps) slots own (v, (0, Some y) ∷ []) 0 (λ _. 3) (λ _. Gives (step slots 0 3 0 none) (v, (0, Some y) ∷ []) 3)
    gives_one x y borrows has kept = allows slots own v ((0, Some y) ∷ []) (λ _. 3) (λ _. Gives (step slots 0 3 0 none) (v, (0, Some y) ∷ []) 3) by_phase
      where
        by_phase : (l b : ℕ) (p : Phase T) → Agrees offers keeps p → Suits l b p own v → Stepped l b own 3 p ((0, Some y) ∷ []) (Gives (step slots 0 3 0 none) (v, (0, Some y) ∷ []) 3)
        by_phase l b new agrees mine = unlike v.taken x (mine.borrowing borrows).1 has
        by_phase l b home agrees mine = unlike v.taken x (mine.borrowing borrows).1 has
        by_phase l b (lent z) agrees mine = unlike v.taken x (mine.borrowing borrows).1 has
        by_phase l b (taken z) agrees mine = record {
          after = returned z y;
          w = record v { taken = None };
          act = gives;
          valid = tt;
          word = refl;
          place = refl;
          agrees = subst (λ k. keeps k y) (same_value x z v.taken has (mine.borrowing borrows).1) kept;
          suits = record { lending = mine.lending; borrowing = λ is. ((mine.borrowing is).0, refl) };
          others = beside_borrower l b own v (taken z) (returned z y) mine borrows refl refl;
          told = (refl, refl);
        }
        by_phase l b (returned z w) agrees mine = unlike v.taken x (mine.borrowing borrows).1 has

    takes_one : v.borrows ≡ true → Allows (Ruled offers keeps) slots own (v, []) 0 (λ n. either (n == 1) 2 n) (Takes offers (step slots 0 1 2 none) (v, []))
    takes_one borrows = allows slots own v [] (λ n. either (n == 1) 2 n) (Takes offers (step slots 0 1 2 none) (v, [])) by_phase
      where
        by_phase : (l b : ℕ) (p : Phase T) → Agrees offers keeps p → Suits l b p own v → Stepped l b own (either (word_of p == 1) 2 (word_of p)) p [] (Takes offers (step slots 0 1 2 none) (v, []) (word_of p))
        by_phase l b new agrees mine = stays l b own 4 v new [] (Takes offers (step slots 0 1 2 none) (v, []) 4) refl agrees mine ((λ e. absurd (omega (arith, e))), λ _. (refl, refl))
        by_phase l b home agrees mine = stays l b own 0 v home [] (Takes offers (step slots 0 1 2 none) (v, []) 0) refl agrees mine ((λ e. absurd (omega (arith, e))), λ _. (refl, refl))
        by_phase l b (lent x) agrees mine = record {
          after = taken x;
          w = record (asking 1 v) { taken = Some x };
          act = takes 0 (Some x);
          valid = refl;
          word = refl;
          place = refl;
          agrees = tt;
          suits = record { lending = mine.lending; borrowing = λ is. ((mine.borrowing is).0, refl) };
          others = beside_borrower l b own v (lent x) (taken x) mine borrows refl refl;
          told = ((λ e. (x, agrees, refl, refl)), λ n. absurd (n refl));
        }
        by_phase l b (taken x) agrees mine = stays l b own 2 v (taken x) [] (Takes offers (step slots 0 1 2 none) (v, []) 2) refl agrees mine ((λ e. absurd (omega (arith, e))), λ _. (refl, refl))
        by_phase l b (returned x y) agrees mine = stays l b own 3 v (returned x y) [] (Takes offers (step slots 0 1 2 none) (v, []) 3) refl agrees mine ((λ e. absurd (omega (arith, e))), λ _. (refl, refl))

    -- the lender asks where something is out, and where nothing is
    pub takes_back : (held : List (ℕ × Option T)) → v.lends ≡ true → Allows (Ruled offers keeps) slots own (v, held) 0 (λ n. either (n == 3) 0 n) (TakesBack keeps (step slots 0 3 0 none) (v, held))
    takes_back held lends = allows slots own v held (λ n. either (n == 3) 0 n) (TakesBack keeps (step slots 0 3 0 none) (v, held)) by_phase
      where
        by_phase : (l b : ℕ) (p : Phase T) → Agrees offers keeps p → Suits l b p own v → Stepped l b own (either (word_of p == 3) 0 (word_of p)) p held (TakesBack keeps (step slots 0 3 0 none) (v, held) (word_of p))
        by_phase l b new agrees mine = stays l b own 4 v new held (TakesBack keeps (step slots 0 3 0 none) (v, held) 4) refl agrees mine ((λ e. absurd (omega (arith, e))), λ _. (refl, refl))
        by_phase l b home agrees mine = stays l b own 0 v home held (TakesBack keeps (step slots 0 3 0 none) (v, held) 0) refl agrees mine ((λ e. absurd (omega (arith, e))), λ _. (refl, refl))
        by_phase l b (lent x) agrees mine = stays l b own 1 v (lent x) held (TakesBack keeps (step slots 0 3 0 none) (v, held) 1) refl agrees mine ((λ e. absurd (omega (arith, e))), λ _. (refl, refl))
        by_phase l b (taken x) agrees mine = stays l b own 2 v (taken x) held (TakesBack keeps (step slots 0 3 0 none) (v, held) 2) refl agrees mine ((λ e. absurd (omega (arith, e))), λ _. (refl, refl))
        by_phase l b (returned x y) agrees mine = record {
          after = home;
          w = record (asking 3 v) { lent = None };
          act = takes 0 (Some y);
          valid = refl;
          word = refl;
          place = refl;
          agrees = tt;
          suits = record { lending = λ is. ((mine.lending is).0, (mine.lending is).1, refl); borrowing = mine.borrowing };
          others = beside_lender l b own v (returned x y) home mine lends refl;
          told = ((λ e. (x, y, (mine.lending lends).2, agrees, refl, refl)), λ n. absurd (n refl));
        }

  module _ (slots own : ℕ) (m : Me (Option T) (LendingView T)) where
    pub opened : m ≡ (opening, []) → Allows (Ruled offers keeps) slots own m 0 (λ _. 0) (λ _. Opens (step slots 0 0 0 none) m 0)
    opened is = subst (λ k. Allows (Ruled offers keeps) slots own k 0 (λ _. 0) (λ _. Opens (step slots 0 0 0 none) k 0)) (sym is) (opens slots own opening refl refl)

    pub takes_lent : m.1 ≡ [] → m.0.borrows ≡ true → Allows (Ruled offers keeps) slots own m 0 (λ n. either (n == 1) 2 n) (Takes offers (step slots 0 1 2 none) m)
    takes_lent has its = subst (λ c. Allows (Ruled offers keeps) slots own (m.0, c) 0 (λ n. either (n == 1) 2 n) (Takes offers (step slots 0 1 2 none) (m.0, c))) (sym has) (takes_one slots own m.0 its)

  -- the seat was `m`, and has written to the place
  module _ (slots own : ℕ) (m after : Me (Option T) (LendingView T)) where
    pub lends : (x : T) → offers x → after ≡ (m.0, (0, Some x) ∷ rest m.1) → m.1 ≡ lender_has m.0.lent → m.0.lends ≡ true → m.0.new ≡ false → m.0.lent ≡ None
        → Allows (Ruled offers keeps) slots own after 0 (λ _. 1) (λ _. Lends (step slots 0 1 0 none) after 1)
    lends x offered is has its begun nothing = subst (λ k. Allows (Ruled offers keeps) slots own k 0 (λ _. 1) (λ _. Lends (step slots 0 1 0 none) k 1)) (sym (is ∙ ap (λ c. (m.0, (0, Some x) ∷ rest c)) (has ∙ ap lender_has nothing)))
        (lends_one slots own m.0 x offered its begun nothing)

    pub gives_back : (x y : T) → after ≡ (m.0, (0, Some y) ∷ rest m.1) → m.1 ≡ borrower_has m.0.taken → m.0.borrows ≡ true → m.0.taken ≡ Some x → keeps x y
        → Allows (Ruled offers keeps) slots own after 0 (λ _. 3) (λ _. Gives (step slots 0 3 0 none) after 3)
    gives_back x y is has its took kept = subst (λ k. Allows (Ruled offers keeps) slots own k 0 (λ _. 3) (λ _. Gives (step slots 0 3 0 none) k 3)) (sym (is ∙ ap (λ c. (m.0, (0, Some y) ∷ rest c)) (has ∙ ap borrower_has took)))
        (gives_one slots own m.0 x y its took kept)

  pub begins : Ruled offers keeps (table.opening (4 ∷ []) (None ∷ []) opening)
  begins = record { phase = new; lender = 0; borrower = 0; words = refl; homes = refl; agrees = tt; each = first }
    where
      first : (seat : ℕ) (v : LendingView T) → get_elem? (opening ∷ []) seat ≡ some v → Suits 0 0 new seat v
      first zero v e = subst (Suits 0 0 new 0) (some-injective _ _ e) (record { lending = λ _. (refl, refl, refl); borrowing = λ _. (refl, refl) })
      first (suc seat) v e = absurd (some-ne-none v (sym e))

  pub splits : (own : ℕ) (v : LendingView T) → v.borrows ≡ true → Splits (Ruled offers keeps) own v (lending v) (borrowing v)
  splits own v borrows t m at =
      let mine = m.each own v at in
      let n : ℕ = length (set t.views own (lending v)) in
      let fits : ℕ → LendingView T → Type 0 = λ seat u. Suits m.lender n m.phase seat u in
      let its_left : fits own (lending v) = record { lending = mine.lending; borrowing = λ is. absurd (true≢false (sym is)) } in
      let its_right : fits n (borrowing v) = record { lending = λ is. absurd (true≢false (sym is)); borrowing = λ is. (refl, (mine.borrowing borrows).1) } in
      let other : (seat : ℕ) (u : LendingView T) → seat ≢ own → get_elem? t.views seat ≡ some u → fits seat u = λ seat u apart there.
      let was = m.each seat u there in
      record { lending = was.lending; borrowing = λ is. absurd (apart ((was.borrowing is).0 ∙ sym (mine.borrowing borrows).0)) } in
      record {
        phase = m.phase;
        lender = m.lender;
        borrower = n;
        words = m.words;
        homes = m.homes;
        agrees = m.agrees;
        each = λ seat u there. ⊎_elim
            (λ was. ⊎_elim
            (λ (x : (seat ≡ own) × (lending v ≡ u)). subst (λ (y : ℕ × LendingView T). fits y.0 y.1) (λ k. (sym x.0 k, x.1 k)) its_left)
            (λ (x : (seat ≢ own) × (get_elem? t.views seat ≡ some u)). other seat u x.0 x.1)
            (at_set t.views own seat (lending v) u was))
            (λ (x : (seat ≡ n) × (borrowing v ≡ u)). subst (λ (y : ℕ × LendingView T). fits y.0 y.1) (λ k. (sym x.0 k, x.1 k)) its_right)
            (at_end (set t.views own (lending v)) (borrowing v) u seat there);
      }
