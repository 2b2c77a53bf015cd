-- Marking a key in the sessions that watch it, and adding watches that are new.
use Rattle.std.proofs.Common.{◌≡◌, ◌≢◌, ℕ, zero, suc, slice_set, ◌+◌, ◌<◌, ◌≤◌, Bool, true, false, not, ◌&&◌, ◌||◌, List, [], ◌∷◌, ◌++◌, length, map, drop, drop-cons, get_or, Option, Some, None, nat_eq, refl, sym, ap, ap₂, ◌∙◌, arith}
use Rattle.std.specs.List.{list_any}
use Rattle.std.specs.Option.{option_map}
use Rattle.std.proofs.lemmas.List.{drop_all}
use Rattle.std.proofs.lemmas.List.Folds.{list_any-append}
use Rattle.std.proofs.Math.Bool.{or-false, and-true, and-false}
use Rattle.std.proofs.lemmas.Bool.{eqb-true, eq-eqb, or_parts}
use Rattle.cmd_core.specs.Contents.{same_bytes}
pub use Rattle.multi_watch.proofs.TableLemmas.{same_is}
pub use Rattle.multi_watch.proofs.ModifiedLemmas.{with_mark}
use Rattle.multi_watch.specs.declared.watch.Watch.{Watch}
use Rattle.multi_watch.specs.Session.{Session, is_watched, marked, modified}
use Rattle.multi_watch.specs.Watchers.{Table, has_number, watches, AddsAll, RemovesAll}
use Rattle.multi_watch.specs.Sessions.{Sessions, slot, session_of, session_at, marked_if, Moves, Agree}

-- ---- a key is marked

twice : (was same : Bool) → ((was || same) || same) ≡ (was || same)
twice was same = grind arith

marked_again : (key : List ℕ) (watch : Watch) → marked key (marked key watch) ≡ marked key watch
marked_again key watch = ap (λ b. with_mark watch.key b) (twice watch.is_modified (same_bytes watch.key key))

pub marked_other : (key : List ℕ) (watch : Watch) → same_bytes watch.key key ≡ false → marked key watch ≡ watch
marked_other key watch is = ap (λ b. with_mark watch.key (watch.is_modified || b)) is ∙ ap (λ b. with_mark watch.key b) (or-false watch.is_modified)

marked_twice : (key : List ℕ) (watched : List Watch) → map (marked key) (map (marked key) watched) ≡ map (marked key) watched
marked_twice key [] = refl
marked_twice key (watch ∷ watched) = ap₂ (λ w ws. w ∷ ws) (marked_again key watch) (marked_twice key watched)

pub not_marked : (key : List ℕ) (watched : List Watch) → is_watched key watched ≡ false → map (marked key) watched ≡ watched
not_marked key [] is = refl
not_marked key (watch ∷ watched) is =
    let apart = or_parts (same_bytes watch.key key) (is_watched key watched) is in
    ap₂ (λ w ws. w ∷ ws) (marked_other key watch apart.0) (not_marked key watched apart.1)

-- marking leaves the watched keys as they are
pub same_keys : (key other : List ℕ) (watched : List Watch) → is_watched other (map (marked key) watched) ≡ is_watched other watched
same_keys key other [] = refl
same_keys key other (watch ∷ watched) = ap (λ b. same_bytes watch.key other || b) (same_keys key other watched)

modified_twice : (key : List ℕ) (o : Option Session) → option_map (modified key) (option_map (modified key) o) ≡ option_map (modified key) o
modified_twice key None = refl
modified_twice key (Some s) = ap (λ ws. Some (record s { watched = ws })) (marked_twice key s.watched)

not_modified : (key : List ℕ) (o : Option Session) → is_watched key (session_of o).watched ≡ false → option_map (modified key) o ≡ o
not_modified key None is = refl
not_modified key (Some s) is = ap (λ ws. Some (record s { watched = ws })) (not_marked key s.watched is)

-- a number that comes now, or later
in_turn : (key : List ℕ) (here later : Bool) (o : Option Session) → marked_if key later (marked_if key here o) ≡ marked_if key (here || later) o
in_turn key here later o = grind (arith, modified_twice key o)

next_number : (numbers : List ℕ) (i n : ℕ) → i < length numbers → has_number n (drop i numbers) ≡ (nat_eq (get_or numbers i 0) n || has_number n (drop (i + 1) numbers))
next_number numbers i n within =
    let e : suc i ≡ i + 1 = omega arith in
    ap (has_number n) (drop-cons numbers i 0 within ∙ ap (λ m. get_or numbers i 0 ∷ drop m numbers) e)

pub marked_next : (key : List ℕ) (numbers : List ℕ) (i n : ℕ) → i < length numbers → (was now : Option Session)
    → now ≡ marked_if key (nat_eq (get_or numbers i 0) n) was → marked_if key (has_number n (drop (i + 1) numbers)) now ≡ marked_if key (has_number n (drop i numbers)) was
marked_next key numbers i n within was now step =
    let later = has_number n (drop (i + 1) numbers) in
    ap (marked_if key later) step ∙ in_turn key (nat_eq (get_or numbers i 0) n) later was ∙ ap (λ b. marked_if key b was) (sym (next_number numbers i n within))

pub marked_last : (key : List ℕ) (numbers : List ℕ) (i n : ℕ) → length numbers ≤ i → (now : Option Session) → now ≡ marked_if key (has_number n (drop i numbers)) now
marked_last key numbers i n past now = ap (λ ns. marked_if key (has_number n ns) now) (sym (drop_all i numbers past))

module _ (table : Table) (old : Sessions) (key : List ℕ) (agree : Agree table old) where
  -- marking those that the table names marks all
  pub all_marked : (n : ℕ) → marked_if key (watches table key n) (slot old n) ≡ option_map (modified key) (slot old n)
  all_marked n = grind (arith, agree key n, not_modified key (slot old n))

  pub agrees_still : (new : Sessions) → ((n : ℕ) → slot new n ≡ option_map (modified key) (slot old n)) → Agree table new
  agrees_still new now other n = agree other n ∙ by_slot (slot old n) ∙ ap (λ o. is_watched other (session_of o).watched) (sym (now n)) where
    by_slot : (o : Option Session) → is_watched other (session_of o).watched ≡ is_watched other (session_of (option_map (modified key) o)).watched
    by_slot None = refl
    by_slot (Some s) = sym (same_keys key other s.watched)

-- a number that is not open has an idle session, in which nothing is marked
pub marked_session : (key : List ℕ) (o : Option Session) → session_of (option_map (modified key) o) ≡ modified key (session_of o)
marked_session key None = refl
marked_session key (Some s) = refl

-- ---- watches that are new

apart_key : (watched fresh : List Watch) → list_any (λ watch. is_watched watch.key watched) fresh ≡ false
    → (key : List ℕ) → is_watched key fresh ≡ true → is_watched key watched ≡ false
apart_key watched [] none key is = let p = is in cc
apart_key watched (watch ∷ fresh) none key is = grind (arith, or_parts, same_is watch.key key, apart_key watched fresh)

nothing_removed : (was fresh own : Bool) → (fresh ≡ true → own ≡ true → was ≡ false) → (was && not (fresh && own)) ≡ was
nothing_removed was fresh own apart = grind arith

undone : (was fresh own : Bool) → ((was || (fresh && own)) && not (fresh && own)) ≡ (was && not (fresh && own))
undone was fresh own = grind arith

-- What was added is removed.
pub removed_again : (table with_them new : Table) (fresh : List Watch) (number : ℕ) → AddsAll table fresh number with_them → RemovesAll with_them fresh number new → RemovesAll table fresh number new
removed_again table with_them new fresh number adds removes key n =
    removes key n ∙ ap (λ b. b && not (is_watched key fresh && nat_eq number n)) (adds key n) ∙ undone (watches table key n) (is_watched key fresh) (nat_eq number n)

-- Where none of the removed keys was watched, the table agrees as it did.
pub agrees_without : (table new : Table) (sessions : Sessions) (fresh : List Watch) (number : ℕ) → Agree table sessions
    → list_any (λ watch. is_watched watch.key (session_at sessions number).watched) fresh ≡ false → RemovesAll table fresh number new → Agree new sessions
agrees_without table new sessions fresh number agree apart removes key n =
    removes key n ∙ nothing_removed (watches table key n) (is_watched key fresh) (nat_eq number n) unwatched ∙ agree key n where
      unwatched : is_watched key fresh ≡ true → nat_eq number n ≡ true → watches table key n ≡ false
      unwatched is own =
          let same : number ≡ n = eqb-true number n own in
          ap (watches table key) (sym same) ∙ agree key number ∙ apart_key (session_at sessions number).watched fresh apart key is

-- ---- the session of one number changes

by_number : (new : Table) (now : Sessions) (number : ℕ) → ((key : List ℕ) → watches new key number ≡ is_watched key (session_at now number).watched)
    → ((key : List ℕ) (n : ℕ) → nat_eq number n ≡ false → watches new key n ≡ is_watched key (session_at now n).watched) → Agree new now
by_number new now number here others key n = grind (arith, eqb-true number n, here key, others key n)

itself : (n : ℕ) → nat_eq n n ≡ true
itself n = eq-eqb n n refl

other_number : (number n : ℕ) → nat_eq number n ≡ false → n ≢ number
other_number number n is same = let both : true ≡ false = sym (eq-eqb number n (sym same)) ∙ is in cc

no_longer : (was own : Bool) → own ≡ true → (was && not (was && own)) ≡ false
no_longer was own is = grind arith

as_it_was : (was removed own : Bool) → own ≡ false → (was && not (removed && own)) ≡ was
as_it_was was removed own is = grind arith

not_added : (was added own : Bool) → own ≡ false → (was || (added && own)) ≡ was
not_added was added own is = ap (λ b. was || (added && b)) is ∙ ap (λ b. was || b) (and-false added) ∙ or-false was

added_here : (was added own : Bool) → own ≡ true → (was || (added && own)) ≡ (was || added)
added_here was added own is = ap (λ b. was || (added && b)) is ∙ ap (λ b. was || b) (and-true added)

module _ (table new : Table) (old now : Sessions) (number : ℕ) (o : Option Session) (agree : Agree table old) (moves : Moves old number o now) where
  other_session : (key : List ℕ) (n : ℕ) → nat_eq number n ≡ false → watches table key n ≡ is_watched key (session_at now n).watched
  other_session key n is = agree key n ∙ ap (λ s. is_watched key (session_of s).watched) (sym (moves.others n (other_number number n is)))

  this_session : (key : List ℕ) → is_watched key (session_at now number).watched ≡ is_watched key (session_of o).watched
  this_session key = ap (λ s. is_watched key (session_of s).watched) moves.moved

  -- A session that watches nothing any more is taken out of the table.
  pub agrees_forgotten : (watched : List Watch) → watched ≡ (session_at old number).watched → (session_of o).watched ≡ [] → RemovesAll table watched number new → Agree new now
  agrees_forgotten watched was none removes =
      by_number new now number
      (λ key. (removes key number ∙ ap (λ b. b && not (is_watched key watched && nat_eq number number)) (agree key number ∙ ap (is_watched key) (sym was))
      ∙ no_longer (is_watched key watched) (nat_eq number number) (itself number) ∙ sym (this_session key ∙ ap (is_watched key) none)))
      (λ key n is. (removes key n ∙ as_it_was (watches table key n) (is_watched key watched) (nat_eq number n) is ∙ other_session key n is))

  -- A session that watches more keys is added to the table at these.
  pub agrees_with : (fresh : List Watch) → (session_of o).watched ≡ (session_at old number).watched ++ fresh → AddsAll table fresh number new → Agree new now
  agrees_with fresh is_now adds =
      by_number new now number
      (λ key. (adds key number ∙ added_here (watches table key number) (is_watched key fresh) (nat_eq number number) (itself number)
      ∙ ap (λ b. b || is_watched key fresh) (agree key number) ∙ sym (list_any-append (λ watch. same_bytes watch.key key) (session_at old number).watched fresh)
      ∙ sym (this_session key ∙ ap (is_watched key) is_now)))
      (λ key n is. (adds key n ∙ not_added (watches table key n) (is_watched key fresh) (nat_eq number n) is ∙ other_session key n is))

  -- Where the session watches what it did, the table says the same.
  agrees_unchanged : (session_of o).watched ≡ (session_at old number).watched → Agree table now
  agrees_unchanged same =
      by_number table now number (λ key. (agree key number ∙ ap (is_watched key) (sym same) ∙ sym (this_session key))) other_session

-- the session of an open number is written
set_here : (old : Sessions) (number : ℕ) (before now : Session) → slot old number ≡ Some before → slot (slice_set old number (Some now)) number ≡ Some now
set_here [] zero before now is = let p = is in cc
set_here [] (suc number) before now is = let p = is in cc
set_here (first ∷ old) zero before now is = refl
set_here (first ∷ old) (suc number) before now is = set_here old number before now is

set_others : (old : Sessions) (number : ℕ) (now : Option Session) (other : ℕ) → other ≢ number → slot (slice_set old number now) other ≡ slot old other
set_others [] number now other apart = refl
set_others (first ∷ old) zero now zero apart = absurd (apart refl)
set_others (first ∷ old) zero now (suc other) apart = refl
set_others (first ∷ old) (suc number) now zero apart = refl
set_others (first ∷ old) (suc number) now (suc other) apart = set_others old number now other (λ same. apart (ap suc same))

pub moves_set : (old : Sessions) (number : ℕ) (before now : Session) → slot old number ≡ Some before → Moves old number (Some now) (slice_set old number (Some now))
moves_set old number before now is = record { moved = set_here old number before now is; others = set_others old number (Some now) }

-- A session is written that watches what it did.
pub agrees_written : (table : Table) (old : Sessions) (number : ℕ) (before now : Session) → Agree table old → slot old number ≡ Some before
    → now.watched ≡ (session_at old number).watched → Agree table (slice_set old number (Some now))
agrees_written table old number before now agree is same =
    agrees_unchanged table table old (slice_set old number (Some now)) number (Some now) agree (moves_set old number before now is) same
