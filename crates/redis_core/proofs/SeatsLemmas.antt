-- The sessions by seat, when sessions are opened, moved, closed and marked.
use Rattle.std.proofs.Common.{◌≡◌, subst, subst₂, get_or, ◌≢◌, ℕ, zero, suc, ◌<◌, Bool, true, false, List, ◌∷◌, length, replicate, set, nat_eq, Option, Some, None, is_some, IsSome, refl, sym, ap, ◌∙◌, length-set, get_or-set_same, get_or-set_other, eqb-true}
use Rattle.std.specs.Option.{option_map}
use Rattle.std.proofs.Math.ListN.{get_or-map}
use Rattle.std.proofs.lemmas.List.{get_or_read}
use Rattle.pipes.specs.declared.limits.TheConstants.{MAX_SEATS}
use Rattle.multi_watch.specs.declared.sessions.SessionNo.{SessionNo}
use Rattle.multi_watch.specs.declared.act.Act.{Act}
use Rattle.multi_watch.specs.Admission.{Step}
use Rattle.multi_watch.specs.Session.{Session, idle_session, is_watched, modified}
use Rattle.multi_watch.specs.Sessions.{Sessions, slot, session_of, session_at, Moves, Steps}
use Rattle.redis_core.specs.Seats.{session_numbered, by_seat, number_at, IsHeld, AreSeats}
use Rattle.placing.proofs.MemberLemmas.{differ}

abbrev Numbers : Type 0
Numbers = List (Option SessionNo)

pub of_seat : (sessions : Sessions) (numbers : Numbers) (seat : ℕ) → slot (by_seat sessions numbers) seat ≡ session_numbered sessions (number_at numbers seat)
of_seat sessions numbers seat = get_or-map (session_numbered sessions) numbers seat None

some_is_not_none : (o : Option Session) → IsSome o → o ≢ None
some_is_not_none o is none = let both : false ≡ true = sym (ap is_some none) ∙ is in cc

not_some : (number : SessionNo) → ◌≢◌ {A = Option SessionNo} None (Some number)
not_some number e = let both : false ≡ true = ap is_some e in cc

abbrev number_or_0 : Option SessionNo → ℕ
number_or_0 None = 0
number_or_0 (Some number) = number.0

same_numbers : (a b : SessionNo) → ◌≡◌ {A = Option SessionNo} (Some a) (Some b) → a.0 ≡ b.0
same_numbers a b e = ap number_or_0 e

-- ---- no seat is open

map-none : (sessions : Sessions) (n : ℕ) → by_seat sessions (replicate n None) ≡ replicate n None
map-none sessions zero = refl
map-none sessions (suc n) = ap (λ rest. None ∷ rest) (map-none sessions n)

pub all_closed : (sessions : Sessions) (numbers : Numbers) → numbers ≡ replicate MAX_SEATS None → by_seat sessions numbers ≡ replicate MAX_SEATS None
all_closed sessions numbers is = ap (by_seat sessions) is ∙ map-none sessions MAX_SEATS

-- ---- one seat moves

-- every other seat keeps its number, and the session of that number
record Keeps (old new : Sessions) (numbers after : Numbers) (seat : ℕ) : Type 0 where
  pub numbers_stay : (other : ℕ) → other ≢ seat → number_at after other ≡ number_at numbers other
  pub sessions_stay : (other : ℕ) (number : SessionNo) → other ≢ seat → number_at numbers other ≡ Some number → slot new number.0 ≡ slot old number.0

by_number : (old new : Sessions) (o : Option SessionNo) → ((number : SessionNo) → o ≡ Some number → slot new number.0 ≡ slot old number.0) → session_numbered new o ≡ session_numbered old o
by_number old new None same = refl
by_number old new (Some number) same = same number refl

module _ (old new : Sessions) (numbers after : Numbers) (seat : ℕ) (keeps : Keeps old new numbers after seat) where
  seat_moves : (now : Option Session) → session_numbered new (number_at after seat) ≡ now → Moves (by_seat old numbers) seat now (by_seat new after)
  seat_moves now is = record {
    moved = of_seat new after seat ∙ is;
    others = λ other apart. of_seat new after other ∙ ap (session_numbered new) (keeps.numbers_stay other apart)
        ∙ by_number old new (number_at numbers other) (λ number. keeps.sessions_stay other number apart) ∙ sym (of_seat old numbers other);
  }

  -- a number of another seat stays there
  held_elsewhere : (n : ℕ) → IsHeld numbers n → ((theirs : SessionNo) → number_at numbers seat ≡ Some theirs → theirs.0 ≢ n) → IsHeld after n
  held_elsewhere n held apart = by_seat_held (nat_eq held.0 seat) refl where
    by_seat_held : (b : Bool) → nat_eq held.0 seat ≡ b → IsHeld after n
    by_seat_held true is = absurd (apart held.1 (ap (number_at numbers) (sym (eqb-true held.0 seat is)) ∙ held.2) held.3)
    by_seat_held false is = (held.0, held.1, keeps.numbers_stay held.0 (differ held.0 seat is) ∙ held.2, held.3)

  -- the number at the seat, if there is one now, is of an open session and of no other seat
  abbrev IsOwn : SessionNo → Type 0
  IsOwn number = IsSome (slot new number.0) × ((other : ℕ) (theirs : SessionNo) → other ≢ seat → number_at numbers other ≡ Some theirs → number.0 ≢ theirs.0)

  module _ (are : AreSeats old numbers) (long : length after ≡ length numbers) (own : (number : SessionNo) → number_at after seat ≡ Some number → IsOwn number) (held : (n : ℕ) → IsSome (slot new n) → IsHeld after n) where
    at_own : (a : ℕ) (number : SessionNo) → number_at after a ≡ Some number → nat_eq a seat ≡ true → IsOwn number
    at_own a number at is = own number (ap (number_at after) (sym (eqb-true a seat is)) ∙ at)

    at_other : (a : ℕ) (number : SessionNo) → number_at after a ≡ Some number → nat_eq a seat ≡ false → number_at numbers a ≡ Some number
    at_other a number at is = sym (keeps.numbers_stay a (differ a seat is)) ∙ at

    open_still : (a : ℕ) (number : SessionNo) → number_at after a ≡ Some number → (b : Bool) → nat_eq a seat ≡ b → IsSome (slot new number.0)
    open_still a number at true is = (at_own a number at is).0
    open_still a number at false is =
        let before : number_at numbers a ≡ Some number = at_other a number at is in
        ap is_some (keeps.sessions_stay a number (differ a seat is) before) ∙ are.are_open a number before

    apart_still : (a b : ℕ) (x y : SessionNo) → number_at after a ≡ Some x → number_at after b ≡ Some y → x.0 ≡ y.0 → (a_is b_is : Bool) → nat_eq a seat ≡ a_is → nat_eq b seat ≡ b_is → a ≡ b
    apart_still a b x y at_a at_b same true true is_a is_b = eqb-true a seat is_a ∙ sym (eqb-true b seat is_b)
    apart_still a b x y at_a at_b same true false is_a is_b = absurd ((at_own a x at_a is_a).1 b y (differ b seat is_b) (at_other b y at_b is_b) same)
    apart_still a b x y at_a at_b same false true is_a is_b = absurd ((at_own b y at_b is_b).1 a x (differ a seat is_a) (at_other a x at_a is_a) (sym same))
    apart_still a b x y at_a at_b same false false is_a is_b = are.are_apart a b x y (at_other a x at_a is_a) (at_other b y at_b is_b) same

    still_seats : AreSeats new after
    still_seats = record {
      complete = long ∙ are.complete;
      are_open = λ a number at. open_still a number at (nat_eq a seat) refl;
      are_apart = λ a b x y at_a at_b same. apart_still a b x y at_a at_b same (nat_eq a seat) (nat_eq b seat) refl refl;
      are_held = held;
    }

module _ (old : Sessions) (numbers : Numbers) (are : AreSeats old numbers) (seat : ℕ) where
  -- the session at an open seat moves
  module _ (new : Sessions) (number : SessionNo) (at : number_at numbers seat ≡ Some number) where
    keeps-moved : (now : Option Session) → Moves old number.0 now new → Keeps old new numbers numbers seat
    keeps-moved now moves = record {
      numbers_stay = λ other apart. refl;
      sessions_stay = λ other theirs apart is. moves.others theirs.0 (λ same. apart (are.are_apart other seat theirs number is at same));
    }

    pub moved_seat : (now : Option Session) → Moves old number.0 now new → Moves (by_seat old numbers) seat now (by_seat new numbers)
    moved_seat now moves = seat_moves old new numbers numbers seat (keeps-moved now moves) now (ap (session_numbered new) at ∙ moves.moved)

    session_of_seat : session_at (by_seat old numbers) seat ≡ session_at old number.0
    session_of_seat = ap session_of (of_seat old numbers seat ∙ ap (session_numbered old) at)

    -- what it moves to comes of what it was
    pub moved_from : (after : Session → Session) → Moves old number.0 (Some (after (session_at old number.0))) new
        → Moves (by_seat old numbers) seat (Some (after (session_at (by_seat old numbers) seat))) (by_seat new numbers)
    moved_from after moves =
        subst (λ (session : Session). Moves (by_seat old numbers) seat (Some (after session)) (by_seat new numbers)) (sym session_of_seat) (moved_seat (Some (after (session_at old number.0))) moves)

    pub steps_from : (step : Session → Step) (act : Act) → Steps old number.0 (step (session_at old number.0)) act new
        → Steps (by_seat old numbers) seat (step (session_at (by_seat old numbers) seat)) act (by_seat new numbers)
    steps_from step act steps =
        subst (λ (session : Session). Steps (by_seat old numbers) seat (step session) act (by_seat new numbers)) (sym session_of_seat)
        (record { admission = steps.admission; session = moved_seat (Some (step (session_at old number.0)).session) steps.session; room = steps.room })

  -- the session at an open seat is closed
  module _ (new : Sessions) (number : SessionNo) (at : number_at numbers seat ≡ Some number) (moves : Moves old number.0 None new) (after : Option SessionNo) (empty : after ≡ None) (inside : seat < MAX_SEATS) where
    within : seat < length numbers
    within = subst (λ n. seat < n) (sym are.complete) inside

    keeps-closed : Keeps old new numbers (set numbers seat after) seat
    keeps-closed = record {
      numbers_stay = λ other apart. get_or-set_other numbers seat other after None apart;
      sessions_stay = λ other theirs apart is. moves.others theirs.0 (λ same. apart (are.are_apart other seat theirs number is at same));
    }

    none_there : number_at (set numbers seat after) seat ≡ None
    none_there = get_or-set_same numbers seat after None within ∙ empty

    pub closed_seat : Moves (by_seat old numbers) seat None (by_seat new (set numbers seat after))
    closed_seat = seat_moves old new numbers (set numbers seat after) seat keeps-closed None (ap (session_numbered new) none_there)

    pub closed_seats : AreSeats new (set numbers seat after)
    closed_seats =
        still_seats old new numbers (set numbers seat after) seat keeps-closed are (length-set numbers seat after) (λ other is. absurd (not_some other (sym none_there ∙ is)))
        (λ n lives. held n lives (nat_eq n number.0) refl)
      where
        held : (n : ℕ) → IsSome (slot new n) → (b : Bool) → nat_eq n number.0 ≡ b → IsHeld (set numbers seat after) n
        held n lives true is = absurd (some_is_not_none (slot new n) lives (ap (slot new) (eqb-true n number.0 is) ∙ moves.moved))
        held n lives false is =
            let apart : n ≢ number.0 = differ n number.0 is in
            held_elsewhere old new numbers (set numbers seat after) seat keeps-closed n (are.are_held n (ap is_some (sym (moves.others n apart)) ∙ lives))
            (λ theirs is_theirs same. apart (sym same ∙ same_numbers theirs number (sym is_theirs ∙ at)))

  -- a session is opened under a number of its own, and the one that was there before is closed
  module _ (opened : Sessions) (number : SessionNo) (fresh : slot old number.0 ≡ None) (opens : Moves old number.0 (Some idle_session) opened) (after : Option SessionNo) (there : after ≡ Some number) (inside : seat < MAX_SEATS) where
    apart_from_fresh : (other : ℕ) (theirs : SessionNo) → number_at numbers other ≡ Some theirs → theirs.0 ≢ number.0
    apart_from_fresh other theirs is same = some_is_not_none (slot old theirs.0) (are.are_open other theirs is) (ap (slot old) same ∙ fresh)

    opened_others : (other : ℕ) (theirs : SessionNo) → number_at numbers other ≡ Some theirs → slot opened theirs.0 ≡ slot old theirs.0
    opened_others other theirs is = opens.others theirs.0 (apart_from_fresh other theirs is)

    number_there : number_at (set numbers seat after) seat ≡ Some number
    number_there = get_or-set_same numbers seat after None (subst (λ n. seat < n) (sym are.complete) inside) ∙ there

    -- what is so of the sessions in the end
    record Opens (new : Sessions) : Type 0 where
      pub keeps : Keeps old new numbers (set numbers seat after) seat
      pub is_idle : slot new number.0 ≡ Some idle_session
      pub others_held : (n : ℕ) → n ≢ number.0 → IsSome (slot new n) → IsSome (slot old n) × ((theirs : SessionNo) → number_at numbers seat ≡ Some theirs → theirs.0 ≢ n)

    opens_seat : (new : Sessions) → Opens new → Moves (by_seat old numbers) seat (Some idle_session) (by_seat new (set numbers seat after))
    opens_seat new is = seat_moves old new numbers (set numbers seat after) seat is.keeps (Some idle_session) (ap (session_numbered new) number_there ∙ is.is_idle)

    opens_seats : (new : Sessions) → Opens new → AreSeats new (set numbers seat after)
    opens_seats new is = still_seats old new numbers (set numbers seat after) seat is.keeps are (length-set numbers seat after) own (λ n lives. held n lives (nat_eq n number.0) refl) where
      same_number : (other : SessionNo) → number_at (set numbers seat after) seat ≡ Some other → slot new other.0 ≡ slot new number.0
      same_number other at = ap (session_numbered new) (sym at ∙ number_there)

      fresh_number : (other : SessionNo) → number_at (set numbers seat after) seat ≡ Some other → slot old other.0 ≡ slot old number.0
      fresh_number other at = ap (session_numbered old) (sym at ∙ number_there)

      own : (other : SessionNo) → number_at (set numbers seat after) seat ≡ Some other → IsOwn old new numbers (set numbers seat after) seat is.keeps other
      own other at = (
        ap is_some (same_number other at ∙ is.is_idle),
        λ place theirs apart is_theirs same.
            some_is_not_none (slot old theirs.0) (are.are_open place theirs is_theirs) (ap (slot old) (sym same) ∙ fresh_number other at ∙ fresh),
      )

      held : (n : ℕ) → IsSome (slot new n) → (b : Bool) → nat_eq n number.0 ≡ b → IsHeld (set numbers seat after) n
      held n lives true same = (seat, number, number_there, sym (eqb-true n number.0 same))
      held n lives false same =
          let before = is.others_held n (differ n number.0 same) lives in
          held_elsewhere old new numbers (set numbers seat after) seat is.keeps n (are.are_held n before.0) before.1

    -- the seat was closed before
    module _ (empty : number_at numbers seat ≡ None) where
      opens-empty : Opens opened
      opens-empty = record {
        keeps = record {
          numbers_stay = λ other apart. get_or-set_other numbers seat other after None apart;
          sessions_stay = λ other theirs apart is. opened_others other theirs is;
        };
        is_idle = opens.moved;
        others_held = λ n apart lives. (ap is_some (sym (opens.others n apart)) ∙ lives, λ theirs is_theirs same. not_some theirs (sym empty ∙ is_theirs));
      }

      pub opened_seat : Moves (by_seat old numbers) seat (Some idle_session) (by_seat opened (set numbers seat after))
      opened_seat = opens_seat opened opens-empty

      pub opened_seats : AreSeats opened (set numbers seat after)
      opened_seats = opens_seats opened opens-empty

    -- the seat was open before
    module _ (new : Sessions) (before : SessionNo) (at : number_at numbers seat ≡ Some before) (closes : Moves opened before.0 None new) where
      opens-again : Opens new
      opens-again = record {
        keeps = record {
          numbers_stay = λ other apart. get_or-set_other numbers seat other after None apart;
          sessions_stay = λ other theirs apart is. closes.others theirs.0 (λ same. apart (are.are_apart other seat theirs before is at same)) ∙ opened_others other theirs is;
        };
        is_idle = closes.others number.0 (λ same. apart_from_fresh seat before at (sym same)) ∙ opens.moved;
        others_held = λ n apart lives. held n apart lives (nat_eq n before.0) refl;
      }
        where
          held : (n : ℕ) → n ≢ number.0 → IsSome (slot new n) → (b : Bool) → nat_eq n before.0 ≡ b → IsSome (slot old n) × ((theirs : SessionNo) → number_at numbers seat ≡ Some theirs → theirs.0 ≢ n)
          held n apart lives true is = absurd (some_is_not_none (slot new n) lives (ap (slot new) (eqb-true n before.0 is) ∙ closes.moved))
          held n apart lives false is =
              let other : n ≢ before.0 = differ n before.0 is in
              (ap is_some (sym (closes.others n other ∙ opens.others n apart)) ∙ lives, λ theirs is_theirs same. other (sym same ∙ same_numbers theirs before (sym is_theirs ∙ at)))

      pub reopened_seat : Moves (by_seat old numbers) seat (Some idle_session) (by_seat new (set numbers seat after))
      reopened_seat = opens_seat new opens-again

      pub reopened_seats : AreSeats new (set numbers seat after)
      reopened_seats = opens_seats new opens-again

-- ---- what is so of every number is so of every seat

modified_numbered : (old new : Sessions) (key : List ℕ) → ((number : ℕ) → slot new number ≡ option_map (modified key) (slot old number))
    → (o : Option SessionNo) → session_numbered new o ≡ option_map (modified key) (session_numbered old o)
modified_numbered old new key all None = refl
modified_numbered old new key all (Some number) = all number.0

pub modified_seat : (old new : Sessions) (numbers : Numbers) (key : List ℕ) → ((number : ℕ) → slot new number ≡ option_map (modified key) (slot old number))
    → (seat : ℕ) → slot (by_seat new numbers) seat ≡ option_map (modified key) (slot (by_seat old numbers) seat)
modified_seat old new numbers key all seat =
    of_seat new numbers seat ∙ modified_numbered old new key all (number_at numbers seat) ∙ ap (option_map (modified key)) (sym (of_seat old numbers seat))

some_still : (key : List ℕ) (o : Option Session) → is_some (option_map (modified key) o) ≡ is_some o
some_still key None = refl
some_still key (Some session) = refl

pub modified_seats : (old new : Sessions) (numbers : Numbers) (key : List ℕ) → AreSeats old numbers → ((number : ℕ) → slot new number ≡ option_map (modified key) (slot old number)) → AreSeats new numbers
modified_seats old new numbers key are all = record {
  complete = are.complete;
  are_open = λ seat number at. lives_still number.0 ∙ are.are_open seat number at;
  are_apart = are.are_apart;
  are_held = λ n lives. are.are_held n (sym (lives_still n) ∙ lives);
}
  where
    lives_still : (n : ℕ) → is_some (slot new n) ≡ is_some (slot old n)
    lives_still n = ap is_some (all n) ∙ some_still key (slot old n)

watched_numbered : (sessions : Sessions) (own : List ℕ) (o : Option SessionNo) → is_watched own (session_of (session_numbered sessions o)).watched ≡ true
    → (number : ℕ) × (is_watched own (session_at sessions number).watched ≡ true)
watched_numbered sessions own None is = let both : false ≡ true = is in absurd cc
watched_numbered sessions own (Some number) is = (number.0, is)

-- what a session of a seat watches, one of a number watches
pub watched_seat : (sessions : Sessions) (numbers : Numbers) (seat : ℕ) (own : List ℕ) → is_watched own (session_at (by_seat sessions numbers) seat).watched ≡ true
    → (number : ℕ) × (is_watched own (session_at sessions number).watched ≡ true)
watched_seat sessions numbers seat own is =
    watched_numbered sessions own (number_at numbers seat) (ap (λ o. is_watched own (session_of o).watched) (sym (of_seat sessions numbers seat)) ∙ is)

lives_if : (own : List ℕ) (o : Option Session) → is_watched own (session_of o).watched ≡ true → IsSome o
lives_if own None is = let both : false ≡ true = is in absurd cc
lives_if own (Some session) is = refl

-- and the other way round
pub seat_watches : (sessions : Sessions) (numbers : Numbers) → AreSeats sessions numbers → (own : List ℕ) (n : ℕ) → is_watched own (session_at sessions n).watched ≡ true
    → (seat : ℕ) × (is_watched own (session_at (by_seat sessions numbers) seat).watched ≡ true)
seat_watches sessions numbers are own n is =
    let held : IsHeld numbers n = are.are_held n (lives_if own (slot sessions n) is) in
    (held.0, ap (λ o. is_watched own (session_of o).watched) (of_seat sessions numbers held.0 ∙ ap (session_numbered sessions) held.2 ∙ ap (slot sessions) held.3) ∙ is)

-- ---- what the code reads, and where it goes

pub read_number : (sessions : Sessions) (numbers : Numbers) → AreSeats sessions numbers → (seat : ℕ) → seat < MAX_SEATS → (read : Option SessionNo) → read ≡ get_or numbers seat read → number_at numbers seat ≡ read
read_number sessions numbers are seat inside read is = sym (get_or_read numbers seat read (subst (λ n. seat < n) (sym are.complete) inside) is None)

pub moves_as : {old old' new : Sessions} {seat seat' : ℕ} {now : Option Session} → old ≡ old' → seat ≡ seat' → Moves old seat now new → Moves old' seat' now new
moves_as {new} {now} is_old is_seat moves = subst₂ (λ old seat. Moves old seat now new) is_old is_seat moves

pub moves_from : {old old' new : Sessions} {seat seat' : ℕ} (after : Session → Session) → old ≡ old' → seat ≡ seat' → Moves old seat (Some (after (session_at old seat))) new → Moves old' seat' (Some (after (session_at old' seat'))) new
moves_from {new} after is_old is_seat moves = subst₂ (λ old seat. Moves old seat (Some (after (session_at old seat))) new) is_old is_seat moves

pub steps_as : {old old' new : Sessions} {seat seat' : ℕ} (step : Session → Step) (act : Act) → old ≡ old' → seat ≡ seat' → Steps old seat (step (session_at old seat)) act new → Steps old' seat' (step (session_at old' seat')) act new
steps_as {new} step act is_old is_seat steps = subst₂ (λ old seat. Steps old seat (step (session_at old seat)) act new) is_old is_seat steps
