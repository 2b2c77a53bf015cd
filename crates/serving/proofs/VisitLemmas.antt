-- Connections that are visited, one after the other.
use Rattle.std.proofs.Common.{◌≡◌, ℕ, suc, ◌+◌, ◌-◌, ◌≤◌, Bool, true, false, true≢false, if◌then◌else◌, List, [], ◌∷◌, ◌++◌, length, map, Option, Some, None, refl, sym, ap, subst, ◌∙◌, inl, inr, append-nil, append_assoc, length-append, arith}
use Rattle.std.proofs.lemmas.Bool.{cases_eq}
use Rattle.std.specs.List.{remove}
use Rattle.redis_core.specs.Sequencing.{MovesSeat, Sequencing}
use Rattle.wakes.specs.declared.seat_number.SeatNumber.{SeatNumber}
use Rattle.serving.specs.Again.{Lists, StandsAt}
use Rattle.serving.specs.Callers.{answer_of}
use Rattle.serving.specs.Ending.{EndTurns}
use Rattle.serving.specs.Places.{PutsAt, connection_at, is_again}
use Rattle.serving.specs.Roomed.{TurnsByNeed}
use Rattle.serving.specs.Turns.{TakesTurns}
use Rattle.serving.specs.Visiting.{Floor, Goes, Heeds, HeedsCalls, HeedsEach, HeedsPlace, Stays, StaysListed, Visits, VisitsFrom, VisitsPlace, is_passed, share_at, without}
use Rattle.serving.specs.declared.filling.Filling.{Filling}
use Rattle.serving.specs.declared.open_connection.OpenConnection.{OpenConnection}
use Rattle.serving.specs.declared.open_connections.TheConstants.{MOST_CALLS}
use Rattle.serving.specs.declared.turns.Served.{Served}
use Rattle.serving.specs.declared.turns.Served.TheVariants as ended

-- ---- who is where

puts-then : (n m : ℕ) (x y : Option OpenConnection) (old between new : List (Option OpenConnection)) → PutsAt n x old between → m ≡ n → PutsAt m y between new → PutsAt n y old new
puts-then n m x y old between new one same other =
    let there : PutsAt n y between new = subst (λ k. PutsAt k y between new) same other in
    record { here = there.here; others = λ k apart. there.others k apart ∙ one.others k apart }

-- whoever was taken out of a place is back there, and nobody else moved
puts-back : (n m : ℕ) (y : Option OpenConnection) (old lifted between new : List (Option OpenConnection)) → PutsAt n None old lifted → between ≡ lifted → m ≡ n → PutsAt m y between new
    → PutsAt n y old new
puts-back n m y old lifted between new one is same other = puts-then n m None y old lifted new one same (subst (λ places. PutsAt m y places new) is other)

lists-back : (n m : ℕ) (before between after : List ℕ) (did : Bool) → between ≡ before → m ≡ n → Lists m between after did → Lists n before after did
lists-back n m before between after did is same lists =
    subst (λ (xs : List ℕ). Lists n xs after did) is (subst (λ (k : ℕ). Lists k between after did) same lists)

stays-still : (floor : Floor) → Stays floor floor
stays-still floor = record { places = λ k. refl; again = refl; is_short = refl; filling = refl; sequencer = refl }

-- to take nobody out of a place changes nothing
nobody-stays : (number : ℕ) (old new : Floor) → connection_at old.places number ≡ None → PutsAt number None old.places new.places → new.again ≡ old.again → new.is_short ≡ old.is_short
    → new.filling ≡ old.filling → new.sequencer ≡ old.sequencer → Stays old new
nobody-stays number old new is lifts again short fill same = record {
  places = λ k. elim (cases_eq k number) [
    | inl here ↦ ap (connection_at new.places) here ∙ lifts.here ∙ sym is ∙ ap (connection_at old.places) (sym here)
    | inr apart ↦ lifts.others k apart
  ];
  again = again;
  is_short = short;
  filling = fill;
  sequencer = same;
}

-- nobody was at the place of a seat, which has left the list
pub visit-nobody : (share number at : ℕ) (old new : Floor) → connection_at old.places number ≡ None → PutsAt number None old.places new.places → new.again ≡ remove old.again at
    → new.is_short ≡ old.is_short → new.filling ≡ old.filling → new.sequencer ≡ old.sequencer → Visits share number at old new false
visit-nobody share number at old new is lifts again short fill same =
    subst (λ (p : Option OpenConnection). VisitsPlace p share number at old new false) (sym is)
    (nobody-stays number (without at old) new is lifts again short fill same, refl)

-- The connection of this seat was taken out of its place, and got its turns, of which this is left to be in the next group.
pub record Turned (share number : ℕ) (old : Floor) (filling : Filling) (lifted : List (Option OpenConnection)) (between : Sequencing) (after : OpenConnection) (any : Bool) (came : Served) : Type 0 where
  pub connection : OpenConnection
  pub is : connection_at old.places number ≡ Some connection
  pub of_seat : connection.arrival.seat ≡ number
  pub lifts : PutsAt number None old.places lifted
  pub turns : TakesTurns old.sequencer connection any between after
  pub is_working : Bool
  pub needs : TurnsByNeed is_working old.is_short old.sequencer connection old.filling after filling
  pub few : between.position ≤ old.sequencer.position + share
  pub ends : EndTurns share filling old.is_short old.sequencer connection any between after came

visited : (share number at : ℕ) (old new : Floor) (lifted : List (Option OpenConnection)) (between : Sequencing) (after : OpenConnection) (any : Bool) (came is : Served) (filling : Filling) (passed : Bool)
    → Turned share number old filling lifted between after any came → came ≡ is → new.filling ≡ filling → Goes is any after number at old between new → passed ≡ is_passed is any
    → Visits share number at old new passed
visited share number at old new lifted between after any came is filling passed turned same fill goes passes =
    subst (λ (p : Option OpenConnection). VisitsPlace p share number at old new passed) (sym turned.is) (record {
      of_seat = turned.of_seat;
      between = between;
      after = after;
      any = any;
      came = came;
      turns = turned.turns;
      is_working = turned.is_working;
      needs = subst (λ (f : Filling). TurnsByNeed turned.is_working old.is_short old.sequencer turned.connection old.filling after f) (sym fill) turned.needs;
      few = turned.few;
      ends = subst (λ (f : Filling). EndTurns share f old.is_short old.sequencer turned.connection any between after came) (sym fill) turned.ends;
      goes = subst (λ (c : Served). Goes c any after number at old between new) (sym same) goes;
      passed_is = passes ∙ ap (λ (c : Served). is_passed c any) (sym same);
    })

-- one that is over has left its place
pub visit-over : (share number at : ℕ) (old new : Floor) (lifted : List (Option OpenConnection)) (between : Sequencing) (after : OpenConnection) (any : Bool) (came : Served) (filling : Filling)
    → Turned share number old filling lifted between after any came → came ≡ ended.Over → new.filling ≡ filling → new.places ≡ lifted → new.again ≡ remove old.again at
    → MovesSeat between after.arrival.seat None new.sequencer → Visits share number at old new false
visit-over share number at old new lifted between after any came filling turned over fill places again moves =
    visited share number at old new lifted between after any came ended.Over filling false turned over fill
    (subst (λ (ps : List (Option OpenConnection)). PutsAt number None old.places ps) (sym places) turned.lifts, again, moves) refl

-- one with nothing to be done is back at its place
pub visit-idle : (share number at : ℕ) (old new : Floor) (lifted waked : List (Option OpenConnection)) (between : Sequencing) (after : OpenConnection) (any : Bool) (came : Served) (filling : Filling)
    → Turned share number old filling lifted between after any came → came ≡ ended.Idle → new.filling ≡ filling → waked ≡ lifted
    → PutsAt after.arrival.seat (Some (record after { is_again = false })) waked new.places → new.again ≡ remove old.again at → new.sequencer ≡ between → Visits share number at old new false
visit-idle share number at old new lifted waked between after any came filling turned idle fill places puts again same =
    visited share number at old new lifted between after any came ended.Idle filling false turned idle fill
    (puts-back number after.arrival.seat _ old.places lifted waked new.places turned.lifts places (turned.turns.0 ∙ turned.of_seat) puts, again, same) refl

-- one that waits and was answered nothing is back at its place, and keeps where it stands
pub visit-passed : (share number at : ℕ) (old new : Floor) (lifted waked : List (Option OpenConnection)) (between : Sequencing) (after : OpenConnection) (any : Bool) (came : Served) (filling : Filling)
    → Turned share number old filling lifted between after any came → came ≡ ended.Waits → any ≡ false → new.filling ≡ filling → waked ≡ lifted
    → PutsAt after.arrival.seat (Some after) waked new.places → new.again ≡ old.again → new.sequencer ≡ between → Visits share number at old new true
visit-passed share number at old new lifted waked between after any came filling turned waits nothing fill places puts again same =
    let back = puts-back number after.arrival.seat _ old.places lifted waked new.places turned.lifts places (turned.turns.0 ∙ turned.of_seat) puts in
    visited share number at old new lifted between after any came ended.Waits filling true turned waits fill
    (subst (λ (b : Bool). Goes ended.Waits b after number at old between new) (sym nothing) (back, again, same))
    (ap (λ (b : Bool). is_passed ended.Waits b) (sym nothing))

listed-back : (number at : ℕ) (old waked new : Floor) (lifted : List (Option OpenConnection)) (after : OpenConnection) → PutsAt number None old.places lifted → after.arrival.seat ≡ number
    → waked.places ≡ lifted → waked.again ≡ old.again → StaysListed after after.arrival.seat (without at waked) new → StaysListed after number (without at old) new
listed-back number at old waked new lifted after lifts same places again stays = (
  stays.0,
  puts-back number after.arrival.seat _ old.places lifted waked.places new.places lifts places same stays.1,
  lists-back number after.arrival.seat (remove old.again at) (remove waked.again at) new.again stays.0 (ap (λ (xs : List ℕ). remove xs at) again) same stays.2,
)

-- one that took its turns is served again, behind all others
pub visit-busy : (share number at : ℕ) (old waked new : Floor) (lifted : List (Option OpenConnection)) (between : Sequencing) (after : OpenConnection) (any : Bool) (came : Served) (filling : Filling)
    → Turned share number old filling lifted between after any came → came ≡ ended.Busy → new.filling ≡ filling → waked.places ≡ lifted → waked.again ≡ old.again
    → StaysListed after after.arrival.seat (without at waked) new → new.sequencer ≡ between → Visits share number at old new false
visit-busy share number at old waked new lifted between after any came filling turned busy fill places again stays same =
    visited share number at old new lifted between after any came ended.Busy filling false turned busy fill
    (listed-back number at old waked new lifted after turned.lifts (turned.turns.0 ∙ turned.of_seat) places again stays, same) refl

-- and so is one that waits, if it was answered something
pub visit-waits : (share number at : ℕ) (old waked new : Floor) (lifted : List (Option OpenConnection)) (between : Sequencing) (after : OpenConnection) (any : Bool) (came : Served) (filling : Filling)
    → Turned share number old filling lifted between after any came → came ≡ ended.Waits → any ≡ true → new.filling ≡ filling → waked.places ≡ lifted → waked.again ≡ old.again
    → StaysListed after after.arrival.seat (without at waked) new → new.sequencer ≡ between → Visits share number at old new false
visit-waits share number at old waked new lifted between after any came filling turned waits something fill places again stays same =
    let back = listed-back number at old waked new lifted after turned.lifts (turned.turns.0 ∙ turned.of_seat) places again stays in
    visited share number at old new lifted between after any came ended.Waits filling false turned waits fill
    (subst (λ (b : Bool). Goes ended.Waits b after number at old between new) (sym something) (back, same))
    (ap (λ (b : Bool). is_passed ended.Waits b) (sym something))

-- ---- who was called

-- one that was called and is listed already is left alone
pub heeds-listed : (number : ℕ) (old : Floor) (place : Option OpenConnection) → connection_at old.places number ≡ place → is_again place ≡ true → Heeds number old old
heeds-listed number old None is listed = absurd (true≢false (sym listed))
heeds-listed number old (Some connection) is listed =
    subst (λ (p : Option OpenConnection). HeedsPlace p number old old) (sym is) (inl (listed, stays-still old))

-- one that is not comes last
pub heeds-lists : (number : ℕ) (old new : Floor) (lifted : List (Option OpenConnection)) (connection : OpenConnection) → connection_at old.places number ≡ Some connection
    → connection.arrival.seat ≡ number → is_again (connection_at old.places number) ≡ false → PutsAt number None old.places lifted
    → StaysListed connection connection.arrival.seat (record old { places = lifted }) new → new.is_short ≡ old.is_short → new.filling ≡ old.filling → new.sequencer ≡ old.sequencer
    → Heeds number old new
heeds-lists number old new lifted connection is at unlisted lifts stays short fill same =
    subst (λ (p : Option OpenConnection). HeedsPlace p number old new) (sym is) (inr (
      ap is_again (sym is) ∙ unlisted,
      record {
        put = (stays.0, puts-then number connection.arrival.seat None _ old.places lifted new.places lifts at stays.1, lists-back number connection.arrival.seat old.again old.again new.again stays.0 refl at stays.2);
        is_short = short;
        filling = fill;
        sequencer = same;
      },
    ))

-- where nobody is, nothing is done
pub heeds-nobody : (number : ℕ) (old new : Floor) → connection_at old.places number ≡ None → PutsAt number None old.places new.places → new.again ≡ old.again → new.is_short ≡ old.is_short
    → new.filling ≡ old.filling → new.sequencer ≡ old.sequencer → Heeds number old new
heeds-nobody number old new is lifts again short fill same = subst (λ (p : Option OpenConnection). HeedsPlace p number old new) (sym is) (nobody-stays number old new is lifts again short fill same)

pub answer-none : (next : Option SeatNumber) → ((seat : SeatNumber) → next ≡ Some seat → ⊥) → answer_of next ≡ None
answer-none None never = refl
answer-none (Some seat) never = absurd (never seat refl)

heeds-more : (numbers : List ℕ) (number : ℕ) (old between new : Floor) → HeedsEach numbers old between → Heeds number between new → HeedsEach (numbers ++ number ∷ []) old new
heeds-more [] number old between new are heeds = (new, subst (λ (f : Floor). Heeds number f new) are heeds, refl)
heeds-more (first ∷ numbers) number old between new are heeds = (are.0, are.1, heeds-more numbers number are.0 between new are.2 heeds)

-- So many were called, and all were heeded.
pub record Heeding (asked asked' : List (Option ℕ)) (count : ℕ) (old now : Floor) : Type 0 where
  pub numbers : List ℕ
  pub asks : asked' ≡ asked ++ map Some numbers
  pub many : length numbers ≡ count
  pub heeds : HeedsEach numbers old now

pub heeding-none : (asked : List (Option ℕ)) (old : Floor) → Heeding asked asked 0 old old
heeding-none asked old = record { numbers = []; asks = sym (append-nil asked); many = refl; heeds = refl }

map-last : (numbers : List ℕ) (number : ℕ) → map {B = Option ℕ} Some (numbers ++ number ∷ []) ≡ map Some numbers ++ Some number ∷ []
map-last [] number = refl
map-last (first ∷ numbers) number = ap (λ (xs : List (Option ℕ)). Some first ∷ xs) (map-last numbers number)

pub heeding-more : (asked between asked' : List (Option ℕ)) (count : ℕ) (old now new : Floor) (number : ℕ) → Heeding asked between count old now → asked' ≡ between ++ Some number ∷ []
    → Heeds number now new → Heeding asked asked' (count + 1) old new
heeding-more asked between asked' count old now new number so_far asks heeds = record {
  numbers = so_far.numbers ++ number ∷ [];
  asks =
      asks ∙ ap (λ (xs : List (Option ℕ)). xs ++ Some number ∷ []) so_far.asks ∙ append_assoc asked (map Some so_far.numbers) (Some number ∷ [])
      ∙ ap (λ (xs : List (Option ℕ)). asked ++ xs) (sym (map-last so_far.numbers number));
  many = length-append so_far.numbers (number ∷ []) ∙ ap (λ n. n + 1) so_far.many;
  heeds = heeds-more so_far.numbers number old now new so_far.heeds heeds;
}

-- then nobody had called
pub heeding-ends : (asked between asked' : List (Option ℕ)) (count : ℕ) (old now : Floor) → Heeding asked between count old now → asked' ≡ between ++ None ∷ [] → HeedsCalls asked asked' old now
heeding-ends asked between asked' count old now so_far asks = record {
  numbers = so_far.numbers;
  heeds = so_far.heeds;
  asks = inr (asks ∙ ap (λ (xs : List (Option ℕ)). xs ++ None ∷ []) so_far.asks);
}

-- most were
pub heeding-most : (asked asked' : List (Option ℕ)) (count : ℕ) (old now : Floor) → Heeding asked asked' count old now → count ≡ MOST_CALLS → HeedsCalls asked asked' old now
heeding-most asked asked' count old now so_far most = record { numbers = so_far.numbers; heeds = so_far.heeds; asks = inl (so_far.asks, so_far.many ∙ most) }

-- ---- those that are left

-- one more of those that are left was visited
pub from-more : (left rest at at' share number : ℕ) (old between last : Floor) (passed : Bool) → left ≡ suc rest → share ≡ share_at old left → StandsAt old.again at (Some number)
    → Visits share number at old between passed → at' ≡ (if passed then at + 1 else at) → VisitsFrom rest at' between last → VisitsFrom left at old last
from-more left rest at at' share number old between last passed is share_is stands visits at_is others =
    let shared : share ≡ share_at old (suc rest) = share_is ∙ ap (λ n. share_at old n) is in
    subst (λ n. VisitsFrom n at old last) (sym is)
    (inr (inr (number, passed, between, stands, subst (λ n. Visits n number at old between passed) shared visits, subst (λ n. VisitsFrom rest n between last) at_is others)))

-- nothing is free of the group
pub from-full : (left rest at share : ℕ) (old : Floor) → left ≡ suc rest → share ≡ share_at old left → share ≡ 0 → VisitsFrom left at old old
from-full left rest at share old is share_is none =
    subst (λ n. VisitsFrom n at old old) (sym is) (inl (sym (share_is ∙ ap (λ n. share_at old n) is) ∙ none, refl))

-- nobody is left
pub from-nobody : (left rest at : ℕ) (old : Floor) → left ≡ suc rest → StandsAt old.again at None → VisitsFrom left at old old
from-nobody left rest at old is nobody = subst (λ n. VisitsFrom n at old old) (sym is) (inr (inl (nobody, refl)))

-- all were visited
pub from-all : (left at : ℕ) (old : Floor) → left ≡ 0 → VisitsFrom left at old old
from-all left at old is = subst (λ n. VisitsFrom n at old old) (sym is) refl

-- how many were passed over, where one more was or was not
pub passed-on : (at at' : ℕ) (passed : Bool) → at' ≡ at + (if passed then 1 else 0) → at' ≡ (if passed then at + 1 else at)
passed-on at at' true is = is
passed-on at at' false is = omega (arith, is)

-- none was visited yet
pub from-start : (all at : ℕ) (old last : Floor) → VisitsFrom (all - 0) at old last → VisitsFrom all at old last
from-start all at old last visits = subst (λ n. VisitsFrom n at old last) (omega arith) visits
