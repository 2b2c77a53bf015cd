-- What serving the connections did is acts of the front.
use Rattle.std.proofs.Common.{◌≡◌, ◌≢◌, ◌⊎◌, inl, inr, ℕ, zero, suc, ◌+◌, Bool, true, false, if◌then◌else◌, length, List, [], ◌∷◌, ◌++◌, Option, Some, None, slice_set, refl, sym, ap, subst, ◌∙◌}
use Rattle.std.proofs.lemmas.Bool.{cases_eq}
use Rattle.std.proofs.lemmas.Grind.{flat_map-append}
use Rattle.std.specs.List.{flat_map}
use Rattle.kv_types.specs.declared.item.Item.{Item}
use Rattle.kv_types.specs.declared.reply.Held.{Held}
use Rattle.model.specs.declared.group.Group.{Group}
use Rattle.redis_core.specs.Sequencing.{MovesSeat, Sequencing}
use Rattle.connections.specs.Session.{HasSeat}
use Rattle.node_steps.specs.Acts.{Left, Seated, Turned, handed_by}
use Rattle.node_steps.specs.Law.{with_seat, with_seats}
use Rattle.node_steps.proofs.FrontActs.{turned-act}
use Rattle.node_steps.proofs.HistoryLemmas.{acts-append}
use Rattle.node_steps.proofs.SeatActs.{left-act, seated-act}
use Rattle.serving.specs.Acts.{AreSeated, ServesActs}
use Rattle.serving.specs.Places.{PutsAt, connection_at}
use Rattle.serving.specs.Turns.{AreAnswered}
use Rattle.serving.specs.Filling.{closed_at}
use Rattle.serving.specs.Visiting.{Admits, Floor, Goes, Heeds, HeedsEach, HeedsPlace, IsListed, ServesRound, Stays, StaysListed, Visits, VisitsFrom, VisitsOne, VisitsPlace, floor_of, without}
use Rattle.serving.specs.declared.open_connection.OpenConnection.{OpenConnection}
use Rattle.serving.specs.declared.open_connections.OpenConnections.{OpenConnections}
use Rattle.serving.specs.declared.turns.Served.{Served}
use Rattle.serving.specs.declared.turns.Served.TheVariants as ended

-- ---- acts of the front

serves-none : (seats : List (Option ℕ)) (s : Sequencing) → ServesActs seats s seats s
serves-none seats s = record { acts = []; are = λ node. refl; none_handed = refl }

pub serves-then : {seats at seats' : List (Option ℕ)} {old between new : Sequencing} → ServesActs seats old at between → ServesActs at between seats' new → ServesActs seats old seats' new
serves-then {seats} {at} {seats'} {old} {between} {new} first second = record {
  acts = first.acts ++ second.acts;
  are = λ node. acts-append (with_seats seats old node) (with_seats at between node) (with_seats seats' new node) first.acts second.acts (first.are node) (second.are node);
  none_handed = flat_map-append handed_by first.acts second.acts ∙ ap (λ (xs : List Group). xs ++ flat_map handed_by second.acts) first.none_handed ∙ second.none_handed;
}

-- items that were answered
answered-acts : (seats : List (Option ℕ)) (c seat : ℕ) (old : Sequencing) (items : List Item) (made : List Held) (new : Sequencing) → HasSeat seats c seat → AreAnswered seat old items made new → ServesActs seats old seats new
answered-acts seats c seat old [] [] new own are = subst (ServesActs seats old seats) (sym are) (serves-none seats old)
answered-acts seats c seat old (item ∷ items) (held ∷ made) new own (between, few, answers, at, are) =
    serves-then (record {
      acts = Turned c item ∷ [];
      are = λ node. (with_seats seats between node, turned-act (with_seats seats old node) c seat item held.reply between own few answers, refl);
      none_handed = refl;
    }) (answered-acts seats c seat between items made new own are)
answered-acts seats c seat old [] (held ∷ made) new own are = absurd are
answered-acts seats c seat old (item ∷ items) [] new own are = absurd are

-- ---- who has which seat

-- what a visit leaves: the seats, and the acts that led there
pub record VisitActs (seats : List (Option ℕ)) (old : Sequencing) (places : List (Option OpenConnection)) (new : Sequencing) : Type 0 where
  pub seats' : List (Option ℕ)
  pub serves : ServesActs seats old seats' new
  pub seated : AreSeated seats' places

-- a connection has one seat
one-seat : (seats : List (Option ℕ)) (c a b : ℕ) → HasSeat seats c a → HasSeat seats c b → a ≡ b
one-seat seats c a b has has' = cc

-- the others keep theirs
cleared-keeps : (seats : List (Option ℕ)) (c d seat : ℕ) → d ≢ c → HasSeat seats d seat → HasSeat (slice_set seats c None) d seat
cleared-keeps [] c d seat differ has = cc
cleared-keeps (first ∷ seats) zero zero seat differ has = absurd (differ refl)
cleared-keeps (first ∷ seats) zero (suc d) seat differ has = has
cleared-keeps (first ∷ seats) (suc c) zero seat differ has = has
cleared-keeps (first ∷ seats) (suc c) (suc d) seat differ has = cleared-keeps seats c d seat (λ same. differ (ap suc same)) has

seated-own : (seats : List (Option ℕ)) (c seat : ℕ) → HasSeat (with_seat c seat seats) c seat
seated-own [] zero seat = refl
seated-own (first ∷ seats) zero seat = refl
seated-own [] (suc c) seat = seated-own [] c seat
seated-own (first ∷ seats) (suc c) seat = seated-own seats c seat

seated-keeps : (seats : List (Option ℕ)) (c seat d other : ℕ) → d ≢ c → HasSeat seats d other → HasSeat (with_seat c seat seats) d other
seated-keeps [] c seat d other differ has = cc
seated-keeps (first ∷ seats) zero seat zero other differ has = absurd (differ refl)
seated-keeps (first ∷ seats) zero seat (suc d) other differ has = has
seated-keeps (first ∷ seats) (suc c) seat zero other differ has = has
seated-keeps (first ∷ seats) (suc c) seat (suc d) other differ has = seated-keeps seats c seat d other (λ same. differ (ap suc same)) has

some-is : (a b : OpenConnection) → Some a ≡ Some b → a ≡ b
some-is a b e = cc

none-some : (connection : OpenConnection) → None ≡ Some connection → ⊥
none-some connection e = cc

-- one is put back at its place
put-back : (seats : List (Option ℕ)) (number c : ℕ) (connection : OpenConnection) (old new : List (Option OpenConnection)) → connection.arrival.seat ≡ number → HasSeat seats c number
    → PutsAt number (Some connection) old new → AreSeated seats old → AreSeated seats new
put-back seats number c connection old new at own puts seated k other here =
    elim (cases_eq k number) [
      | inl same ↦
          let is : other ≡ connection = some-is other connection (sym here ∙ ap (connection_at new) same ∙ puts.here) in
          (ap (λ (o : OpenConnection). o.arrival.seat) is ∙ at ∙ sym same, c, subst (HasSeat seats c) (sym same) own)
      | inr differ ↦ seated k other (sym (puts.others k differ) ∙ here)
    ]

-- one leaves its place
put-away : (seats : List (Option ℕ)) (number c : ℕ) (old new : List (Option OpenConnection)) → HasSeat seats c number → PutsAt number None old new → AreSeated seats old
    → AreSeated (slice_set seats c None) new
put-away seats number c old new own puts seated k other here =
    elim (cases_eq k number) [
      | inl same ↦ absurd (none-some other (sym puts.here ∙ ap (connection_at new) (sym same) ∙ here))
      | inr differ ↦
          let was = seated k other (sym (puts.others k differ) ∙ here) in
          (was.0, was.1, cleared-keeps seats c was.1 k (λ same. differ (one-seat seats c k number (subst (λ d. HasSeat seats d k) same was.2) own)) was.2)
    ]

-- ---- visits

-- one stays, with or without a place in the list, and nothing is called
stay-acts : (seats : List (Option ℕ)) (number c : ℕ) (stay : OpenConnection) (places : List (Option OpenConnection)) (between : Sequencing) (new : Floor) → stay.arrival.seat ≡ number → HasSeat seats c number
    → AreSeated seats places → PutsAt number (Some stay) places new.places → new.sequencer ≡ between → VisitActs seats between new.places new.sequencer
stay-acts seats number c stay places between new at own seated puts same = record {
  seats' = seats;
  serves = subst (ServesActs seats between seats) (sym same) (serves-none seats between);
  seated = put-back seats number c stay places new.places at own puts seated;
}

goes-acts : (came : Served) (any : Bool) (seats : List (Option ℕ)) (number at c : ℕ) (connection : OpenConnection) (old : Floor) (between : Sequencing) (new : Floor) → connection.arrival.seat ≡ number
    → HasSeat seats c number → AreSeated seats old.places → Goes came any connection number at old between new → VisitActs seats between new.places new.sequencer
goes-acts ended.Over any seats number at c connection old between new is own seated (puts, again, closes) = record {
  seats' = slice_set seats c None;
  serves = record {
    acts = Left c ∷ [];
    are = λ node. (with_seats (slice_set seats c None) new.sequencer node, left-act (with_seats seats between node) c number new.sequencer own (subst (λ n. MovesSeat between n None new.sequencer) is closes), refl);
    none_handed = refl;
  };
  seated = put-away seats number c old.places new.places own puts seated;
}
goes-acts ended.Idle any seats number at c connection old between new is own seated (puts, again, same) =
    stay-acts seats number c (record connection { is_again = false }) old.places between new is own seated puts same
goes-acts ended.Busy any seats number at c connection old between new is own seated ((is_listed, puts, lists), same) =
    stay-acts seats number c (record connection { is_again = is_listed }) old.places between new is own seated puts same
goes-acts ended.Waits true seats number at c connection old between new is own seated ((is_listed, puts, lists), same) =
    stay-acts seats number c (record connection { is_again = is_listed }) old.places between new is own seated puts same
goes-acts ended.Waits false seats number at c connection old between new is own seated (puts, again, same) =
    stay-acts seats number c connection old.places between new is own seated puts same

one-acts : (seats : List (Option ℕ)) (share number at c : ℕ) (connection : OpenConnection) (old new : Floor) (passed : Bool) → HasSeat seats c number → AreSeated seats old.places
    → VisitsOne share number at connection old new passed → VisitActs seats old.sequencer new.places new.sequencer
one-acts seats share number at c connection old new passed own seated visits =
    let turns = visits.turns.1 in
    let is : visits.after.arrival.seat ≡ number = visits.turns.0 ∙ visits.of_seat in
    let served = answered-acts seats c connection.arrival.seat old.sequencer turns.items turns.made visits.between (subst (HasSeat seats c) (sym visits.of_seat) own) turns.answered in
    let rest = goes-acts visits.came visits.any seats number at c visits.after old visits.between new is own seated visits.goes in
    record { seats' = rest.seats'; serves = serves-then served rest.serves; seated = rest.seated }

stays-acts : (seats : List (Option ℕ)) (old new : Floor) → AreSeated seats old.places → Stays old new → VisitActs seats old.sequencer new.places new.sequencer
stays-acts seats old new seated stays = record {
  seats' = seats;
  serves = subst (ServesActs seats old.sequencer seats) (sym stays.sequencer) (serves-none seats old.sequencer);
  seated = λ k connection here. seated k connection (sym (stays.places k) ∙ here);
}

visit-acts : (seats : List (Option ℕ)) (share number at : ℕ) (old new : Floor) (passed : Bool) → AreSeated seats old.places → Visits share number at old new passed
    → VisitActs seats old.sequencer new.places new.sequencer
visit-acts seats share number at old new passed seated visits = by (connection_at old.places number) refl visits
  where
    by : (place : Option OpenConnection) → connection_at old.places number ≡ place → VisitsPlace place share number at old new passed → VisitActs seats old.sequencer new.places new.sequencer
    by None is stays = stays-acts seats (without at old) new seated stays.0
    by (Some connection) is one = let sits = seated number connection is in one-acts seats share number at sits.1 connection old new passed sits.2 seated one

visit-then : {seats : List (Option ℕ)} {old between : Sequencing} {places at : List (Option OpenConnection)} {new : Sequencing} → (first : VisitActs seats old at between) → VisitActs first.seats' between places new
    → VisitActs seats old places new
visit-then first second = record { seats' = second.seats'; serves = serves-then first.serves second.serves; seated = second.seated }

same-acts : (seats : List (Option ℕ)) (old new : Floor) → AreSeated seats old.places → new ≡ old → VisitActs seats old.sequencer new.places new.sequencer
same-acts seats old new seated same =
    subst (λ (floor : Floor). VisitActs seats old.sequencer floor.places floor.sequencer) (sym same) (record { seats' = seats; serves = serves-none seats old.sequencer; seated = seated })

each-acts : (seats : List (Option ℕ)) (left at : ℕ) (old new : Floor) → AreSeated seats old.places → VisitsFrom left at old new → VisitActs seats old.sequencer new.places new.sequencer
each-acts seats zero at old new seated same = same-acts seats old new seated same
each-acts seats (suc left) at old new seated (inl full) = same-acts seats old new seated full.1
each-acts seats (suc left) at old new seated (inr (inl nobody)) = same-acts seats old new seated nobody.1
each-acts seats (suc left) at old new seated (inr (inr (number, passed, between, stands, visits, others))) =
    let one = visit-acts seats _ number at old between passed seated visits in
    visit-then one (each-acts one.seats' left (if passed then at + 1 else at) between new one.seated others)

listed-acts : (seats : List (Option ℕ)) (number : ℕ) (connection : OpenConnection) (old new : Floor) → AreSeated seats old.places → connection_at old.places number ≡ Some connection
    → IsListed connection number old new → VisitActs seats old.sequencer new.places new.sequencer
listed-acts seats number connection old new seated is listed =
    let sits = seated number connection is in
    stay-acts seats number sits.1 (record connection { is_again = listed.put.0 }) old.places old.sequencer new sits.0 sits.2 seated listed.put.1 listed.sequencer

heed-acts : (seats : List (Option ℕ)) (number : ℕ) (old new : Floor) → AreSeated seats old.places → Heeds number old new → VisitActs seats old.sequencer new.places new.sequencer
heed-acts seats number old new seated heeds = by (connection_at old.places number) refl heeds
  where
    by : (place : Option OpenConnection) → connection_at old.places number ≡ place → HeedsPlace place number old new → VisitActs seats old.sequencer new.places new.sequencer
    by None is stays = stays-acts seats old new seated stays
    by (Some connection) is (inl again) = stays-acts seats old new seated again.1
    by (Some connection) is (inr lists) = listed-acts seats number connection old new seated is lists.1

heeds-acts : (seats : List (Option ℕ)) (numbers : List ℕ) (old new : Floor) → AreSeated seats old.places → HeedsEach numbers old new → VisitActs seats old.sequencer new.places new.sequencer
heeds-acts seats [] old new seated same = subst (λ (floor : Floor). VisitActs seats old.sequencer floor.places floor.sequencer) (sym same) (record { seats' = seats; serves = serves-none seats old.sequencer; seated = seated })
heeds-acts seats (number ∷ numbers) old new seated (between, heeds, others) =
    let one = heed-acts seats number old between seated heeds in
    visit-then one (heeds-acts one.seats' numbers between new one.seated others)

-- ---- somebody is admitted

admits-acts : (seats : List (Option ℕ)) (c : ℕ) (old new : Floor) → AreSeated seats old.places → (admits : Admits old new) → ((other : ℕ) → ¬ HasSeat seats c other)
    → ((d : ℕ) → ¬ HasSeat seats d admits.connection.arrival.seat) → VisitActs seats old.sequencer new.places new.sequencer
admits-acts seats c old new seated admits unseated free =
    let seat = admits.connection.arrival.seat in
    let seats' = with_seat c seat seats in
    record {
      seats' = seats';
      serves = record {
        acts = Seated c seat ∷ [];
        are = λ node. (with_seats seats' new.sequencer node, seated-act (with_seats seats old.sequencer node) c seat new.sequencer admits.opened unseated free, refl);
        none_handed = refl;
      };
      seated = by admits.put;
    }
  where
    by : StaysListed admits.connection admits.connection.arrival.seat old new → AreSeated (with_seat c admits.connection.arrival.seat seats) new.places
    by (is_listed, puts, lists) =
        let seat = admits.connection.arrival.seat in
        put-back (with_seat c seat seats) seat c (record admits.connection { is_again = is_listed }) old.places new.places refl (seated-own seats c seat) puts
        (λ k connection here. let was = seated k connection here in
        (was.0, was.1, seated-keeps seats c seat was.1 k (λ same. unseated k (subst (λ d. HasSeat seats d k) same was.2)) was.2))

pub serves-acts : (seats : List (Option ℕ)) (c : ℕ) (closed : ℕ) (before after : OpenConnections) (old new : Sequencing) → AreSeated seats before.places.connections.items → (round : ServesRound closed before after old new)
    → ((other : ℕ) → ¬ HasSeat seats c other) → ((admits : Admits (floor_of before old) round.admitted) (d : ℕ) → ¬ HasSeat seats d admits.connection.arrival.seat)
    → VisitActs seats old after.places.connections.items new
serves-acts seats c closed before after old new seated round unseated free =
    let first = by round.admits in
    let second = heeds-acts first.seats' round.heeds.numbers round.admitted round.called first.seated round.heeds.heeds in
    let start : Floor = record round.called { is_short = false; filling = closed_at round.called.filling closed } in
    let third = each-acts second.seats' (length round.called.again) 0 start (floor_of after new) second.seated round.visits in
    visit-then first (visit-then second third)
  where
    by : Admits (floor_of before old) round.admitted ⊎ Stays (floor_of before old) round.admitted → VisitActs seats old round.admitted.places round.admitted.sequencer
    by (inl admits) = admits-acts seats c (floor_of before old) round.admitted seated admits unseated (free admits)
    by (inr stays) = stays-acts seats (floor_of before old) round.admitted seated stays
