-- What each event of one connection leaves sound.
use Rattle.std.proofs.Common.{◌≡◌, ◌≢◌, ℕ, ◌+◌, ◌≤◌, Bool, true, false, not, ◌&&◌, nat_lt, List, [], ◌∷◌, ◌++◌, length, take, All, refl, sym, ap, subst, ◌∙◌, arith, le_refl}
use Rattle.std.proofs.lemmas.Bool.{ltb-true, not-true}
use Rattle.std.proofs.lemmas.List.Elements.{All-weaker}
use Rattle.kv_types.specs.declared.seen.Seen.{Seen}
use Rattle.model.specs.declared.call.Call.{Call}
use Rattle.kv_types.specs.declared.item.Item.{Item}
use Rattle.kv_types.specs.Reading.{items_at}
use Rattle.model.specs.Call.{IsPrefix, MayReply, is_nonempty, items_of, state_after, position_of}
use Rattle.model.proofs.CallsLemmas.{IsLegal-push, position_of-push, position_of_grows}
use Rattle.machine.specs.declared.event.TheConstants.{SEATS, PIPE_ITEMS, OPEN_CHANGES}
use Rattle.machine.specs.declared.event.Event.TheVariants.{Enter, Feed, Offer, Turn, Leave}
use Rattle.machine.specs.Event.{Inbound, Outbound, Connection, Role, Copying, Follows, Awaited, Sending, reach_of, Remains, At, AsPrimary, AsFollower, World, torn, no_connection, connection_of, count_open, changed_at, with_inbound, with_outbound, with_connections, on_inbound, on_outbound, asked, is_closed_by, is_open, seen_of, open_changes, has_room, may_happen, entered, with_call, fed_with, offered_next, taken_first, with_made, called, left}
use Rattle.machine.specs.Sound.{IsPinnedWithin, IsPrimaryLeft, IsStandbyLeft, SoundInbound, SoundOutbound, SoundOver, Sound}
use Rattle.machine.proofs.ConnectionLemmas.{changed-twice, get-past, each-changed, each-entered, open-lt, count-entered, count-changed, count-left}
use Rattle.machine.proofs.InboundLemmas.{inbound-new, inbound-fed, inbound-offered, inbound-called_own, inbound-called_other}
use Rattle.machine.proofs.AnswerLemmas.{outbound-called_own, outbound-called_other}
use Rattle.machine.proofs.OverLemmas.{over-called, over-left, outbound-new}
use Rattle.machine.proofs.WorkLemmas.{committer-called}

-- ---- what an event's test says

pub both : (a b : Bool) → (a && b) ≡ true → (a ≡ true) × (b ≡ true)
both true b e = (refl, e)
both false b e = cc

pub three : (a b c : Bool) → (a && b && c) ≡ true → (a ≡ true) × (b ≡ true) × (c ≡ true)
three true true c e = (refl, refl, e)
three _ _ c e = cc

-- no test says both
pub both_ways : (b : Bool) → b ≡ true → b ≡ false → ⊥
both_ways b e shut = cc

pub four : (a b c d : Bool) → (a && b && c && d) ≡ true → (a ≡ true) × (b ≡ true) × (c ≡ true) × (d ≡ true)
four true true true d e = (refl, refl, refl, e)
four _ _ _ d e = cc

-- ---- one connection

-- what holds of it while it is open, and once it is over
abbrev ItemsStand : List Call → ℕ → Connection → Type 0
ItemsStand calls c connection = connection.is_open ≡ true → SoundInbound calls c connection.inbound

abbrev OpenStands : List Call → Seen → ℕ → Connection → Type 0
OpenStands calls seen c connection = connection.is_open ≡ true → SoundOutbound calls c seen connection.outbound

abbrev OverStands : List Call → ℕ → ℕ → Connection → Type 0
OverStands calls position c connection = connection.is_open ≡ false → SoundOver calls c position connection

-- a change to one of them that is open and stays so
sound-changed : (w : World) (c : ℕ) (change : Connection → Connection) → ((connection : Connection) → (change connection).is_open ≡ connection.is_open) → is_open w c ≡ true
    → SoundInbound w.primary.calls c (change (connection_of w c)).inbound → SoundOutbound w.primary.calls c (seen_of w) (change (connection_of w c)).outbound → Sound w
    → Sound (with_connections (changed_at c change w.primary.connections) w)
sound-changed w c change keeps is_one in_stands out_stands s =
    let connections = w.primary.connections in
    let lt = open-lt connections c is_one in
    let shut : (change (connection_of w c)).is_open ≡ false → ⊥ = λ e. both_ways (is_open w c) is_one (sym (keeps (connection_of w c)) ∙ e) in
    search (
      arith,
      count-changed c change connections keeps,
      each-changed (ItemsStand w.primary.calls) c change connections lt (λ e. in_stands) (λ d differ. s.inbound d),
      each-changed (OpenStands w.primary.calls (seen_of w)) c change connections lt (λ e. out_stands) (λ d differ. s.outbound d),
      each-changed (OverStands w.primary.calls w.standby.position) c change connections lt (λ e. absurd (shut e)) (λ d differ. s.over d),
    )

sound-inbound : (w : World) (c : ℕ) (change : Inbound → Inbound) → is_open w c ≡ true → SoundInbound w.primary.calls c (change (connection_of w c).inbound) → Sound w → Sound (on_inbound c change w)
sound-inbound w c change is_one own s = sound-changed w c (with_inbound change) (λ connection. refl) is_one own (s.outbound c is_one) s

pub sound-outbound : (w : World) (c : ℕ) (change : Outbound → Outbound) → is_open w c ≡ true → let out : Outbound → Type 0 = SoundOutbound w.primary.calls c (seen_of w) in
    (out (connection_of w c).outbound → out (change (connection_of w c).outbound)) → Sound w → Sound (on_outbound c change w)
sound-outbound w c change is_one own s = sound-changed w c (with_outbound change) (λ connection. refl) is_one (s.inbound c is_one) (own (s.outbound c is_one)) s

pub sound-Feed : (w : World) (c : ℕ) (piece : List ℕ) → may_happen w (Feed c piece) ≡ true → Sound w → Sound (on_inbound c (fed_with piece) w)
sound-Feed w c piece e s =
    let inbound = (connection_of w c).inbound in
    let parts = both (is_open w c) (not (is_closed_by inbound.fed)) e in
    sound-inbound w c (fed_with piece) parts.0 (inbound-fed w.primary.calls c inbound piece (not-true (is_closed_by inbound.fed) parts.1) (s.inbound c parts.0)) s

pub sound-Offer : (w : World) (c : ℕ) → may_happen w (Offer c) ≡ true → Sound w → Sound (on_inbound c offered_next w)
sound-Offer w c e s =
    let inbound = (connection_of w c).inbound in
    let parts = three (is_open w c) (nat_lt inbound.offered (length (asked inbound.fed))) (has_room inbound.waiting) e in
    let own = inbound-offered w.primary.calls c inbound (ltb-true inbound.offered (length (asked inbound.fed)) parts.1) (ltb-true (length inbound.waiting) PIPE_ITEMS parts.2) (s.inbound c parts.0) in
    sound-inbound w c offered_next parts.0 own s

-- no bytes ask for nothing
asked-none : asked [] ≡ []
unfolding items_at
asked-none = refl

no-items : (items : List Item) → IsPrefix items (asked []) → items ≡ []
no-items [] prefix = refl
no-items (x ∷ items) prefix = let joined : x ∷ (items ++ prefix.rest) ≡ [] = prefix.joined ∙ asked-none in cc

-- no call is of a connection that has not entered
pub uncalled : (w : World) (c : ℕ) → Sound w → length w.primary.connections ≤ c → items_of c w.primary.calls ≡ []
uncalled w c s beyond =
    let past = get-past w.primary.connections c beyond in
    let none : SoundOver w.primary.calls c w.standby.position no_connection = subst (SoundOver w.primary.calls c w.standby.position) past (s.over c (ap (λ (x : Connection). x.is_open) past)) in
    no-items (items_of c w.primary.calls) none.items

pub sound-Enter : (w : World) → may_happen w Enter ≡ true → Sound w → Sound (entered w)
sound-Enter w e s =
    let connections = w.primary.connections in
    let none = uncalled w (length connections) s (le_refl (length connections)) in
    search (
      arith,
      count-entered connections,
      ltb-true (count_open connections) SEATS e,
      each-entered (ItemsStand w.primary.calls) connections s.inbound (λ is_one. inbound-new w.primary.calls (length connections) none),
      each-entered (OpenStands w.primary.calls (seen_of w)) connections s.outbound (λ is_one. outbound-new w.primary.calls (length connections) (seen_of w) none),
      each-entered (OverStands w.primary.calls w.standby.position) connections s.over (λ e. cc),
    )

pub sound-Leave : (w : World) (c : ℕ) → may_happen w (Leave c) ≡ true → Sound w → Sound (with_connections (changed_at c left w.primary.connections) w)
sound-Leave w c e s =
    let connections = w.primary.connections in
    let lt = open-lt connections c e in
    let own = over-left w.primary.calls c (seen_of w) w.standby.position (connection_of w c) (omega (arith, s.link.remote, s.standby.known)) (s.inbound c e) (s.outbound c e) in
    search (
      arith,
      count-left c left connections e (λ connection. refl),
      each-changed (ItemsStand w.primary.calls) c left connections lt (λ shut. cc) (λ d differ. s.inbound d),
      each-changed (OpenStands w.primary.calls (seen_of w)) c left connections lt (λ shut. cc) (λ d differ. s.outbound d),
      each-changed (OverStands w.primary.calls w.standby.position) c left connections lt (λ shut. own) (λ d differ. s.over d),
    )

-- what a call of the primary may have left is within a longer list
pub primary_left-grown : (low high high' : ℕ) (remains : List Remains) → high ≤ high' → All (IsPrimaryLeft low high) remains → All (IsPrimaryLeft low high') remains
primary_left-grown low high high' remains le all = All-weaker (IsPrimaryLeft low high) (IsPrimaryLeft low high') (weaker low high high' le) remains all
  where
    weaker : (low high high' : ℕ) → high ≤ high' → (remain : Remains) → IsPrimaryLeft low high remain → IsPrimaryLeft low high' remain
    weaker low high high' le (At position) h = (h.0, omega (arith, h.1, le))
    weaker low high high' le AsPrimary h = h
    weaker low high high' le (AsFollower position) h = h

-- and what one of the standby may have left, where more was sent
pub standby_left-grown : (role : Role) (low high high' : ℕ) (remains : List Remains) → high ≤ high' → All (IsStandbyLeft role low high) remains → All (IsStandbyLeft role low high') remains
standby_left-grown role low high high' remains le all = All-weaker (IsStandbyLeft role low high) (IsStandbyLeft role low high') (weaker role low high high' le) remains all
  where
    weaker : (role : Role) (low high high' : ℕ) → high ≤ high' → (remain : Remains) → IsStandbyLeft role low high remain → IsStandbyLeft role low high' remain
    weaker role low high high' le (At position) h = (h.0, omega (arith, h.1, le), h.2)
    weaker role low high high' le AsPrimary h = h
    weaker role low high high' le (AsFollower position) h = (h.0, omega (arith, h.1, le))

-- all that was sent lies within the primary's record
pub reach-low : (copying : Copying) (committed : ℕ) → reach_of copying committed ≤ committed
reach-low Follows committed = le_refl committed
reach-low Awaited committed = le_refl committed
reach-low (Sending pinned) committed = omega arith

pub reach-grown : (copying : Copying) (low high : ℕ) → low ≤ high → reach_of copying low ≤ reach_of copying high
reach-grown Follows low high le = le
reach-grown Awaited low high le = le
reach-grown (Sending pinned) low high le = omega (arith, le)

pub pinned-grown : (copying : Copying) (low high : ℕ) → low ≤ high → IsPinnedWithin low copying → IsPinnedWithin high copying
pinned-grown Follows low high le s = s
pinned-grown Awaited low high le s = s
pinned-grown (Sending pinned) low high le s = omega (arith, le, s)

position_of-push_le : (calls : List Call) (call : Call) → position_of (calls ++ call ∷ []) ≤ position_of calls + 1
position_of-push_le calls call = grind (arith, position_of-push calls call)

pub sound-called : (w : World) (c : ℕ) (call : Call) → call.connection ≡ c → take 1 (connection_of w c).inbound.waiting ≡ call.item ∷ [] → MayReply (state_after w.primary.calls) call
    → may_happen w (Turn c) ≡ true → Sound w → Sound (called c call w)
sound-called w c call own first may e s =
    let connection = connection_of w c in
    let connections = w.primary.connections in
    let seen = seen_of w in
    let old = w.primary.calls in
    let calls = old ++ call ∷ [] in
    let parts = four (is_open w c) (is_nonempty connection.inbound.waiting) (has_room connection.outbound.made) (nat_lt (open_changes w) OPEN_CHANGES) e in
    let lt = open-lt connections c parts.0 in
    let made = with_made (record { reply = call.reply; position = position_of calls }) in
    let both_of : Connection → Connection = λ it. with_outbound made (with_inbound taken_first it) in
    let other : (d : ℕ) → c ≢ d → call.connection ≢ d = λ d differ same. differ (sym own ∙ same) in
    subst (λ xs. Sound (with_connections xs (with_call call w))) (sym (changed-twice c (with_inbound taken_first) (with_outbound made) connections))
    (search (
      arith,
      count-changed c both_of connections (λ it. refl),
      IsLegal-push old call s.legal may,
      each-changed (ItemsStand calls) c both_of connections lt (λ is_one. inbound-called_own old c connection.inbound call own first (s.inbound c parts.0))
          (λ d differ is_one. inbound-called_other old d (connection_of w d).inbound call (other d differ) (s.inbound d is_one)),
      each-changed (OpenStands calls seen) c both_of connections lt
          (λ is_one. outbound-called_own old c seen connection.outbound call own (ltb-true (length connection.outbound.made) PIPE_ITEMS parts.2) (s.outbound c parts.0))
          (λ d differ is_one. outbound-called_other old d seen (connection_of w d).outbound call (other d differ) (s.outbound d is_one)),
      each-changed (OverStands calls w.standby.position) c both_of connections lt (λ shut. absurd (both_ways connection.is_open parts.0 shut))
          (λ d differ shut. over-called old d w.standby.position (connection_of w d) call (other d differ) (s.over d shut)),
      primary_left-grown w.primary.committer.position (position_of old) (position_of calls) (torn w.primary.life) (position_of_grows old (call ∷ [])) s.primary_left,
      committer-called (position_of old) (position_of calls) w.primary.committer (position_of_grows old (call ∷ [])) (position_of-push_le old call) (ltb-true (open_changes w) OPEN_CHANGES parts.3) s.committer,
    ))
