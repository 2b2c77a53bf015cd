-- Every run keeps the promise; and the laws of every run, from what holds between any two events.
use Rattle.std.proofs.Common.{ℕ, Bool, List, refl, ap, ◌∙◌, arith, ◌≡◌, ◌+◌, ◌<◌, ◌≤◌, true, false, ◌&&◌, ◌||◌, not, cond, nat_lt, [], ◌∷◌, ◌++◌, length, take, sym, subst, append_assoc, append-nil, le-ltb, inl, inr}
use mathlib.Core.Path.{fun_ext}
use Rattle.kv_types.specs.declared.limits.TheConstants.{REQUEST_LIMITS}
use Rattle.kv_types.specs.Reading.{items_at}
use Rattle.model.specs.declared.call.Call.{Call}
use Rattle.model.specs.Call.{Serves, is_nonempty, state_after, position_of}
use Rattle.machine.specs.declared.event.Event.{Event}
use Rattle.machine.specs.Event.{Role, Follower, due_from, is_follower, may_send, opened_to, reach, with_link, Allowed, World, Connection, connection_of, Life, Retired, is_open, Run, start_with, last_world, asked, Span, Frame, Link, next_to_send, nodes_run, may_happen, may_cut, is_between, is_enabled, is_retired, is_running, promoted, OpensPrimary, with_primary}
use Rattle.machine.specs.Event.{Step}
use Rattle.machine.specs.Promise.{Tells, IsPromised, EveryRunIsPromised, fed_by, fed_to, SomeWorld, HasMarks}
use Rattle.machine.proofs.GroupLemmas.{chain-le, frames_within-weaker}
use Rattle.machine.proofs.SoundCrashes.{sound-items}
use Rattle.machine.proofs.RunLemmas.{kept-later, sound-run, sound-start}
use Rattle.machine.proofs.FedLemmas.{fed_in}
use Rattle.machine.proofs.StayLemmas.{count, stays-itself, stays-trans}
use Rattle.machine.proofs.EventLaws.{enabled-may, owed-step}
use Rattle.machine.proofs.PromiseLemmas.{released-begins, released-held}
use Rattle.machine.proofs.CoverLemmas.{covered-run}
use Rattle.std.proofs.lemmas.Bool.{lt-ltb}
use Rattle.std.proofs.lemmas.List.Elements.{All-weaker}
use Rattle.model.specs.State.{start_state}
use Rattle.machine.specs.declared.event.Event.TheVariants.{Feed, OpenLink, Send, Deliver, Apply, AckDelivered, RaiseRemote, FailFence, Crash, Reopen, Fence, Promote}
use Rattle.machine.specs.declared.event.TheConstants.{KEPT_GROUPS}
use Rattle.machine.specs.Sound.{IsFrameWithin, Sound, answers_from}
use Rattle.machine.specs.Law.{IsInOrder, StaysOver, IsSucceededBy, NothingHappensFenced, NoNewcomerIsPromoted, OnlyFencedIsSucceeded, PromotionsSucceed, FramesAreCommitted, AnswersBearPositions, RaisesNoRemote, NothingIsReleasedUnacknowledged, OnlyWhatWasMadeIsDelivered, WhoIsBehindGetsADelta}
use Rattle.machine.proofs.AnswerLemmas.{answers_from-append, answers_to-push_own}
use Rattle.machine.specs.declared.event.Cut.{Cut}
use Rattle.machine.specs.declared.event.Cut.TheVariants as cut
use Rattle.machine.specs.declared.event.Node.TheVariants as nodes
use Rattle.machine.proofs.CrashLemmas.{all-over, get-over}
use Rattle.machine.proofs.SoundConnection.{both, both_ways, reach-low}
use Rattle.machine.proofs.GrowLemmas.{released-stays}

-- ---- what was fed

fed-step : (old : World) (event : Event) (did : Bool) (new : World) (d : ℕ) → Step old event did new → fed_in new d ≡ fed_in old d ++ fed_by d event did
fed-step old event true new d step = (owed-step old event new step).fed d
fed-step old (Feed c piece) false new d step = ap (λ x. fed_in x d) (step.stands refl) ∙ sym (append-nil (fed_in old d))
fed-step old event false new d step = ap (λ x. fed_in x d) (step.stands refl) ∙ sym (append-nil (fed_in old d))

fed-from : (w : World) (events : List Event) (done : List Bool) (worlds : List World) (d : ℕ) → Run w events done worlds → fed_in (last_world w worlds) d ≡ fed_in w d ++ fed_to d events done
fed-from w [] [] [] d run = sym (append-nil (fed_in w d))
fed-from w (event ∷ events) (did ∷ done) (new ∷ worlds) d run =
    grind (arith, append_assoc, fed-from new events done worlds d run.1, fed-step w event did new d run.0)
fed-from w events done worlds d run = absurd run

fed-run : (allowed : Allowed) (events : List Event) (done : List Bool) (worlds : List World) (d : ℕ) → Run (start_with allowed) events done worlds → (connection_of (last_world (start_with allowed) worlds) d).inbound.fed ≡ fed_to d events done
fed-run allowed events done worlds d run = fed-from (start_with allowed) events done worlds d run

pub serves-run : (allowed : Allowed) (events : List Event) (done : List Bool) (worlds : List World) → Run (start_with allowed) events done worlds → Serves (λ c. items_at REQUEST_LIMITS (fed_to c events done)) (last_world (start_with allowed) worlds).primary.calls
serves-run allowed events done worlds run = λ c.
    let w = last_world (start_with allowed) worlds in
    let prefix = sound-items w (sound-run allowed events done worlds run) c in
    record { rest = prefix.rest; joined = prefix.joined ∙ ap asked (fed-run allowed events done worlds c run) }

pub every_run_is_promised : EveryRunIsPromised
every_run_is_promised allowed events done worlds run =
    let w = last_world (start_with allowed) worlds in
    let s = sound-run allowed events done worlds run in
    record {
      worlds = worlds;
      run = run;
      tells = record { list = refl; bytes = λ c. refl; primary_position = refl; standby_position = refl };
      legal = s.legal;
      serves = serves-run allowed events done worlds run;
      begins = released-begins w s;
      covered = covered-run allowed events done worlds run;
      stays = λ prefix call some. released-stays (start_with allowed) events done worlds prefix call run (sound-start allowed) some;
      held = λ prefix call released. (released-held w s prefix call released).1;
      behind = omega (arith, s.standby.behind, reach-low w.primary.link.copying w.primary.committer.position);
      within = omega (arith, s.committer.closed, chain-le _ _ _ s.committer.waiting);
    }

-- the promise of whatever tells the last world of a run
pub promised-told : (allowed : Allowed) (events : List Event) (done : List Bool) (worlds : List World) (calls : List Call) (released : ℕ → List ℕ) (primary standby : ℕ) → Run (start_with allowed) events done worlds
    → Tells (last_world (start_with allowed) worlds) calls released primary standby → IsPromised allowed events done calls released primary standby
promised-told allowed events done worlds calls released primary standby run tells =
    rw (tells.list, fun_ext tells.bytes, tells.primary_position, tells.standby_position) (every_run_is_promised allowed events done worlds run)

-- ---- the laws

pub in_order : (w : World) → Sound w → IsInOrder w
in_order w s =
    search (
      arith,
      chain-le _ _ _ s.committer.waiting,
      reach-low w.primary.link.copying w.primary.committer.position,
      All-weaker (IsFrameWithin w.primary.epoch w.standby.role w.standby.position (reach w)) (λ (frame : Frame). frame.epoch ≤ w.primary.epoch) (λ frame h. h.epoch_is) w.wire.frames s.wire.frames,
      λ (c : ℕ) (is_one : is_open w c ≡ true). (s.outbound c is_one).local_read,
      λ (c : ℕ) (is_one : is_open w c ≡ true). (s.outbound c is_one).remote_read,
    )

pub frames_are_committed : FramesAreCommitted
frames_are_committed allowed events done worlds run =
    let w = last_world (start_with allowed) worlds in
    let s = sound-run allowed events done worlds run in
    let le = reach-low w.primary.link.copying w.primary.committer.position in
    let frames = λ (xs : List Frame). frames_within-weaker w.primary.epoch w.standby.role w.standby.position (reach w) w.primary.committer.position xs le in
    (frames w.wire.frames s.wire.frames, frames w.standby.waiting s.standby.frames)

pub answers_bear_positions : AnswersBearPositions
answers_bear_positions prefix call rest =
    let c = call.connection in
    let calls = prefix ++ call ∷ [] in
    record {
      rest = answers_from (state_after calls) (0 + position_of calls) c rest;
      joined = grind (arith, append_assoc, answers_to-push_own c prefix call refl, answers_from-append start_state 0 c calls rest);
    }

-- ---- connections

stays-step : (old : World) (event : Event) (did : Bool) (new : World) (c : ℕ) → c < length old.primary.connections → is_open old c ≡ false → Sound old → Step old event did new → StaysOver c old new
stays-step old event true new c lt shut sound step = (owed-step old event new step).over c (sound.over c shut).nothing lt shut
stays-step old event false new c lt shut sound step = subst (StaysOver c old) (sym (step.stands refl)) (stays-itself c old lt)

pub stays-run : (allowed : Allowed) (n : ℕ) (events : List Event) (done : List Bool) (worlds : List World) → Run (start_with allowed) events done worlds
    → let old = last_world (start_with allowed) (take n worlds) in
    (c : ℕ) → c < length old.primary.connections → is_open old c ≡ false → StaysOver c old (last_world (start_with allowed) worlds)
stays-run allowed n events done worlds run c lt shut =
    let old = last_world (start_with allowed) (take n worlds) in
    kept-later (StaysOver c old) (λ was event did new step s g. stays-trans g (stays-step was event did new c g.entered (ap (λ (x : Connection). x.is_open) g.connection ∙ shut) s step))
    allowed n events done worlds run (stays-itself c old lt)

-- no more connections enter than events happen
count-step : (old : World) (event : Event) (did : Bool) (new : World) → Step old event did new → count new ≤ count old + 1
count-step old event true new step = (owed-step old event new step).few
count-step old event false new step = omega (arith, ap count (step.stands refl))

count-from : (w : World) (events : List Event) (done : List Bool) (worlds : List World) → Run w events done worlds → count (last_world w worlds) ≤ count w + length events
count-from w [] [] [] run = omega arith
count-from w (event ∷ events) (did ∷ done) (new ∷ worlds) run = omega (arith, count-step w event did new run.0, count-from new events done worlds run.1)
count-from w events done worlds run = absurd run

pub few-connections : (allowed : Allowed) (events : List Event) (done : List Bool) (worlds : List World) → Run (start_with allowed) events done worlds → length (last_world (start_with allowed) worlds).primary.connections ≤ length events
few-connections allowed events done worlds run = omega (arith, count-from (start_with allowed) events done worlds run)

-- ---- without RaiseRemote

raises-parts : (event : Event) (did : Bool) (events : List Event) (done : List Bool) → RaisesNoRemote (event ∷ events) (did ∷ done) → RaisesNoRemote (event ∷ []) (did ∷ []) × RaisesNoRemote events done
raises-parts RaiseRemote true events done none = absurd none
raises-parts RaiseRemote false events done none = (tt, none)
raises-parts event did events done none = (tt, none)

remote-step : (old : World) (event : Event) (did : Bool) (new : World) → RaisesNoRemote (event ∷ []) (did ∷ []) → Step old event did new → new.primary.link.remote ≤ old.primary.link.remote
remote-step old event true new none step = (owed-step old event new step).remote none
remote-step old event false new none step = omega (arith, ap (λ x. x.primary.link.remote) (step.stands refl))

-- what some world has is at most at the remote mark of the first
low-marks : (w : World) (events : List Event) (done : List Bool) (worlds : List World) (prefix : List Call) (call : Call) → Run w events done worlds → RaisesNoRemote events done
    → SomeWorld (HasMarks prefix call) (w ∷ worlds) → position_of (prefix ++ call ∷ []) ≤ w.primary.link.remote
low-marks w [] [] [] prefix call run none some = elim some [ inl marks ↦ marks.remote | inr never ↦ absurd never ]
low-marks w (event ∷ events) (did ∷ done) (new ∷ worlds) prefix call run none some =
    let parts = raises-parts event did events done none in
    elim some [
      | inl marks ↦ marks.remote
      | inr later ↦ omega (arith, low-marks new events done worlds prefix call run.1 parts.1 later, remote-step w event did new parts.0 run.0)
    ]
low-marks w events done worlds prefix call run none some = absurd run

pub nothing_is_released_unacknowledged : NothingIsReleasedUnacknowledged
nothing_is_released_unacknowledged allowed events done worlds run none prefix call released =
    omega (arith, low-marks (start_with allowed) events done worlds prefix call run none (covered-run allowed events done worlds run prefix call released))

-- ---- what was not made

not-enabled : (w : World) (event : Event) → may_happen w event ≡ false → is_enabled w event ≡ false
not-enabled w event e = elim (nodes_run w event) as (λ b. (b && may_happen w event) ≡ false) [ true ↦ e | false ↦ refl ]

pub only_what_was_made_is_delivered : OnlyWhatWasMadeIsDelivered
only_what_was_made_is_delivered w n piece = (λ le. not-enabled w (Deliver n piece) (le-ltb n (length w.wire.frames) le), λ le. not-enabled w (AckDelivered n) (le-ltb n (length w.wire.acknowledgements) le))

-- ---- who is behind

-- what is sent next, and that something is, where the delta is due by this test
abbrev SendsFirst : ℕ → ℕ → Link → Bool → Bool → Type 0
SendsFirst position opened link later due =
    let delta : Span = record { before = position; after = opened } in
    let deltas : List Span = cond due (delta ∷ []) [] in
    (take 1 (deltas ++ (link.kept ++ link.waiting)) ≡ delta ∷ []) × ((is_nonempty deltas || later) ≡ true)

delta-first : (position opened : ℕ) (link : Link) (later : Bool) → position < opened → SendsFirst position opened link later (nat_lt position opened)
delta-first position opened link later behind = subst (SendsFirst position opened link later) (sym (lt-ltb position opened behind)) (refl, refl)

pub who_is_behind_gets_a_delta : WhoIsBehindGetsADelta
who_is_behind_gets_a_delta old new step follows behind =
    let position = old.standby.position in
    let due = due_from old.primary in
    let link = old.primary.link in
    let delta : Span = record { before = position; after = due } in
    let leads : (role : Role) → role ≡ Follower → let w = with_link (opened_to role position old.primary) old in (next_to_send w.primary.link ≡ delta ∷ []) × (may_send w.primary.link.copying w.primary.link ≡ true) =
    λ role same. subst (λ role. let w = with_link (opened_to role position old.primary) old in (next_to_send w.primary.link ≡ delta ∷ []) × (may_send w.primary.link.copying w.primary.link ≡ true)) (sym same)
    (delta-first position due link (is_nonempty link.kept || (is_nonempty link.waiting && nat_lt (length link.kept) KEPT_GROUPS)) behind) in
    subst (λ (w : World). (next_to_send w.primary.link ≡ delta ∷ []) × (may_happen w Send ≡ true)) (sym (step.happens refl)) (leads old.standby.role follows)

-- ---- fenced failover

-- a primary that was fenced does not run
retired-stands : (life : Life) → is_retired life ≡ true → is_running life ≡ false
retired-stands (Retired remains) e = refl
retired-stands _ e = cc

-- nor is it in any condition in which a crash may come to it
retired-uncut : (w : World) (call : Cut) → is_retired w.primary.life ≡ true → may_cut w nodes.Primary call ≡ false
retired-uncut w call e = none w.primary.life call e w
  where
    none : (life : Life) (call : Cut) → is_retired life ≡ true → (w : World) → may_cut (with_primary (record w.primary { life = life }) w) nodes.Primary call ≡ false
    none (Retired remains) cut.Between e w = refl
    none (Retired remains) cut.Commit e w = refl
    none (Retired remains) cut.Free e w = refl
    none (Retired remains) cut.ClearGap e w = refl
    none (Retired remains) cut.Reopen e w = refl
    none (Retired remains) cut.Apply e w = refl
    none (Retired remains) cut.Promote e w = refl
    none _ call e w = cc

not-run : (w : World) (event : Event) → nodes_run w event ≡ false → is_enabled w event ≡ false
not-run w event e = ap (λ b. b && may_happen w event) e

and-false : (b c : Bool) → c ≡ false → (b && c) ≡ false
and-false true c e = e
and-false false c e = refl

pub nothing_happens_fenced : NothingHappensFenced
nothing_happens_fenced w OpenLink fenced other = not-run w OpenLink (ap (λ b. b && is_running w.standby.life) (retired-stands w.primary.life fenced))
nothing_happens_fenced w (Deliver frame piece) fenced other = cc
nothing_happens_fenced w Apply fenced other = cc
nothing_happens_fenced w (FailFence nodes.Primary n) fenced other = not-run w (FailFence nodes.Primary n) (retired-stands w.primary.life fenced)
nothing_happens_fenced w (FailFence nodes.Standby n) fenced other = cc
nothing_happens_fenced w (Crash nodes.Primary call k picks) fenced other =
    let uncut : ((is_between call || w.allowed.cuts) && may_cut w nodes.Primary call) ≡ false = and-false (is_between call || w.allowed.cuts) _ (retired-uncut w call fenced) in
    and-false w.allowed.restarts ((is_between call || w.allowed.cuts) && may_cut w nodes.Primary call) uncut
nothing_happens_fenced w (Crash nodes.Standby call k picks) fenced other = cc
nothing_happens_fenced w (Reopen nodes.Primary) fenced other = and-false w.allowed.restarts _ (retired-uncut w cut.Reopen fenced)
nothing_happens_fenced w (Reopen nodes.Standby) fenced other = cc
nothing_happens_fenced w Fence fenced other = and-false w.allowed.fencing _ (ap not fenced)
nothing_happens_fenced w Promote fenced other = cc
nothing_happens_fenced w event fenced other = not-run w event (retired-stands w.primary.life fenced)

pub only_fenced_is_succeeded : OnlyFencedIsSucceeded
only_fenced_is_succeeded w unfenced = not-enabled w Promote (and-false w.allowed.promotions _ (and-false (is_follower w.standby.role) _ unfenced))

pub no_newcomer_is_promoted : NoNewcomerIsPromoted
no_newcomer_is_promoted w newcomer = not-enabled w Promote (and-false w.allowed.promotions _ (ap (λ role. is_follower role && is_retired w.primary.life) newcomer))

succeeded-by : (w : World) → Sound w → (new : World) → OpensPrimary 0 (promoted w) new → IsSucceededBy w new
succeeded-by w s new opens =
    subst (IsSucceededBy w) (sym opens.now) (record {
      calls = refl;
      position = refl;
      local = refl;
      remote = refl;
      epoch = ap (λ n. n + 1) s.standby.epoch_is;
      over = all-over w.primary.connections;
      released = λ c. ap (λ (connection : Connection). connection.outbound.released) (get-over w.primary.connections c);
    })

pub promotions_succeed : PromotionsSucceed
promotions_succeed allowed events done worlds run new step runs =
    let w = last_world (start_with allowed) worlds in
    let fenced = (both (is_follower w.standby.role) (is_retired w.primary.life) (both w.allowed.promotions (is_follower w.standby.role && is_retired w.primary.life) (enabled-may w Promote (sym step.done))).1).1 in
    elim (step.happens refl) [
      | inl opens ↦ succeeded-by w (sound-run allowed events done worlds run) new opens
      | inr fails ↦ absurd (both_ways (is_running new.primary.life) runs (ap (λ (x : World). is_running x.primary.life) fails.now ∙ retired-stands w.primary.life fenced))
    ]
