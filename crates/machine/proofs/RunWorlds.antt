-- The worlds of the worked cases, event by event.
use Rattle.std.proofs.Common.{◌≡◌, Bool, true, false, cond, List, [], ◌∷◌, codes, slice_get, refl, sym, arith, inl, inr, true≢false}
use Rattle.kv_types.specs.declared.item.Item.{Item}
use Rattle.kv_types.specs.declared.item.Item.TheVariants.{Request}
use Rattle.kv_types.specs.declared.reply.Reply.{Reply, Simple}
use Rattle.cmd_table.specs.Request.{outcome_of_words, closes}
use Rattle.kv_types.specs.CommandName.{is_named}
use Rattle.multi_watch.specs.Verb.{verb_of}
use Rattle.model.specs.declared.call.Call.{Call}
use Rattle.model.specs.Call.{MayReply, position_of, state_after}
use Rattle.machine.specs.declared.event.Event.{Event}
use Rattle.machine.specs.declared.event.Event.TheVariants.{Enter, Feed, Offer, Turn, CloseGroup, Commit, RaiseLocal, Hand, OpenLink, Send, Deliver, Apply, AckDelivered, RaiseRemote, Hold, Read, Release, Write, Leave, FailFence, Crash, Reopen, Fence, Promote, Newcomer, PinCopy, SendCopy}
use Rattle.machine.specs.Event.{acknowledged_of, opened_to, World, At, Retired, Run, Happens, is_enabled, asked_to_fail, crashed, halted, left_by, on_disk, promoted, reopened_primary, reopened_standby, with_life, with_primary, entered, changed_at, with_connections, with_committer, with_link, with_standby, with_acknowledged, with_ended, on_inbound, on_outbound, fed_with, offered_next, called, closed_group, committed_first, raised_local, handed, handed_to, ready_again, acknowledgement_of, sent, delivered, option_items, moved_to, without_first, told, raised_remote, held_first, having_read, having_released, written, left, torn, Sending, copy_sent, joined, with_copying}
use Rattle.machine.proofs.RunLemmas.{step-does, step-stays}
use Rattle.machine.specs.declared.event.Node.TheVariants as nodes
use Rattle.machine.specs.declared.event.Cut.TheVariants as cut

abbrev item : Item
item = Request (codes "SET" ∷ codes "a" ∷ codes "1" ∷ [])

abbrev ok : Reply
ok = Simple (codes "OK")

abbrev pub call : Call
call = record { connection = 0; item = item; reply = ok }

-- the world after an event of these cases; their one call ends no version
abbrev pub after : World → Event → World
after w Enter = entered w
after w (Feed c piece) = on_inbound c (fed_with piece) w
after w (Offer c) = on_inbound c offered_next w
after w (Turn c) = called c call w
after w CloseGroup = with_ended 0 0 (with_committer (closed_group (position_of w.primary.calls) w.primary.committer) w)
after w Commit = with_committer (committed_first w.primary.committer.waiting w.primary.committer) w
after w RaiseLocal = with_committer (raised_local w.primary.committer) w
after w Hand = with_link (handed_to (handed w.primary.committer.stage) w.primary.link) (with_committer (ready_again w.primary.committer) w)
after w OpenLink = with_link (opened_to w.standby.role w.standby.position w.primary) (with_acknowledged (acknowledged_of w.standby.role w.standby) w)
after w Send = sent w
after w (Deliver frame piece) = with_standby (delivered (option_items (slice_get w.wire.frames frame)) w.standby) w
after w Apply = let standby = moved_to 1 (without_first w.standby) in with_acknowledged (acknowledgement_of standby ∷ []) (with_standby standby w)
after w (AckDelivered a) = with_link (told w.primary.epoch w.primary.committer.position (slice_get w.wire.acknowledgements a) w.primary.link) w
after w RaiseRemote = with_link (raised_remote w.primary.link) w
after w (Hold c) = on_outbound c held_first w
after w (Read c mark) = on_outbound c (having_read mark w) w
after w (Release c) = on_outbound c having_released w
after w (Write c n) = on_outbound c (written n) w
after w (Leave c) = with_connections (changed_at c left w.primary.connections) w
-- (the first promotion fails, and the crashes leave what they are said to leave)
after w (FailFence node n) = on_disk node (asked_to_fail n) w
after w (Crash nodes.Standby cut.Promote k picks) = promoted w
after w (Crash node _ k picks) = crashed node (At 0) w
after w (Reopen nodes.Primary) = with_primary (reopened_primary 0 1 w.primary) w
after w (Reopen nodes.Standby) = with_standby (reopened_standby w.standby) w
after w Fence = with_life nodes.Primary (Retired (torn w.primary.life)) w
after w Promote = halted nodes.Standby (left_by w nodes.Standby cut.Promote) w
-- (a newcomer comes, and its copy is one part)
after w Newcomer = joined w
after w PinCopy = with_copying (Sending (record { position = position_of w.primary.calls; parts = 1; next = 0 })) w
after w SendCopy = copy_sent w
after w event = w

-- the worlds after events of which those did their step
abbrev pub worlds_from : World → List Event → List Bool → List World
worlds_from w (event ∷ events) (did ∷ done) = let new = cond did (after w event) w in new ∷ worlds_from new events done
worlds_from w events done = []

-- each of these events may happen or not, as is said, and may do that
abbrev pub Steps : World → List Event → List Bool → Type 0
Steps w [] [] = Unit {0}
Steps w (event ∷ events) (did ∷ done) = let new = cond did (after w event) w in (did ≡ is_enabled w event) × (did ≡ true → Happens w event new) × Steps new events done
Steps w _ _ = ⊥

pub runs : (w : World) (events : List Event) (done : List Bool) → Steps w events done → Run w events done (worlds_from w events done)
runs w [] [] steps = tt
runs w (event ∷ events) (true ∷ done) steps = (step-does (sym steps.0) (steps.1 refl), runs (after w event) events done steps.2)
runs w (event ∷ events) (false ∷ done) steps = (step-stays (sym steps.0), runs w events done steps.2)
runs w events done steps = absurd steps

-- what did not happen may have been anything
pub never : (X : Type 0) → false ≡ true → X
never X e = absurd (true≢false (sym e))

-- the call may be answered so
pub may_reply : MayReply (state_after []) call
unfolding outcome_of_words verb_of closes is_named
may_reply = inr (inr (inl (omega arith, refl)))
