-- The table of events: what each owes to the laws of every run, in one entry. Most are of a kind that `EventKinds` has.
use Rattle.std.proofs.Common.{◌≡◌, true, refl, sym, ap, subst, ◌∙◌, arith, le_refl, slice_get, take, inl, inr}
use Rattle.std.proofs.lemmas.List.Elements.{All-nil}
use Rattle.model.specs.Call.{calls_of}
use Rattle.model.proofs.PrefixLemmas.{IsPrefix-itself, IsPrefix-of_append}
use Rattle.machine.specs.declared.event.Cut.TheVariants as cut
use Rattle.machine.specs.declared.event.Event.{Event}
use Rattle.machine.specs.declared.event.Event.TheVariants.{Enter, Feed, Offer, Turn, CloseGroup, Commit, RaiseLocal, Hand, Free, AcceptFreed, ClearGap, OpenLink, Send, Deliver, Apply, AckDelivered, RaiseRemote, Newcomer, PinCopy, SendCopy, Hold, Read, Release, Write, Leave, FailFence, Crash, Reopen, Fence, Promote}
use Rattle.machine.specs.declared.event.Node.TheVariants as nodes
use Rattle.machine.specs.Event.{Retired, Running, reach, opened_to, acknowledged_of, told, sent_one, World, Happens, Step, connection_of, fed_with, having_read, having_released, held_first, is_enabled, is_open, left, may_happen, nodes_run, offered_next, promoted, seen_of, torn, with_inbound, with_outbound, written}
use Rattle.machine.specs.Law.{Grows}
use Rattle.machine.specs.Sound.{IsStandbyLeft, Sound}
use Rattle.machine.proofs.AnswerLemmas.{outbound-held, outbound-having_released, outbound-read, outbound-written}
use Rattle.machine.proofs.ConnectionLemmas.{open-lt}
use Rattle.machine.proofs.EventKinds.{Owes, or-fails, owes-behind, owes-changed, owes-quiet, owes-unmoved}
use Rattle.machine.proofs.FedLemmas.{fed-Feed, fed-called, fed-crashed, fed-entered, fed-nothing, fed-over, fed-same, fed_in}
use Rattle.machine.proofs.GrowKinds.{grows-Commit, grows-applied, grows-called, grows-crashed, grows-entered, grows-itself, grows-joined, grows-linked, grows-relinked, grows-opens, grows-promoted, grows-sent, grows-wired}
use Rattle.machine.proofs.SoundConnection.{both, four, three, sound-Enter, sound-Feed, sound-Leave, sound-Offer, sound-called, sound-outbound}
use Rattle.machine.proofs.SoundNodes.{committer-freed_first, opened-remote, sent-remote, sound-AckDelivered, sound-Apply, sound-CloseGroup, sound-Commit, sound-Deliver, sound-Hand, sound-OpenLink, sound-RaiseLocal, sound-RaiseRemote, sound-Send}
use Rattle.machine.proofs.SoundNewcomer.{sound-Newcomer, sound-PinCopy, sound-SendCopy}
use Rattle.machine.proofs.SoundCrashes.{sound-asked, sound-crashed, sound-opened, sound-primary_life, sound-promoted, sound-standby_life}
use Rattle.machine.proofs.StandingLemmas.{Behind, behind-sent, Stays, Unmoved, after-crash, behind-applied, behind-itself, keeps-itself, remote-crashed, told-remote, unmoved-asked, unmoved-itself}
use Rattle.machine.proofs.StayLemmas.{count, few-called, few-crashed, few-entered, few-promoted, stays-called, stays-crashed, stays-entered, stays-opens, stays-promoted}
use Rattle.machine.proofs.WorkLemmas.{closes-queues}
use Rattle.machine.proofs.WritesLemmas.{keeps-read, unchanged, unwritten-called, unwritten-changed, unwritten-crashed, unwritten-entered, unwritten-opens, unwritten-promoted, writes-written}

-- `r` says that its nodes run, `e` that it has something to do, and `h` what it did
pub owed : (w : World) (event : Event) (new : World) → nodes_run w event ≡ true → may_happen w event ≡ true → Happens w event new → Owes w event new
owed w Enter new r e h =
    subst (Owes w Enter) (sym h) (record {
      sound = sound-Enter w e;
      grows = λ s. grows-entered w;
      over = λ c nothing lt shut. stays-entered c w lt;
      few = few-entered w;
      writes = λ c. inl (unwritten-entered c w);
      fed = λ c. fed-nothing Enter c (λ d. refl) (fed-entered w c);
      remote = λ raises. le_refl w.primary.link.remote;
      nodes = inl (search (keeps-itself w));
    })
owed w (Feed c piece) new r e h =
    let is_one = (both (is_open w c) _ e).0 in
    subst (Owes w (Feed c piece)) (sym h) (owes-changed w (Feed c piece) c (with_inbound (fed_with piece)) is_one (λ connection. IsPrefix-itself connection.outbound.released)
    (λ d. inl (unwritten-changed d c w _ (with_inbound (fed_with piece)) (λ connection. refl) refl)) (λ d. fed-Feed w c d piece (open-lt w.primary.connections c is_one)) (sound-Feed w c piece e))
owed w (Offer c) new r e h =
    subst (Owes w (Offer c)) (sym h) (owes-quiet w (Offer c) c (with_inbound offered_next) (three (is_open w c) _ _ e).0 (λ connection. refl) (λ connection. refl) (λ d. refl) (sound-Offer w c e))
owed w (Turn c) new r e h =
    record {
      sound = λ s. subst Sound (sym h.now) (sound-called w c h.call h.connection h.first h.reply e s);
      grows = λ s. subst (Grows w) (sym h.now) (grows-called w c h.call);
      over = λ d nothing lt shut. stays-called w new d c h lt shut (four (is_open w c) _ _ _ e).0;
      few = few-called w new c h;
      writes = λ d. inl (unwritten-called d c w new h);
      fed = λ d. fed-nothing (Turn c) d (λ f. refl) (fed-called w new c d h);
      remote = λ raises. omega (arith, ap (λ x. x.primary.link.remote) h.now);
      nodes = subst (Stays w) (sym h.now) (inl (search (keeps-itself w)));
    }
owed w CloseGroup new r e h = owes-unmoved w CloseGroup new (subst (Unmoved w) (sym (closes-queues w new h).now) (search (unmoved-itself w))) (λ c. refl) (sound-CloseGroup w new e h)
owed w Commit new r e h =
    or-fails w Commit new nodes.Primary cut.Commit (λ c. refl) (λ now. subst (Owes w Commit) (sym now) (owes-behind w Commit _ (search (behind-itself w)) (λ c. refl) (λ raises. le_refl w.primary.link.remote)
    (sound-Commit w r e) (grows-Commit w))) h
owed w RaiseLocal new r e h = subst (Owes w RaiseLocal) (sym h) (owes-unmoved w RaiseLocal _ (search (unmoved-itself w)) (λ c. refl) (sound-RaiseLocal w))
owed w Hand new r e h = subst (Owes w Hand) (sym h) (owes-unmoved w Hand _ (search (unmoved-itself w)) (λ c. refl) (sound-Hand w e))
owed w Free new r e h =
    or-fails w Free new nodes.Primary cut.Free (λ c. refl) (λ now. subst (Owes w Free) (sym now) (owes-unmoved w Free _ (search (unmoved-itself w)) (λ c. refl) (λ s. search (committer-freed_first w e s.committer)))) h
owed w AcceptFreed new r e h = subst (Owes w AcceptFreed) (sym h) (owes-unmoved w AcceptFreed _ (search (unmoved-itself w)) (λ c. refl) (λ s. search s))
owed w ClearGap new r e h =
    or-fails w ClearGap new nodes.Primary cut.ClearGap (λ c. refl) (λ now. subst (Owes w ClearGap) (sym now) (owes-unmoved w ClearGap _ (search (unmoved-itself w)) (λ c. refl) (λ s. search s))) h
owed w OpenLink new r e h =
    subst (Owes w OpenLink) (sym h) (owes-behind w OpenLink _ (search (behind-itself w)) (λ c. refl) (λ raises. omega (arith, opened-remote w)) (sound-OpenLink w)
    (λ s. grows-linked w (opened_to w.standby.role w.standby.position w.primary) (acknowledged_of w.standby.role w.standby)))
owed w Send new r e h =
    subst (Owes w Send) (sym h) (owes-behind w Send _ (behind-sent w) (λ c. refl) (λ raises. omega (arith, sent-remote w)) (sound-Send w e) (λ s. grows-sent w))
owed w (Deliver frame piece) new r e h =
    subst (Owes w (Deliver frame piece)) (sym h) (owes-unmoved w (Deliver frame piece) _ (search (unmoved-itself w)) (λ c. refl) (sound-Deliver w frame))
owed w Apply new r e h =
    or-fails w Apply new nodes.Standby cut.Apply (λ c. refl) (λ applies. owes-behind w Apply new (behind-applied w new applies) (λ c. refl) (λ raises. omega (arith, ap (λ x. x.primary.link.remote) applies.now))
    (sound-Apply w new r applies) (grows-applied w new applies)) h
owed w (AckDelivered a) new r e h =
    let ack = slice_get w.wire.acknowledgements a in
    subst (Owes w (AckDelivered a)) (sym h) (owes-behind w (AckDelivered a) _ (search (behind-itself w)) (λ c. refl) (λ raises. omega (arith, told-remote w.primary.epoch w.primary.committer.position ack w.primary.link))
    (sound-AckDelivered w a) (λ s. grows-relinked w (told w.primary.epoch w.primary.committer.position ack w.primary.link)))
owed w RaiseRemote new r e h =
    subst (Owes w RaiseRemote) (sym h) (owes-behind w RaiseRemote _ (search (behind-itself w)) (λ c. refl) (λ raises. absurd raises) (sound-RaiseRemote w) (λ s. search (grows-itself w)))
owed w Newcomer new r e h =
    subst (Owes w Newcomer) (sym h) (record {
      sound = sound-Newcomer w;
      grows = λ s. grows-joined w;
      over = λ c nothing lt shut. record { entered = lt; connection = refl; calls = IsPrefix-itself (calls_of c w.primary.calls) };
      few = omega arith;
      writes = λ c. inl (search (unchanged c w));
      fed = λ c. fed-nothing Newcomer c (λ d. refl) refl;
      remote = λ raises. le_refl w.primary.link.remote;
      nodes = inr (inr refl);
    })
owed w PinCopy new r e h =
    owes-behind w PinCopy new (subst (Behind w) (sym h.now) (search (behind-itself w))) (λ c. refl) (λ raises. omega (arith, ap (λ x. x.primary.link.remote) h.now)) (sound-PinCopy w new e h) (λ s. subst (Grows w) (sym h.now) (grows-relinked w _))
owed w SendCopy new r e h =
    subst (Owes w SendCopy) (sym h) (owes-behind w SendCopy _ (search (behind-itself w)) (λ c. refl) (λ raises. le_refl w.primary.link.remote) (sound-SendCopy w e)
    (λ s. grows-wired w (record w.primary.link { copying = sent_one w.primary.link.copying }) _))
owed w (Hold c) new r e h =
    let is_one = (both (is_open w c) _ e).0 in
    subst (Owes w (Hold c)) (sym h) (owes-quiet w (Hold c) c (with_outbound held_first) is_one (λ connection. refl) (λ connection. refl) (λ d. refl)
    (sound-outbound w c held_first is_one (outbound-held w.primary.calls c (seen_of w) (connection_of w c).outbound)))
owed w (Read c mark) new r e h =
    subst (Owes w (Read c mark)) (sym h) (owes-quiet w (Read c mark) c (with_outbound (having_read mark w)) e (keeps-read mark w) (λ connection. refl) (λ d. refl)
    (sound-outbound w c (having_read mark w) e (outbound-read w.primary.calls c mark w (connection_of w c).outbound)))
owed w (Release c) new r e h =
    let is_one = (both (is_open w c) _ e).0 in
    subst (Owes w (Release c)) (sym h) (owes-quiet w (Release c) c (with_outbound having_released) is_one (λ connection. refl) (λ connection. refl) (λ d. refl)
    (sound-outbound w c having_released is_one (outbound-having_released w.primary.calls c (seen_of w) (connection_of w c).outbound)))
owed w (Write c n) new r e h =
    let is_one = (both (is_open w c) _ e).0 in
    subst (Owes w (Write c n)) (sym h) (owes-changed w (Write c n) c (with_outbound (written n)) is_one (λ connection. IsPrefix-of_append connection.outbound.released (take n connection.outbound.pending)) (λ d. writes-written w c n d is_one)
    (λ d. fed-nothing (Write c n) d (λ f. refl) (fed-same w c d (with_outbound (written n)) (λ connection. refl)))
    (sound-outbound w c (written n) is_one (outbound-written w.primary.calls c (seen_of w) n (connection_of w c).outbound)))
owed w (Leave c) new r e h = subst (Owes w (Leave c)) (sym h) (owes-quiet w (Leave c) c left e (λ connection. refl) (λ connection. refl) (λ d. refl) (sound-Leave w c e))
owed w (FailFence node n) new r e h = subst (Owes w (FailFence node n)) (sym h) (owes-unmoved w (FailFence node n) _ (unmoved-asked w node n) (λ c. refl) (sound-asked w node n))
owed w (Crash node call k picks) new r e h =
    subst (Owes w (Crash node call k picks)) (sym h.now) (record {
      sound = sound-crashed w node call h.remain h.one;
      grows = grows-crashed w node call h.remain h.one;
      over = λ c nothing lt shut. stays-crashed c w node h.remain nothing lt shut;
      few = few-crashed w node h.remain;
      writes = λ c. inl (unwritten-crashed c w node h.remain);
      fed = λ c. fed-nothing (Crash node call k picks) c (λ d. refl) (fed-crashed w c node h.remain);
      remote = λ raises. remote-crashed w node h.remain;
      nodes = after-crash w node h.remain;
    })
owed w (Reopen nodes.Primary) new r e h =
    or-fails w (Reopen nodes.Primary) new nodes.Primary cut.Reopen (λ c. refl)
    (λ opens. owes-unmoved w (Reopen nodes.Primary) new (subst (Unmoved w) (sym opens.now) (search (unmoved-itself w))) (λ c. refl) (sound-opened w new opens)) h
owed w (Reopen nodes.Standby) new r e h =
    or-fails w (Reopen nodes.Standby) new nodes.Standby cut.Reopen (λ c. refl) (λ now. subst (Owes w (Reopen nodes.Standby)) (sym now) (owes-unmoved w (Reopen nodes.Standby) _ (search (unmoved-itself w)) (λ c. refl)
    (λ s. sound-standby_life w Running w.standby.disk s (All-nil (IsStandbyLeft w.standby.role w.standby.position (reach w)))))) h
owed w Fence new r e h =
    subst (Owes w Fence) (sym h) (owes-unmoved w Fence _ (search (unmoved-itself w)) (λ c. refl) (λ s. sound-primary_life w (Retired (torn w.primary.life)) w.primary.disk s.primary_left s))
owed w Promote new r e h =
    or-fails w Promote new nodes.Standby cut.Promote (λ c. refl) (λ opens. record {
      sound = λ s. sound-opened (promoted w) new opens (sound-promoted w s);
      grows = λ s. grows-opens w (promoted w) new opens (grows-promoted w s);
      over = λ c nothing lt shut. stays-opens c w (promoted w) new opens (stays-promoted c w nothing lt shut);
      few = omega (arith, ap count opens.now, few-promoted w);
      writes = λ c. inl (unwritten-opens c w (promoted w) new opens (unwritten-promoted c w));
      fed = λ c. fed-nothing Promote c (λ d. refl) (ap (λ x. fed_in x c) opens.now ∙ fed-over w c);
      remote = λ raises. omega (arith, ap (λ x. x.primary.link.remote) opens.now);
      nodes = subst (Stays w) (sym opens.now) (inr (inl refl));
    }) h

-- ---- a step

-- what is enabled has something to do
pub enabled-may : (w : World) (event : Event) → is_enabled w event ≡ true → may_happen w event ≡ true
enabled-may w event e = (both (nodes_run w event) (may_happen w event) e).1

enabled-run : (w : World) (event : Event) → is_enabled w event ≡ true → nodes_run w event ≡ true
enabled-run w event e = (both (nodes_run w event) (may_happen w event) e).0

pub owed-step : (w : World) (event : Event) (new : World) → Step w event true new → Owes w event new
owed-step w event new step = owed w event new (enabled-run w event (sym step.done)) (enabled-may w event (sym step.done)) (step.happens refl)
