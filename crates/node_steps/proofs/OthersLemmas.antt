-- What others do is nothing to what the thread has.
use Rattle.std.proofs.Common.{◌≡◌, ◌≤◌, inl, inr, ℕ, Bool, true, false, cond, max, nat_le, List, [], ◌∷◌, ◌++◌, map, Option, Some, None, slice_get, refl, sym, ap, subst, ◌∙◌, arith, le_refl}
use Rattle.std.proofs.Common.{append_assoc}
use Rattle.model.specs.Call.{position_of}
use Rattle.machine.specs.declared.event.Event.{Event}
use Rattle.machine.specs.declared.event.Event.TheVariants as events
use Rattle.machine.specs.declared.event.Node.TheVariants as node
use Rattle.machine.specs.declared.event.Cut.TheVariants as cut
use Rattle.machine.specs.Event.{Acknowledgement, Awaited, Changes, Connection, Copying, Follower, Follows, Happens, Link, Primary, Role, Run, Sending, Span, Standby, Step, Uncopied, Wire, World, acknowledged_of, above, changed_at, counts, delivered, ended_at, failed, framed, having_released, held_first, is_open, is_open_at, joined, keeps_group, knowing, last_world, left_by, new_connection, next_of_copy, next_to_send, offered_next, opened_to, option_items, raised_remote, sent_group, sent_next, sent_one, sent_waiting, sent_with, taken_group, told, wanted_by, with_inbound, with_outbound, written, fed_with, having_read, Stopped}
use Rattle.machine.specs.Sound.{Sound}
use Rattle.machine.proofs.ConnectionLemmas.{get-before, open-lt}
use Rattle.machine.proofs.SoundEvents.{applies-well, sound-step}
use Rattle.node_steps.specs.Others.{AreOthers, OthersRun, is_others}
use Rattle.node_steps.proofs.Meanwhile.{Meanwhile}
use Rattle.node_steps.proofs.OpenLemmas.{open-changed}

-- ---- one event

-- the world in which these are so
abbrev world_of : List Connection → Link → Standby → Wire → ℕ → World → World
world_of connections link standby wire came w = record w { primary = record w.primary { connections = connections; link = link }; standby = standby; wire = wire; came = came }

quiet : (w new : World) (connections : List Connection) (link : Link) (standby : Standby) (wire : Wire) (came : ℕ) (sent : List Span) → new ≡ world_of connections link standby wire came w
    → ((c : ℕ) → is_open w c ≡ true → is_open_at connections c ≡ true) → w.primary.link.waiting ≡ sent ++ link.waiting → w.standby.position ≤ standby.position → Sound new → Meanwhile w new
quiet w new connections link standby wire came sent is opens waiting later sound =
    subst (Meanwhile w) (sym is) (record {
      sound = subst Sound is sound;
      life = refl;
      epoch = refl;
      are_open = opens;
      calls = refl;
      committer = refl;
      ended = refl;
      newest = refl;
      notices = refl;
      gaps = refl;
      sent = sent;
      waiting = waiting;
      standby = later;
    })

-- a connection changes, and stays open
by-connection : (w new : World) (c : ℕ) (change : Connection → Connection) → ((connection : Connection) → (change connection).is_open ≡ connection.is_open)
    → new ≡ world_of (changed_at c change w.primary.connections) w.primary.link w.standby w.wire w.came w → Sound new → Meanwhile w new
by-connection w new c change keeps is sound =
    quiet w new (changed_at c change w.primary.connections) w.primary.link w.standby w.wire w.came [] is (λ d opens. open-changed c change keeps w.primary.connections d ∙ opens) refl (le_refl w.standby.position) sound

-- the link changes, and takes these groups
by-link : (w new : World) (link : Link) (wire : Wire) (sent : List Span) → new ≡ world_of w.primary.connections link w.standby wire w.came w → w.primary.link.waiting ≡ sent ++ link.waiting → Sound new → Meanwhile w new
by-link w new link wire sent is waiting sound = quiet w new w.primary.connections link w.standby wire w.came sent is (λ d opens. opens) waiting (le_refl w.standby.position) sound

-- the standby does
by-standby : (w new : World) (standby : Standby) (wire : Wire) → new ≡ world_of w.primary.connections w.primary.link standby wire w.came w → w.standby.position ≤ standby.position → Sound new → Meanwhile w new
by-standby w new standby wire is later sound = quiet w new w.primary.connections w.primary.link standby wire w.came [] is (λ d opens. opens) refl later sound

-- the groups that leave the queue when one frame is sent
taken-first : (groups : List Span) (link : Link) → link.waiting ≡ groups → (sent : List Span) × (link.waiting ≡ sent ++ (sent_waiting groups link).waiting)
taken-first [] link is = ([], refl)
taken-first (group ∷ groups) link is = (group ∷ [], is)

taken-group : (again : List Span) (link : Link) → (sent : List Span) × (link.waiting ≡ sent ++ (sent_group again link).waiting)
taken-group [] link = taken-first link.waiting link refl
taken-group (group ∷ groups) link = ([], refl)

taken-next : (delta : List Span) (link : Link) → (sent : List Span) × (link.waiting ≡ sent ++ (sent_next delta link).waiting)
taken-next [] link = taken-group link.again link
taken-next (group ∷ groups) link = ([], refl)

-- the group that leaves it while a copy is awaited
taken-kept : (copying : Copying) (groups : List Span) (link : Link) → link.waiting ≡ groups → (sent : List Span) × (link.waiting ≡ sent ++ (taken_group copying groups link).waiting)
taken-kept copying [] link is = ([], refl)
taken-kept copying (group ∷ groups) link is =
    elim (keeps_group copying group) as (λ b. (sent : List Span) × (link.waiting ≡ sent ++ (cond b (record link { waiting = groups; kept = link.kept ++ group ∷ []; again = [] }) (record link { waiting = groups; kept = []; again = []; dropped = group.after })).waiting)) [
      | true ↦ (group ∷ [], is)
      | false ↦ (group ∷ [], is)
    ]

sent-quiet : (w new : World) (copying : Copying) → new ≡ sent_with copying w → Sound new → Meanwhile w new
sent-quiet w new Follows is sound =
    let taken = taken-next w.primary.link.delta w.primary.link in
    by-link w new (sent_next w.primary.link.delta w.primary.link) (record w.wire { frames = w.wire.frames ++ framed w.primary.epoch (map Changes (next_to_send w.primary.link)) }) taken.0 is taken.1 sound
sent-quiet w new Awaited is sound =
    let taken = taken-kept Awaited w.primary.link.waiting w.primary.link refl in
    by-link w new (taken_group Awaited w.primary.link.waiting w.primary.link) w.wire taken.0 is taken.1 sound
sent-quiet w new (Sending pinned) is sound =
    let taken = taken-kept (Sending pinned) w.primary.link.waiting w.primary.link refl in
    by-link w new (taken_group (Sending pinned) w.primary.link.waiting w.primary.link) w.wire taken.0 is taken.1 sound

-- no group leaves it where the link opens
wanted-waits : (copying : Copying) (link : Link) → link.waiting ≡ (wanted_by copying link).waiting
wanted-waits Follows link = refl
wanted-waits Awaited link = refl
wanted-waits (Sending pinned) link = refl

opened-waits : (role : Role) (position : ℕ) (primary : Primary) → primary.link.waiting ≡ (opened_to role position primary).waiting
opened-waits Follower position primary = refl
opened-waits Uncopied position primary = wanted-waits primary.link.copying primary.link

-- or an acknowledgement arrives
ended-waits : (position : ℕ) (copying : Copying) (link : Link) → link.waiting ≡ (ended_at position copying link).waiting
ended-waits position Follows link = refl
ended-waits position Awaited link = refl
ended-waits position (Sending pinned) link =
    elim (nat_le pinned.position position) as (λ b. link.waiting ≡ (cond b (record link { again = link.kept; copying = Follows }) link).waiting) [ true ↦ refl | false ↦ refl ]

told-waits : (epoch own : ℕ) (ack : Option Acknowledgement) (link : Link) → link.waiting ≡ (told epoch own ack link).waiting
told-waits epoch own None link = refl
told-waits epoch own (Some ack) link = elim (counts epoch own ack) as (λ b. link.waiting ≡ (cond b (knowing ack.position link) link).waiting) [
  | true ↦ ended-waits ack.position link.copying (record link { kept = above ack.position link.kept; again = above ack.position link.again; known = max link.known ack.position })
  | false ↦ refl
]

happens-quiet : (w new : World) (event : Event) → is_others event ≡ true → Sound w → Sound new → Happens w event new → Meanwhile w new
happens-quiet w new events.Enter others before sound happens =
    quiet w new (w.primary.connections ++ new_connection ∷ []) w.primary.link w.standby w.wire w.came [] happens
    (λ c opens. ap (λ (connection : Connection). connection.is_open) (get-before w.primary.connections (new_connection ∷ []) c (open-lt w.primary.connections c opens)) ∙ opens) refl (le_refl w.standby.position) sound
happens-quiet w new (events.Feed c piece) others before sound happens = by-connection w new c (with_inbound (fed_with piece)) (λ connection. refl) happens sound
happens-quiet w new (events.Offer c) others before sound happens = by-connection w new c (with_inbound offered_next) (λ connection. refl) happens sound
happens-quiet w new (events.Hold c) others before sound happens = by-connection w new c (with_outbound held_first) (λ connection. refl) happens sound
happens-quiet w new (events.Read c mark) others before sound happens = by-connection w new c (with_outbound (having_read mark w)) (λ connection. refl) happens sound
happens-quiet w new (events.Release c) others before sound happens = by-connection w new c (with_outbound having_released) (λ connection. refl) happens sound
happens-quiet w new (events.Write c n) others before sound happens = by-connection w new c (with_outbound (written n)) (λ connection. refl) happens sound
happens-quiet w new events.OpenLink others before sound happens =
    by-link w new (opened_to w.standby.role w.standby.position w.primary) (record w.wire { acknowledgements = w.wire.acknowledgements ++ acknowledged_of w.standby.role w.standby }) [] happens
    (opened-waits w.standby.role w.standby.position w.primary) sound
happens-quiet w new events.Send others before sound happens = sent-quiet w new w.primary.link.copying happens sound
happens-quiet w new (events.Deliver frame piece) others before sound happens =
    by-standby w new (delivered (option_items (slice_get w.wire.frames frame)) w.standby) w.wire happens (le_refl w.standby.position) sound
happens-quiet w new events.Apply others before sound happens = elim happens [
  | inl applies ↦ by-standby w new applies.standby (record w.wire { acknowledgements = w.wire.acknowledgements ++ applies.told }) applies.now (applies-well w new applies before).later sound
  | inr fails ↦ by-standby w new (record w.standby { disk = failed w.standby.disk; life = Stopped (left_by w node.Standby cut.Apply); waiting = []; half = None }) w.wire fails.now (le_refl w.standby.position) sound
]
happens-quiet w new (events.AckDelivered a) others before sound happens =
    let ack = slice_get w.wire.acknowledgements a in
    by-link w new (told w.primary.epoch w.primary.committer.position ack w.primary.link) w.wire [] happens (told-waits w.primary.epoch w.primary.committer.position ack w.primary.link) sound
happens-quiet w new events.RaiseRemote others before sound happens = by-link w new (raised_remote w.primary.link) w.wire [] happens refl sound
happens-quiet w new events.Newcomer others before sound happens =
    quiet w new w.primary.connections w.primary.link (joined w).standby (joined w).wire (joined w).came [] happens (λ d opens. opens) refl (le_refl w.standby.position) sound
happens-quiet w new events.PinCopy others before sound happens =
    by-link w new (record w.primary.link { copying = Sending (record { position = position_of w.primary.calls; parts = happens.parts; next = 0 }) }) w.wire [] happens.now refl sound
happens-quiet w new events.SendCopy others before sound happens =
    by-link w new (record w.primary.link { copying = sent_one w.primary.link.copying }) (record w.wire { frames = w.wire.frames ++ framed w.primary.epoch (next_of_copy w.primary.link.copying) }) [] happens refl sound
happens-quiet w new event others before sound happens = cc

-- nobody does anything
pub meanwhile-nothing : (w : World) → Sound w → Meanwhile w w
meanwhile-nothing w sound = record {
  sound = sound;
  life = refl;
  epoch = refl;
  are_open = λ c opens. opens;
  calls = refl;
  committer = refl;
  ended = refl;
  newest = refl;
  notices = refl;
  gaps = refl;
  sent = [];
  waiting = refl;
  standby = le_refl w.standby.position;
}

pub meanwhile-step : (w new : World) (event : Event) (did : Bool) → is_others event ≡ true → Sound w → Step w event did new → Meanwhile w new
meanwhile-step w new event true others sound step = happens-quiet w new event others sound (sound-step w event true new step sound) (step.happens refl)
meanwhile-step w new event false others sound step = subst (Meanwhile w) (sym (step.stands refl)) (meanwhile-nothing w sound)

-- ---- a run

pub meanwhile-then : {old middle new : World} → Meanwhile old middle → Meanwhile middle new → Meanwhile old new
meanwhile-then {old} {middle} {new} first second = record {
  sound = second.sound;
  life = second.life ∙ first.life;
  epoch = second.epoch ∙ first.epoch;
  are_open = λ c opens. second.are_open c (first.are_open c opens);
  calls = second.calls ∙ first.calls;
  committer = second.committer ∙ first.committer;
  ended = second.ended ∙ first.ended;
  newest = second.newest ∙ first.newest;
  notices = second.notices ∙ first.notices;
  gaps = second.gaps ∙ first.gaps;
  sent = first.sent ++ second.sent;
  waiting = first.waiting ∙ ap (λ (spans : List Span). first.sent ++ spans) second.waiting ∙ sym (append_assoc first.sent second.sent new.primary.link.waiting);
  standby = omega (arith, first.standby, second.standby);
}

pub meanwhile-run : (w : World) (events : List Event) (done : List Bool) (worlds : List World) → AreOthers events → Sound w → Run w events done worlds → Meanwhile w (last_world w worlds)
meanwhile-run w [] [] [] others sound run = meanwhile-nothing w sound
meanwhile-run w (event ∷ events) (did ∷ done) (new ∷ worlds) others sound run =
    let first = meanwhile-step w new event did others.0 sound run.0 in
    meanwhile-then first (meanwhile-run new events done worlds others.1 first.sound run.1)
meanwhile-run w events done worlds others sound run = absurd run

pub meanwhile-others : {w now : World} → Sound w → OthersRun w now → Meanwhile w now
meanwhile-others {w} {now} sound others = subst (Meanwhile w) others.last (meanwhile-run w others.events others.done others.worlds others.others sound others.run)
