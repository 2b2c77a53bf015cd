-- What each event of the nodes leaves sound.
use Rattle.std.proofs.Common.{◌≡◌, ℕ, ◌<◌, ◌≤◌, max, true, false, not, ◌||◌, cond, nat_le, nat_lt, List, [], ◌∷◌, ◌++◌, length, map, drop, All, Option, Some, None, slice_get, refl, sym, ap, ◌∙◌, subst, arith, le_refl, inl, inr}
use Rattle.std.proofs.lemmas.Bool.{ltb-true}
use Rattle.std.proofs.lemmas.List.Elements.{All-append, All-drop, All-head, All-weaker, All-nil}
use Rattle.kv_types.specs.declared.seen.Seen.{Seen}
use Rattle.model.specs.Call.{is_nonempty, position_of}
use Rattle.machine.specs.declared.event.TheConstants.{PIPE_ITEMS}
use Rattle.machine.specs.declared.event.Event.TheVariants.{CloseGroup, Commit, Hand, Free, Send}
use Rattle.machine.specs.Event.{Span, Work, Commits, Frees, Acknowledgement, Link, Changes, Role, Follower, Uncopied, Copying, Follows, Awaited, Sending, Frame, reach, reach_of, Remains, Life, Running, World, connection_of, with_committer, with_link, with_standby, is_running, torn, due_from, ended_at, may_send, sent_with, keeps_group, may_take, above, taken_group, opened_to, acknowledged_of, wanted_by, with_sent, left, open_changes, has_room, spans_of, from_group, is_ready, may_commit, reached_lists, first_is_within, may_happen, Closes, committed_first, freed_first, sent_next, next_to_send, framed, sent, without_first, Applies, counts, told, knowing, option_items, is_open, seen_of, delivered, handed, due_delta, handed_to, opened_link, raised_local, raised_remote, ready_again, with_acknowledged}
use Rattle.machine.specs.Sound.{IsChain, IsPinnedWithin, IsFrameWithin, IsHeldAt, IsPrimaryLeft, IsStandbyLeft, IsToldWithin, SoundOutbound, SoundOver, SoundCommitter, SoundLink, SoundStandby, Sound}
use Rattle.machine.proofs.GroupLemmas.{chain-le, deltas-weaker, framed-within, frames_within-weaker, due_delta-within, link-committed, link-raised, link-handed, link-opened, link-sent, link-taken, link-knowing, link-wanted, newcomer-itself}
use Rattle.machine.proofs.AnswerLemmas.{outbound-marked}
use Rattle.machine.proofs.WorkLemmas.{none-waits, spans_of-from_group, spans_of-none, committer-closed_group, committer-closed_list, committer-committed, committer-listed, shown-raised}
use Rattle.machine.proofs.WorkLemmas.{shown-hand}
use Rattle.machine.proofs.StandbyLemmas.{TakesWell, all-at, counted-within, standby-sent, standby-first, standby-takes, told-opening, wire-grown, wire-sent, wire-told}
use Rattle.machine.proofs.StandingLemmas.{ended-marks}
use Rattle.machine.proofs.SoundConnection.{both, pinned-grown, reach-grown, reach-low, standby_left-grown, three}

-- ---- the committer

pub sound-CloseGroup : (w new : World) → may_happen w CloseGroup ≡ true → Closes w new → Sound w → Sound new
sound-CloseGroup w new e closes s =
    let committer = w.primary.committer in
    let position = position_of w.primary.calls in
    let room = ltb-true (length committer.waiting) PIPE_ITEMS (both (nat_lt 0 (open_changes w) || nat_lt 0 w.primary.ended) (has_room committer.waiting) e).1 in
    elim closes [
      | inl group ↦ subst Sound (sym group.1.now) (search (committer-closed_group position committer (ltb-true 0 (open_changes w) group.0) room s.committer, pinned-grown w.primary.link.copying committer.closed position s.committer.closed s.pinned))
      | inr list ↦ subst Sound (sym list.1) (search (committer-closed_list position w.primary.newest committer room s.committer))
    ]

-- a node that runs has nothing of a call that failed
torn-none : (life : Life) → is_running life ≡ true → torn life ≡ []
torn-none Running e = refl
torn-none _ e = cc

-- and so nothing to hold of it
torn-all : (P : Remains → Type 0) (life : Life) → is_running life ≡ true → All P (torn life)
torn-all P life runs = subst (All P) (sym (torn-none life runs)) (All-nil P)

sound-committed : (w : World) (works : List Work) → is_running w.primary.life ≡ true → IsChain w.primary.committer.position (spans_of works) w.primary.committer.closed → is_ready w.primary.committer.stage ≡ true
    → length w.primary.link.waiting < PIPE_ITEMS → SoundCommitter (position_of w.primary.calls) (committed_first works w.primary.committer) → Sound w → Sound (with_committer (committed_first works w.primary.committer) w)
sound-committed w [] runs chain ready room committer s = s
sound-committed w (Frees newest ∷ works) runs chain ready room committer s = s
sound-committed w (Commits group ∷ works) runs chain ready room committer s =
    let copying = w.primary.link.copying in
    let le : reach w ≤ reach_of copying group.after = reach-grown copying w.primary.committer.position group.after (omega (arith, chain.0, chain.1)) in
    search (
      committer,
      standby-sent w.primary.epoch (reach w) (reach_of copying group.after) w.primary.link.known w.standby le s.standby,
      wire-grown w.primary.epoch w.standby.role w.standby.position (reach w) (reach_of copying group.after) w.wire le s.wire,
      standby_left-grown w.standby.role w.standby.position (reach w) (reach_of copying group.after) (torn w.standby.life) le s.standby_left,
      torn-all (IsPrimaryLeft group.after (position_of w.primary.calls)) w.primary.life runs,
      link-committed w.primary.committer.stage w.primary.committer.position group s.sent w.primary.link ready room chain.0 chain.1 s.link,
    )

pub sound-Commit : (w : World) → is_running w.primary.life ≡ true → may_happen w Commit ≡ true → Sound w → Sound (with_committer (committed_first (from_group w.primary.committer.waiting) w.primary.committer) w)
sound-Commit w runs e s =
    let committer = w.primary.committer in
    let works = from_group committer.waiting in
    let parts = three (is_ready committer.stage) (is_nonempty works) (has_room w.primary.link.waiting) e in
    let chain = subst (λ groups. IsChain committer.position groups committer.closed) (sym (spans_of-from_group committer.waiting)) s.committer.waiting in
    sound-committed w works runs chain parts.0 (ltb-true (length w.primary.link.waiting) PIPE_ITEMS parts.2) (committer-committed (position_of w.primary.calls) committer parts.0 s.committer) s

-- Where the link has room, no group is among what waits: all of it is free lists.
pub committer-freed_first : (w : World) → may_happen w Free ≡ true → SoundCommitter (position_of w.primary.calls) w.primary.committer → SoundCommitter (position_of w.primary.calls) (freed_first w)
committer-freed_first w may s =
    let committer = w.primary.committer in
    let position = position_of w.primary.calls in
    let room = has_room w.primary.link.waiting in
    let aside = drop 1 (reached_lists w) in
    let parts = three (is_ready committer.stage) (not (may_commit w)) (first_is_within w.primary.link.remote (reached_lists w)) may in
    elim room as (λ b. room ≡ b → SoundCommitter position (record committer { waiting = cond b [] committer.waiting; aside = aside })) [
      | true ↦ λ e.
          let none = spans_of-none committer.waiting (none-waits (is_ready committer.stage) (is_nonempty (from_group committer.waiting)) room parts.1 parts.0 e) in
          committer-listed position committer [] aside (sym none) (omega arith) s
      | false ↦ λ e. committer-listed position committer committer.waiting aside refl s.few s
    ] refl

-- ---- the link and the standby

-- what is sent changes neither mark, nor whether a copy is awaited
pub sent-marks : (deltas : List Span) (link : Link) → ((sent_next deltas link).known ≡ link.known) × ((sent_next deltas link).remote ≡ link.remote) × ((sent_next deltas link).copying ≡ link.copying)
sent-marks [] link = grind arith
sent-marks (delta ∷ deltas) link = (refl, refl, refl)

-- The link is another one: it knows no more than what the node has that follows, and no less was sent.
pub sound-relinked : (w : World) (link : Link) (after : ℕ) → SoundLink w.primary.opened w.primary.committer.stage w.primary.committer.position after link → link.known ≤ w.standby.position → link.remote ≡ w.primary.link.remote
    → IsPinnedWithin w.primary.committer.closed link.copying → reach w ≤ reach_of link.copying w.primary.committer.position → Sound w → Sound (with_link link w)
sound-relinked w link after sound known remote pinned le s =
    let high = reach_of link.copying w.primary.committer.position in
    let epoch = w.primary.epoch in
    record {
      connections = s.connections;
      legal = s.legal;
      inbound = s.inbound;
      outbound = subst (λ mark. (c : ℕ) → is_open w c ≡ true → SoundOutbound w.primary.calls c (record { local = w.primary.committer.local; remote = mark }) (connection_of w c).outbound) (sym remote) s.outbound;
      over = s.over;
      committer = s.committer;
      sent = after;
      link = sound;
      pinned = pinned;
      standby = record {
        epoch_is = s.standby.epoch_is;
        frames = frames_within-weaker epoch w.standby.role w.standby.position (reach w) high w.standby.waiting le s.standby.frames;
        behind = omega (arith, le, s.standby.behind);
        known = known;
      };
      wire = wire-grown epoch w.standby.role w.standby.position (reach w) high w.wire le s.wire;
      primary_left = s.primary_left;
      standby_left = standby_left-grown w.standby.role w.standby.position (reach w) high (torn w.standby.life) le s.standby_left;
    }

-- these frames were sent too
pub sound-wired : (w : World) (frames : List Frame) → All (IsFrameWithin w.primary.epoch w.standby.role w.standby.position (reach w)) frames → Sound w → Sound (with_sent frames w)
sound-wired w frames within s = search (wire-sent w.primary.epoch w.standby.role w.standby.position (reach w) (reach w) frames w.wire (le_refl (reach w)) within s.wire)

-- and this was acknowledged
sound-acknowledged : (w : World) (told : List Acknowledgement) → All (IsToldWithin w.primary.epoch w.standby.position) told → Sound w → Sound (with_acknowledged told w)
sound-acknowledged w told within s =
    search (wire-told w.primary.epoch (reach w) w.standby.role w.standby.position w.standby.role w.standby.position told w.wire (newcomer-itself w.standby.role w.standby.position) (le_refl w.standby.position) within s.wire)

-- where a standby follows
sound-follows : (w : World) → w.primary.link.copying ≡ Follows → may_send Follows w.primary.link ≡ true → Sound w → Sound (sent_with Follows w)
sound-follows w follows e s =
    let link = w.primary.link in
    let epoch = w.primary.epoch in
    let position = w.primary.committer.position in
    let sends = link-sent w.primary.opened w.primary.committer.stage position s.sent link s.link e in
    let new = sent_next link.delta link in
    let marks = sent-marks link.delta link in
    let same : new.copying ≡ Follows = marks.2 ∙ follows in
    let high : reach_of new.copying position ≡ position = ap (λ copying. reach_of copying position) same in
    let pinned : IsPinnedWithin w.primary.committer.closed new.copying = subst (IsPinnedWithin w.primary.committer.closed) (sym same) tt in
    let le : reach w ≤ reach_of new.copying position = omega (arith, high, reach-low link.copying position) in
    let known : new.known ≤ w.standby.position = omega (arith, marks.0, s.standby.known) in
    let groups = next_to_send link in
    let within = deltas-weaker sends.after (reach_of new.copying position) groups (omega (arith, high, chain-le _ _ _ sends.sound.waiting)) sends.within in
    sound-wired (with_link new w) (framed epoch (map Changes groups)) (framed-within epoch w.standby.role w.standby.position (reach_of new.copying position) groups within)
    (sound-relinked w new sends.after sends.sound known marks.1 pinned le s)

-- a group that is taken changes no mark
taken-marks : (copying : Copying) (groups : List Span) (link : Link)
    → ((taken_group copying groups link).known ≡ link.known) × ((taken_group copying groups link).remote ≡ link.remote) × ((taken_group copying groups link).copying ≡ link.copying)
taken-marks copying [] link = (refl, refl, refl)
taken-marks copying (group ∷ groups) link =
    elim (keeps_group copying group) as (λ b. let new = cond b (record link { waiting = groups; kept = link.kept ++ group ∷ []; again = [] }) (record link { waiting = groups; kept = []; again = []; dropped = group.after }) in
    (new.known ≡ link.known) × (new.remote ≡ link.remote) × (new.copying ≡ link.copying)) [ true ↦ (refl, refl, refl) | false ↦ (refl, refl, refl) ]

-- while a copy is awaited
sound-takes : (w : World) (copying : Copying) → may_take copying w.primary.link.kept w.primary.link.waiting ≡ true → Sound w → Sound (with_link (taken_group copying w.primary.link.waiting w.primary.link) w)
sound-takes w copying e s =
    let link = w.primary.link in
    let position = w.primary.committer.position in
    let new = taken_group copying link.waiting link in
    let marks = taken-marks copying link.waiting link in
    let takes = link-taken w.primary.opened w.primary.committer.stage position s.sent link s.link copying link.waiting e s.link.waiting s.link.few in
    let same : reach w ≡ reach_of new.copying position = ap (λ copying. reach_of copying position) (sym marks.2) in
    sound-relinked w new takes.after takes.sound (omega (arith, marks.0, s.standby.known)) marks.1 (subst (IsPinnedWithin w.primary.committer.closed) (sym marks.2) s.pinned) (omega (arith, same)) s

pub sound-Send : (w : World) → may_happen w Send ≡ true → Sound w → Sound (sent w)
sound-Send w e s =
    (elim w.primary.link.copying as (λ copying. w.primary.link.copying ≡ copying → may_send copying w.primary.link ≡ true → Sound (sent_with copying w)) [
      | Follows ↦ λ same e. sound-follows w same e s
      | Awaited ↦ λ same e. sound-takes w Awaited e s
      | Sending pinned ↦ λ same e. sound-takes w (Sending pinned) e s
    ]) refl e

-- what is sent raises no remote mark
pub sent-remote : (w : World) → (sent w).primary.link.remote ≡ w.primary.link.remote
sent-remote w = elim w.primary.link.copying as (λ copying. (sent_with copying w).primary.link.remote ≡ w.primary.link.remote) [
  | Follows ↦ (sent-marks w.primary.link.delta w.primary.link).1
  | Awaited ↦ (taken-marks Awaited w.primary.link.waiting w.primary.link).1
  | Sending pinned ↦ (taken-marks (Sending pinned) w.primary.link.waiting w.primary.link).1
]

-- the end of a copy leaves nothing pinned, or what was, and no less was sent
ended-copying : (position closed committed : ℕ) (copying : Copying) (link : Link) → link.copying ≡ copying → IsPinnedWithin closed copying
    → let new = ended_at position copying link in IsPinnedWithin closed new.copying × (reach_of copying committed ≤ reach_of new.copying committed)
ended-copying position closed committed Follows link same pinned = (subst (IsPinnedWithin closed) (sym same) pinned, omega (arith, ap (λ c. reach_of c committed) same))
ended-copying position closed committed Awaited link same pinned = (subst (IsPinnedWithin closed) (sym same) pinned, omega (arith, ap (λ c. reach_of c committed) same))
ended-copying position closed committed (Sending one) link same pinned =
    elim (nat_le one.position position) as (λ b. let new = cond b (record link { again = link.kept; copying = Follows }) link in IsPinnedWithin closed new.copying × (reach_of (Sending one) committed ≤ reach_of new.copying committed)) [
      | true ↦ (tt, reach-low (Sending one) committed)
      | false ↦ (subst (IsPinnedWithin closed) (sym same) pinned, omega (arith, ap (λ c. reach_of c committed) same))
    ]

sound-told : (w : World) (ack : Option Acknowledgement) → All (IsToldWithin w.primary.epoch w.standby.position) (option_items ack) → Sound w → Sound (with_link (told w.primary.epoch w.primary.committer.position ack w.primary.link) w)
sound-told w None all s = s
sound-told w (Some ack) all s =
    let link = w.primary.link in
    let ever = All-head (IsToldWithin w.primary.epoch w.standby.position) ack [] all in
    let test = counts w.primary.epoch w.primary.committer.position ack in
    elim test as (λ b. test ≡ b → Sound (with_link (cond b (knowing ack.position link) link) w)) [
      | true ↦ λ e.
          let within = counted-within w.primary.epoch w.primary.committer.position w.standby.position ack e ever in
          let knows : Link = record link { kept = above ack.position link.kept; again = above ack.position link.again; known = max link.known ack.position } in
          let marks = ended-marks ack.position link.copying knows in
          let known : (knowing ack.position link).known ≤ w.standby.position = omega (arith, marks.0, within, s.standby.known) in
          let ended = ended-copying ack.position w.primary.committer.closed w.primary.committer.position link.copying knows refl s.pinned in
          sound-relinked w (knowing ack.position link) s.sent (link-knowing w.primary.opened w.primary.committer.stage w.primary.committer.position s.sent link s.link ack.position) known marks.1 ended.0 ended.1 s
      | false ↦ λ e. s
    ] refl

pub applies-well : (w new : World) (applies : Applies w new) (s : Sound w) → TakesWell w.primary.epoch (reach w) w.primary.link.known (without_first w.standby) applies.standby applies.told
applies-well w new applies s =
    let epoch = w.primary.epoch in
    let known = w.primary.link.known in
    let P = IsFrameWithin epoch w.standby.role w.standby.position (reach w) in
    let first = standby-first epoch (reach w) known applies.frame w.standby applies.first s.standby in
    let stands : SoundStandby epoch (reach w) known (without_first w.standby) = record { epoch_is = s.standby.epoch_is; frames = All-drop P 1 w.standby.waiting s.standby.frames; behind = s.standby.behind; known = s.standby.known } in
    standby-takes epoch (reach w) known applies.frame (without_first w.standby) applies.standby applies.told first applies.takes stands

pub sound-Apply : (w new : World) → is_running w.standby.life ≡ true → Applies w new → Sound w → Sound new
sound-Apply w new runs applies s =
    let takes = applies-well w new applies s in
    let left = torn-all (IsStandbyLeft applies.standby.role applies.standby.position (reach w)) applies.standby.life (ap is_running takes.runs ∙ runs) in
    let over : (c : ℕ) → is_open w c ≡ false → SoundOver w.primary.calls c applies.standby.position (connection_of w c) =
    λ c shut. let o = s.over c shut in
    search (o, All-weaker (IsHeldAt w.standby.position) (IsHeldAt applies.standby.position) (λ reply h. omega (arith, h, takes.later)) o.released.out o.released.held) in
    subst Sound (sym applies.now) (search (
      over,
      left,
      takes.standby,
      wire-told w.primary.epoch (reach w) w.standby.role w.standby.position applies.standby.role applies.standby.position applies.told w.wire takes.stays takes.later takes.told_within s.wire,
    ))

-- ---- marks and frames

-- the marks cover what was released, and more where they grow
outbound-grown : (w : World) (seen : Seen) → w.primary.committer.local ≤ seen.local → w.primary.link.remote ≤ seen.remote → Sound w → (c : ℕ) → is_open w c ≡ true → SoundOutbound w.primary.calls c seen (connection_of w c).outbound
outbound-grown w seen le le' s c is_one = outbound-marked w.primary.calls c (seen_of w) seen (connection_of w c).outbound le le' (s.outbound c is_one)

pub sound-RaiseLocal : (w : World) → Sound w → Sound (with_committer (raised_local w.primary.committer) w)
sound-RaiseLocal w s =
    let committer = w.primary.committer in
    search (
      outbound-grown w (record { local = committer.position; remote = w.primary.link.remote }) s.committer.mark (le_refl w.primary.link.remote) s,
      le_refl committer.position,
      shown-raised committer.stage committer.position,
      link-raised committer.stage committer.position s.sent w.primary.link s.link,
    )

pub sound-RaiseRemote : (w : World) → Sound w → Sound (with_link (raised_remote w.primary.link) w)
sound-RaiseRemote w s =
    let link = w.primary.link in
    let raised : SoundLink w.primary.opened w.primary.committer.stage w.primary.committer.position s.sent (raised_remote link) =
    record {
      kept_from = s.link.kept_from;
      known = s.link.known;
      kept = s.link.kept;
      waiting = s.link.waiting;
      sent_again = s.link.sent_again;
      again = s.link.again;
      remote = le_refl link.known;
      sent_from = s.link.sent_from;
      delta = s.link.delta;
      few = s.link.few;
      few_kept = s.link.few_kept;
    } in
    record {
      connections = s.connections;
      legal = s.legal;
      inbound = s.inbound;
      outbound = outbound-grown w (record { local = w.primary.committer.local; remote = link.known }) (le_refl w.primary.committer.local) s.link.remote s;
      over = s.over;
      committer = s.committer;
      sent = s.sent;
      link = raised;
      pinned = s.pinned;
      standby = s.standby;
      wire = s.wire;
      primary_left = s.primary_left;
      standby_left = s.standby_left;
    }

pub sound-Hand : (w : World) → may_happen w Hand ≡ true → Sound w → Sound (with_link (handed_to (handed w.primary.committer.stage) w.primary.link) (with_committer (ready_again w.primary.committer) w))
sound-Hand w e s =
    let committer = w.primary.committer in
    search (shown-hand committer.stage committer.position committer.local e s.committer.shown, link-handed committer.stage committer.position s.sent w.primary.link e s.link)

-- what a newcomer wants changes no mark, leaves nothing pinned, or what was, and no less was sent
wanted-marks : (closed committed : ℕ) (copying : Copying) (link : Link) → IsPinnedWithin closed copying
    → let new = wanted_by copying link in (new.known ≡ link.known) × (new.remote ≡ link.remote) × IsPinnedWithin closed new.copying × (reach_of copying committed ≤ reach_of new.copying committed)
wanted-marks closed committed Follows link pinned = (refl, refl, tt, le_refl committed)
wanted-marks closed committed Awaited link pinned = (refl, refl, tt, le_refl committed)
wanted-marks closed committed (Sending one) link pinned = (refl, refl, pinned, omega arith)

wanted-remote : (copying : Copying) (link : Link) → (wanted_by copying link).remote ≡ link.remote
wanted-remote Follows link = refl
wanted-remote Awaited link = refl
wanted-remote (Sending pinned) link = refl

-- the opening of the link raises no remote mark
pub opened-remote : (w : World) → (opened_to w.standby.role w.standby.position w.primary).remote ≡ w.primary.link.remote
opened-remote w = elim w.standby.role as (λ role. (opened_to role w.standby.position w.primary).remote ≡ w.primary.link.remote) [
  | Follower ↦ refl
  | Uncopied ↦ wanted-remote w.primary.link.copying w.primary.link
]

pub sound-OpenLink : (w : World) → Sound w → Sound (with_link (opened_to w.standby.role w.standby.position w.primary) (with_acknowledged (acknowledged_of w.standby.role w.standby) w))
sound-OpenLink w s =
    let link = w.primary.link in
    let stage = w.primary.committer.stage in
    let position = w.primary.committer.position in
    let told : (role : Role) → Sound (with_acknowledged (acknowledged_of role w.standby) w) = λ role. sound-acknowledged w (acknowledged_of role w.standby) (told-opening w.primary.epoch (reach w) link.known role w.standby s.standby) s in
    elim w.standby.role as (λ role. Sound (with_link (opened_to role w.standby.position w.primary) (with_acknowledged (acknowledged_of role w.standby) w))) [
      | Follower ↦
          let due = due_from w.primary in
          let delta = due_delta w.standby.position due in
          let opened = link-opened stage position s.sent delta link (deltas-weaker due s.sent delta s.link.sent_from (due_delta-within w.standby.position due)) s.link in
          sound-relinked (with_acknowledged (acknowledged_of Follower w.standby) w) (opened_link delta link) s.sent opened s.standby.known refl tt (reach-low link.copying position) (told Follower)
      | Uncopied ↦
          let marks = wanted-marks w.primary.committer.closed position link.copying link s.pinned in
          sound-relinked (with_acknowledged (acknowledged_of Uncopied w.standby) w) (wanted_by link.copying link) s.sent (link-wanted w.primary.opened stage position s.sent link.copying link s.link) (omega (arith, marks.0, s.standby.known)) marks.1 marks.2 marks.3
          (told Uncopied)
    ]

pub sound-Deliver : (w : World) (frame : ℕ) → Sound w → Sound (with_standby (delivered (option_items (slice_get w.wire.frames frame)) w.standby) w)
sound-Deliver w frame s =
    let P = IsFrameWithin w.primary.epoch w.standby.role w.standby.position (reach w) in
    let frames = all-at P w.wire.frames frame s.wire.frames in
    search (All-append P w.standby.waiting (option_items (slice_get w.wire.frames frame)) s.standby.frames frames)

pub sound-AckDelivered : (w : World) (a : ℕ) → Sound w → Sound (with_link (told w.primary.epoch w.primary.committer.position (slice_get w.wire.acknowledgements a) w.primary.link) w)
sound-AckDelivered w a s =
    sound-told w (slice_get w.wire.acknowledgements a) (all-at (IsToldWithin w.primary.epoch w.standby.position) w.wire.acknowledgements a s.wire.acknowledged) s
