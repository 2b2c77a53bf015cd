-- What the events of a newcomer leave sound.
use Rattle.std.proofs.Common.{◌≡◌, ◌+◌, ◌≤◌, min, true, not, nat_le, nat_lt, [], ◌∷◌, refl, sym, ap, subst, arith}
use Rattle.std.proofs.lemmas.Bool.{leb-true, ltb-false, not-true}
use Rattle.std.proofs.lemmas.List.Elements.{All-nil}
use Rattle.model.specs.Call.{position_of}
use Rattle.machine.specs.declared.event.Event.TheVariants.{PinCopy, SendCopy}
use Rattle.machine.specs.Event.{Uncopied, Pinned, Copying, Follows, Awaited, Sending, reach, reach_of, World, PinsCopy, copy_sent, is_awaited, joined, may_send_copy, next_of_copy, told_next, sent_one, with_copying, with_sent, open_changes, may_happen, framed}
use Rattle.machine.specs.Sound.{IsCopyWithin, IsPinnedWithin, IsFrameWithin, IsStandbyLeft, IsToldWithin, SoundLink, Sound}
use Rattle.machine.proofs.GroupLemmas.{chain-le, copy-framed}
use Rattle.machine.proofs.SoundConnection.{both, reach-low}
use Rattle.machine.proofs.SoundNodes.{sound-relinked, sound-wired}

-- ---- a newcomer

pub sound-Newcomer : (w : World) → Sound w → Sound (joined w)
sound-Newcomer w s =
    let P = IsFrameWithin w.primary.epoch Uncopied w.standby.position (reach w) in
    record {
      connections = s.connections;
      legal = s.legal;
      inbound = s.inbound;
      outbound = s.outbound;
      over = s.over;
      committer = s.committer;
      sent = s.sent;
      link = s.link;
      pinned = s.pinned;
      standby = record { epoch_is = refl; frames = All-nil P; behind = s.standby.behind; known = s.standby.known };
      wire = record { frames = All-nil P; acknowledged = All-nil (IsToldWithin w.primary.epoch w.standby.position) };
      primary_left = s.primary_left;
      standby_left = All-nil (IsStandbyLeft Uncopied w.standby.position (reach w));
    }

-- what is pinned or sent of a copy leaves the rest of the link as it was
copying-link : (w : World) (copying : Copying) (s : Sound w) → SoundLink w.primary.opened w.primary.committer.stage w.primary.committer.position s.sent (record w.primary.link { copying = copying })
copying-link w copying s =
    record {
      kept_from = s.link.kept_from;
      known = s.link.known;
      kept = s.link.kept;
      waiting = s.link.waiting;
      sent_again = s.link.sent_again;
      again = s.link.again;
      remote = s.link.remote;
      sent_from = s.link.sent_from;
      delta = s.link.delta;
      few = s.link.few;
      few_kept = s.link.few_kept;
    }

pub sound-PinCopy : (w new : World) → may_happen w PinCopy ≡ true → PinsCopy w new → Sound w → Sound new
sound-PinCopy w new e pins s =
    let position = position_of w.primary.calls in
    let parts = both (is_awaited w.primary.link.copying) (not (nat_lt 0 (open_changes w))) e in
    let none = ltb-false 0 (open_changes w) (not-true (nat_lt 0 (open_changes w)) parts.1) in
    let pinned : position ≤ w.primary.committer.closed = omega (arith, none) in
    let committed : w.primary.committer.position ≤ position = omega (arith, s.committer.closed, chain-le _ _ _ s.committer.waiting) in
    let copying = Sending (record { position = position; parts = pins.parts; next = 0 }) in
    let le : reach w ≤ reach_of copying w.primary.committer.position = omega (arith, committed, reach-low w.primary.link.copying w.primary.committer.position) in
    subst Sound (sym pins.now) (sound-relinked w (record w.primary.link { copying = copying }) s.sent (copying-link w copying s) s.standby.known refl pinned le s)

sound-copied : (w : World) (pinned : Pinned) → w.primary.link.copying ≡ Sending pinned → may_send_copy w.primary.committer.position (Sending pinned) ≡ true → Sound w
    → Sound (with_sent (framed w.primary.epoch (told_next pinned ∷ [])) (with_copying (Sending (record pinned { next = pinned.next + 1 })) w))
sound-copied w pinned same e s =
    let position = w.primary.committer.position in
    let copying = Sending (record pinned { next = pinned.next + 1 }) in
    let parts = both (nat_le pinned.next pinned.parts) (nat_le pinned.position position) e in
    let within : pinned.position ≤ position = leb-true pinned.position position parts.1 in
    let is : reach w ≡ min pinned.position position = ap (λ c. reach_of c position) same in
    let low : IsPinnedWithin w.primary.committer.closed copying = subst (IsPinnedWithin w.primary.committer.closed) same s.pinned in
    let copy : IsCopyWithin w.standby.role w.standby.position (reach_of copying position) pinned.position = record { above = λ newcomer. omega (arith, is, s.standby.behind); within = omega (arith, within) } in
    sound-wired (with_copying copying w) (framed w.primary.epoch (told_next pinned ∷ [])) (copy-framed w.primary.epoch w.standby.role w.standby.position (reach_of copying position) pinned copy)
    (sound-relinked w (record w.primary.link { copying = copying }) s.sent (copying-link w copying s) s.standby.known refl low (omega (arith, is)) s)

pub sound-SendCopy : (w : World) → may_happen w SendCopy ≡ true → Sound w → Sound (copy_sent w)
sound-SendCopy w e s =
    (elim w.primary.link.copying as (λ copying. w.primary.link.copying ≡ copying → may_send_copy w.primary.committer.position copying ≡ true → Sound (with_sent (framed w.primary.epoch (next_of_copy copying)) (with_copying (sent_one copying) w))) [
      | Follows ↦ λ same e. cc
      | Awaited ↦ λ same e. cc
      | Sending pinned ↦ λ same e. sound-copied w pinned same e s
    ]) refl e
