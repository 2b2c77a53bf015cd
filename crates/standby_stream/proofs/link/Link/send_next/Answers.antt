use Rattle.std.proofs.Common.{◌≡◌, ◌+◌, ◌<◌, ◌≤◌, length, sym, subst, ⊎_elim, ◌∙◌, arith}
use Rattle.std.proofs.lemmas.Bool.{cases_lt}
use Rattle.pipes.specs.declared.limits.TheConstants.{KEPT_GROUPS}
use Rattle.standby_stream.specs.Sent.{IsSent}
use Rattle.standby_stream.specs.Stream.{Stream, TakesNext, IsDue, Adds}
use Rattle.standby_stream.proofs.StreamLemmas.{not-added, sends-added, sent-added, sent-again}
use Rattle.standby_stream.proofs.link.Link.send_next.Goals.{else-self-len-via-then-self-len+in_ok-add_next+else-not-branch, else-self-len-via-else-self-len}
use Rattle.standby_stream.proofs.link.Link.send_next.Goals as goal

pub returns-clause-next : goal.returns-clause-next
returns-clause-next g c = λ due. elim c.else-self-len.branch [
  | else-self-len-via-then-self-len+in_ok-add_next+else-not-branch w ↦
      let added = w.in_ok-add_next.ensures.next due.room in
      let new : Stream = record { epoch = c.self-2.inside.epoch; kept = c.self-2.inside.kept.items; next = c.self-2.inside.next; known = c.self-2.inside.known; pending = c.self-2.inside.pending; delta = c.self-2.inside.delta; copying = c.self-2.inside.copying; aside = c.self-2.inside.aside.items } in (
        added.0,
        subst (λ after. TakesNext g.I.Inlet.take_gives c.args.self.now.pending c.args.groups.now added.0 after) (sym w.groups-is) added.1,
        sends-added c.args.self.now new added.0 w.in_ok-add_next.field-0 c.requires.follows
            (subst (Adds c.args.self.now added.0 w.in_ok-add_next.field-0) (sym w.self-is ∙ sym c.self-2.view_is) added.2) w.if-not-branch.false,
      )
  | else-self-len-via-else-self-len w ↦ let here = subst IsDue (sym c.self.view_is) due in absurd (w.if-self-len.false (omega (arith, here.all_sent)))
]

pub returns-clause-sends : goal.returns-clause-sends
returns-clause-sends g c = elim c.else-self-len.branch [
  | else-self-len-via-then-self-len+in_ok-add_next+else-not-branch w ↦
      let new : Stream = record { epoch = c.self-2.inside.epoch; kept = c.self-2.inside.kept.items; next = c.self-2.inside.next; known = c.self-2.inside.known; pending = c.self-2.inside.pending; delta = c.self-2.inside.delta; copying = c.self-2.inside.copying; aside = c.self-2.inside.aside.items } in
      let all : c.args.self.now.next ≡ length c.args.self.now.kept = subst (λ (s : Stream). s.next ≡ length s.kept) c.self.view_is (omega (arith, w.if-self-len.true)) in
      ⊎_elim
      (λ (few : length c.args.self.now.kept < KEPT_GROUPS).
      let added = w.in_ok-add_next.ensures.next few in
      sent-added c.args.self.now new added.0 w.in_ok-add_next.field-0 c.requires.follows all
      (subst (Adds c.args.self.now added.0 w.in_ok-add_next.field-0) (sym w.self-is ∙ sym c.self-2.view_is) added.2) w.if-not-branch.false)
      (λ (full : KEPT_GROUPS ≤ length c.args.self.now.kept). not-added w.in_ok-add_next.field-0 w.if-not-branch.false (w.in_ok-add_next.ensures.full full).0)
      (cases_lt (length c.args.self.now.kept) KEPT_GROUPS)
  | else-self-len-via-else-self-len w ↦
      let new : Stream = record { epoch = c.self-2.inside.epoch; kept = c.self-2.inside.kept.items; next = c.self-2.inside.next; known = c.self-2.inside.known; pending = c.self-2.inside.pending; delta = c.self-2.inside.delta; copying = c.self-2.inside.copying; aside = c.self-2.inside.aside.items } in
      let same : new ≡ c.args.self.now = c.self-2.view_is ∙ w.self-is in
      let kept : c.args.self.now.next < length c.args.self.now.kept = subst (λ (s : Stream). s.next < length s.kept) c.self.view_is (omega (arith, w.if-self-len.false, c.self.invariant.next_within)) in
      subst (λ (s : Stream). IsSent s new.next (record new { next = new.next + 1 })) same (sent-again new (subst (λ (s : Stream). s.next < length s.kept) (sym same) kept))
]
