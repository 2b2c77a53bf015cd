use Rattle.std.proofs.Common.{◌≡◌, ◌≢◌, ◌<◌, List, [], ◌∷◌, length, inl, inr, refl, arith}
use Rattle.std.proofs.lemmas.Bool.{both_ways}
use Rattle.pipes.specs.declared.limits.TheConstants.{PIPE_ITEMS}
use Rattle.primary.proofs.closing.close_next.Goals as goal

none-left : {X : Type 0} (xs : List X) → (xs ≢ [] → ⊥) → xs ≡ []
none-left [] never = refl
none-left (x ∷ xs) never = absurd (never (λ e. cc))

pub returns-then-has_open-clause-closed : goal.returns-then-has_open-clause-closed
returns-then-has_open-clause-closed g c = λ did.
    let room : length c.args.work.now.items < PIPE_ITEMS = omega (arith, c.if-len-eq-PIPE_ITEMS.false, c.len.ensures, c.args.work.now.within) in
    let some = c.has_open.ensures.0 c.if-has_open.true in
    let out = c.in_ok-close_group.ensures.ok in
    ((inl some, room), inl (record { some = some; group = out.0; last = out.1; hands = out.2; leads = out.3 }))

pub returns-then-has_ended-clause-closed : goal.returns-then-has_ended-clause-closed
returns-then-has_ended-clause-closed g c = λ did.
    let room : length c.args.work.now.items < PIPE_ITEMS = omega (arith, c.if-len-eq-PIPE_ITEMS.false, c.len.ensures, c.args.work.now.within) in
    let some = c.has_ended.ensures.0 c.if-has_ended.true in
    let out = c.in_ok-close_list.ensures.ok in
    let none : c.args.sequencer.now.waiting ≡ [] =
    none-left c.args.sequencer.now.waiting (λ others. both_ways c.has_open.result c.if-has_open.false (c.has_open.ensures.1 others)) in (
      (inr some, room),
      inr (record {
        none = none;
        some = some;
        list = out.0;
        last = out.1;
        hands = out.2;
        stands = c.in_ok-close_list.ensures.stands;
        expects = c.in_ok-close_list.ensures.expects;
      }),
    )
