use Rattle.std.proofs.Common.{rules, ◌≡◌, ◌<◌, length, Some, IfSome, Ok, IfOk, inl, inr, refl, sym, ap, subst, ◌∙◌, arith}
use Rattle.std.specs.List.{slice_get}
use Rattle.std.proofs.lemmas.Option.{slice_get_read}
use Rattle.model.specs.Group.{Contents}
use Rattle.wbl_migrate.specs.declared.moving.Place.{Place}
use Rattle.wbl_migrate.specs.Leaving.{AreLeaving, IsHeld}
use Rattle.wbl_migrate.specs.Moving.{IsOpen, entries_kept, version_read}
use Rattle.wbl_migrate.proofs.LeavingLemmas.{MayGo, moving, moving_moments, none_moved, none_stored, one_left, place_within, skipped, went}
use Rattle.wbl_migrate.proofs.Picks.{of_some}
use Rattle.wbl_migrate.proofs.PlaceLemmas.{open_as}
use Rattle.wbl_migrate.proofs.leaving.move_next_ended.Given.{Over}
use Rattle.wbl_migrate.proofs.leaving.move_next_ended.Goals as goal
use Rattle.wbl_migrate.proofs.leaving.move_next_ended.Goals.{After-choose, After-entries_kept, then-from-entries_kept-via-then-from-entries_kept, then-from-entries_kept-via-else-from-entries_kept+then-version-eq0}

-- the version that was read
at : (g : Over) (c : After-entries_kept g) → slice_get c.args.versions.now.counted.items c.args.index ≡ Some c.index.result.now
at g c =
    let counted = c.args.versions.now.counted.items in
    slice_get_read counted (length counted) c.args.index c.index.result.now refl c.requires.within c.index.ensures

kept : (g : Over) (c : After-entries_kept g) (contents : Contents) → IsHeld c.args.current.now (g.P.Pmem.state c.args.device.now) contents
    → c.entries_kept.result ≡ entries_kept contents.lines
kept g c contents held = c.entries_kept.ensures ∙ ap entries_kept (c.lines-lines.ensures.count ∙ sym held.lines_are)

pub returns-then-from-entries_kept-clause-moved : goal.returns-then-from-entries_kept-clause-moved
returns-then-from-entries_kept-clause-moved g c contents held leaving =
    let before = (goal.at.returns-then-from-entries_kept-clause-moved g c).After-entries_kept in
    let end = kept g before contents held in
    none_moved held
    (skipped held leaving (at g before)
    (elim c.then-from-entries_kept.branch [
      | then-from-entries_kept-via-then-from-entries_kept w ↦ let low = w.if-from-entries_kept.true in inl (omega (arith, low, end))
      | then-from-entries_kept-via-else-from-entries_kept+then-version-eq0 w ↦ let live = w.if-version-eq0.true in inr (grind (arith, live))
    ]))

pub returns-then-from-entries_kept-clause-moments : goal.returns-then-from-entries_kept-clause-moments
returns-then-from-entries_kept-clause-moments g c contents held leaving = none_stored held

pub returns-in_err-place-clause-moments : goal.returns-in_err-place-clause-moments
returns-in_err-place-clause-moments g c contents held leaving = none_stored held

pub returns-in_default-clause-full : goal.returns-in_default-clause-full
returns-in_default-clause-full g c full contents held leaving =
    let before = (goal.at.returns-in_default-clause-full g c).After-entries_kept in
    let end = kept g before contents held in
    let high = c.if-from-entries_kept.false in
    let not_live = c.if-version-eq0.false in
    one_left held leaving (at g before) (omega (arith, high, end)) (λ none. grind (arith, not_live, none))

pub returns-in_default-clause-moments : goal.returns-in_default-clause-moments
returns-in_default-clause-moments g c contents held leaving = none_stored held

-- ---- the move

abbrev May : (g : Over) → After-choose g → Contents → Place → Type 0
May g c contents place =
    let versions = c.args.versions.now in
    MayGo c.args.current.now (g.P.Pmem.state c.args.device.now) contents versions.counted.items versions.gapped.items c.args.cleared.now
    c.args.places.now.items c.args.index c.index.result.now place

-- it has ended, and the place that was chosen can take it
may_go : (g : Over) (c : After-choose g) (found : _) (place : Place) → c.choose.result ≡ Ok found → found ≡ Some place → (contents : Contents)
    → IsHeld c.args.current.now (g.P.Pmem.state c.args.device.now) contents
    → AreLeaving contents c.args.versions.now.counted.items c.args.versions.now.gapped.items c.args.cleared.now c.args.places.now.items c.args.index
    → May g c contents place
may_go g c found place is some contents held leaving =
    let counted = c.args.versions.now.counted.items in
    let lines = c.lines-lines.result in
    let places = c.deref.result.now in
    let gapped = c.deref-2.result.now in
    let cleared = c.args.cleared.now in
    let wanted = λ (p : Place). p.extent.lines ≡ c.index.result.now.1.extent.lines in
    record {
      held = held;
      leaving = leaving;
      at = slice_get_read counted (length counted) c.args.index c.index.result.now refl c.requires.within c.index.ensures;
      ended = λ none. let not_live = c.if-version-eq0.false in grind (arith, not_live, none);
      opens =
          open_as lines contents.lines places c.args.places.now.items gapped c.args.versions.now.gapped.items cleared place
          (c.lines-lines.ensures.count ∙ sym held.lines_are) c.deref.ensures.value c.deref-2.ensures.value
          (of_some (IsOpen lines places gapped cleared) found place
          (subst (λ r. IfOk r (λ found. IfSome found (IsOpen lines places gapped cleared))) is c.choose.ensures.open) some);
      size = of_some wanted found place (subst (λ r. IfOk r (λ found. IfSome found wanted)) is c.choose.ensures.wanted) some;
    }

pub move_ended-requires : goal.move_ended-requires
move_ended-requires g c =
    let asked = c.requires.so_far in
    let chosen = (goal.at.move_ended-requires g c).After-choose in (
      asked.0,
      version_read c.index.result.now.1,
      moving (may_go g chosen c.in_ok-place.field-0 c.in-Some.place c.in_ok-place.was c.in-Some.is asked.0 asked.1 asked.2),
    )

pub index_mut-requires : goal.index_mut-requires
index_mut-requires g c =
    let asked = c.requires.so_far in
    let chosen = (goal.at.index_mut-requires g c).After-choose in
    let within : c.args.index < length c.args.places.now.items =
    place_within (may_go g chosen c.in_ok-place.field-0 c.in-Some.place c.in_ok-place.was c.in-Some.is asked.0 asked.1 asked.2) in
    search (rules, within)

pub returns-in-Ok-clause-moved : goal.returns-in-Ok-clause-moved
returns-in-Ok-clause-moved g c contents held leaving =
    let chosen = (goal.at.returns-in-Ok-clause-moved g c).After-choose in
    let may = may_go g chosen c.in_ok-place.field-0 c.in-Some.place c.in_ok-place.was c.in-Some.is contents held leaving in
    went may c.move_ended.ensures.line_count (c.in-Ok.ensures.moved contents (version_read c.index.result.now.1) (moving may))

pub returns-in-Ok-clause-moments : goal.returns-in-Ok-clause-moments
returns-in-Ok-clause-moments g c contents held leaving =
    let chosen = (goal.at.returns-in-Ok-clause-moments g c).After-choose in
    let may = may_go g chosen c.in_ok-place.field-0 c.in-Some.place c.in_ok-place.was c.in-Some.is contents held leaving in
    moving_moments may (c.move_ended.ensures.moments contents (version_read c.index.result.now.1) (moving may))

pub returns-in-Err-clause-moments : goal.returns-in-Err-clause-moments
returns-in-Err-clause-moments g c contents held leaving =
    let chosen = (goal.at.returns-in-Err-clause-moments g c).After-choose in
    let may = may_go g chosen c.in_ok-place.field-0 c.in-Some.place c.in_ok-place.was c.in-Some.is contents held leaving in
    moving_moments may (c.move_ended.ensures.moments contents (version_read c.index.result.now.1) (moving may))
