use Rattle.std.proofs.Common.{rules, ◌≡◌, ◌<◌, length, Some, IfSome, Ok, Err, IfOk, inl, inr, refl, ap, subst, ◌∙◌, arith}
use Rattle.std.specs.List.{slice_get}
use Rattle.std.proofs.lemmas.Option.{slice_get_read, slice_get_within}
use Rattle.std.proofs.lemmas.Result.{err_from_is_err_and}
use Rattle.kv_types.specs.declared.refusal.Refusal.TheVariants.{Fault, Full, Memory}
use Rattle.wbl_migrate.specs.declared.moving.Place.{Place}
use Rattle.wbl_migrate.specs.Moving.{IsOpen, MovesLive, entries_kept, place_read}
use Rattle.wbl_migrate.proofs.LoopLemmas.{is_left, open_room, skipped, went}
use Rattle.wbl_migrate.proofs.MoveSteps.{moves_same, moves_then}
use Rattle.wbl_migrate.proofs.Picks.{of_some}
use Rattle.wbl_migrate.proofs.PlaceLemmas.{open_as}
use Rattle.wbl_migrate.proofs.StepLemmas.{no_step, ok_no_error}
use Rattle.wbl_migrate.proofs.moving.move_next.Given.{Over}
use Rattle.wbl_migrate.proofs.moving.move_next.Goals as goal
use Rattle.wbl_migrate.proofs.moving.move_next.Goals.{After-choose, After-entries_kept, then-read-entries_kept-via-then-read-entries_kept, then-read-entries_kept-via-else-read-entries_kept+then-version-ne0}

-- the version that was read
at : (g : Over) (c : After-entries_kept g) → slice_get c.args.versions.now.counted.items c.args.index ≡ Some c.index-read.result.now
at g c =
    slice_get_read c.args.versions.now.counted.items (length c.args.versions.now.counted.items) c.args.index c.index-read.result.now refl c.requires.within c.index-read.ensures

kept : (g : Over) (c : After-entries_kept g) → c.entries_kept.result ≡ entries_kept (g.E.Durable.contents c.args.engine.now).lines
kept g c = c.entries_kept.ensures ∙ ap entries_kept c.lines-lines.ensures

pub returns-then-read-entries_kept-clause-moved : goal.returns-then-read-entries_kept-clause-moved
returns-then-read-entries_kept-clause-moved g c =
    let before = (goal.at.returns-then-read-entries_kept-clause-moved g c).After-entries_kept in
    let end = kept g before in
    skipped c.requires.so_far c.index-read.result.now (at g before)
    (elim c.then-read-entries_kept.branch [
      | then-read-entries_kept-via-then-read-entries_kept w ↦ let low = w.if-read-entries_kept.true in inl (omega (arith, low, end))
      | then-read-entries_kept-via-else-read-entries_kept+then-version-ne0 w ↦ let ended = w.if-version-ne0.true in inr (λ none. grind (arith, ended, none))
    ])

pub returns-then-read-entries_kept-clause-step : goal.returns-then-read-entries_kept-clause-step
returns-then-read-entries_kept-clause-step g c =
    no_step g.E.Durable.device g.E.Durable.contents g.E.Durable.is_faulted MovesLive moves_same moves_then c.args.engine.now (Ok tt) (ok_no_error tt Fault) c.requires.ready

pub returns-in_err-place-clause-step : goal.returns-in_err-place-clause-step
returns-in_err-place-clause-step g c =
    let exit = err_from_is_err_and c.from_residual.result c.from_residual.ensures.1 in
    rw (exit.1 ∙ ap Err exit.2)
    (no_step g.E.Durable.device g.E.Durable.contents g.E.Durable.is_faulted MovesLive moves_same moves_then c.args.engine.now (Err Memory) (λ is. cc) c.requires.ready)

pub returns-in_default-clause-full : goal.returns-in_default-clause-full
returns-in_default-clause-full g c = λ _.
    let before = (goal.at.returns-in_default-clause-full g c).After-entries_kept in
    let end = kept g before in
    let high = c.if-read-entries_kept.false in
    let live = c.if-version-ne0.false in
    is_left c.requires.so_far c.index-read.result.now (at g before) (omega (arith, high, end)) (grind (arith, live))

pub returns-in_default-clause-step : goal.returns-in_default-clause-step
returns-in_default-clause-step g c =
    no_step g.E.Durable.device g.E.Durable.contents g.E.Durable.is_faulted MovesLive moves_same moves_then c.args.engine.now (Err Full) (λ is. cc) c.requires.ready

pub move_version-requires-clause-held : goal.move_version-requires-clause-held
move_version-requires-clause-held g c =
    (c.requires.so_far.rest c.args.index c.index-read.result.now (omega arith) (at g (goal.at.move_version-requires-clause-held g c).After-entries_kept)).1

opens : (g : Over) (c : After-choose g) (found : _) (place : Place) → c.choose.result ≡ Ok found → found ≡ Some place
    → IsOpen (g.E.Durable.contents c.args.engine.now).lines c.args.places.now.items c.args.versions.now.gapped.items c.args.cleared.now place
opens g c found place is some =
    open_as c.lines-lines.result (g.E.Durable.contents c.args.engine.now).lines c.deref.result.now c.args.places.now.items c.deref-2.result.now c.args.versions.now.gapped.items
    c.args.cleared.now place c.lines-lines.ensures c.deref.ensures.value c.deref-2.ensures.value
    (of_some (IsOpen c.lines-lines.result c.deref.result.now c.deref-2.result.now c.args.cleared.now) found place
    (subst (λ r. IfOk r (λ found. IfSome found (IsOpen c.lines-lines.result c.deref.result.now c.deref-2.result.now c.args.cleared.now))) is c.choose.ensures.open)
    some)

pub move_version-requires-clause-room : goal.move_version-requires-clause-room
move_version-requires-clause-room g c =
    let before = (goal.at.move_version-requires-clause-room g c).After-choose in
    open_room c.requires.so_far c.index-read.result.now.1 c.in-Some.place (opens g before c.in_ok-place.field-0 c.in-Some.place c.in_ok-place.was c.in-Some.is)
    (of_some (λ (place : Place). place.extent.lines ≡ c.lines_for-wanted.result) c.in_ok-place.field-0 c.in-Some.place c.in_ok-place.ensures.wanted c.in-Some.is ∙ c.lines_for-wanted.ensures)

pub index_mut-requires : goal.index_mut-requires
index_mut-requires g c =
    let there = (c.requires.so_far.rest c.args.index c.index-read.result.now (omega arith) (at g (goal.at.index_mut-requires g c).After-entries_kept)).0 in
    let within : c.args.index < length c.args.places.now.items = slice_get_within c.args.places.now.items c.args.index (place_read c.index-read.result.now) there in
    search (rules, within)

pub returns-clause-moved : goal.returns-clause-moved
returns-clause-moved g c =
    let prefix = goal.at.returns-clause-moved g c in
    let live = c.if-version-ne0.false in
    went c.requires.so_far c.index-read.result.now c.in-Some.place (g.E.Durable.contents c.move_version.new.engine) (at g prefix.After-entries_kept)
    (grind (arith, live)) (opens g prefix.After-choose c.in_ok-place.field-0 c.in-Some.place c.in_ok-place.was c.in-Some.is) c.in_ok-move_version.ensures.moved
    c.in_ok-move_version.ensures.step.stands.layout c.in_ok-move_version.ensures.step.stands.line_count
