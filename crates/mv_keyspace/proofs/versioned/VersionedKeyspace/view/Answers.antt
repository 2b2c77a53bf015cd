use Rattle.std.proofs.Common.{◌≡◌, Option, Some, None, MatchOption, sym, subst, ap, ◌∙◌}
use Rattle.mv_keyspace.specs.Table.{Cell, cell_at}
use Rattle.mv_keyspace.specs.Version.{cell_of_shown}
use Rattle.mv_keyspace.specs.Versions.{past_of}
use Rattle.mv_keyspace.proofs.ShownLemmas.{begun, begun-late, viewed-live, viewed-past}
use Rattle.mv_keyspace.proofs.versioned.VersionedKeyspace.view.Goals as goal
use Rattle.mv_keyspace.proofs.versioned.VersionedKeyspace.view.Goals.{in_default-via-in-Some+else-shown-pin, in_default-via-in_default}

pub returns-in-Some : goal.returns-in-Some
returns-in-Some g c =
    let now = c.args.self.now in
    viewed-live c.args.pin.now.position (g.L.Live.table now.live) (past_of now.past) c.args.id.now (cell_of_shown c.in-Some.shown) now.passed.ordered c.in-Some.ensures c.if-shown-pin.true

pub returns-in_default : goal.returns-in_default
returns-in_default g c =
    let now = c.args.self.now in
    let id = c.args.id.now in
    let at = c.args.pin.now.position in
    let none : begun at (cell_at (g.L.Live.table now.live) id) ≡ None =
    elim c.in_default.branch [
      | in_default-via-in-Some+else-shown-pin w ↦ ap (begun at) w.in-Some.ensures ∙ begun-late at (cell_of_shown w.in-Some.shown) w.if-shown-pin.false
      | in_default-via-in_default w ↦ ap (begun at) w.in_default.ensures
    ]
    in
    subst (λ (found : Option Cell). MatchOption c.get.result (found ≡ None) (λ shown. found ≡ Some (cell_of_shown shown)))
    (sym (viewed-past at (g.L.Live.table now.live) (past_of now.past) id now.passed.ordered none)) c.get.ensures
