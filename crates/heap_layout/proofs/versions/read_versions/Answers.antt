use Rattle.std.proofs.Common.{◌∙◌, true≢false, sym}
use Rattle.pmem.specs.Crash.{image_of}
use Rattle.model.specs.Image.{entries_of_lines}
use Rattle.heap_layout.proofs.VersionsLemmas.{runs_have_lines, runs-AreVersions, ids-AreVersions, none-AreVersions, AreVersions-from_lists}
use Rattle.heap_layout.proofs.versions.read_versions.Goals as goal
use Rattle.heap_layout.proofs.versions.read_versions.Goals.{then-not-suits-via-then-not-suits, then-not-suits-via-else-not-suits+in_ok-lie_apart+then-not-branch, then-not-suits-via-else-not-suits+in_ok-lie_apart+else-not-branch+in_ok-differ+then-not-branch-2}

pub lie_apart-requires : goal.lie_apart-requires
lie_apart-requires g c =
    let state = g.P.Pmem.state c.args.device.now in
    rw (c.as_slice-counted.ensures.value, c.in_ok-versions.ensures.counted)
    (runs_have_lines c.args.current.now (image_of state.words) (state.lines) (entries_of_lines c.args.current.now.layout state.lines) c.in_ok-versions.ensures.under)

pub returns-then-not-suits-clause-damaged : goal.returns-then-not-suits-clause-damaged
returns-then-not-suits-clause-damaged g c _ whole =
    let r = c.args.current.now in
    let state = g.P.Pmem.state c.args.device.now in
    let image = image_of state.words in
    elim c.then-not-suits.branch [
      | then-not-suits-via-then-not-suits w ↦
          true≢false
          (sym (c.suits.ensures.1 (rw (c.as_slice-counted.ensures.value, c.in_ok-versions.ensures.counted) (none-AreVersions r image state.lines whole))) ∙ w.if-not-suits.true)
      | then-not-suits-via-else-not-suits+in_ok-lie_apart+then-not-branch w ↦
          true≢false
          (sym (w.in_ok-lie_apart.ensures.1 (rw (c.as_slice-counted.ensures.value, c.in_ok-versions.ensures.counted) (runs-AreVersions r image state.lines whole))) ∙ w.if-not-branch.true)
      | then-not-suits-via-else-not-suits+in_ok-lie_apart+else-not-branch+in_ok-differ+then-not-branch-2 w ↦
          true≢false
          (sym (w.in_ok-differ.ensures.1 (rw (c.as_slice-counted.ensures.value, c.in_ok-versions.ensures.counted) (ids-AreVersions r image state.lines whole))) ∙ w.if-not-branch-2.true)
    ]

pub returns-clause-whole : goal.returns-clause-whole
returns-clause-whole g c =
    let state = g.P.Pmem.state c.args.device.now in
    AreVersions-from_lists c.args.current.now (image_of state.words) state.lines c.in_ok-versions.ensures.under
    (rw (c.as_slice-counted.ensures.value, c.in_ok-versions.ensures.counted) at (c.suits.ensures.0 c.if-not-suits.false))
    (rw (c.as_slice-counted.ensures.value, c.in_ok-versions.ensures.counted) at (c.in_ok-lie_apart.ensures.0 c.if-not-branch.false))
    (rw (c.as_slice-counted.ensures.value, c.in_ok-versions.ensures.counted) at (c.in_ok-differ.ensures.0 c.if-not-branch-2.false))
