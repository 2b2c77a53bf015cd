use Rattle.std.proofs.Common.{◌≤◌, subst}
use Rattle.std.proofs.lemmas.Result.{IfOk-weaker}
use Rattle.primary.proofs.resuming.resume.Goals as goal

pub read_versions-requires : goal.read_versions-requires
read_versions-requires g c = let read = c.requires.read in record { read = (read.0, read.1, read.2, read.4) }

pub start-requires-clause-rebuilt : goal.start-requires-clause-rebuilt
start-requires-clause-rebuilt g c =
    let read = c.requires.read in
    let made = c.in_ok-keyspace.ensures in
    let rebuilt = made.rebuilt read.0 read.1 read.2 read.4 in
    (read.0, read.3, rebuilt.0, rebuilt.1, made.ids read.0 read.4)

pub returns-clause-sequencer : goal.returns-clause-sequencer
returns-clause-sequencer g c =
    let made = c.in_ok-keyspace.ensures in
    IfOk-weaker c.start.result _ _
    (λ resumed over contents layout lines at epoch are. let rebuilt = made.rebuilt contents layout lines are in over contents at epoch rebuilt.0 rebuilt.1) c.start.ensures.sequencer

pub returns-clause-opening : goal.returns-clause-opening
returns-clause-opening g c =
    let made = c.in_ok-keyspace.ensures in
    IfOk-weaker c.start.result _ _
    (λ resumed told. (told.0, λ contents layout lines are. let rebuilt = made.rebuilt contents layout lines are in told.1 contents rebuilt.0 (made.ids contents are))) c.start.ensures.opening

pub start-requires-clause-last : goal.start-requires-clause-last
start-requires-clause-last g c =
    let read = c.requires.read in
    subst (λ position. g.K.Keyspace.last c.in_ok-keyspace.keyspace ≤ position) read.3 (c.in_ok-keyspace.ensures.last read.0 read.1 read.2 read.4)
