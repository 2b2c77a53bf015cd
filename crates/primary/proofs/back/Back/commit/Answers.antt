use Rattle.std.proofs.Common.{nat_lt}
use Rattle.primary.proofs.KeptImages.{turn-leaves}
use Rattle.primary.proofs.KeptTurns.{kept-for-all, refused-keeps}
use Rattle.primary.proofs.LeadsLemmas.{gives-work}
use Rattle.primary.proofs.SoundTurns.{turn-sound, turn-unmoved}
use Rattle.primary.proofs.TurnedLemmas.{told-for-all, turn-again, turn-committed, turn-position, turn-rises, turn-stays}
use Rattle.primary.proofs.back.Back.commit.Goals as goal

pub turn-requires-clause-lawful : goal.turn-requires-clause-lawful
turn-requires-clause-lawful g c = λ ready.
    let b = c.args.self.now in
    gives-work (g.E.Durable.contents b.committer.engine) b.work.items b.committer.aside.items c.requires.stands.0 c.requires.stands.1 c.requires.stands.2.leads

pub turn-requires-clause-shown : goal.turn-requires-clause-shown
turn-requires-clause-shown g c = λ group rest is. c.requires.may group

pub returns-clause-told : goal.returns-clause-told
returns-clause-told g c =
    let E = g.E.Durable in
    let O = g.O.Outlet in
    told-for-all E.device E.contents E.is_faulted O.offered O.known_room c.args.self.now.committer c.turn.new.self c.args.self.now.work c.turn.new.work c.args.link.now c.turn.new.link
    (nat_lt 0 (O.known_room c.turn.new.link)) c.args.remote c.turn.result c.turn.ensures.takes

pub returns-clause-position : goal.returns-clause-position
returns-clause-position g c =
    let E = g.E.Durable in
    let O = g.O.Outlet in
    turn-position E.device E.contents E.is_faulted O.offered O.known_room c.args.self.now.committer c.turn.new.self c.args.self.now.work c.turn.new.work c.args.link.now c.turn.new.link
    (nat_lt 0 (O.known_room c.turn.new.link)) c.args.remote c.turn.result c.turn.ensures.takes

pub returns-clause-rises : goal.returns-clause-rises
returns-clause-rises g c =
    let E = g.E.Durable in
    let O = g.O.Outlet in
    turn-rises E.device E.contents E.is_faulted O.offered O.known_room c.args.self.now.committer c.turn.new.self c.args.self.now.work c.turn.new.work c.args.link.now c.turn.new.link
    (nat_lt 0 (O.known_room c.turn.new.link)) c.args.remote c.turn.result c.requires.stands.0 c.requires.stands.1 c.turn.ensures.takes c.requires.stands.2

pub returns-clause-stays : goal.returns-clause-stays
returns-clause-stays g c =
    let E = g.E.Durable in
    let O = g.O.Outlet in
    turn-stays E.device E.contents E.is_faulted O.offered O.known_room c.args.self.now.committer c.turn.new.self c.args.self.now.work c.turn.new.work c.args.link.now c.turn.new.link
    (nat_lt 0 (O.known_room c.turn.new.link)) c.args.remote c.turn.result c.requires.stands.0 c.requires.stands.1 c.turn.ensures.takes c.requires.stands.2

pub returns-clause-again : goal.returns-clause-again
returns-clause-again g c =
    let E = g.E.Durable in
    let O = g.O.Outlet in
    turn-again E.device E.contents E.is_faulted O.offered O.known_room c.args.self.now.committer c.turn.new.self c.args.self.now.work c.turn.new.work c.args.link.now c.turn.new.link
    (nat_lt 0 (O.known_room c.turn.new.link)) c.args.remote c.turn.result c.turn.ensures.takes

pub returns-clause-committed : goal.returns-clause-committed
returns-clause-committed g c =
    let E = g.E.Durable in
    turn-committed E.device E.contents E.is_faulted (E.contents c.args.self.now.committer.engine).current.position c.turn.new.self c.turn.result (returns-clause-position g c)

pub returns-clause-keeps : goal.returns-clause-keeps
returns-clause-keeps g c =
    let E = g.E.Durable in
    let O = g.O.Outlet in
    kept-for-all E.device E.contents E.is_faulted O.offered O.known_room c.args.self.now.committer c.turn.new.self c.args.self.now.work c.turn.new.work c.args.link.now c.turn.new.link
    (nat_lt 0 (O.known_room c.turn.new.link)) c.args.remote c.turn.result c.turn.ensures.takes

pub returns-clause-still : goal.returns-clause-still
returns-clause-still g c = λ refused s notices past stands keeps.
    let E = g.E.Durable in
    let O = g.O.Outlet in
    refused-keeps E.device E.contents E.is_faulted past s notices O.offered O.known_room c.args.self.now.committer c.turn.new.self c.args.self.now.work c.turn.new.work c.args.link.now c.turn.new.link
    (nat_lt 0 (O.known_room c.turn.new.link)) c.args.remote stands keeps c.turn.result c.turn.ensures.takes refused

pub returns-clause-leaves : goal.returns-clause-leaves
returns-clause-leaves g c = λ sound s notices past stands keeps.
    let E = g.E.Durable in
    let O = g.O.Outlet in
    turn-leaves E.device E.contents E.is_faulted past s notices O.offered O.known_room c.args.self.now.committer c.turn.new.self c.args.self.now.work c.turn.new.work c.args.link.now c.turn.new.link
    (nat_lt 0 (O.known_room c.turn.new.link)) c.args.remote c.turn.result sound stands keeps c.turn.ensures.takes

pub returns-clause-sound : goal.returns-clause-sound
returns-clause-sound g c =
    let E = g.E.Durable in
    let O = g.O.Outlet in
    turn-sound E.device E.contents E.is_faulted O.offered O.known_room c.args.self.now.committer c.turn.new.self c.args.self.now.work c.turn.new.work c.args.link.now c.turn.new.link
    (nat_lt 0 (O.known_room c.turn.new.link)) c.args.remote c.turn.result c.turn.ensures.takes

pub returns-clause-unmoved : goal.returns-clause-unmoved
returns-clause-unmoved g c =
    let E = g.E.Durable in
    let O = g.O.Outlet in
    turn-unmoved E.device E.contents E.is_faulted O.offered O.known_room c.args.self.now.committer c.turn.new.self c.args.self.now.work c.turn.new.work c.args.link.now c.turn.new.link
    (nat_lt 0 (O.known_room c.turn.new.link)) c.args.remote c.turn.result c.turn.ensures.takes
