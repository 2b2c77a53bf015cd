use Rattle.std.proofs.Common.{refl, sym, ap, subst, ◌∙◌}
use Rattle.std.proofs.lemmas.Bool.{eqb-true}
use Rattle.std.proofs.lemmas.List.{nil_from_length}
use Rattle.std.specs.Io.KnownBytes.{Consumes}
use Rattle.clients.specs.Piece.{bytes_of}
use Rattle.clients.proofs.ReaderLemmas.{offers-none, offers-piece, reads-none, reads-piece}
use Rattle.clients.proofs.reading.RequestReader.read_block.Goals as goal

pub returns-in_err-room-clause-offers : goal.returns-in_err-room-clause-offers
returns-in_err-room-clause-offers g c = offers-none _ _ _ refl refl

pub returns-in_err-piece-clause-offers : goal.returns-in_err-piece-clause-offers
returns-in_err-piece-clause-offers g c = offers-none _ _ _ refl refl

pub returns-in_default-clause-reads : goal.returns-in_default-clause-reads
returns-in_default-clause-reads g c =
    reads-none (g.S.Read.remaining c.args.stream.now) (g.S.Read.remaining c.read.new.stream) c.args.self.now _ (g.O.Outlet.offered c.args.outlet.now) (bytes_of c.in_ok-piece.field-0)
    c.in_ok-piece.ensures.read (ap bytes_of c.in_default.is) refl refl

pub returns-in_default-clause-offers : goal.returns-in_default-clause-offers
returns-in_default-clause-offers g c = offers-none _ _ _ refl refl

pub returns-then-is_empty-clause-reads : goal.returns-then-is_empty-clause-reads
returns-then-is_empty-clause-reads g c =
    reads-none (g.S.Read.remaining c.args.stream.now) (g.S.Read.remaining c.read.new.stream) c.args.self.now _ (g.O.Outlet.offered c.args.outlet.now) (bytes_of c.in_ok-piece.field-0)
    c.in_ok-piece.ensures.read (ap bytes_of c.in-Some.is ∙ nil_from_length c.in-Some.piece (eqb-true _ _ (sym c.is_empty.ensures ∙ c.if-is_empty.true))) refl refl

pub returns-in_err-progress-clause-offers : goal.returns-in_err-progress-clause-offers
returns-in_err-progress-clause-offers g c =
    offers-piece c.args.self.now (record { inbound = c.feed.new.self; block = c.read.new.self; held = c.args.self.now.held; offered = c.args.self.now.offered; ahead = c.args.self.now.ahead; is_done = c.args.self.now.is_done })
    c.offer_all.new.self (g.O.Outlet.offered c.args.outlet.now) (g.O.Outlet.offered c.offer_all.new.outlet) c.in-Some.piece refl c.in_ok-feed.ensures.fed c.offer_all.ensures.offers

pub returns-clause-reads : goal.returns-clause-reads
returns-clause-reads g c =
    let source = g.S.Read.remaining c.args.stream.now in
    let rest = g.S.Read.remaining c.read.new.stream in
    reads-piece source rest c.args.self.now (record { inbound = c.feed.new.self; block = c.read.new.self; held = c.args.self.now.held; offered = c.args.self.now.offered; ahead = c.args.self.now.ahead; is_done = c.args.self.now.is_done })
    c.offer_all.new.self (g.O.Outlet.offered c.args.outlet.now) (g.O.Outlet.offered c.offer_all.new.outlet) c.in-Some.piece
    (subst (Consumes source rest) (ap bytes_of c.in-Some.is) c.in_ok-piece.ensures.read) refl c.in_ok-feed.ensures.fed c.offer_all.ensures.offers

pub returns-clause-offers : goal.returns-clause-offers
returns-clause-offers g c =
    offers-piece c.args.self.now (record { inbound = c.feed.new.self; block = c.read.new.self; held = c.args.self.now.held; offered = c.args.self.now.offered; ahead = c.args.self.now.ahead; is_done = c.args.self.now.is_done })
    c.offer_all.new.self (g.O.Outlet.offered c.args.outlet.now) (g.O.Outlet.offered c.offer_all.new.outlet) c.in-Some.piece refl c.in_ok-feed.ensures.fed c.offer_all.ensures.offers
