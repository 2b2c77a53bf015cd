use Rattle.std.proofs.Common.{Ok, rules, refl, ap}
use Rattle.std.proofs.lemmas.Result.{err_from_is_err_and}
use Rattle.std.specs.Io.KnownBytes.{Consumes}
use Rattle.links.proofs.GatheredParts.{Brings-copied, EndsHalf-closed, EndsHalf-piece, HasParts-begun, HasParts-more, IfErr-at, IfSome-at}
use Rattle.links.proofs.copying.gather.Goals as goal

pub loop-init : goal.loop-init
loop-init g c = record {
  awaits = c.requires.awaits;
  shown = search rules;
  so_far = HasParts-begun _ _ _ _ c.new-decoder.ensures;
}

pub loop-preserved : goal.loop-preserved
loop-preserved g c =
    let consumed : Consumes (g.I.Read.remaining c.loop.from) (g.I.Read.remaining c.read_piece.new.from) c.in-Piece.piece.now = search rules in
    let parts = c.in_ok-ended.ensures.parts (ap Ok (search rules)) in
    record {
      awaits = parts.0;
      shown = search rules;
      so_far = HasParts-more _ _ _ _ _ _ _ c.loop.decoder _ c.in-Piece.piece.now c.loop.invariant.so_far consumed c.in_ok-ended.ensures.unread parts.2 (ap (λ to. g.O.Write.contents to) parts.1);
    }

-- a read failed
pub returns-in_err-piece-clause-ends : goal.returns-in_err-piece-clause-ends
returns-in_err-piece-clause-ends g c =
    let exit = err_from_is_err_and c.from_residual.result c.from_residual.ensures.1 in
    IfErr-at _ c.from_residual.result exit.0 c.in_err-piece.field-0.0 exit.1 exit.2
    (EndsHalf-closed _ _ _ _ _ _ c.loop.decoder _ c.in_err-piece.ensures.cause c.loop.invariant.so_far c.in_err-piece.ensures.none refl)

-- what came last ended the link

pub returns-in_err-ended-clause-awaits : goal.returns-in_err-ended-clause-awaits
returns-in_err-ended-clause-awaits g c =
    let exit = err_from_is_err_and c.from_residual-in_err-ended.result c.from_residual-in_err-ended.ensures.1 in
    IfErr-at _ c.from_residual-in_err-ended.result exit.0 c.in_err-ended.field-0.0 exit.1 exit.2 c.in_err-ended.ensures.awaits

pub returns-in_err-ended-clause-ends : goal.returns-in_err-ended-clause-ends
returns-in_err-ended-clause-ends g c =
    let consumed : Consumes (g.I.Read.remaining c.loop.from) (g.I.Read.remaining c.read_piece.new.from) c.in-Piece.piece.now = search rules in
    let exit = err_from_is_err_and c.from_residual-in_err-ended.result c.from_residual-in_err-ended.ensures.1 in
    let ends = c.in_err-ended.ensures.ends in
    IfErr-at _ c.from_residual-in_err-ended.result exit.0 c.in_err-ended.field-0.0 exit.1 exit.2
    (EndsHalf-piece _ _ _ _ _ _ _ c.loop.decoder c.in-Piece.piece.now _ c.loop.invariant.so_far consumed (ap (λ to. g.O.Write.contents to) ends.0) ends.1)

-- the copy has ended
pub returns-in-Some-clause-brings : goal.returns-in-Some-clause-brings
returns-in-Some-clause-brings g c =
    let consumed : Consumes (g.I.Read.remaining c.loop.from) (g.I.Read.remaining c.read_piece.new.from) c.in-Piece.piece.now = search rules in
    let ended = IfSome-at _ _ c.in-Some.link c.in-Some.is c.in_ok-ended.ensures.end in
    Brings-copied _ c.copied.result _ _ _ _ _ _ c.loop.decoder _ c.in-Piece.piece.now c.in-Some.link c.loop.invariant.so_far consumed c.in_ok-ended.ensures.unread ended.1 c.copied.ensures
