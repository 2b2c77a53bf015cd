use Rattle.std.proofs.Common.{Err, ℕ, List, [], Option, rules, ap, refl, sym, subst, ◌∙◌}
use Rattle.std.proofs.lemmas.Result.{err_from_is_err_and}
use Rattle.std.specs.Io.KnownBytes.{Consumes}
use Rattle.links.specs.Continuing.{ServedOn}
use Rattle.links.specs.Copying.{wire}
use Rattle.links.specs.Serving.{held}
use Rattle.links.proofs.Says.{IsLeft-refl, IsLeft-tidied}
use Rattle.links.proofs.ServedOn.{HasSaidOn-err, HasSaidOn-left, HasSaidOn-more, ServedOn-begun, ServedOn-ended, ServedOn-more, ServedOn-tidied}
use Rattle.links.proofs.Serving.{not_stopped, same_end}
use Rattle.links.proofs.serving_on.answer_from.Goals as goal

pub loop-init : goal.loop-init
loop-init g c = record {
  stands = c.requires.stands;
  emptied = c.requires.empty;
  shown = search rules;
  served = ServedOn-begun _ _ _;
}

pub returns-in-End-clause-served : goal.returns-in-End-clause-served
returns-in-End-clause-served g c =
    let ended : Consumes (g.I.Read.remaining c.loop.from) (g.I.Read.remaining c.read_piece.new.from) [] = search rules in
    (c.loop.decoder, ServedOn-ended _ _ _ _ _ _ _ c.loop.invariant.served ended)

pub loop-preserved : goal.loop-preserved
loop-preserved g c =
    let consumed : Consumes (g.I.Read.remaining c.loop.from) (g.I.Read.remaining c.read_piece.new.from) c.in-Piece.piece.now = search rules in
    let first = held (g.E.Durable.contents c.args.node.now.engine) (g.K.Keyspace.table c.args.node.now.keyspace) in
    let last = held (g.E.Durable.contents c.answer_piece.new.node.engine) (g.K.Keyspace.table c.answer_piece.new.node.keyspace) in
    let old = wire (g.I.Read.remaining c.args.from.now) (g.O.Write.contents c.args.to.now) in
    let between = wire (g.I.Read.remaining c.loop.from) (g.O.Write.contents c.loop.to) in
    let new = wire (g.I.Read.remaining c.read_piece.new.from) (g.O.Write.contents c.answer_piece.new.to) in
    let done = c.in_ok-answer_piece.ensures.all in
    record {
      stands = c.in_ok-answer_piece.ensures.stands (not_stopped _);
      emptied = c.in_ok-answer_piece.ensures.emptied;
      shown = search rules;
      served = subst (λ (unread : Option (List ℕ)). ServedOn c.args.decoder first old last new unread) (sym c.in_ok-answer_piece.ensures.unread)
          (ServedOn-more c.args.decoder first (held (g.E.Durable.contents c.loop.node.engine) (g.K.Keyspace.table c.loop.node.keyspace)) last old between new c.loop.decoder c.in-Piece.piece.now done.acks
          c.loop.invariant.served consumed done.run done.written);
    }

pub loop-preserved-in-Nothing : goal.loop-preserved-in-Nothing
loop-preserved-in-Nothing g c =
    let nothing : Consumes (g.I.Read.remaining c.loop.from) (g.I.Read.remaining c.read_piece.new.from) [] = search rules in
    record {
      stands = c.in_ok-tidy-in-Nothing.ensures.stands (not_stopped _);
      emptied = c.loop.invariant.emptied;
      shown = search rules;
      served = ServedOn-tidied _ _ (held (g.E.Durable.contents c.loop.node.engine) (g.K.Keyspace.table c.loop.node.keyspace)) _ _ _ _ _ c.loop.invariant.served nothing c.in_ok-tidy-in-Nothing.ensures.tidied;
    }

-- ---- what was written

pub returns-in_err-piece-clause-said : goal.returns-in_err-piece-clause-said
returns-in_err-piece-clause-said g c =
    HasSaidOn-err _ [] (HasSaidOn-left _ _ _ _ _ _ _ c.loop.decoder c.loop.invariant.served c.in_err-piece.ensures.none (IsLeft-refl _)) (λ _. refl)

pub returns-in_err-tidy-in-Nothing-clause-said : goal.returns-in_err-tidy-in-Nothing-clause-said
returns-in_err-tidy-in-Nothing-clause-said g c =
    let nothing : Consumes (g.I.Read.remaining c.loop.from) (g.I.Read.remaining c.read_piece.new.from) [] = search rules in
    HasSaidOn-err _ [] (HasSaidOn-left _ _ _ _ _ _ _ c.loop.decoder c.loop.invariant.served nothing (IsLeft-tidied _ _ c.tidy.ensures.tidied)) (λ _. refl)

pub returns-in_err-answer_piece-clause-said : goal.returns-in_err-answer_piece-clause-said
returns-in_err-answer_piece-clause-said g c =
    let consumed : Consumes (g.I.Read.remaining c.loop.from) (g.I.Read.remaining c.read_piece.new.from) c.in-Piece.piece.now = search rules in
    let exit = err_from_is_err_and c.from_residual-in_err-answer_piece.result c.from_residual-in_err-answer_piece.ensures.1 in
    let says = c.in_err-answer_piece.ensures.says in
    HasSaidOn-err _ says.0 (HasSaidOn-more _ _ _ _ _ _ _ c.loop.decoder c.in-Piece.piece.now says.0 c.loop.invariant.served consumed says.1)
    (λ unclosed. says.2 (λ is. unclosed (exit.1 ∙ ap Err (exit.2 ∙ same_end _ _ is))))
