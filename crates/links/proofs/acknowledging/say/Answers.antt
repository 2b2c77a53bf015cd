use Rattle.std.proofs.Common.{◌≡◌, ℕ, List, [], ◌++◌, Option, Result, Ok, Err, IsErrOf, OnErr, refl}
use Rattle.std.specs.Io.KnownBytes.{Appends}
use Rattle.links.specs.Serving.{ack_text}
use Rattle.links.proofs.Serving.{Appends-none, put_alone, sent-alone}
use Rattle.node_log.specs.declared.link_error.LinkError.{LinkError}
use Rattle.node_log.specs.declared.link_error.LinkError.TheVariants.{Closed}
use Rattle.links.proofs.acknowledging.say.Goals as goal

begun-none : (result : Result (Unit {0}) LinkError) (text : List ℕ) (before : Option (List ℕ))
    → OnErr result ((part : List ℕ) × (rest : List ℕ) × (text ≡ part ++ rest) × Appends before before part × (¬ IsErrOf result Closed → part ≡ []))
begun-none (Ok done) text before = tt
begun-none (Err end) text before = ([], text, refl, Appends-none before, λ _. refl)

-- nothing was put
pub returns-in_err-put_ack-clause-begun : goal.returns-in_err-put_ack-clause-begun
returns-in_err-put_ack-clause-begun g c = begun-none c.from_residual.result (ack_text c.args.ack) _

pub returns-in-Ok-clause-said : goal.returns-in-Ok-clause-said
returns-in-Ok-clause-said g c =
    sent-alone (g.O.Write.contents c.args.to.now) (g.O.Write.contents c.write_put.new.to) c.args.out.now.items c.put_ack.new.out.items (ack_text c.args.ack)
    c.requires.empty c.in_ok-put_ack.ensures.put c.in-Ok.ensures.written

pub returns-in-Err-clause-begun : goal.returns-in-Err-clause-begun
returns-in-Err-clause-begun g c =
    let begun = c.write_put.ensures.begun in
    (begun.0, begun.1, put_alone _ _ _ begun.0 begun.1 c.requires.empty c.in_ok-put_ack.ensures.put begun.2, begun.3, λ unclosed. absurd (unclosed refl))
