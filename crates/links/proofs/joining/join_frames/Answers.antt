use Rattle.std.proofs.Common.{◌≡◌, true, Ok, IfSome, subst, rules}
use Rattle.links.specs.Joining.{AreBegun}
use Rattle.links.proofs.JoinedFrames.{begun-few, told-joined}
use Rattle.links.proofs.joining.join_frames.Goals as goal

pub put_first-requires : goal.put_first-requires
put_first-requires g c =
    begun-few c.args.messages.items c.in-Some.joined (subst (λ found. IfSome found (λ joined. AreBegun c.args.messages.items joined)) c.in-Some.is c.in_ok-joined.ensures)

pub returns-in_ok-put_first-in-Ok-true-clause-told : goal.returns-in_ok-put_first-in-Ok-true-clause-told
returns-in_ok-put_first-in-Ok-true-clause-told g c =
    let begun = subst (λ found. IfSome found (λ joined. AreBegun c.args.messages.items joined)) c.in-Some.is c.in_ok-joined.ensures in
    let answer : c.takes_at_once.result ≡ Ok true = search rules in
    told-joined _ _ c.args.messages.items _ c.in-Some.joined begun (c.takes_at_once.ensures.due answer) (c.takes_at_once.ensures.fits answer) c.in_ok-put_first-in-Ok-true.ensures
