use Rattle.std.proofs.Common.{◌≡◌, [], ◌∷◌, arith, length}
use Rattle.std.proofs.lemmas.List.{nil_from_length}
use Rattle.links.specs.First.{message_of}
use Rattle.links.proofs.FirstPieces.{Came-begun, Came-none, Says-read}
use Rattle.links.proofs.opening.read_opening.Goals as goal

pub loop-init : goal.loop-init
loop-init g c = Came-begun _ _ c.new-decoder.ensures

pub returns-in-Some : goal.returns-in-Some
returns-in-Some g c =
    let one : c.in_ok-messages.messages.items ≡ message_of c.in-Some.first ∷ [] = cc (c.deref.ensures.value, c.in-Some.ensures) in
    Says-read _ _ _ _ _ c.in_ok-messages.messages.items (message_of c.in-Some.first) c.loop.invariant c.in_ok-messages.ensures.read one

pub loop-preserved : goal.loop-preserved
loop-preserved g c =
    let short : length c.in_ok-messages.messages.items ≡ 0 = grind (arith, c.is_empty.ensures, c.if-not-is_empty.false) in
    let none : c.in_ok-messages.messages.items ≡ [] = nil_from_length _ short in
    Came-none _ _ _ _ _ c.in_ok-messages.messages.items c.loop.invariant c.in_ok-messages.ensures.read none
