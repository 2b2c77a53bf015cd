-- How the turns of a connection end, and how many there were.
use Rattle.std.proofs.Common.{◌≡◌, ℕ, ◌+◌, length, ap, ◌∙◌, length-append, arith}
use Rattle.pipes.specs.Ring.{offered_at}
use Rattle.redis_core.specs.declared.turn.Turn.{Turn}
use Rattle.redis_core.specs.declared.turn.Turn.TheVariants as turn
use Rattle.redis_core.specs.Sequencing.{Sequencing}
use Rattle.serving.specs.Turns.{LooksAt, TakesTurn}
use Rattle.serving.specs.declared.open_connection.OpenConnection.{OpenConnection}

-- how many replies were offered to a connection
abbrev pub count_of : OpenConnection → ℕ
count_of connection = length (offered_at connection.arrival.replies.replies)

-- a look offers none
looked-count : (before after : OpenConnection) → LooksAt before after → count_of after ≡ count_of before
looked-count before after looks = ap (λ replies. length (offered_at replies)) looks.2

-- one that is served offers one
pub served-count : (first before looked after : OpenConnection) (old new : Sequencing) (came : Turn) (count : ℕ) → count_of before ≡ count_of first + count → LooksAt before looked
    → came ≡ turn.Served → TakesTurn old looked came new after → count_of after ≡ count_of first + (count + 1)
served-count first before looked after old new came count many looks is one =
    let served = rw is at one.1 in
    let offered = served.served.3 in
    let counted = looked-count before looked looks in
    ap length offered ∙ length-append (offered_at looked.arrival.replies.replies) _ ∙ omega (arith, many, counted)
