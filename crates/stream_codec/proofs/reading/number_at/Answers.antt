use Rattle.std.proofs.Common.{◌≡◌, suc, ◌∷◌, get_or, drop, subst, arith}
use Rattle.std.proofs.Math.Seq.{drop-cons}
use Rattle.stream_codec.specs.Bytes.{ArePlaces}
use Rattle.stream_codec.proofs.Numbers.{span_pos}
use Rattle.stream_codec.proofs.reading.number_at.Goals as goal

pub overflow_sub-highest : goal.overflow_sub-highest
overflow_sub-highest c =
    let places = c.args.places.now in
    let i = c.loop-place.place-index in
    let e : drop i places ≡ get_or places i 0 ∷ drop (suc i) places = drop-cons places i 0 (omega arith) in
    let a = subst ArePlaces e c.loop-place.invariant.places in
    omega (arith, a.0, span_pos (drop (suc i) places) a.1)
