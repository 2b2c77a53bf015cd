use Rattle.std.proofs.Common.{◌≡◌, ◌+◌, ◌^◌, ◌≤◌, drop}
use Rattle.stream_codec.specs.Bytes.{span, ArePlaces, number_from}
use Rattle.stream_codec.proofs.reading.number_at.Given as goal

-- what is left of the number reads as all of it does, and it fits whatever comes
abbrev pub invariant-loop-place : goal.invariant-loop-place
invariant-loop-place l =
    record {
      same : number_from (drop l.place-index l.places) l.least l.most l.sum l.rest ≡ number_from l.places l.least l.most 0 l.bytes;
      places : ArePlaces (drop l.place-index l.places);
      fits : l.sum + span (drop l.place-index l.places) ≤ 2 ^ 64;
    }
