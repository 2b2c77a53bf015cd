-- Bytes that are read to their end, and answered.
use Rattle.std.proofs.Common.{◌≡◌, ℕ, List, ◌++◌, Option, Some, None, refl, append-nil, sym, ap, subst, ◌∙◌}
use Rattle.std.specs.Io.KnownBytes.{Appends, Consumes, IsAtEnd, Keeps}
use Rattle.server.specs.Served.{EachHasReply, IsEarly, IsServed, IsServedUpTo, asked_by, replies_in}
use Rattle.images.specs.declared.serve_error.ServeError.{ServeError}
use Rattle.images.specs.declared.serve_error.ServeError.TheVariants.{Broken, Random, Read, Refused, Socket, Write}

-- a reader at its end has returned all the bytes that it had
pub served-whole : (input rest before after : Option (List ℕ)) (bytes answer : List ℕ) → Consumes input rest bytes → IsAtEnd rest → EachHasReply (asked_by bytes) (replies_in answer) → Appends before after answer
    → IsServed input rest before after
served-whole None rest before after bytes answer read end answers written = record { whole = end; bytes = answer; written = written; answered = tt }
served-whole (Some xs) None before after bytes answer read end answers written = absurd read
served-whole (Some xs) (Some ys) before after bytes answer read end answers written =
    let all : xs ≡ bytes = read ∙ ap (λ rest. bytes ++ rest) end ∙ append-nil bytes in
    record { whole = end; bytes = answer; written = written; answered = subst (λ input. EachHasReply (asked_by input) (replies_in answer)) (sym all) answers }

keeps-same : (a : Option (List ℕ)) → Keeps a a
keeps-same None = tt
keeps-same (Some xs) = refl

-- nothing was written
pub early-ended : (error : ServeError) (before : Option (List ℕ)) → IsEarly error → IsServedUpTo error before before
early-ended (Random error) before early = keeps-same before
early-ended (Read error) before early = keeps-same before
early-ended (Refused refusal) before early = keeps-same before
early-ended (Socket error) before early = keeps-same before
early-ended Broken before early = keeps-same before
early-ended (Write error) before early = absurd early

-- writing failed
pub write-ended : (error : ServeError) (before after : Option (List ℕ)) → (IsEarly error → ⊥) → IsServedUpTo error before after
write-ended (Random error) before after late = absurd (late tt)
write-ended (Read error) before after late = absurd (late tt)
write-ended (Refused refusal) before after late = absurd (late tt)
write-ended (Socket error) before after late = absurd (late tt)
write-ended Broken before after late = absurd (late tt)
write-ended (Write error) before after late = tt
