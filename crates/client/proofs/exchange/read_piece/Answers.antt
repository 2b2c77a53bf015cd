use Rattle.std.proofs.Common.{sym, subst}
use Rattle.std.proofs.KnownBytes.{Keeps-refl, Keeps-trans}
use Rattle.std.specs.Io.KnownBytes.{Consumes}
use Rattle.client.proofs.ExchangeLemmas.{kept_consumed}
use Rattle.client.proofs.exchange.read_piece.Goals as goal

pub loop-try-init : goal.loop-try-init
loop-try-init g c = Keeps-refl _

pub returns-in-Ok-clause-read : goal.returns-in-Ok-clause-read
returns-in-Ok-clause-read g c =
    subst (Consumes (g.R.Read.remaining c.args.reader.now) (g.R.Read.remaining c.read.new.self)) (sym c.in_ok-copy_from_slice-in-Ok.ensures) (kept_consumed _ _ _ _ c.loop-try.invariant c.in-Ok.ensures.bytes.0)

pub loop-try-preserved : goal.loop-try-preserved
loop-try-preserved g c = Keeps-trans _ _ _ c.loop-try.invariant c.in-Err.ensures.bytes
