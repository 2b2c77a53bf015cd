use Rattle.std.proofs.Common.{◌≡◌, ℕ, List, [], ◌++◌, IfSome, sym, subst}
use Rattle.std.specs.Io.BufRead.{first_piece}
use Rattle.client.specs.Asked.{one_request, words_of}
use Rattle.client.proofs.AskedLemmas.{so_far-more, so_far-nothing, so_far-whole}
use Rattle.client.proofs.ExchangeLemmas.{talks-none, talks-then}
use Rattle.client.proofs.talking.ask_lines.Goals as goal

pub loop-line-init : goal.loop-line-init
loop-line-init g c = record { requests = []; so_far = so_far-nothing _; talks = talks-none _ _ _ _ }

pub returns-in-Ok-false : goal.returns-in-Ok-false
returns-in-Ok-false g c =
    let inv = c.loop-line.invariant in
    (inv.requests, so_far-whole _ _ inv.requests inv.so_far (c.in-Ok-false.ensures.end c.in-Ok-false.field-0-test), inv.talks)

pub loop-line-preserved : goal.loop-line-preserved
loop-line-preserved g c =
    let inv = c.loop-line.invariant in
    let line = c.deref.result.now in
    record {
      requests = inv.requests ++ one_request (words_of line);
      so_far =
          so_far-more _ _ _ inv.requests line inv.so_far
          (subst (λ (l : List ℕ). IfSome (g.I.Read.remaining c.loop-line.input) (λ text. l ≡ first_piece 10 text)) (sym c.deref.ensures.value) c.in-Ok-true.ensures.line) c.in-Ok-true.ensures.rest;
      talks = talks-then inv.requests (one_request (words_of line)) _ _ _ _ _ _ _ _ _ _ _ _ _ _ _ c.either-failed.ensures inv.talks c.in_ok-ask_line-in-Ok-true.ensures;
    }
