-- What goes through a round of writing.
use Rattle.std.proofs.Common.{ℕ, List, [], ◌++◌, take, drop, Option, sym, ap, ◌∙◌, append_assoc, take-append-drop}
use Rattle.kv_types.specs.declared.reply.Held.{Held as Answer}
use Rattle.kv_types.specs.declared.seen.Seen.{Seen}
use Rattle.reply_gate.specs.Gate.{Held}
use Rattle.clients.specs.Texts.{texts_of, unsent, Carries}
use Rattle.clients.specs.Rounds.{waiting_with, covered_with, Releases}

pub releases-carries : (seen : Seen) (t0 t1 : List Answer) (c0 c1 : Option (List ℕ)) (g0 g1 : Held) → Releases seen t0 t1 c0 c1 g0 g1 → Carries t0 t1 c0 c1 (unsent g0) (unsent g1)
releases-carries seen t0 t1 c0 c1 g0 g1 releases =
    let count = covered_with seen g0 releases.more in
    let waiting = waiting_with g0 releases.more in
    record {
      more = releases.more;
      written = releases.sends.first;
      takes = releases.takes;
      writes = releases.sends.writes;
      texts = append_assoc g0.pending g0.waiting (texts_of releases.more) ∙ ap (λ xs. g0.pending ++ xs) (sym (take-append-drop count waiting))
          ∙ sym (append_assoc g0.pending (take count waiting) (drop count waiting)) ∙ ap (λ xs. xs ++ drop count waiting) releases.sends.whole
          ∙ append_assoc releases.sends.first g1.pending (drop count waiting) ∙ ap (λ xs. releases.sends.first ++ (g1.pending ++ xs)) (sym releases.waiting);
    }
