-- What the steps of a round of writing come to together.
use Rattle.std.proofs.Common.{◌≡◌, ℕ, List, [], ◌∷◌, ◌++◌, take, drop, Option, Some, None, refl, sym, ap, subst, ◌∙◌, append_assoc, append-nil}
use Rattle.kv_types.specs.declared.reply.Held.{Held as Answer}
use Rattle.kv_types.specs.declared.seen.Seen.{Seen}
use Rattle.reply_gate.specs.Gate.{Held, covered_bytes, uncovered_rest}
use Rattle.clients.specs.declared.writing.Round.{Round}
use Rattle.clients.specs.declared.writing.Round.TheVariants.{Idle, Busy, Blocked, Last}
use Rattle.clients.specs.Texts.{texts_of, held_texts, unsent, Holds, HoldsAllButLast, Sends}
use Rattle.clients.specs.Rounds.{replies_with, waiting_with, covered_with, released_with, Releases, Rounds, BreaksOff}
use Rattle.clients.proofs.SendsLemmas.{sends-on, sends-more}

-- what was pending was written on, replies were taken and held, and the covered ones were released and written on
pub round-releases : (seen : Seen) (t0 t1 : List Answer) (c0 c1 c2 : Option (List ℕ)) (g0 g1 g2 g3 : Held) → Sends c0 c1 g0.pending g1.pending → g1.waiting ≡ g0.waiting → g1.replies ≡ g0.replies
    → Holds t0 t1 g1 g2 → Sends c1 c2 (g2.pending ++ take (covered_bytes seen g2.replies) g2.waiting) g3.pending
    → g3.waiting ≡ drop (covered_bytes seen g2.replies) g2.waiting → g3.replies ≡ uncovered_rest seen g2.replies → Releases seen t0 t1 c0 c2 g0 g3
round-releases seen t0 t1 c0 c1 c2 g0 g1 g2 g3 left waits keeps holds sends rest uncovered =
    let waiting : g2.waiting ≡ waiting_with g0 holds.more = holds.texts ∙ ap (λ xs. xs ++ texts_of holds.more) waits in
    let replies : g2.replies ≡ replies_with g0 holds.more = holds.replies ∙ ap (λ xs. xs ++ held_texts holds.more) keeps in
    let covered : take (covered_bytes seen g2.replies) g2.waiting ≡ take (covered_with seen g0 holds.more) (waiting_with g0 holds.more) =
    ap (λ xs. take (covered_bytes seen xs) g2.waiting) replies ∙ ap (λ xs. take (covered_with seen g0 holds.more) xs) waiting in
    let next : Sends c1 c2 (g1.pending ++ take (covered_with seen g0 holds.more) (waiting_with g0 holds.more)) g3.pending =
    subst (λ xs. Sends c1 c2 xs g3.pending) (ap (λ xs. xs ++ take (covered_bytes seen g2.replies) g2.waiting) holds.pending ∙ ap (λ xs. g1.pending ++ xs) covered) sends in
    record {
      more = holds.more;
      takes = holds.takes;
      sends = sends-on c0 c1 c2 (released_with seen g0 holds.more) (g1.pending ++ take (covered_with seen g0 holds.more) (waiting_with g0 holds.more)) g3.pending
          (sends-more c0 c1 g0.pending g1.pending (take (covered_with seen g0 holds.more) (waiting_with g0 holds.more)) left) next;
      waiting = rest ∙ ap (λ xs. drop (covered_bytes seen xs) g2.waiting) replies ∙ ap (λ xs. drop (covered_with seen g0 holds.more) xs) waiting;
      replies = uncovered ∙ ap (uncovered_rest seen) replies;
    }

-- all that may go out is written
pub rounds-written : (seen : Seen) (round : Round) (t0 t1 : List Answer) (c0 c1 : Option (List ℕ)) (g0 g1 : Held) → (round ≡ Blocked → ⊥) → (round ≡ Last → unsent g1 ≡ []) → g1.pending ≡ []
    → Releases seen t0 t1 c0 c1 g0 g1 → Rounds seen round t0 t1 c0 c1 g0 g1
rounds-written seen Idle t0 t1 c0 c1 g0 g1 goes last none releases = (none, releases)
rounds-written seen Busy t0 t1 c0 c1 g0 g1 goes last none releases = (none, releases)
rounds-written seen Blocked t0 t1 c0 c1 g0 g1 goes last none releases = absurd (goes refl)
rounds-written seen Last t0 t1 c0 c1 g0 g1 goes last none releases = (last refl, releases)

-- what was pending could not be written on
pub breaks-before : (seen : Seen) (taken : List Answer) (c0 c1 : Option (List ℕ)) (g0 : Held) (p1 : List ℕ) → Sends c0 c1 g0.pending p1 → BreaksOff seen taken taken c0 c1 g0
breaks-before seen taken c0 c1 g0 p1 sends = record {
  more = [];
  lost = None;
  takes = sym (append-nil taken);
  left = p1 ++ take (covered_with seen g0 []) (waiting_with g0 []);
  sends = sends-more c0 c1 g0.pending p1 (take (covered_with seen g0 []) (waiting_with g0 [])) sends;
}

-- nothing was tried
pub breaks-at-once : (seen : Seen) (taken : List Answer) (gate : Held) → BreaksOff seen taken taken None None gate
breaks-at-once seen taken gate = breaks-before seen taken None None gate gate.pending (record { first = []; writes = tt; whole = refl })

-- a reply could not be held
pub breaks-holding : (seen : Seen) (t0 t1 : List Answer) (c0 c1 : Option (List ℕ)) (g0 g1 g2 : Held) → Sends c0 c1 g0.pending g1.pending → HoldsAllButLast t0 t1 g1 g2 → BreaksOff seen t0 t1 c0 c1 g0
breaks-holding seen t0 t1 c0 c1 g0 g1 g2 sends held = record {
  more = held.holds.more;
  lost = Some held.lost;
  takes = held.takes ∙ ap (λ xs. xs ++ held.lost ∷ []) held.holds.takes ∙ append_assoc t0 held.holds.more (held.lost ∷ []);
  left = g1.pending ++ take (covered_with seen g0 held.holds.more) (waiting_with g0 held.holds.more);
  sends = sends-more c0 c1 g0.pending g1.pending (take (covered_with seen g0 held.holds.more) (waiting_with g0 held.holds.more)) sends;
}

-- what was released could not be written on
pub breaks-after : (seen : Seen) (t0 t1 : List Answer) (c0 c1 : Option (List ℕ)) (g0 g1 : Held) → Releases seen t0 t1 c0 c1 g0 g1 → BreaksOff seen t0 t1 c0 c1 g0
breaks-after seen t0 t1 c0 c1 g0 g1 releases = record {
  more = releases.more;
  lost = None;
  takes = releases.takes ∙ ap (λ xs. t0 ++ xs) (sym (append-nil releases.more));
  left = g1.pending;
  sends = releases.sends;
}
