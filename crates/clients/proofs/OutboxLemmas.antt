-- What an outbox knows of its gate after each step.
use Rattle.std.proofs.Common.{◌≡◌, ℕ, zero, suc, ◌≤◌, nat_le, ◌&&◌, Bool, true, false, cond, List, [], ◌∷◌, ◌++◌, length, drop, OnOk, OnErr, Result, Ok, Err, refl, sym, ap, subst, ◌∙◌, arith, length-append, length-drop}
use Rattle.std.specs.Prelude.{All}
use Rattle.std.proofs.lemmas.Bool.{le-leb, leb-true, and_from, and_parts}
use Rattle.kv_types.specs.declared.seen.Seen.{Seen}
use Rattle.kv_types.specs.Seen.{covers}
use Rattle.reply_gate.specs.declared.held_text.HeldText.{HeldText}
use Rattle.reply_gate.specs.Gate.{Held, held_bytes, covered_bytes, uncovered_rest, is_covered}
use Rattle.reply_gate.proofs.HeldLemmas.{held_bytes-append, held_bytes-split}
use Rattle.clients.specs.Texts.{IsWithin}

-- every reply was made at a position of at most `last`
abbrev AreAtMost : ℕ → List HeldText → Type 0
AreAtMost last [] = Unit {0}
AreAtMost last (reply ∷ replies) = (reply.position ≤ last) × AreAtMost last replies

each : (last : ℕ) (replies : List HeldText) → All (λ reply. reply.position ≤ last) replies → AreAtMost last replies
each last [] all = tt
each last (reply ∷ replies) all = (all 0 reply (omega arith), each last replies (λ k d within. all (suc k) d (omega (arith, within))))

all-of : (last : ℕ) (replies : List HeldText) → AreAtMost last replies → All (λ reply. reply.position ≤ last) replies
all-of last [] most k d within = absurd (omega (arith, within))
all-of last (reply ∷ replies) most zero d within = most.0
all-of last (reply ∷ replies) most (suc k) d within = all-of last replies most.1 k d (omega (arith, within))

and-first : (x y : Bool) → (x && y) ≡ true → x ≡ true
and-first true y e = refl
and-first false y e = e

at_most-more : (last last' : ℕ) (replies : List HeldText) (reply : HeldText) → last ≤ last' → reply.position ≤ last' → AreAtMost last replies → AreAtMost last' (replies ++ reply ∷ [])
at_most-more last last' [] reply le new old = (new, tt)
at_most-more last last' (first ∷ replies) reply le new old = (omega (arith, old.0, le), at_most-more last last' replies reply le new old.1)

at_most-rises : (last last' : ℕ) (replies : List HeldText) → last ≤ last' → AreAtMost last replies → AreAtMost last' replies
at_most-rises last last' [] le old = tt
at_most-rises last last' (first ∷ replies) le old = (omega (arith, old.0, le), at_most-rises last last' replies le old.1)

-- a reply that was held, or was not
pub held-within : {A E : Type 0} (result : Result A E) (last last' position : ℕ) (old new : Held) (text : List ℕ) → last ≤ last' → position ≤ last' → IsWithin last old
    → OnOk result (new.waiting ≡ old.waiting ++ text) → OnOk result (new.replies ≡ old.replies ++ record { position = position; bytes = length text } ∷ []) → OnErr result (new ≡ old)
    → IsWithin last' new
held-within (Ok a) last last' position old new text le le' within waits replies err =
    record {
      bounded = all-of last' new.replies (subst (AreAtMost last') (sym replies) (at_most-more last last' old.replies _ le le' (each last old.replies within.bounded)));
      counted = ap length waits ∙ omega (arith, length-append old.waiting text, within.counted, held_bytes-append old.replies (record { position = position; bytes = length text } ∷ [])) ∙ ap held_bytes (sym replies);
    }
held-within (Err e) last last' position old new text le le' within waits replies err =
    subst (IsWithin last') (sym err) (record { bounded = all-of last' old.replies (at_most-rises last last' old.replies le (each last old.replies within.bounded)); counted = within.counted })

-- where a position is covered, so is one that is not above it
covered-below : (seen : Seen) (position last : ℕ) → position ≤ last → covers seen last ≡ true → covers seen position ≡ true
covered-below seen position last le both =
    let parts = and_parts (nat_le last seen.local) (nat_le last seen.remote) both in
    and_from _ _ (le-leb position seen.local (omega (arith, le, leb-true last seen.local parts.0))) (le-leb position seen.remote (omega (arith, le, leb-true last seen.remote parts.1)))

-- all are covered where the greatest position is
all-covered : (last : ℕ) (seen : Seen) (replies : List HeldText) → covers seen last ≡ true → AreAtMost last replies → uncovered_rest seen replies ≡ []
all-covered last seen [] both most = refl
all-covered last seen (reply ∷ replies) both most =
    ap (λ b. cond b (uncovered_rest seen replies) (reply ∷ replies)) (covered-below seen reply.position last most.0 both) ∙ all-covered last seen replies both most.1

pub covered-then : (last : ℕ) (seen : Seen) (replies : List HeldText) → All (λ reply. reply.position ≤ last) replies → covers seen last ≡ true → uncovered_rest seen replies ≡ []
covered-then last seen replies most both = all-covered last seen replies both (each last replies most)

rest-at_most : (last : ℕ) (seen : Seen) (replies : List HeldText) → AreAtMost last replies → AreAtMost last (uncovered_rest seen replies)
rest-at_most last seen [] most = tt
rest-at_most last seen (reply ∷ replies) most =
    elim (is_covered seen reply) as (λ b. AreAtMost last (cond b (uncovered_rest seen replies) (reply ∷ replies))) [
      | true ↦ rest-at_most last seen replies most.1
      | false ↦ most
    ]

-- the covered ones went
pub released-within : (last : ℕ) (seen : Seen) (old new : Held) → IsWithin last old → new.waiting ≡ drop (covered_bytes seen old.replies) old.waiting → new.replies ≡ uncovered_rest seen old.replies
    → IsWithin last new
released-within last seen old new within waits replies =
    record {
      bounded = all-of last new.replies (subst (AreAtMost last) (sym replies) (rest-at_most last seen old.replies (each last old.replies within.bounded)));
      counted = ap length waits ∙ omega (arith, length-drop (covered_bytes seen old.replies) old.waiting, within.counted, held_bytes-split seen old.replies) ∙ ap held_bytes (sym replies);
    }

pub first-of-three : (x y z : Bool) → ((x && y) && z) ≡ true → x ≡ true
first-of-three x y z e = and-first x y (and-first (x && y) z e)
