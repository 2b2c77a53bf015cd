-- How a gate comes to hold the replies that are taken from a ring, one after another.
use Rattle.std.proofs.Common.{◌≡◌, List, [], ◌∷◌, ◌++◌, refl, sym, subst, append-nil}
use Rattle.kv_types.specs.declared.reply.Held.{Held as Answer}
use Rattle.reply_gate.specs.Gate.{Held}
use Rattle.clients.specs.Texts.{Holds, HoldsAllButLast}

pub holds-nothing : (taken : List Answer) (gate : Held) → Holds taken taken gate gate
holds-nothing taken gate = record { more = []; takes = sym (append-nil taken); texts = sym (append-nil gate.waiting); replies = sym (append-nil gate.replies); pending = refl }

-- one more was taken, and could not be held
pub holds-but-last : (t0 t1 t2 : List Answer) (g0 g1 g2 : Held) (answer : Answer) → Holds t0 t1 g0 g1 → t2 ≡ t1 ++ answer ∷ [] → g2 ≡ g1 → HoldsAllButLast t0 t2 g0 g2
holds-but-last t0 t1 t2 g0 g1 g2 answer holds takes same = record { kept = t1; lost = answer; takes = takes; holds = subst (Holds t0 t1 g0) (sym same) holds }
