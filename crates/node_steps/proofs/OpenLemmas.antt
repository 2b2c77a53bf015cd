-- Which connections are open, while one of them changes.
use Rattle.std.proofs.Common.{◌≡◌, ℕ, zero, suc, true, List, [], ◌∷◌, refl, ◌∙◌}
use Rattle.model.specs.declared.call.Call.{Call}
use Rattle.model.specs.Call.{position_of}
use Rattle.machine.specs.Event.{Connection, World, called, changed_at, is_open, is_open_at, taken_first, with_call, with_inbound, with_made, with_outbound}

pub open-changed : (c : ℕ) (change : Connection → Connection) → ((connection : Connection) → (change connection).is_open ≡ connection.is_open) → (connections : List Connection) (d : ℕ)
    → is_open_at (changed_at c change connections) d ≡ is_open_at connections d
open-changed c change keeps [] d = refl
open-changed zero change keeps (connection ∷ connections) zero = keeps connection
open-changed zero change keeps (connection ∷ connections) (suc d) = refl
open-changed (suc c) change keeps (connection ∷ connections) zero = refl
open-changed (suc c) change keeps (connection ∷ connections) (suc d) = open-changed c change keeps connections d

-- a turn ends none
pub still-open : (w : World) (c : ℕ) (call : Call) (d : ℕ) → is_open w d ≡ true → is_open (called c call w) d ≡ true
still-open w c call d opens =
    open-changed c (with_outbound (with_made (record { reply = call.reply; position = position_of (with_call call w).primary.calls }))) (λ connection. refl) (changed_at c (with_inbound taken_first) w.primary.connections) d
    ∙ open-changed c (with_inbound taken_first) (λ connection. refl) w.primary.connections d ∙ opens
