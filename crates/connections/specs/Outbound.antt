-- How a connection's outbound half stands for what was made, and for what waits to go out.
use Rattle.std.specs.Prelude.{◌≡◌, ℕ, Bool, true, false, nat_le, List, [], ◌∷◌, length, slice_get, Some}
use Rattle.kv_types.specs.declared.reply.Held.{Held}
use Rattle.kv_types.specs.Reply.{text_of}
use Rattle.model.specs.declared.call.Call.{Call}
use Rattle.machine.specs.Connection.{Outbound as Machine, texts_of, covered_prefix, held_first, having_released, written}
use Rattle.model.specs.Call.{is_nonempty}
use Rattle.reply_gate.specs.declared.held_text.HeldText.{HeldText}
use Rattle.reply_gate.specs.Gate.{Held as Gate}
use Rattle.connections.specs.declared.outbound.Made.{Made}
use Rattle.connections.specs.declared.outbound.Outbound.{Outbound}

-- a reply that was made: its call is in the list, and it has the position of the list after the call
pub record IsMade (calls : List Call) (made : Made) (held : Held) : Type 0 where
  pub call : Call
  pub stands : slice_get calls made.call ≡ Some call
  pub reply : held.reply ≡ call.reply
  pub position : held.position ≡ made.position

abbrev pub AreMade : List Call → List Made → List Held → Type 0
AreMade calls [] [] = Unit {0}
AreMade calls (made ∷ mades) (held ∷ helds) = IsMade calls made held × AreMade calls mades helds
AreMade calls _ _ = ⊥

-- a reply that the gate holds, with its position and its length
pub record IsHeld (text : HeldText) (held : Held) : Type 0 where
  pub position : text.position ≡ held.position
  pub bytes : text.bytes ≡ length (text_of held.reply)

abbrev pub AreHeld : List HeldText → List Held → Type 0
AreHeld [] [] = Unit {0}
AreHeld (text ∷ texts) (held ∷ helds) = IsHeld text held × AreHeld texts helds
AreHeld _ _ = ⊥

pub record GateRefines (gate : Gate) (machine : Machine) : Type 0 where
  pub pending : gate.pending ≡ machine.pending
  pub waiting : gate.waiting ≡ texts_of machine.held
  pub held : AreHeld gate.replies machine.held

pub record OutboundRefines (calls : List Call) (code : Outbound) (machine : Machine) : Type 0 where
  pub made : AreMade calls code.made.items machine.made
  pub gate : GateRefines code.gate machine
  pub seen : code.seen ≡ machine.seen

-- the gate took the first reply that waited, or there was none
pub record HoldsFirst (calls : List Call) (new : Outbound) (did : Bool) (machine : Machine) : Type 0 where
  pub done : did ≡ is_nonempty machine.made
  pub held : did ≡ true → OutboundRefines calls new (held_first machine)
  pub stays : did ≡ false → OutboundRefines calls new machine

-- the covered replies went out, or there were none
pub record LetsOut (calls : List Call) (new : Outbound) (did : Bool) (machine : Machine) : Type 0 where
  pub done : did ≡ is_nonempty (covered_prefix machine.seen machine.held)
  pub out : did ≡ true → OutboundRefines calls new (having_released machine)
  pub stays : did ≡ false → OutboundRefines calls new machine

-- `n` bytes were written, or fewer were pending; these were released by then
pub record Writes (n : ℕ) (calls : List Call) (new : Outbound) (released : List ℕ) (did : Bool) (machine : Machine) : Type 0 where
  pub done : did ≡ nat_le n (length machine.pending)
  pub out : did ≡ true → OutboundRefines calls new (written n machine) × (released ≡ (written n machine).released)
  pub stays : did ≡ false → OutboundRefines calls new machine × (released ≡ machine.released)
