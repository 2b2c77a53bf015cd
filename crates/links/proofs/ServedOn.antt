-- What a standby has answered on a link of which a decoder had read before.
use Rattle.std.proofs.Common.{◌≡◌, ℕ, List, [], ◌++◌, Result, Ok, Err, IsErrOf, OnErr, sym, subst, append-nil, Option, Some}
use Rattle.std.proofs.lemmas.Grind.{flat_map-append}
use Rattle.std.specs.Io.KnownBytes.{Appends, Consumes}
use Rattle.frames.specs.declared.ack.Ack.{Ack}
use Rattle.stream_codec.specs.Stream.{begun as unfed, fed}
use Rattle.node_log.specs.declared.link_error.LinkError.{LinkError}
use Rattle.node_log.specs.declared.link_error.LinkError.TheVariants.{Closed}
use Rattle.links.specs.Continuing.{HasSaidOn, ServedOn}
use Rattle.links.specs.Copying.{Wire, wire}
use Rattle.links.specs.Serving.{HasSaid, Held, IsLeft, IsTidied, Run, Says, Served, ack_text, acks_text, idle, none}
use Rattle.links.proofs.Hearing.{Reads-more, Reads-none}
use Rattle.links.proofs.Says.{says-all, says-then}
use Rattle.links.proofs.Serving.{Appends-join, Appends-none, Consumes-join, Consumes-none, Run-join}

pub ServedOn-begun : (held : Option (List ℕ)) (first : Held) (old : Wire) → ServedOn held first old first old held
ServedOn-begun held first old = record {
  text = [];
  messages = [];
  acks = [];
  consumed = Consumes-none old.remaining;
  read = Reads-none held;
  run = none first;
  written = Appends-none old.contents;
}

-- one more piece was read and answered
pub ServedOn-more : (held : Option (List ℕ)) (first middle last : Held) (old between new : Wire) (unread : Option (List ℕ)) (piece : List ℕ) (acks : List Ack)
    → ServedOn held first old middle between unread → Consumes between.remaining new.remaining piece → Run middle (fed unread piece).messages acks last
    → Appends between.contents new.contents (acks_text acks) → ServedOn held first old last new (fed unread piece).unread
ServedOn-more held first middle last old between new unread piece acks served consumed run written = record {
  text = served.text ++ piece;
  messages = served.messages ++ (fed unread piece).messages;
  acks = served.acks ++ acks;
  consumed = Consumes-join old.remaining between.remaining new.remaining served.text piece served.consumed consumed;
  read = Reads-more held unread served.text piece served.messages served.read;
  run = Run-join first middle last served.messages (fed unread piece).messages served.acks acks served.run run;
  written = subst (λ (text : List ℕ). Appends old.contents new.contents text) (sym (flat_map-append ack_text served.acks acks))
      (Appends-join old.contents between.contents new.contents (acks_text served.acks) (acks_text acks) served.written written);
}

-- nothing more was there to read
pub ServedOn-ended : (held : Option (List ℕ)) (first last : Held) (old between : Wire) (left unread : Option (List ℕ)) → ServedOn held first old last between unread
    → Consumes between.remaining left [] → ServedOn held first old last (wire left between.contents) unread
ServedOn-ended held first last old between left unread served consumed = record {
  text = served.text;
  messages = served.messages;
  acks = served.acks;
  consumed = subst (λ (text : List ℕ). Consumes old.remaining left text) (append-nil served.text) (Consumes-join old.remaining between.remaining left served.text [] served.consumed consumed);
  read = served.read;
  run = served.run;
  written = served.written;
}

-- nothing came, and the node tidied its image
pub ServedOn-tidied : (held : Option (List ℕ)) (first middle last : Held) (old between : Wire) (left unread : Option (List ℕ)) → ServedOn held first old middle between unread
    → Consumes between.remaining left [] → IsTidied middle last → ServedOn held first old last (wire left between.contents) unread
ServedOn-tidied held first middle last old between left unread served consumed tidied =
    let same = ServedOn-ended held first middle old between left unread served consumed in
    record {
      text = same.text;
      messages = same.messages;
      acks = same.acks;
      consumed = same.consumed;
      read = same.read;
      run = idle first middle last same.messages same.acks same.run tidied;
      written = same.written;
    }

-- the last piece was answered so far
pub HasSaidOn-more : (held : Option (List ℕ)) (first middle last : Held) (old between new : Wire) (unread : Option (List ℕ)) (piece part : List ℕ) → ServedOn held first old middle between unread
    → Consumes between.remaining new.remaining piece → Says middle (fed unread piece).messages between.contents last new.contents part → HasSaidOn held first old last new part
HasSaidOn-more held first middle last old between new unread piece part served consumed says = record {
  text = served.text ++ piece;
  messages = served.messages ++ (fed unread piece).messages;
  unread = (fed unread piece).unread;
  consumed = Consumes-join old.remaining between.remaining new.remaining served.text piece served.consumed consumed;
  read = Reads-more held unread served.text piece served.messages served.read;
  says = says-then first middle last served.messages (fed unread piece).messages old.contents between.contents new.contents part
      (record { acks = served.acks; run = served.run; written = served.written }) says;
}

-- all that came was answered, and the node was left then
pub HasSaidOn-left : (held : Option (List ℕ)) (first middle last : Held) (old between : Wire) (left unread : Option (List ℕ)) → ServedOn held first old middle between unread
    → Consumes between.remaining left [] → IsLeft middle last → HasSaidOn held first old last (wire left between.contents) []
HasSaidOn-left held first middle last old between left unread served consumed kept =
    let same = ServedOn-ended held first middle old between left unread served consumed in
    record {
      text = same.text;
      messages = same.messages;
      unread = unread;
      consumed = same.consumed;
      read = same.read;
      says = says-all first middle last same.messages old.contents between.contents (record { acks = same.acks; run = same.run; written = same.written }) kept;
    }

pub HasSaidOn-err : {held : Option (List ℕ)} {first last : Held} {old new : Wire} (result : Result (Unit {0}) LinkError) (part : List ℕ) → HasSaidOn held first old last new part
    → (¬ IsErrOf result Closed → part ≡ []) → OnErr result ((part : List ℕ) × HasSaidOn held first old last new part × (¬ IsErrOf result Closed → part ≡ []))
HasSaidOn-err (Ok done) part said whole = tt
HasSaidOn-err (Err end) part said whole = (part, said, whole)

-- nothing was read or written
pub HasSaidOn-nothing : (held : Option (List ℕ)) (node : Held) (old : Wire) → IsLeft node node → HasSaidOn held node old node old []
HasSaidOn-nothing held node old kept = HasSaidOn-left held node node node old old old.remaining held (ServedOn-begun held node old) (Consumes-none old.remaining) kept

-- ---- of a whole link

pub Served-on : (held : Option (List ℕ)) (first last : Held) (old new : Wire) (unread : Option (List ℕ)) → held ≡ Some [] → ServedOn held first old last new unread
    → Served first old.remaining old.contents last new.remaining new.contents unread
Served-on held first last old new unread is served =
    let whole : ServedOn (Some []) first old last new unread = subst (λ (before : Option (List ℕ)). ServedOn before first old last new unread) is served in
    record {
      text = whole.text;
      messages = whole.messages;
      acks = whole.acks;
      consumed = whole.consumed;
      read = whole.read [] [] unfed;
      run = whole.run;
      written = whole.written;
    }

pub HasSaid-on : (held : Option (List ℕ)) (first last : Held) (old new : Wire) (part : List ℕ) → held ≡ Some [] → HasSaidOn held first old last new part
    → HasSaid first old.remaining old.contents last new.remaining new.contents part
HasSaid-on held first last old new part is said =
    let whole : HasSaidOn (Some []) first old last new part = subst (λ (before : Option (List ℕ)). HasSaidOn before first old last new part) is said in
    record {
      text = whole.text;
      messages = whole.messages;
      unread = whole.unread;
      consumed = whole.consumed;
      read = whole.read [] [] unfed;
      says = whole.says;
    }
