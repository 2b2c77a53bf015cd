-- What a receiver has heard so far.
use Rattle.std.proofs.Common.{◌≡◌, inl, inr, ℕ, List, [], ◌∷◌, ◌++◌, Option, sym, ap, subst, ◌∙◌, append-nil, append_assoc}
use Rattle.std.proofs.lemmas.List.{map-append}
use Rattle.std.specs.Io.KnownBytes.{Consumes}
use Rattle.frames.specs.declared.ack.Ack.{Ack}
use Rattle.stream_codec.specs.declared.message.Message.{Message}
use Rattle.stream_codec.specs.Message.{Sent, sent_of, sent_of_ack}
use Rattle.stream_codec.specs.Scanning.{sent_of_all}
use Rattle.stream_codec.specs.Stream.{Reaches, took, fed}
use Rattle.links.specs.declared.receiver.AckReceiver.{AckReceiver}
use Rattle.links.specs.Reading.{Reads, ReadsPiece}
use Rattle.links.specs.Hearing.{Takes, Refuses, Hears, nothing, more, StopsAt, HasHeard}
use Rattle.links.proofs.Serving.{Consumes-join, Consumes-none}

-- ---- messages

Hears-join : (first middle last : AckReceiver) (messages later : List Sent) → Hears first messages middle → Hears middle later last → Hears first (messages ++ later) last
Hears-join first middle last messages _ run (nothing _) = subst (λ (sent : List Sent). Hears first sent middle) (sym (append-nil messages)) run
Hears-join first middle last messages _ run (more _ between _ others ack so_far takes) =
    subst (λ (sent : List Sent). Hears first sent last) (append_assoc messages others (sent_of_ack ack ∷ []))
    (more first between last (messages ++ others) ack (Hears-join first middle between messages others run so_far) takes)

StopsAt-behind : (first middle last : AckReceiver) (messages later : List Sent) → Hears first messages middle → StopsAt middle later last → StopsAt first (messages ++ later) last
StopsAt-behind first middle last messages later run stops = record {
  taken = messages ++ stops.taken;
  message = stops.message;
  rest = stops.rest;
  middle = stops.middle;
  are = ap (λ (sent : List Sent). messages ++ sent) stops.are ∙ sym (append_assoc messages stops.taken (stops.message ∷ stops.rest));
  run = Hears-join first middle stops.middle messages stops.taken run stops.run;
  refused = stops.refused;
}

-- the messages so far and the next one
pub Hears-more : (first middle last : AckReceiver) (messages : List Message) (message : Message) → Hears first (sent_of_all messages) middle
    → (ack : Ack) → sent_of message ≡ sent_of_ack ack → Takes middle ack last → Hears first (sent_of_all (messages ++ message ∷ [])) last
Hears-more first middle last messages message run ack same takes =
    subst (λ (sent : List Sent). Hears first sent last)
    (sym (map-append sent_of messages (message ∷ []) ∙ ap (λ (one : Sent). sent_of_all messages ++ one ∷ []) same))
    (more first middle last (sent_of_all messages) ack run takes)

-- the next one is refused
pub StopsAt-next : (first middle last : AckReceiver) (all yielded waiting later : List Message) (message : Message) → all ≡ yielded ++ waiting → waiting ≡ message ∷ later
    → Hears first (sent_of_all yielded) middle → Refuses middle (sent_of message) last → StopsAt first (sent_of_all all) last
StopsAt-next first middle last all yielded waiting later message left next run refused = record {
  taken = sent_of_all yielded;
  message = sent_of message;
  rest = sent_of_all later;
  middle = middle;
  are = ap sent_of_all (left ∙ ap (λ (rest : List Message). yielded ++ rest) next) ∙ map-append sent_of yielded (message ∷ later);
  run = run;
  refused = refused;
}

-- ---- reads

pub Reads-none : (held : Option (List ℕ)) → Reads held [] [] held
Reads-none held = λ before given reaches.
    subst (λ (text : List ℕ). Reaches text (given ++ []) held) (sym (append-nil before)) (subst (λ (sent : List Sent). Reaches before sent held) (sym (append-nil given)) reaches)

pub Reads-more : (held unread : Option (List ℕ)) (text piece : List ℕ) (messages : List Sent) → Reads held text messages unread
    → Reads held (text ++ piece) (messages ++ (fed unread piece).messages) (fed unread piece).unread
Reads-more held unread text piece messages reads = λ before given reaches.
    subst (λ (all : List ℕ). Reaches all (given ++ (messages ++ (fed unread piece).messages)) (fed unread piece).unread) (append_assoc before text piece)
    (subst (λ (sent : List Sent). Reaches ((before ++ text) ++ piece) sent (fed unread piece).unread) (append_assoc given messages (fed unread piece).messages)
    (took (reads before given reaches) piece))

Reads-piece : (held middle unread : Option (List ℕ)) (text piece : List ℕ) (messages later : List Sent) → Reads held text messages middle
    → later ≡ (fed middle piece).messages → unread ≡ (fed middle piece).unread → Reads held (text ++ piece) (messages ++ later) unread
Reads-piece held middle unread text piece messages later reads given kept =
    subst (λ (sent : List Sent). Reads held (text ++ piece) (messages ++ sent) unread) (sym given)
    (subst (λ (rest : Option (List ℕ)). Reads held (text ++ piece) (messages ++ (fed middle piece).messages) rest) (sym kept) (Reads-more held middle text piece messages reads))

-- ---- a link

-- all that came so far was taken
pub record SoFar (first : AckReceiver) (held bytes : Option (List ℕ)) (now : AckReceiver) (left unread : Option (List ℕ)) : Type 0 where
  pub text : List ℕ
  pub messages : List Sent
  pub consumed : Consumes bytes left text
  pub read : Reads held text messages unread
  pub run : Hears first messages now

pub SoFar-begun : (first : AckReceiver) (held bytes : Option (List ℕ)) → SoFar first held bytes first bytes held
SoFar-begun first held bytes = record { text = []; messages = []; consumed = Consumes-none bytes; read = Reads-none held; run = nothing first }

pub SoFar-more : (first middle last : AckReceiver) (held bytes between unread left rest : Option (List ℕ)) (messages : List Sent) → SoFar first held bytes middle between unread
    → ReadsPiece between left unread messages rest → Hears middle messages last → SoFar first held bytes last left rest
SoFar-more first middle last held bytes between unread left rest messages so_far reads run = record {
  text = so_far.text ++ reads.piece;
  messages = so_far.messages ++ messages;
  consumed = Consumes-join bytes between left so_far.text reads.piece so_far.consumed reads.consumed;
  read = Reads-piece held unread rest so_far.text reads.piece so_far.messages messages so_far.read reads.given reads.kept;
  run = Hears-join first middle last so_far.messages messages so_far.run run;
}

-- the link ended, and what was read last may be lost
pub HasHeard-lost : (first now : AckReceiver) (held bytes between unread left : Option (List ℕ)) (lost : List ℕ) → SoFar first held bytes now between unread → Consumes between left lost
    → HasHeard first held bytes now left
HasHeard-lost first now held bytes between unread left lost so_far consumed = record {
  text = so_far.text;
  lost = lost;
  messages = so_far.messages;
  unread = unread;
  consumed = Consumes-join bytes between left so_far.text lost so_far.consumed consumed;
  read = so_far.read;
  heard = inl so_far.run;
}

pub HasHeard-all : (first now : AckReceiver) (held bytes left unread : Option (List ℕ)) → SoFar first held bytes now left unread → HasHeard first held bytes now left
HasHeard-all first now held bytes left unread so_far = HasHeard-lost first now held bytes left unread left [] so_far (Consumes-none left)

-- one of the messages that came last was refused
pub HasHeard-stopped : (first middle last : AckReceiver) (held bytes between unread left rest : Option (List ℕ)) (messages : List Sent) → SoFar first held bytes middle between unread
    → ReadsPiece between left unread messages rest → StopsAt middle messages last → HasHeard first held bytes last left
HasHeard-stopped first middle last held bytes between unread left rest messages so_far reads stops = record {
  text = so_far.text ++ reads.piece;
  lost = [];
  messages = so_far.messages ++ messages;
  unread = rest;
  consumed = Consumes-join bytes left left (so_far.text ++ reads.piece) [] (Consumes-join bytes between left so_far.text reads.piece so_far.consumed reads.consumed) (Consumes-none left);
  read = Reads-piece held unread rest so_far.text reads.piece so_far.messages messages so_far.read reads.given reads.kept;
  heard = inr (StopsAt-behind first middle last so_far.messages messages so_far.run stops);
}
