-- What a newcomer has taken of a copy, and how its link ends.
use Rattle.std.proofs.Common.{◌≡◌, ◌≢◌, ◌⊎◌, inl, inr, ℕ, Bool, true, false, List, [], ◌∷◌, ◌++◌, length, Option, None, Some, Result, Ok, Err, IfErr, IfSome, is_some, not, refl, sym, ap, subst, ◌∙◌, append-nil, append_assoc}
use Rattle.std.proofs.lemmas.List.{map-append}
use Rattle.std.proofs.lemmas.List.{nil_from_length}
use Rattle.std.specs.Io.KnownBytes.{Consumes}
use Rattle.std.specs.Vec.Iter.{into_iter_items, into_iter_len, into_iter_steps}
use Rattle.std.specs.declared.vec.IntoIter.{IntoIter}
use Rattle.kv_types.specs.declared.refusal.Refusal.{Refusal}
use Rattle.kv_types.specs.declared.refusal.Refusal.TheVariants.{Fault, BadMagic, BadVersion, WrongSize, Full, Exhausted, Damaged, SeatsFull, PipeFull, FrameFault, WrongEpoch, PositionGap, StandbyAhead, Memory, NotFenced, WrongRole, NotCopied, WrongPair, WrongLink}
use Rattle.frames.specs.declared.ack.Ack.{Ack}
use Rattle.stream_codec.specs.declared.message.Message.{Message}
use Rattle.stream_codec.specs.Message.{Sent, sent_of, sent_of_part, sent_of_end}
use Rattle.stream_codec.specs.Scanning.{sent_of_all}
use Rattle.stream_codec.specs.Stream.{Reaches, begun as unfed, took, fed}
use Rattle.node_log.specs.declared.link_error.LinkError.{LinkError}
use Rattle.node_log.specs.declared.link_error.LinkError.TheVariants.{Closed, Refused, Stops}
use Rattle.links.specs.Copying.{Gatherer, Wire, TakesParts, none, more, RefusesMessage, StopsShort, IsAcknowledged, TakesEnd, TakesOnePart, TakesOneEnd, IsLast, IsPieceEnd, HasParts, HasCopied, EndsHalf, Brings, IfCopy, IsLinkWith}
use Rattle.links.specs.Serving.{ends_by}
use Rattle.greeting.specs.declared.greeting.Greeting.{Greeting}
use Rattle.links.specs.Copied.{IsAdopted, IsGathered, IsStop, IsStoppedBy}
use Rattle.links.specs.declared.copied.CopyLink.{CopyLink}
use Rattle.links.specs.declared.copied.Gathered.{Gathered}
use Rattle.links.specs.declared.copied.Gathered.TheVariants as gathered
use Rattle.links.specs.declared.copying.Brought.{Brought}
use Rattle.links.specs.declared.copying.Brought.TheVariants as brought
use Rattle.links.proofs.Serving.{Consumes-join, Consumes-none}

-- ---- messages

pub TakesParts-join : {N : Type 0} (node : Gatherer N) (first middle last : N) (messages later : List Sent) → TakesParts node first messages middle → TakesParts node middle later last
    → TakesParts node first (messages ++ later) last
TakesParts-join node first middle last messages _ run (none _) = subst (λ (sent : List Sent). TakesParts node first sent middle) (sym (append-nil messages)) run
TakesParts-join node first middle last messages _ run (more _ between _ others part so_far takes) =
    subst (λ (sent : List Sent). TakesParts node first sent last) (append_assoc messages others (sent_of_part part ∷ []))
    (more first between last (messages ++ others) part (TakesParts-join node first middle between messages others run so_far) takes)

StopsShort-behind : {N : Type 0} (node : Gatherer N) (first middle last : N) (messages later : List Sent) (end : LinkError) → TakesParts node first messages middle
    → StopsShort node middle later end last → StopsShort node first (messages ++ later) end last
StopsShort-behind node first middle last messages later end run stops = record {
  taken = messages ++ stops.taken;
  message = stops.message;
  rest = stops.rest;
  middle = stops.middle;
  refusal = stops.refusal;
  are = ap (λ (sent : List Sent). messages ++ sent) stops.are ∙ sym (append_assoc messages stops.taken (stops.message ∷ stops.rest));
  run = TakesParts-join node first middle stops.middle messages stops.taken run stops.run;
  refused = stops.refused;
  ends = stops.ends;
}

TakesEnd-behind : {N : Type 0} (node : Gatherer N) (first middle last : N) (messages later : List Sent) (link : Result (Unit {0}) LinkError) (before after : Option (List ℕ))
    → TakesParts node first messages middle → TakesEnd node middle later link last before after → TakesEnd node first (messages ++ later) link last before after
TakesEnd-behind node first middle last messages later link before after run takes = record {
  parts = messages ++ takes.parts;
  end = takes.end;
  ack = takes.ack;
  behind = takes.behind;
  middle = takes.middle;
  are = ap (λ (sent : List Sent). messages ++ sent) takes.are ∙ sym (append_assoc messages takes.parts (sent_of_end takes.end ∷ takes.behind));
  run = TakesParts-join node first middle takes.middle messages takes.parts run takes.run;
  ended = takes.ended;
  said = takes.said;
}

-- the messages so far and the next one, which is a part
pub TakesParts-next : {N : Type 0} (node : Gatherer N) (first middle last : N) (messages : List Message) (message : Message) → TakesParts node first (sent_of_all messages) middle
    → TakesOnePart node middle (sent_of message) last → TakesParts node first (sent_of_all (messages ++ message ∷ [])) last
TakesParts-next node first middle last messages message run takes =
    subst (λ (sent : List Sent). TakesParts node first sent last)
    (sym (map-append sent_of messages (message ∷ []) ∙ ap (λ (one : Sent). sent_of_all messages ++ one ∷ []) takes.1))
    (more first middle last (sent_of_all messages) takes.0 run takes.2)

split_at : (all yielded waiting later : List Message) (message : Message) → all ≡ yielded ++ waiting → waiting ≡ message ∷ later
    → sent_of_all all ≡ sent_of_all yielded ++ sent_of message ∷ sent_of_all later
split_at all yielded waiting later message left next = ap sent_of_all (left ∙ ap (λ (rest : List Message). yielded ++ rest) next) ∙ map-append sent_of yielded (message ∷ later)

-- the next one is refused
pub StopsShort-next : {N : Type 0} (node : Gatherer N) (first middle last : N) (all yielded waiting later : List Message) (message : Message) (end : LinkError) → all ≡ yielded ++ waiting
    → waiting ≡ message ∷ later → TakesParts node first (sent_of_all yielded) middle
    → (refusal : Refusal) → end ≡ ends_by refusal → RefusesMessage node middle (sent_of message) refusal last → StopsShort node first (sent_of_all all) end last
StopsShort-next node first middle last all yielded waiting later message end left next run refusal is refused = record {
  taken = sent_of_all yielded;
  message = sent_of message;
  rest = sent_of_all later;
  middle = middle;
  refusal = refusal;
  are = split_at all yielded waiting later message left next;
  run = run;
  refused = refused;
  ends = is;
}

-- the next one is the end
pub TakesEnd-next : {N : Type 0} (node : Gatherer N) (first middle last : N) (all yielded waiting later : List Message) (message : Message) (ack : Ack) (link : Result (Unit {0}) LinkError)
    (before after : Option (List ℕ)) → all ≡ yielded ++ waiting → waiting ≡ message ∷ later → TakesParts node first (sent_of_all yielded) middle
    → TakesOneEnd node middle (sent_of message) ack last → IsAcknowledged ack (sent_of_all later) link before after → TakesEnd node first (sent_of_all all) link last before after
TakesEnd-next node first middle last all yielded waiting later message ack link before after left next run takes said = record {
  parts = sent_of_all yielded;
  end = takes.0;
  ack = ack;
  behind = sent_of_all later;
  middle = middle;
  are = split_at all yielded waiting later message left next ∙ ap (λ (one : Sent). sent_of_all yielded ++ one ∷ sent_of_all later) takes.1;
  run = run;
  ended = takes.2;
  said = said;
}

-- nothing comes behind where an iterator is at its end
pub is_last_of : {Z : Type 0} (last : Bool) (found : Option Message) (s t : IntoIter Message Z) → is_some found ≡ not last → into_iter_len s ≡ length (into_iter_items s)
    → into_iter_steps s found t → IsLast last (sent_of_all (into_iter_items s))
is_last_of true None s t is len steps = ap sent_of_all (nil_from_length (into_iter_items s) (sym len ∙ steps.0))
is_last_of false None s t is len steps = absurd cc
is_last_of true (Some message) s t is len steps = absurd cc
is_last_of false (Some message) s t is len steps = λ none. absurd (cons_is_not_nil (ap sent_of_all (sym steps.0) ∙ none))
  where
    cons_is_not_nil : {X : Type 0} {x : X} {xs : List X} → x ∷ xs ≡ [] → ⊥
    cons_is_not_nil is = cc

-- ---- results

same_err : {T E : Type 0} {x y : E} → ◌≡◌ {A = Result T E} (Err x) (Err y) → x ≡ y
same_err is = cc

same_some : {T : Type 0} {x y : T} → Some x ≡ Some y → x ≡ y
same_some is = cc

pub IfErr-at : {T E : Type 0} (P : E → Type 0) (result : Result T E) (end given : E) → result ≡ Err end → end ≡ given → P given → IfErr result P
IfErr-at P (Ok x) end given is same told = tt
IfErr-at P (Err e) end given is same told = subst P (sym (same_err is ∙ same)) told

pub IfSome-at : {T : Type 0} (P : T → Type 0) (found : Option T) (x : T) → found ≡ Some x → IfSome found P → P x
IfSome-at P None x is told = absurd cc
IfSome-at P (Some y) x is told = subst P (same_some is) told

pub IfErr-of : {T E : Type 0} (P : E → Type 0) (result : Result T E) (end : E) → result ≡ Err end → IfErr result P → P end
IfErr-of P (Ok x) end is told = absurd cc
IfErr-of P (Err e) end is told = subst P (same_err is) told

pub IfSome-into : {T : Type 0} (P Q : T → Type 0) (found : Option T) → ((x : T) → P x → Q x) → IfSome found P → IfSome found Q
IfSome-into P Q None into told = tt
IfSome-into P Q (Some x) into told = into x told

pub same_ok : {T E : Type 0} {x y : T} → ◌≡◌ {A = Result T E} (Ok x) (Ok y) → x ≡ y
same_ok is = cc

-- a decoder refused a piece
pub IsPieceEnd-refused : {N : Type 0} (node : Gatherer N) (first : N) (held : Option (List ℕ)) (piece : List ℕ) (refusal : Refusal)
    → ((refusal ≡ FrameFault) × (held ≡ None)) ⊎ ((refusal ≡ Memory) × (held ≢ None)) → IsPieceEnd node first held piece (Refused refusal) first
IsPieceEnd-refused node first held piece refusal (inl broken) = inr (inl (
  ap Refused broken.0,
  ap (λ (unread : Option (List ℕ)). (fed unread piece).unread) broken.1,
  subst (λ (unread : Option (List ℕ)). TakesParts node first (fed unread piece).messages first) (sym broken.1) (none first),
))
IsPieceEnd-refused node first held piece refusal (inr memory) = inl (ap Refused memory.0, refl)

-- ---- a link

pub HasParts-begun : {N : Type 0} (node : Gatherer N) (first : N) (old : Wire) (held : Option (List ℕ)) → held ≡ Some [] → HasParts node first old held first old
HasParts-begun node first old held is = record {
  text = [];
  messages = [];
  consumed = Consumes-none old.remaining;
  read = subst (λ (unread : Option (List ℕ)). Reaches [] [] unread) (sym is) unfed;
  run = none first;
  quiet = refl;
}

-- one more piece came, which ends parts
pub HasParts-more : {N : Type 0} (node : Gatherer N) (first middle last : N) (old between new : Wire) (unread rest : Option (List ℕ)) (piece : List ℕ) → HasParts node first old unread middle between
    → Consumes between.remaining new.remaining piece → rest ≡ (fed unread piece).unread → TakesParts node middle (fed unread piece).messages last → new.contents ≡ between.contents
    → HasParts node first old rest last new
HasParts-more node first middle last old between new unread rest piece so_far consumed is run quiet =
    subst (λ (held : Option (List ℕ)). HasParts node first old held last new) (sym is)
    (record {
      text = so_far.text ++ piece;
      messages = so_far.messages ++ (fed unread piece).messages;
      consumed = Consumes-join old.remaining between.remaining new.remaining so_far.text piece so_far.consumed consumed;
      read = took so_far.read piece;
      run = TakesParts-join node first middle last so_far.messages (fed unread piece).messages so_far.run run;
      quiet = quiet ∙ so_far.quiet;
    })

-- nothing more was there to read
pub HasParts-ended : {N : Type 0} (node : Gatherer N) (first last : N) (old between new : Wire) (unread : Option (List ℕ)) → HasParts node first old unread last between
    → Consumes between.remaining new.remaining [] → new.contents ≡ between.contents → HasParts node first old unread last new
HasParts-ended node first last old between new unread so_far consumed quiet = record {
  text = so_far.text;
  messages = so_far.messages;
  consumed = subst (λ (text : List ℕ). Consumes old.remaining new.remaining text) (append-nil so_far.text)
      (Consumes-join old.remaining between.remaining new.remaining so_far.text [] so_far.consumed consumed);
  read = so_far.read;
  run = so_far.run;
  quiet = quiet ∙ so_far.quiet;
}

-- a read failed
pub EndsHalf-closed : {N : Type 0} (node : Gatherer N) (first last : N) (old between new : Wire) (unread : Option (List ℕ)) (end : LinkError) → end ≡ Closed → HasParts node first old unread last between
    → Consumes between.remaining new.remaining [] → new.contents ≡ between.contents → EndsHalf node first old end last new
EndsHalf-closed node first last old between new unread end is so_far consumed quiet = record {
  text = so_far.text;
  lost = [];
  messages = so_far.messages;
  unread = unread;
  consumed = Consumes-join old.remaining between.remaining new.remaining so_far.text [] so_far.consumed consumed;
  read = so_far.read;
  why = inl (is, refl, so_far.run);
  quiet = quiet ∙ so_far.quiet;
}

-- the link ended with the last piece
pub EndsHalf-piece : {N : Type 0} (node : Gatherer N) (first middle last : N) (old between new : Wire) (unread : Option (List ℕ)) (piece : List ℕ) (end : LinkError)
    → HasParts node first old unread middle between → Consumes between.remaining new.remaining piece → new.contents ≡ between.contents
    → IsPieceEnd node middle unread piece end last → EndsHalf node first old end last new
EndsHalf-piece node first middle last old between new unread piece end so_far consumed quiet (inl memory) = record {
  text = so_far.text;
  lost = piece;
  messages = so_far.messages;
  unread = unread;
  consumed = Consumes-join old.remaining between.remaining new.remaining so_far.text piece so_far.consumed consumed;
  read = so_far.read;
  why = inr (inl (memory.0, subst (λ at. TakesParts node first so_far.messages at) (sym memory.1) so_far.run));
  quiet = quiet ∙ so_far.quiet;
}
EndsHalf-piece node first middle last old between new unread piece end so_far consumed quiet (inr (inl broken)) = record {
  text = so_far.text ++ piece;
  lost = [];
  messages = so_far.messages ++ (fed unread piece).messages;
  unread = (fed unread piece).unread;
  consumed = subst (λ (text : List ℕ). Consumes old.remaining new.remaining text) (sym (append-nil (so_far.text ++ piece)))
      (Consumes-join old.remaining between.remaining new.remaining so_far.text piece so_far.consumed consumed);
  read = took so_far.read piece;
  why = inr (inr (inl (broken.0, broken.1, TakesParts-join node first middle last so_far.messages (fed unread piece).messages so_far.run broken.2)));
  quiet = quiet ∙ so_far.quiet;
}
EndsHalf-piece node first middle last old between new unread piece end so_far consumed quiet (inr (inr stops)) = record {
  text = so_far.text ++ piece;
  lost = [];
  messages = so_far.messages ++ (fed unread piece).messages;
  unread = (fed unread piece).unread;
  consumed = subst (λ (text : List ℕ). Consumes old.remaining new.remaining text) (sym (append-nil (so_far.text ++ piece)))
      (Consumes-join old.remaining between.remaining new.remaining so_far.text piece so_far.consumed consumed);
  read = took so_far.read piece;
  why = inr (inr (inr (refl, StopsShort-behind node first middle last so_far.messages (fed unread piece).messages end so_far.run stops)));
  quiet = quiet ∙ so_far.quiet;
}

-- the copy ended with the last piece
pub HasCopied-piece : {N : Type 0} (node : Gatherer N) (first middle last : N) (old between new : Wire) (unread rest : Option (List ℕ)) (piece : List ℕ) (link : Result (Unit {0}) LinkError)
    (found : Result (Option (List ℕ)) LinkError) → HasParts node first old unread middle between → Consumes between.remaining new.remaining piece → rest ≡ (fed unread piece).unread
    → TakesEnd node middle (fed unread piece).messages link last between.contents new.contents → IsLinkWith found link rest → HasCopied node first old found last new
HasCopied-piece node first middle last old between new unread rest piece link found so_far consumed is takes held = record {
  text = so_far.text ++ piece;
  messages = so_far.messages ++ (fed unread piece).messages;
  unread = rest;
  consumed = Consumes-join old.remaining between.remaining new.remaining so_far.text piece so_far.consumed consumed;
  read = subst (λ (after : Option (List ℕ)). Reaches (so_far.text ++ piece) (so_far.messages ++ (fed unread piece).messages) after) (sym is) (took so_far.read piece);
  ended = subst (λ (end : Result (Unit {0}) LinkError). TakesEnd node first (so_far.messages ++ (fed unread piece).messages) end last old.contents new.contents) (sym held.0)
      (subst (λ (before : Option (List ℕ)). TakesEnd node first (so_far.messages ++ (fed unread piece).messages) link last before new.contents) so_far.quiet
      (TakesEnd-behind node first middle last so_far.messages (fed unread piece).messages link between.contents new.contents so_far.run takes));
  behind = held.1;
}

pub Brings-copied : {N : Type 0} (node : Gatherer N) (came : Brought) (first middle last : N) (old between new : Wire) (unread rest : Option (List ℕ)) (piece : List ℕ)
    (link : Result (Unit {0}) LinkError) → HasParts node first old unread middle between → Consumes between.remaining new.remaining piece → rest ≡ (fed unread piece).unread
    → TakesEnd node middle (fed unread piece).messages link last between.contents new.contents → IfCopy came (λ found. IsLinkWith found link rest) → Brings node came first old last new
Brings-copied node brought.Closed first middle last old between new unread rest piece link so_far consumed is takes held = absurd held
Brings-copied node (brought.Copy found) first middle last old between new unread rest piece link so_far consumed is takes held =
    HasCopied-piece node first middle last old between new unread rest piece link found so_far consumed is takes held

-- ---- stops

same_stop : {x y : Refusal} → Stops x ≡ Stops y → x ≡ y
same_stop is = cc

-- a refusal that stops a node
pub stops_by : (refusal why : Refusal) → ends_by refusal ≡ Stops why → (why ≡ Fault) ⊎ (why ≡ Exhausted)
stops_by Fault why is = inl (sym (same_stop is))
stops_by BadMagic why is = absurd cc
stops_by BadVersion why is = absurd cc
stops_by WrongSize why is = absurd cc
stops_by Full why is = absurd cc
stops_by Exhausted why is = inr (sym (same_stop is))
stops_by Damaged why is = absurd cc
stops_by SeatsFull why is = absurd cc
stops_by PipeFull why is = absurd cc
stops_by FrameFault why is = absurd cc
stops_by WrongEpoch why is = absurd cc
stops_by PositionGap why is = absurd cc
stops_by StandbyAhead why is = absurd cc
stops_by Memory why is = absurd cc
stops_by NotFenced why is = absurd cc
stops_by WrongRole why is = absurd cc
stops_by NotCopied why is = absurd cc
stops_by WrongPair why is = absurd cc
stops_by WrongLink why is = absurd cc

-- a newcomer that a link stopped
pub IsGathered-stopped : (own : Greeting) (found : Gathered) (end : LinkError) (has : Type 0) → ((refusal : Refusal) → end ≡ Stops refusal → IsStop refusal) → IsStoppedBy found end
    → IsGathered own found has
IsGathered-stopped own (gathered.Copy link) end has cause is = absurd is
IsGathered-stopped own (gathered.Stopped refusal) end has cause is = cause refusal is

-- a newcomer that has its copy
pub IsGathered-copy : (own : Greeting) (found : Gathered) (link : CopyLink) (has : Type 0) → found ≡ gathered.Copy link → IsGathered own found has → IsAdopted own link.number
IsGathered-copy own found link has is told =
    let whole : has × IsAdopted own link.number = subst (λ (one : Gathered). IsGathered own one has) is told in
    whole.1
