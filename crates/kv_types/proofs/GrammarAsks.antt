-- The items that the reader computes are those that the grammar asks for.
use Rattle.std.proofs.Common.{◌≡◌, ℕ, zero, suc, ◌≤◌, inl, inr, ◌≢◌, List, [], ◌∷◌, ◌++◌, length, Result, Ok, Err, refl, ap, sym, ◌∙◌, arith}
use Rattle.std.proofs.lemmas.List.{append_assoc, append-nil}
use Rattle.std.specs.List.{flat_map}
use Rattle.kv_types.specs.declared.limits.Limits.{Limits}
use Rattle.kv_types.specs.declared.item.ProtocolFault.{ProtocolFault}
use Rattle.kv_types.specs.declared.item.Item.{Item}
use Rattle.kv_types.specs.declared.item.Item.TheVariants.{Fault}
use Rattle.kv_types.specs.Word.{IsWithin}
use Rattle.kv_types.specs.Request.{spelling, Begins, FaultsWith, item_of, EndsWith, AsksFor}
use Rattle.kv_types.specs.declared.stop.Stop.{Stop}
use Rattle.kv_types.specs.declared.stop.Stop.TheVariants.{Short, Broken}
use Rattle.kv_types.specs.Reader.{Read}
use Rattle.kv_types.specs.Reading.{request_at, items_from, items_at}
use Rattle.kv_types.proofs.GrammarGrows.{request_at-more}
use Rattle.kv_types.proofs.GrammarRests.{length-IsEndOf, Leaves, rest_of, request_at-leaves}
use Rattle.kv_types.proofs.GrammarItems.{items_at-step}
use Rattle.kv_types.proofs.GrammarRequests.{HasNumbers, request_at-again, request_at-takes, request_at-short, request_at-breaks}

pub Begins-short : (limits : Limits) (bytes : List ℕ) → HasNumbers limits → request_at limits bytes ≡ Err Short → Begins limits bytes
Begins-short limits bytes numbers e =
    let b = request_at-short limits bytes numbers e in
    record { rest = b.2.byte ∷ b.2.rest; words = b.0; spells = record { within = b.1; whole = b.2.joined } }

-- what breaks the reader begins no spelling
pub not_begun : (limits : Limits) (bytes : List ℕ) (fault : ProtocolFault) → HasNumbers limits → request_at limits bytes ≡ Err (Broken fault) → ¬ Begins limits bytes
not_begun limits bytes fault numbers e b =
    let broken : request_at limits (bytes ++ b.rest) ≡ Err (Broken fault) = rw e at (request_at-more b.rest limits bytes) in
    let whole : request_at limits (bytes ++ b.rest) ≡ Ok (b.words, []) = ap (request_at limits) (b.spells.whole ∙ sym (append-nil (spelling b.words)))
    ∙ request_at-again limits b.words [] numbers b.spells.within in
    cc

FaultsWith-broken : (limits : Limits) (bytes : List ℕ) (fault : ProtocolFault) → HasNumbers limits → request_at limits bytes ≡ Err (Broken fault) → FaultsWith limits bytes fault
FaultsWith-broken limits bytes fault numbers e =
    let b = request_at-breaks limits bytes fault numbers e in
    record {
      prefix = b.0;
      byte = b.1;
      rest = b.2;
      split = b.4;
      begins = Begins-short limits b.0 numbers b.5;
      breaks = not_begun limits (b.0 ++ b.1 ∷ []) fault numbers b.6;
      says = b.3;
    }

asks_none : (limits : Limits) (text : List ℕ) (stop : Stop ProtocolFault) (ending : List Item) → HasNumbers limits → request_at limits text ≡ Err stop → EndsWith limits text ending → AsksFor limits text ending
asks_none limits text stop ending numbers e ends =
    let none : (words : List (List ℕ)) (more : List ℕ) → IsWithin limits words → text ≢ spelling words ++ more = λ words more within same.
    let whole : request_at limits text ≡ Ok (words, more) = ap (request_at limits) same ∙ request_at-again limits words more numbers within in cc in
    record { requests = []; rest = text; ending = ending; within = tt; split = refl; longest = none; ends = ends; all = refl }

asks_from : (limits : Limits) (byte : ℕ) (bytes : List ℕ) (most : ℕ) → HasNumbers limits → length bytes ≤ most → ((rest : List ℕ) → length rest ≤ most → AsksFor limits rest (items_at limits rest)) → (r : Result (Read (List (List ℕ))) (Stop ProtocolFault)) → request_at limits (byte ∷ bytes) ≡ r → Leaves rest_of bytes r → AsksFor limits (byte ∷ bytes) (items_from (items_at limits) r)
asks_from limits byte bytes most numbers fits each (Ok request) e end =
    let found = request_at-takes limits (byte ∷ bytes) request.0 request.1 numbers e in
    let a = each request.1 (omega (arith, length-IsEndOf end)) in
    record {
      requests = request.0 ∷ a.requests;
      rest = a.rest;
      ending = a.ending;
      within = (found.0, a.within);
      split = found.1 ∙ ap (λ x. spelling request.0 ++ x) a.split ∙ sym (append_assoc (spelling request.0) (flat_map spelling a.requests) a.rest);
      longest = a.longest;
      ends = a.ends;
      all = ap (λ x. item_of request.0 ++ x) a.all ∙ sym (append_assoc (item_of request.0) (flat_map item_of a.requests) a.ending);
    }
asks_from limits byte bytes most numbers fits each (Err Short) e end =
    asks_none limits (byte ∷ bytes) Short [] numbers e (inl (Begins-short limits (byte ∷ bytes) numbers e, refl))
asks_from limits byte bytes most numbers fits each (Err (Broken fault)) e end =
    asks_none limits (byte ∷ bytes) (Broken fault) (Fault fault ∷ []) numbers e (inr (fault, FaultsWith-broken limits (byte ∷ bytes) fault numbers e, refl))

asks_nothing : (limits : Limits) → HasNumbers limits → AsksFor limits [] (items_at limits [])
asks_nothing limits numbers = rw (items_at-step limits []) (asks_none limits [] Short [] numbers refl (inl (Begins-short limits [] numbers refl, refl)))

asks_within : (limits : Limits) (most : ℕ) → HasNumbers limits → (text : List ℕ) → length text ≤ most → AsksFor limits text (items_at limits text)
asks_within limits most numbers [] h = asks_nothing limits numbers
asks_within limits zero numbers (byte ∷ bytes) h = absurd (omega arith)
asks_within limits (suc most) numbers (byte ∷ bytes) h =
    rw (items_at-step limits (byte ∷ bytes)) (asks_from limits byte bytes most numbers (omega arith) (asks_within limits most numbers) (request_at limits (byte ∷ bytes)) refl (request_at-leaves limits byte bytes))

-- What is computed is asked for.
pub AsksFor-items_at : (limits : Limits) (text : List ℕ) → HasNumbers limits → AsksFor limits text (items_at limits text)
AsksFor-items_at limits text numbers = asks_within limits (length text) numbers text (omega arith)
