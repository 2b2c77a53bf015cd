-- The items of a text: by its first request, and when more bytes come.
use Rattle.std.proofs.Common.{◌≡◌, ℕ, zero, suc, ◌<◌, ◌≤◌, List, [], ◌∷◌, ◌++◌, length, slice_index_or, Contains, Option, Some, None, Result, Ok, Err, refl, ap, sym, ◌∙◌, arith}
use Rattle.std.proofs.lemmas.List.{append_assoc, append-nil, length_push, get_or_push}
use Rattle.kv_types.specs.declared.limits.Limits.{Limits}
use Rattle.kv_types.specs.declared.item.ProtocolFault.{ProtocolFault}
use Rattle.kv_types.specs.declared.item.Item.{Item}
use Rattle.kv_types.specs.declared.item.Item.TheVariants.{Request, Fault}
use Rattle.kv_types.specs.Request.{item_of}
use Rattle.kv_types.specs.declared.stop.Stop.{Stop}
use Rattle.kv_types.specs.declared.stop.Stop.TheVariants.{Short, Broken}
use Rattle.kv_types.specs.Reader.{Read}
use Rattle.kv_types.specs.Reading.{request_at, items_from, items_within, items_at}
use Rattle.kv_types.proofs.GrammarGrows.{request_at-more}
use Rattle.kv_types.proofs.GrammarRests.{IsEndOf, IsEndOf-self, IsEndOf-tail, IsEndOf-trans, length-IsEndOf, Leaves, rest_of, request_at-leaves}

items_from-same : (whole : List ℕ) (f g : List ℕ → List Item) → ((bytes : List ℕ) → IsEndOf whole bytes → f bytes ≡ g bytes) → (r : Result (Read (List (List ℕ))) (Stop ProtocolFault)) → Leaves rest_of whole r → items_from f r ≡ items_from g r
items_from-same whole f g same (Ok request) h = ap (λ items. item_of request.0 ++ items) (same request.1 h)
items_from-same whole f g same (Err Short) h = refl
items_from-same whole f g same (Err (Broken fault)) h = refl

-- any count of at least the number of bytes gives the same items
items_within-same : (k m : ℕ) (limits : Limits) (bytes : List ℕ) → length bytes ≤ k → length bytes ≤ m → items_within k limits bytes ≡ items_within m limits bytes
items_within-same zero zero limits bytes h j = refl
items_within-same zero (suc m) limits [] h j = refl
items_within-same zero (suc m) limits (byte ∷ bytes) h j = absurd (omega arith)
items_within-same (suc k) zero limits [] h j = refl
items_within-same (suc k) zero limits (byte ∷ bytes) h j = absurd (omega arith)
items_within-same (suc k) (suc m) limits [] h j = refl
items_within-same (suc k) (suc m) limits (byte ∷ bytes) h j =
    items_from-same bytes (items_within k limits) (items_within m limits)
    (λ rest end. items_within-same k m limits rest (omega (arith, length-IsEndOf end)) (omega (arith, length-IsEndOf end)))
    (request_at limits (byte ∷ bytes)) (request_at-leaves limits byte bytes)

-- the items of a text, from what its first request reads as
pub items_at-step : (limits : Limits) (bytes : List ℕ) → items_at limits bytes ≡ items_from (items_at limits) (request_at limits bytes)
unfolding items_at
items_at-step limits [] = refl
items_at-step limits (byte ∷ bytes) =
    items_from-same bytes (items_within (length bytes) limits) (items_at limits)
    (λ rest end. items_within-same (length bytes) (length rest) limits rest (length-IsEndOf end) (omega arith))
    (request_at limits (byte ∷ bytes)) (request_at-leaves limits byte bytes)

-- What more bytes do to the items, by what the first request reads as: it is whole, the bytes are too short for it, or they are broken.
pub items_at-read : (limits : Limits) (text more : List ℕ) (words : List (List ℕ)) (rest : List ℕ) → request_at limits text ≡ Ok (words, rest) → items_at limits (text ++ more) ≡ item_of words ++ items_at limits (rest ++ more)
items_at-read limits text more words rest e =
    items_at-step limits (text ++ more) ∙ ap (items_from (items_at limits)) (rw e at (request_at-more more limits text))

pub items_at-short : (limits : Limits) (text : List ℕ) → request_at limits text ≡ Err Short → items_at limits text ≡ []
items_at-short limits text e = items_at-step limits text ∙ ap (items_from (items_at limits)) e

pub items_at-broken : (limits : Limits) (text more : List ℕ) (fault : ProtocolFault) → request_at limits text ≡ Err (Broken fault) → items_at limits (text ++ more) ≡ Fault fault ∷ []
items_at-broken limits text more fault e =
    items_at-step limits (text ++ more) ∙ ap (items_from (items_at limits)) (rw e at (request_at-more more limits text))

-- ---- what is left of a text once its items are taken

-- the bytes after the last whole request, or `None` where the text is broken there
abbrev pub unread_from : (List ℕ → Option (List ℕ)) → List ℕ → Result (Read (List (List ℕ))) (Stop ProtocolFault) → Option (List ℕ)
unread_from following bytes (Ok request) = following request.1
unread_from following bytes (Err Short) = Some bytes
unread_from following bytes (Err (Broken fault)) = None

abbrev pub unread_within : ℕ → Limits → List ℕ → Option (List ℕ)
unread_within zero limits bytes = Some bytes
unread_within (suc most) limits bytes = unread_from (unread_within most limits) bytes (request_at limits bytes)

unfoldable pub unread_at : Limits → List ℕ → Option (List ℕ)
unread_at limits bytes = unread_within (length bytes) limits bytes

-- the items of what was left, when more bytes come after it
abbrev pub later_items : Limits → Option (List ℕ) → List ℕ → List Item
later_items limits None more = []
later_items limits (Some unread) more = items_at limits (unread ++ more)

-- the last item is a fault
record EndsInFault (items : List Item) : Type 0 where
  before : List Item
  fault : ProtocolFault
  last : items ≡ before ++ Fault fault ∷ []

-- where nothing is left the last item is a fault; else an end of the text is left that holds no whole request, and no item is a fault
abbrev Left : Limits → List ℕ → List Item → Option (List ℕ) → Type 0
Left limits text items None = EndsInFault items
Left limits text items (Some unread) = IsEndOf text unread × (items_at limits unread ≡ []) × ((fault : ProtocolFault) → ¬ Contains items (Fault fault))

-- what more bytes add to the items, and what is left
record Splits (limits : Limits) (text : List ℕ) (items : List Item) (unread : Option (List ℕ)) : Type 0 where
  append : (more : List ℕ) → items_at limits (text ++ more) ≡ items ++ later_items limits unread more
  left : Left limits text items unread

contains_behind : (words : List (List ℕ)) (items : List Item) (fault : ProtocolFault) (k : ℕ) → k < suc (length items) → slice_index_or (Request words ∷ items) k (Fault fault) ≡ Fault fault → Contains items (Fault fault)
contains_behind words items fault zero h e = absurd (cc)
contains_behind words items fault (suc k) h e = (k, omega arith, e)

-- a request is no fault
Contains-item_of : (words : List (List ℕ)) (items : List Item) (fault : ProtocolFault) → Contains (item_of words ++ items) (Fault fault) → Contains items (Fault fault)
Contains-item_of [] items fault h = h
Contains-item_of (name ∷ words) items fault h = contains_behind (name ∷ words) items fault h.0 h.1 h.2

-- after a request, and at a count of requests, by what the first request reads as
left_behind : (limits : Limits) (text rest : List ℕ) (words : List (List ℕ)) (items : List Item) (unread : Option (List ℕ)) → IsEndOf text rest → Left limits rest items unread
    → Left limits text (item_of words ++ items) unread
left_behind limits text rest words items None end s =
    record { before = item_of words ++ s.before; fault = s.fault; last = ap (λ items. item_of words ++ items) s.last ∙ sym (append_assoc (item_of words) s.before (Fault s.fault ∷ [])) }
left_behind limits text rest words items (Some unread) end s = (IsEndOf-trans end s.0, s.1, λ fault h. s.2 fault (Contains-item_of words items fault h))

splits_short : (limits : Limits) (text : List ℕ) → request_at limits text ≡ Err Short → Splits limits text [] (Some text)
splits_short limits text e = record { append = λ more. refl; left = (IsEndOf-self text, items_at-short limits text e, λ fault h. absurd (omega (arith, h.1))) }

splits_from : (limits : Limits) (byte : ℕ) (bytes : List ℕ) (most : ℕ) → length bytes ≤ most
    → ((rest : List ℕ) → length rest ≤ most → Splits limits rest (items_within most limits rest) (unread_within most limits rest)) → (r : Result (Read (List (List ℕ))) (Stop ProtocolFault))
    → request_at limits (byte ∷ bytes) ≡ r → Leaves rest_of bytes r → Splits limits (byte ∷ bytes) (items_from (items_within most limits) r) (unread_from (unread_within most limits) (byte ∷ bytes) r)
splits_from limits byte bytes most fits each (Ok request) e end =
    let words = request.0 in
    let rest = request.1 in
    let s = each rest (omega (arith, length-IsEndOf end)) in
    record {
      append = λ more. items_at-read limits (byte ∷ bytes) more words rest e ∙ ap (λ items. item_of words ++ items) (s.append more) ∙ sym
          (append_assoc (item_of words) (items_within most limits rest) _);
      left = left_behind limits (byte ∷ bytes) rest words _ _ (IsEndOf-trans (IsEndOf-tail (byte ∷ bytes) byte bytes (IsEndOf-self (byte ∷ bytes))) end) s.left;
    }
splits_from limits byte bytes most fits each (Err Short) e end = splits_short limits (byte ∷ bytes) e
splits_from limits byte bytes most fits each (Err (Broken fault)) e end =
    record { append = λ more. items_at-broken limits (byte ∷ bytes) more fault e; left = record { before = []; fault = fault; last = refl } }

splits_within : (limits : Limits) (most : ℕ) (text : List ℕ) → length text ≤ most → Splits limits text (items_within most limits text) (unread_within most limits text)
splits_within limits zero [] h = splits_short limits [] refl
splits_within limits zero (byte ∷ bytes) h = absurd (omega arith)
splits_within limits (suc most) [] h = splits_short limits [] refl
splits_within limits (suc most) (byte ∷ bytes) h =
    splits_from limits byte bytes most (omega arith) (splits_within limits most) (request_at limits (byte ∷ bytes)) refl (request_at-leaves limits byte bytes)

splits_at : (limits : Limits) (text : List ℕ) → Splits limits text (items_at limits text) (unread_at limits text)
unfolding items_at unread_at
splits_at limits text = splits_within limits (length text) text (omega arith)

-- More bytes leave the items unchanged, and add those of the bytes that were left followed by the new bytes.
pub items_at-append : (limits : Limits) (text more : List ℕ) → items_at limits (text ++ more) ≡ items_at limits text ++ later_items limits (unread_at limits text) more
items_at-append limits text more = (splits_at limits text).append more

after_fault_from : (limits : Limits) (text more : List ℕ) (items : List Item) (fault : ProtocolFault) (unread : Option (List ℕ)) → Splits limits text items unread → Contains items (Fault fault)
    → items_at limits (text ++ more) ≡ items
after_fault_from limits text more items fault None s h = s.append more ∙ append-nil items
after_fault_from limits text more items fault (Some unread) s h = absurd (s.left.2 fault h)

-- After a fault more bytes change nothing.
pub items_at-after_fault : (limits : Limits) (text more : List ℕ) (fault : ProtocolFault) → Contains (items_at limits text) (Fault fault) → items_at limits (text ++ more) ≡ items_at limits text
items_at-after_fault limits text more fault h = after_fault_from limits text more (items_at limits text) fault (unread_at limits text) (splits_at limits text) h

-- Without a fault, an end of the text is left that holds no whole request, and the items of more bytes continue from it.
abbrev pub Continues : Limits → List ℕ → Type 0
Continues limits text = (given unread : List ℕ) × (text ≡ given ++ unread) × (items_at limits unread ≡ []) × ((more : List ℕ) → items_at limits (text ++ more) ≡ items_at limits text ++ items_at limits (unread ++ more))

continues_from : (limits : Limits) (text : List ℕ) → ((fault : ProtocolFault) → ¬ Contains (items_at limits text) (Fault fault)) → (unread : Option (List ℕ))
    → Splits limits text (items_at limits text) unread → Continues limits text
continues_from limits text sound None s =
    let broken = s.left in
    absurd (sound broken.fault (rw broken.last (length broken.before, omega (arith, length_push broken.before (Fault broken.fault)), get_or_push broken.before (Fault broken.fault) (Fault broken.fault) (length broken.before) refl)))
continues_from limits text sound (Some unread) s = (s.left.0.prefix, unread, s.left.0.joined, s.left.1, s.append)

pub items_at-continues : (limits : Limits) (text : List ℕ) → ((fault : ProtocolFault) → ¬ Contains (items_at limits text) (Fault fault)) → Continues limits text
items_at-continues limits text sound = continues_from limits text sound (unread_at limits text) (splits_at limits text)
