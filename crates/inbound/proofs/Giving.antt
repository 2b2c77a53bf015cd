-- What an inbound gives of its bytes, item by item and piece by piece.
use Rattle.std.proofs.Common.{◌≡◌, ℕ, ◌<◌, ◌++◌, ◌||◌, Bool, true, false, cond, List, [], ◌∷◌, length, Option, Some, None, refl, sym, ap, ◌∙◌, append_assoc, append-nil, arith}
use Rattle.std.proofs.lemmas.List.{append_cancel_left}
use Rattle.std.proofs.lemmas.List.Folds.{list_any-append}
use Rattle.std.specs.Prelude.{option_to_list}
use Rattle.std.specs.List.{list_any}
use Rattle.kv_types.specs.declared.item.Item.{Item}
use Rattle.kv_types.specs.declared.limits.Limits.{Limits}
use Rattle.kv_types.specs.declared.limits.TheConstants.{REQUEST_LIMITS}
use Rattle.kv_types.specs.Reading.{items_at}
use Rattle.model.specs.Call.{up_to_closing}
use Rattle.model.specs.Command.{closes}
use Rattle.resp_codec.specs.Parsing.{fed, ahead}
use Rattle.inbound.specs.declared.inbound.Inbound.{Inbound}
use Rattle.inbound.specs.ToCome.{with_piece, to_come, asked_for, Advances, GivesAll, HasGiven}

-- ---- pieces

pub with-nothing : (inbound : Inbound) → to_come (with_piece inbound []) ≡ to_come inbound
with-nothing inbound = by inbound.is_closed inbound.parser
  where
    ahead-now : (parser : Option (List ℕ)) → ahead (fed parser []) ≡ ahead parser
    ahead-now None = refl
    ahead-now (Some unread) = ap (items_at REQUEST_LIMITS) (append-nil unread)

    by : (closed : Bool) (parser : Option (List ℕ)) → (let it : Inbound = record { parser = parser; is_closed = closed } in to_come (with_piece it []) ≡ to_come it)
    by true parser = refl
    by false parser = ap up_to_closing (ahead-now parser)

pub with-joined : (inbound : Inbound) (piece more : List ℕ) → with_piece inbound (piece ++ more) ≡ with_piece (with_piece inbound piece) more
with-joined inbound piece more = by inbound.is_closed inbound.parser
  where
    fed-joined : (parser : Option (List ℕ)) → fed parser (piece ++ more) ≡ fed (fed parser piece) more
    fed-joined None = refl
    fed-joined (Some unread) = ap Some (sym (append_assoc unread piece more))

    by : (closed : Bool) (parser : Option (List ℕ)) → (let it : Inbound = record { parser = parser; is_closed = closed } in with_piece it (piece ++ more) ≡ with_piece (with_piece it piece) more)
    by true parser = refl
    by false parser = ap (λ (p : Option (List ℕ)). the-open p) (fed-joined parser)
      where
        the-open : Option (List ℕ) → Inbound
        the-open p = record { parser = p; is_closed = false }

pub closed-with : (inbound : Inbound) (piece : List ℕ) → (with_piece inbound piece).is_closed ≡ inbound.is_closed
closed-with inbound piece = by inbound.is_closed inbound.parser
  where
    by : (closed : Bool) (parser : Option (List ℕ)) → (let it : Inbound = record { parser = parser; is_closed = closed } in (with_piece it piece).is_closed ≡ closed)
    by true parser = refl
    by false parser = refl

-- ---- one item

pub gives-now : (old new : Inbound) (item : Option Item) → Advances old item new → to_come old ≡ option_to_list item ++ to_come new
gives-now old new item gives = sym (with-nothing old) ∙ gives [] ∙ ap (λ items. option_to_list item ++ items) (with-nothing new)

-- ---- one item after another

-- What was given so far followed by what is to come is what was to come at first, whatever comes later.
pub record GivenSoFar (before now : List Item) (old new : Inbound) : Type 0 where
  pub later : (more : List ℕ) → now ++ to_come (with_piece new more) ≡ before ++ to_come (with_piece old more)
  pub closing : (new.is_closed || list_any closes (to_come new)) ≡ (old.is_closed || list_any closes (to_come old))

pub one-more : (before now now' : List Item) (old new new' : Inbound) (item : Item) → GivenSoFar before now old new → Advances new (Some item) new' → new'.is_closed ≡ (new.is_closed || list_any closes (item ∷ []))
    → now' ≡ now ++ item ∷ [] → GivenSoFar before now' old new'
one-more before now now' old new new' item given gives closed more = record {
  later = λ bytes. ap (λ xs. xs ++ to_come (with_piece new' bytes)) more ∙ append_assoc now (item ∷ []) (to_come (with_piece new' bytes)) ∙ ap (λ xs. now ++ xs) (sym (gives bytes)) ∙ given.later bytes;
  closing = ap (λ (b : Bool). b || list_any closes (to_come new')) closed ∙ either new.is_closed (closes item) (list_any closes (to_come new'))
      ∙ ap (λ items. new.is_closed || list_any closes items) (sym (gives-now new new' (Some item) gives)) ∙ given.closing;
}
  where
    either : (a b c : Bool) → ((a || (b || false)) || c) ≡ (a || (b || c))
    either true b c = refl
    either false true c = refl
    either false false c = refl

pub fewer : (old new : Inbound) (item : Item) → Advances old (Some item) new → length (to_come new) < length (to_come old)
fewer old new item gives = omega (arith, ap length (gives-now old new (Some item) gives))

-- nothing more is to come
pub no-more : (before now : List Item) (old new new' : Inbound) → GivenSoFar before now old new → Advances new None new' → new'.is_closed ≡ (new.is_closed || false) → to_come new' ≡ [] → GivesAll before now old new'
no-more before now old new new' given gives closed none =
    let ended : to_come new ≡ [] = gives-now new new' None gives ∙ none in
    let all : now ≡ before ++ to_come old =
    sym (append-nil now) ∙ ap (λ xs. now ++ xs) (sym (with-nothing new ∙ ended)) ∙ given.later [] ∙ ap (λ xs. before ++ xs) (with-nothing old) in
    record {
      all = all;
      later = λ more.
          append_cancel_left before (to_come (with_piece old more)) (to_come old ++ to_come (with_piece new' more))
          (sym (given.later more) ∙ ap (λ xs. now ++ xs) (gives more) ∙ ap (λ xs. xs ++ to_come (with_piece new' more)) all ∙ append_assoc before (to_come old) (to_come (with_piece new' more)));
      closed = closed ∙ ap (λ items. new.is_closed || list_any closes items) (sym ended) ∙ given.closing;
    }

-- ---- one piece after another

items_at-nothing : (limits : Limits) → items_at limits [] ≡ []
unfolding items_at
items_at-nothing limits = refl

pub asked-nothing : asked_for [] ≡ []
asked-nothing = ap up_to_closing (items_at-nothing REQUEST_LIMITS)

pub closes-nothing : list_any closes (items_at REQUEST_LIMITS []) ≡ false
closes-nothing = ap (list_any closes) (items_at-nothing REQUEST_LIMITS)

pub given-nothing : (inbound : Inbound) → inbound.parser ≡ Some [] → inbound.is_closed ≡ false → HasGiven [] inbound
given-nothing inbound unread is_open = λ more.
    sym (ap (λ items. items ++ to_come (with_piece inbound more)) asked-nothing ∙ by more inbound.is_closed inbound.parser is_open unread)
  where
    by : (more : List ℕ) (closed : Bool) (parser : Option (List ℕ)) → closed ≡ false → parser ≡ Some [] → to_come (with_piece (record { parser = parser; is_closed = closed }) more) ≡ asked_for more
    by more true parser c p = cc
    by more false parser c p = ap (λ q. up_to_closing (ahead (fed q more))) p

-- one more was fed, and all that it asks for was given
pub given-piece : (before after : List Item) (bytes piece : List ℕ) (old new : Inbound) → HasGiven bytes old → GivesAll before after (with_piece old piece) new → HasGiven (bytes ++ piece) new
given-piece before after bytes piece old new given gives = λ more.
    let added = to_come (with_piece old piece) in
    ap asked_for (append_assoc bytes piece more) ∙ given (piece ++ more)
    ∙ ap (λ inbound. asked_for bytes ++ to_come inbound) (with-joined old piece more)
    ∙ ap (λ xs. asked_for bytes ++ xs) (gives.later more) ∙ sym (append_assoc (asked_for bytes) added (to_come (with_piece new more)))
    ∙ ap (λ xs. xs ++ to_come (with_piece new more)) (sym (given piece))

-- ---- what closes the connection

-- one of the items does exactly where one of those up to it does
any-asked : (items : List Item) → list_any closes (up_to_closing items) ≡ list_any closes items
any-asked [] = refl
any-asked (item ∷ items) =
    let rest = any-asked items in
    elim (closes item) as (λ b. (is : closes item ≡ b) → list_any closes (cond b (item ∷ []) (item ∷ up_to_closing items)) ≡ (b || list_any closes items)) [
      | true ↦ λ is. ap (λ (b : Bool). b || false) is
      | false ↦ λ is. ap (λ (b : Bool). b || list_any closes (up_to_closing items)) is ∙ rest
    ] refl

-- whether the bytes close the connection, and one more piece
pub closed-by : (before after : List Item) (bytes piece : List ℕ) (old new : Inbound) → HasGiven bytes old → old.is_closed ≡ list_any closes (items_at REQUEST_LIMITS bytes) → GivesAll before after (with_piece old piece) new
    → new.is_closed ≡ list_any closes (items_at REQUEST_LIMITS (bytes ++ piece))
closed-by before after bytes piece old new given closed gives =
    let added = to_come (with_piece old piece) in
    gives.closed ∙ ap (λ (b : Bool). b || list_any closes added) (closed-with old piece ∙ closed ∙ sym (any-asked (items_at REQUEST_LIMITS bytes)))
    ∙ sym (ap (list_any closes) (given piece) ∙ list_any-append closes (asked_for bytes) added)
    ∙ any-asked (items_at REQUEST_LIMITS (bytes ++ piece))
