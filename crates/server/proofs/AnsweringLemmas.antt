-- Requests and their replies, taken one after another.
use Rattle.std.proofs.Common.{◌≡◌, ℕ, ◌<◌, ◌++◌, Bool, true, false, cond, List, [], ◌∷◌, length, Option, Some, None, sym, ap, subst, ◌∙◌, append-nil, arith, refl}
use Rattle.std.specs.Prelude.{option_to_list}
use Rattle.kv_types.specs.declared.item.Item.{Item}
use Rattle.kv_types.specs.declared.limits.TheConstants.{REQUEST_LIMITS}
use Rattle.kv_types.specs.declared.reply.Reply as reply
use Rattle.kv_types.specs.Reading.{items_at}
use Rattle.model.specs.Call.{up_to_closing}
use Rattle.model.specs.Command.{closes}
use Rattle.resp_codec.specs.declared.reply_item.ReplyItem.{ReplyItem}
use Rattle.resp_codec.specs.declared.reply_item.ReplyItem.TheVariants.{Reply}
use Rattle.resp_codec.specs.declared.reply_limits.TheConstants.{REPLY_LIMITS}
use Rattle.resp_codec.specs.Parsing.{Advances, fed, ahead}
use Rattle.resp_codec.specs.ReplyParsing.{AdvancesReplies, replies_ahead}
use Rattle.resp_codec.specs.ReplyReading.{replies_at}
use Rattle.server.specs.Served.{EachHasReply, asked_by, replies_in}

ahead-now : (parser : Option (List ℕ)) → ahead (fed parser []) ≡ ahead parser
ahead-now None = refl
ahead-now (Some unread) = ap (items_at REQUEST_LIMITS) (append-nil unread)

replies-now : (parser : Option (List ℕ)) → replies_ahead (fed parser []) ≡ replies_ahead parser
replies-now None = refl
replies-now (Some unread) = ap (replies_at REPLY_LIMITS) (append-nil unread)

-- the item that is given was ahead
pub gives : (old new : Option (List ℕ)) (item : Option Item) → Advances old item new → ahead old ≡ option_to_list item ++ ahead new
gives old new item moves = sym (ahead-now old) ∙ moves [] ∙ ap (λ items. option_to_list item ++ items) (ahead-now new)

pub gives-reply : (old new : Option (List ℕ)) (item : Option ReplyItem) → AdvancesReplies old item new → replies_ahead old ≡ option_to_list item ++ replies_ahead new
gives-reply old new item moves = sym (replies-now old) ∙ moves [] ∙ ap (λ items. option_to_list item ++ items) (replies-now new)

pub fewer : (old new : List Item) (item : Item) → old ≡ item ∷ new → length new < length old
fewer old new item given = omega (arith, ap length given)

-- an item and its reply are taken, and others are asked for
pub step-open : (asking asking' : List Item) (answering answering' : List ReplyItem) (item : Item) (text : reply.Reply) → asking ≡ item ∷ asking' → answering ≡ Reply text ∷ answering' → closes item ≡ false
    → EachHasReply (up_to_closing asking') answering' → EachHasReply (up_to_closing asking) answering
step-open asking asking' answering answering' item text given answered stays rest =
    let items : up_to_closing asking ≡ item ∷ up_to_closing asking' = ap up_to_closing given ∙ ap (λ (last : Bool). cond last (item ∷ []) (item ∷ up_to_closing asking')) stays in
    subst (λ items. EachHasReply items answering) (sym items) (subst (λ replies. EachHasReply (item ∷ up_to_closing asking') replies) (sym answered) rest)

-- the last item and its reply are taken
pub step-last : (asking asking' : List Item) (answering answering' : List ReplyItem) (item : Item) (text : reply.Reply) → asking ≡ item ∷ asking' → answering ≡ Reply text ∷ answering' → closes item ≡ true
    → EachHasReply (up_to_closing asking) answering
step-last asking asking' answering answering' item text given answered last =
    let items : up_to_closing asking ≡ item ∷ [] = ap up_to_closing given ∙ ap (λ (last : Bool). cond last (item ∷ []) (item ∷ up_to_closing asking')) last in
    subst (λ items. EachHasReply items answering) (sym items) (subst (λ replies. EachHasReply (item ∷ []) replies) (sym answered) tt)

-- nothing is asked for
pub step-none : (asking : List Item) (answering : List ReplyItem) → asking ≡ [] → EachHasReply (up_to_closing asking) answering
step-none asking answering none = subst (λ items. EachHasReply (up_to_closing items) answering) (sym none) tt

-- parsers that were fed all bytes
pub all-fed : (asking asking' answering answering' : Option (List ℕ)) (input replies : List ℕ) → asking ≡ Some [] → asking' ≡ fed asking input → answering ≡ Some [] → answering' ≡ fed answering replies
    → EachHasReply (up_to_closing (ahead asking')) (replies_ahead answering') → EachHasReply (asked_by input) (replies_in replies)
all-fed asking asking' answering answering' input replies none fed_all none' fed_all' each =
    subst (λ (bytes : Option (List ℕ)). EachHasReply (up_to_closing (ahead bytes)) (replies_in replies)) (fed_all ∙ ap (λ (bytes : Option (List ℕ)). fed bytes input) none)
    (subst (λ (bytes : Option (List ℕ)). EachHasReply (up_to_closing (ahead asking')) (replies_ahead bytes)) (fed_all' ∙ ap (λ (bytes : Option (List ℕ)). fed bytes replies) none') each)
