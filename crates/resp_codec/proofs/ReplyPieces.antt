-- What a parser of replies gave over all its calls, compared with the replies of the bytes fed.
use Rattle.std.proofs.Common.{◌≡◌, ℕ, List, [], ◌++◌, Option, refl, ap, sym, ◌∙◌}
use Rattle.std.proofs.lemmas.List.{append_assoc, append-nil}
use Rattle.std.specs.Prelude.{option_to_list}
use Rattle.resp_codec.specs.declared.reply_item.ReplyItem.{ReplyItem}
use Rattle.resp_codec.specs.declared.reply_limits.TheConstants.{REPLY_LIMITS}
use Rattle.resp_codec.specs.Parsing.{fed}
use Rattle.resp_codec.specs.ReplyParsing.{replies_ahead, ReachesReplies, begun, took, gave}
use Rattle.resp_codec.specs.ReplyReading.{replies_at}
use Rattle.resp_codec.proofs.Pieces.{fed-fed, fed-nothing}

-- the items of all the bytes, whatever comes later, are those given and those ahead
replies_at-Reaches : {text : List ℕ} {given : List ReplyItem} {held : Option (List ℕ)} → ReachesReplies text given held → (more : List ℕ) → replies_at REPLY_LIMITS (text ++ more) ≡ given ++ replies_ahead (fed held more)
replies_at-Reaches begun more = refl
replies_at-Reaches (took {text} {given} {held} r piece) more =
    ap (replies_at REPLY_LIMITS) (append_assoc text piece more) ∙ replies_at-Reaches r (piece ++ more) ∙ ap (λ h. given ++ replies_ahead h) (sym (fed-fed held piece more))
replies_at-Reaches (gave {text} {given} {old} {new} r item advances) more =
    replies_at-Reaches r more ∙ ap (λ items. given ++ items) (advances more) ∙ sym (append_assoc given (option_to_list item) (replies_ahead (fed new more)))

pub given-Reaches : {text : List ℕ} {given : List ReplyItem} {held : Option (List ℕ)} → ReachesReplies text given held → replies_at REPLY_LIMITS text ≡ given ++ replies_ahead held
given-Reaches {text} {given} {held} r =
    ap (replies_at REPLY_LIMITS) (sym (append-nil text)) ∙ replies_at-Reaches r [] ∙ ap (λ h. given ++ replies_ahead h) (fed-nothing held)
