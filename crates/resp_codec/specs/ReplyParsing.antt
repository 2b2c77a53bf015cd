-- What a parser of replies has yet to give. A clause sees it as the bytes that were fed and not yet given as items, or as `None` once a
-- fault was given.
use Rattle.std.specs.Prelude.{◌≡◌, ℕ, List, [], ◌++◌, Option, None, Some, option_to_list}
use Rattle.resp_codec.specs.declared.reply_item.ReplyItem.{ReplyItem}
use Rattle.resp_codec.specs.declared.reply_limits.TheConstants.{REPLY_LIMITS}
use Rattle.resp_codec.specs.Parsing.{fed}
use Rattle.resp_codec.specs.ReplyReading.{replies_at}

-- the items still to be given, if no more bytes come
abbrev pub replies_ahead : Option (List ℕ) → List ReplyItem
replies_ahead None = []
replies_ahead (Some unread) = replies_at REPLY_LIMITS unread

-- An item, or none, was given: whatever comes later, it is the first of those that were ahead, and the others are still ahead.
abbrev pub AdvancesReplies : Option (List ℕ) → Option ReplyItem → Option (List ℕ) → Type 0
AdvancesReplies old item new = (more : List ℕ) → replies_ahead (fed old more) ≡ option_to_list item ++ replies_ahead (fed new more)

-- What any sequence of calls reaches: all the bytes fed, all the items given, and the parser's value.
pub data ReachesReplies : List ℕ → List ReplyItem → Option (List ℕ) → Type 0 where
  begun : ReachesReplies [] [] (Some [])
  took : {text : List ℕ} {given : List ReplyItem} {held : Option (List ℕ)} → ReachesReplies text given held → (piece : List ℕ) → ReachesReplies (text ++ piece) given (fed held piece)
  gave : {text : List ℕ} {given : List ReplyItem} {old new : Option (List ℕ)} → ReachesReplies text given old → (item : Option ReplyItem) → AdvancesReplies old item new → ReachesReplies text (given ++ option_to_list item) new
