-- The text of an array, by the list of its replies.
use Rattle.std.proofs.Common.{◌≡◌, List, ◌∷◌, ◌++◌, length, flat_map, refl, suc, ap, ap₂, ◌∙◌, one-add}
use mathlib.Core.Former.{Count}
use Rattle.kv_types.specs.declared.reply.Reply.{Reply, Array, Array', Row_of-Reply, end_of-Reply, more_of-Reply, items-the_row-Reply, items_hidden-the_row-Reply-0}
use Rattle.kv_types.specs.Reply.{row_length, text_of, texts_of}
use Rattle.kv_types.specs.Request.{number_line}

abbrev row_of : Reply → (n : Count) × Row_of-Reply n
row_of (Array' _ row) = (_, row)
row_of _ = (_, end_of-Reply)

row_length-items : (n : _) (row : Row_of-Reply n) → row_length row ≡ length (items-the_row-Reply n row)
row_length-items n end_of-Reply = refl
row_length-items n (more_of-Reply reply rest) = one-add (row_length rest) ∙ ap suc (row_length-items _ rest)

texts_of-items : (n : _) (row : Row_of-Reply n) → texts_of row ≡ flat_map text_of (items-the_row-Reply n row)
texts_of-items n end_of-Reply = refl
texts_of-items n (more_of-Reply reply rest) = ap (λ texts. text_of reply ++ texts) (texts_of-items _ rest)

-- '*', the number of the replies, and their texts
pub text_of-Array : (replies : List Reply) → text_of (Array replies) ≡ 42 ∷ number_line (length replies) ++ flat_map text_of replies
text_of-Array replies =
    let row = row_of (Array replies) in
    let same = items_hidden-the_row-Reply-0 replies in
    ap₂ (λ n texts. 42 ∷ number_line n ++ texts) (row_length-items row.0 row.1 ∙ ap length same) (texts_of-items row.0 row.1 ∙ ap (flat_map text_of) same)
