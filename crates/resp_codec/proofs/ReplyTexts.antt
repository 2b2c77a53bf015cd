-- The text of an array, by its replies as a list.
use Rattle.std.proofs.Common.{◌≡◌, ℕ, ◌+◌, ◌<◌, ◌≤◌, List, ◌∷◌, ◌++◌, length, ap, sym, ◌∙◌, arith}
use Rattle.std.specs.List.{flat_map}
use Rattle.kv_types.specs.declared.reply.Reply.{Reply, Array}
use Rattle.std.proofs.lemmas.List.{append_assoc, length-append}
use Rattle.std.specs.Fmt.{decimal}
use Rattle.kv_types.specs.Request.{line_end, number_line}
use Rattle.kv_types.specs.Reply.{text_of}
use Rattle.kv_types.proofs.ReplyLemmas.{text_of-Array}

-- how long it is: a first byte, the number of replies and its line end, and the replies
pub length-text_of-Array : (replies : List Reply) → length (text_of (Array replies)) ≡ length (decimal (length replies)) + 3 + length (flat_map text_of replies)
length-text_of-Array replies =
    ap length (text_of-Array replies)
    ∙ omega (arith, length-append (42 ∷ number_line (length replies)) (flat_map text_of replies), length-append (decimal (length replies)) line_end)

-- the text of a reply that is known to be an array, with its number of replies as it was counted
pub text_of_counted : (reply : Reply) (replies : List Reply) (n : ℕ) → reply ≡ Array replies → n ≡ length replies → text_of reply ≡ (42 ∷ decimal n ++ line_end) ++ flat_map text_of replies
text_of_counted reply replies n is counted =
    ap text_of is ∙ text_of-Array replies ∙ ap (λ k. (42 ∷ decimal k ++ line_end) ++ flat_map text_of replies) (sym counted)

-- if there is no room for the head of a text, there is none for the text
pub no_room : (room : ℕ) (head texts whole : List ℕ) → whole ≡ head ++ texts → room < length head → room < length whole
no_room room head texts whole e h = omega (arith, ap length e, length-append head texts)

-- once the head is put, the other texts are left
pub head_put : (old new head texts whole : List ℕ) (room left : ℕ) → whole ≡ head ++ texts → (new ≡ old ++ head) × (room ≤ left + length head) → (new ++ texts ≡ old ++ whole) × (room + length texts ≤ left + length whole)
head_put old new head texts whole room left e h =
    (ap (λ x. x ++ texts) h.0 ∙ append_assoc old head texts ∙ ap (λ x. old ++ x) (sym e), omega (arith, h.1, ap length e, length-append head texts))
