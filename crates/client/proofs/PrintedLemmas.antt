-- The lines of an array, by the list of its replies, and the spaces before a line.
use Rattle.std.proofs.Common.{◌≡◌, ℕ, ◌+◌, ◌-◌, ◌<◌, suc, List, ◌∷◌, ◌++◌, length, refl, ap, ap₂, sym, ◌∙◌, codes, append_assoc, one-add, add-one, arith}
use Rattle.std.specs.List.{flat_map}
use Rattle.std.specs.Fmt.{decimal}
use mathlib.Core.Former.{Count}
use Rattle.kv_types.specs.declared.reply.Reply.{Reply, Array, Array', Row_of-Reply, end_of-Reply, more_of-Reply, items-the_row-Reply, items_hidden-the_row-Reply-0}
use Rattle.kv_types.specs.Reply.{row_length}
use Rattle.client.specs.Printed.{all_lines_at, indentation, line, lines_at}

abbrev row_of : Reply → (n : Count) × Row_of-Reply n
row_of (Array' _ row) = (_, row)
row_of _ = (_, end_of-Reply)

row_length-items : (n : _) (row : Row_of-Reply n) → row_length row ≡ length (items-the_row-Reply n row)
row_length-items n end_of-Reply = refl
row_length-items n (more_of-Reply reply rest) = one-add (row_length rest) ∙ ap suc (row_length-items _ rest)

lines-items : (depth : ℕ) (n : _) (row : Row_of-Reply n) → all_lines_at depth row ≡ flat_map (lines_at depth) (items-the_row-Reply n row)
lines-items depth n end_of-Reply = refl
lines-items depth n (more_of-Reply reply rest) = ap (λ lines. lines_at depth reply ++ lines) (lines-items depth _ rest)

-- the line of an array of so many replies
abbrev pub array_line : ℕ → ℕ → List ℕ
array_line depth count = line depth (codes "(array " ++ decimal count ++ codes ")")

pub lines_at-Array : (depth : ℕ) (replies : List Reply) → lines_at depth (Array replies) ≡ array_line depth (length replies) ++ flat_map (lines_at (suc depth)) replies
lines_at-Array depth replies =
    let row = row_of (Array replies) in
    let same = items_hidden-the_row-Reply-0 replies in
    ap₂ (λ n lines. array_line depth n ++ lines) (row_length-items row.0 row.1 ∙ ap length same) (lines-items (suc depth) row.0 row.1 ∙ ap (flat_map (lines_at (suc depth))) same)

-- once the line of an array is put, the lines of its replies are left
pub count_put : (depth inner count : ℕ) (reply : Reply) (replies : List Reply) (old new : List ℕ) → reply ≡ Array replies → count ≡ length replies → inner ≡ depth + 1
    → new ≡ old ++ array_line depth count → new ++ flat_map (lines_at inner) replies ≡ old ++ lines_at depth reply
count_put depth inner count reply replies old new is counted deeper put =
    ap₂ (λ xs d. xs ++ flat_map (lines_at d) replies) (put ∙ ap (λ n. old ++ array_line depth n) counted) (deeper ∙ add-one depth)
    ∙ append_assoc old (array_line depth (length replies)) (flat_map (lines_at (suc depth)) replies)
    ∙ ap (λ xs. old ++ xs) (sym (ap (lines_at depth) is ∙ lines_at-Array depth replies))

-- two spaces fewer
pub indentation-less : (depth level : ℕ) → level < depth → indentation (depth - level) ≡ 32 ∷ 32 ∷ indentation (depth - (level + 1))
indentation-less depth level h =
    let e : depth - level ≡ suc (depth - (level + 1)) = omega (arith, h) in
    ap indentation e
