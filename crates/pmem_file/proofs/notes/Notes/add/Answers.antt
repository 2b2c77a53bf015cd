use Rattle.std.proofs.Common.{◌≡◌, ℕ, ◌+◌, ◌<◌, Bool, false, ◌||◌, ◌==◌, List, [], ◌∷◌, ◌++◌, length, get_or, vec_len, sym, ap, ◌∙◌, arith}
use Rattle.std.proofs.lemmas.List.{get_or_read}
use Rattle.pmem_file.specs.Line.{has_line}
use Rattle.pmem_file.proofs.LinesLemmas.{has_line-push, get_or-marked, marked-room, marked-set, not_refused, pushed}
use Rattle.pmem_file.proofs.notes.Notes.add.Goals as goal

pub unreachable-requires : goal.unreachable-requires
unreachable-requires c =
    let notes = c.args.self.now in
    let below : c.args.line < length notes.marks.items = omega (arith, c.requires, notes.marks.ok.0) in
    let un : get_or notes.marks.items c.args.line false ≡ false =
    sym (get_or_read notes.marks.items c.args.line c.index.result.now below c.index.ensures false) ∙ c.if-index.false in
    let room = marked-room notes.marks.items c.args.line below un in
    not_refused c.push.result c.is_err.result c.is_err.ensures.value c.if-is_err.true
    (c.push.ensures.succeeds (omega (arith, room, notes.counted, notes.room, notes.marks.ok.0)))

pub invariant_of-self-clause-listed : goal.invariant_of-self-clause-listed
invariant_of-self-clause-listed c line =
    let notes = c.args.self.now in
    let below : c.args.line < length notes.marks.items = omega (arith, c.requires, notes.marks.ok.0) in
    get_or-marked notes.marks.items c.args.line line below
    ∙ ap (λ (b : Bool). (line == c.args.line) || b) (notes.listed line)
    ∙ sym (has_line-push notes.lines.items c.args.line line)
    ∙ ap (λ (xs : List ℕ). has_line xs line)
    (sym (c.push.ensures.items
    ∙ pushed c.push.result c.is_err.result (notes.lines.items ++ c.args.line ∷ []) notes.lines.items c.is_err.ensures.value c.if-is_err.false))

pub invariant_of-self-clause-counted : goal.invariant_of-self-clause-counted
invariant_of-self-clause-counted c =
    let notes = c.args.self.now in
    let below : c.args.line < length notes.marks.items = omega (arith, c.requires, notes.marks.ok.0) in
    let un : get_or notes.marks.items c.args.line false ≡ false =
    sym (get_or_read notes.marks.items c.args.line c.index.result.now below c.index.ensures false) ∙ c.if-index.false in
    c.push.ensures.len
    ∙ pushed c.push.result c.is_err.result (vec_len notes.lines + 1) (vec_len notes.lines) c.is_err.ensures.value c.if-is_err.false
    ∙ ap (λ (n : ℕ). n + 1) notes.counted
    ∙ sym (marked-set notes.marks.items c.args.line below un)
