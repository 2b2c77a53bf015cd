-- From how much is put to the room that it needs.
use Rattle.std.proofs.Common.{arith, ◌≡◌, ℕ, ◌+◌, ◌<◌, ◌≤◌, ◌^◌, max, List, [], ◌∷◌, ◌++◌, length, length-append, ap, subst, sym, refl}
use Rattle.std.specs.List.{AllByRecursion}
use Rattle.std.proofs.lemmas.Bool.Decides.{nat_tests}
use Rattle.kv_types.specs.declared.change.Change.{Change}
use Rattle.kv_types.specs.declared.change.Change.TheVariants.{Put, Drop, DropKey, Clear}
use Rattle.cmd_core.specs.declared.puts.PutBound.{PutBound}
use Rattle.cmd_core.specs.Puts.{bytes_of_id, put_sizes, PutsWithin}
use Rattle.model.specs.Image.{lines_of_bytes}
use Rattle.serving.specs.Need.{IsEnough, need_of_both}
use Rattle.serving.specs.declared.needs.Need.{Need}

-- fewer bytes take no more lines
lines-grow : (less bytes : ℕ) → less ≤ bytes → lines_of_bytes less ≤ lines_of_bytes bytes
lines-grow less bytes within = grind (arith, nat_tests)

lines-within : (bytes : ℕ) (sizes : List ℕ) → AllByRecursion (λ size. size ≤ bytes) sizes → AllByRecursion (λ size. lines_of_bytes size ≤ lines_of_bytes bytes) sizes
lines-within bytes [] within = tt
lines-within bytes (size ∷ sizes) within = (lines-grow size bytes within.0, lines-within bytes sizes within.1)

pub is_enough : (bound : PutBound) (changes : List Change) → PutsWithin bound changes
    → IsEnough (record { count = bound.count; lines = lines_of_bytes bound.bytes }) changes
is_enough bound changes within = record { few = within.few; short = lines-within bound.bytes (put_sizes changes) within.short }

-- ---- of changes behind others

sizes-behind : (changes more : List Change) → put_sizes (changes ++ more) ≡ put_sizes changes ++ put_sizes more
sizes-behind [] more = refl
sizes-behind (Put id value ∷ changes) more = ap (λ (sizes : List ℕ). (bytes_of_id id + length value) ∷ sizes) (sizes-behind changes more)
sizes-behind (Drop id ∷ changes) more = sizes-behind changes more
sizes-behind (DropKey key ∷ changes) more = sizes-behind changes more
sizes-behind (Clear ∷ changes) more = sizes-behind changes more

-- each of these takes no more lines than so many
abbrev WithinLines : ℕ → List ℕ → Type 0
WithinLines most sizes = AllByRecursion (λ size. lines_of_bytes size ≤ most) sizes

within-more : (less most : ℕ) (sizes : List ℕ) → less ≤ most → WithinLines less sizes → WithinLines most sizes
within-more less most [] at_most within = tt
within-more less most (size ∷ sizes) at_most within = (omega (arith, at_most, within.0), within-more less most sizes at_most within.1)

within-behind : (most : ℕ) (sizes more : List ℕ) → WithinLines most sizes → WithinLines most more → WithinLines most (sizes ++ more)
within-behind most [] more one other = other
within-behind most (size ∷ sizes) more one other = (one.0, within-behind most sizes more one.1 other)

pub enough-behind : (one other : Need) (changes more : List Change) → one.count + other.count < 2 ^ 64 → IsEnough one changes → IsEnough other more
    → IsEnough (need_of_both one other) (changes ++ more)
enough-behind one other changes more countable first second =
    let lines = max one.lines other.lines in
    record {
      few = grind (arith, nat_tests, sizes-behind changes more, length-append (put_sizes changes) (put_sizes more), first.few, second.few, countable);
      short = subst (WithinLines lines) (sym (sizes-behind changes more))
          (within-behind lines (put_sizes changes) (put_sizes more) (within-more one.lines lines (put_sizes changes) (grind (arith, nat_tests)) first.short)
          (within-more other.lines lines (put_sizes more) (grind (arith, nat_tests)) second.short));
    }
