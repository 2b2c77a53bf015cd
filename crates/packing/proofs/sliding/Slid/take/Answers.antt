use Rattle.std.proofs.Common.{◌≡◌, ◌+◌, ◌<◌, ◌≤◌, ◌++◌, ◌∷◌, ℕ, List, [], nat_le, true, false, sym, ap, ap₂, ◌∙◌, append_assoc, arith}
use Rattle.std.proofs.lemmas.Bool.Decides.{nat_tests}
use Rattle.packing.specs.declared.moves.Move.{Move}
use Rattle.packing.specs.declared.placed.Placed.{Placed}
use Rattle.packing.specs.declared.sliding.Slid.{Slid}
use Rattle.packing.specs.Sliding.{step, to_line}
use Rattle.packing.proofs.sliding.Slid.take.Goals as goal
use Rattle.packing.proofs.sliding.Slid.take.Goals.{then-behind-first_line+in_ok-push, else-behind-first_line}

straight : (end floor : ℕ) (one : Placed) → floor < one.extent.first_line → floor + one.extent.lines ≤ one.extent.first_line → (step end floor one).0 ≡ to_line one floor ∷ []
straight end floor one above fits =
    let first : nat_le one.extent.first_line floor ≡ false = grind (arith, nat_tests, above) in
    let second : nat_le (floor + one.extent.lines) one.extent.first_line ≡ true = grind (arith, nat_tests, fits) in
    rw (first, second)

around : (end floor : ℕ) (one : Placed) → floor < one.extent.first_line → one.extent.first_line < floor + one.extent.lines → (step end floor one).0 ≡ to_line one end ∷ to_line one floor ∷ []
around end floor one above longer =
    let first : nat_le one.extent.first_line floor ≡ false = grind (arith, nat_tests, above) in
    let second : nat_le (floor + one.extent.lines) one.extent.first_line ≡ false = grind (arith, nat_tests, longer) in
    rw (first, second)

two : (new old mid : List Move) (a b : Move) → new ≡ mid ++ b ∷ [] → mid ≡ old ++ a ∷ [] → new ≡ old ++ (a ∷ (b ∷ []))
two new old mid a b is was = is ∙ ap (λ (xs : List Move). xs ++ b ∷ []) was ∙ append_assoc old (a ∷ []) (b ∷ [])

pub returns-clause-moves : goal.returns-clause-moves
returns-clause-moves c = λ fits.
    let old = c.args.self.now in
    let one = c.args.one in
    let last = c.in_ok-push-2.ensures.items in
    elim c.if-behind-first_line.branch [
      | then-behind-first_line+in_ok-push w ↦
          let steps = around c.args.end old.floor one (omega arith) (omega arith) in
          let level : c.if-behind-first_line.self.floor ≡ old.floor = ap (λ (s : Slid). s.floor) w.self-is in
          let own : c.if-behind-first_line.self.moves.items ≡ w.push.new.self.items = ap (λ (s : Slid). s.moves.items) w.self-is in
          let first : c.if-behind-first_line.self.moves.items ≡ old.moves.items ++ to_line one c.args.end ∷ [] =
          own ∙ w.in_ok-push.ensures.items ∙ ap (λ (m : Move). old.moves.items ++ m ∷ []) w.to.ensures in
          let second : c.push-2.new.self.items ≡ c.if-behind-first_line.self.moves.items ++ to_line one old.floor ∷ [] =
          last ∙ ap (λ (m : Move). c.if-behind-first_line.self.moves.items ++ m ∷ []) (c.to-2.ensures ∙ ap (to_line one) level) in
          two c.push-2.new.self.items old.moves.items c.if-behind-first_line.self.moves.items (to_line one c.args.end) (to_line one old.floor) second first
          ∙ ap (λ (xs : List Move). old.moves.items ++ xs) (sym steps)
      | else-behind-first_line w ↦
          let steps = straight c.args.end old.floor one (omega arith) (omega arith) in
          let level : c.if-behind-first_line.self.floor ≡ old.floor = ap (λ (s : Slid). s.floor) w.self-is in
          let own : c.if-behind-first_line.self.moves.items ≡ old.moves.items = ap (λ (s : Slid). s.moves.items) w.self-is in
          last ∙ ap₂ (λ (xs ys : List Move). xs ++ ys) own (ap (λ (m : Move). m ∷ []) (c.to-2.ensures ∙ ap (to_line one) level) ∙ sym steps)
    ]
