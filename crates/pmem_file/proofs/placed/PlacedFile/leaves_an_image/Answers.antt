use Rattle.std.proofs.Common.{ℕ, length, inl, inr, sym, subst, ◌∙◌, arith}
use Rattle.std.proofs.lemmas.Bool.{cases_lt}
use Rattle.std.proofs.lemmas.List.{get_or_past}
use Rattle.pmem.specs.Device.{MayBe}
use Rattle.pmem.specs.History.{words_of}
use Rattle.pmem.proofs.Chains.{may_be-MayBe}
use Rattle.pmem_file.proofs.placed.PlacedFile.leaves_an_image.Goals as goal

pub returns : goal.returns
returns c file image allowed first behind =
    let device = c.args.self.now in
    inl (λ word.
    elim (cases_lt word (length device.words)) [
      | inl inside ↦
          let same = first word (omega (arith, inside, device.sized)) in
          subst (λ (x : ℕ). MayBe (words_of device.history word) x) (sym same)
          (may_be-MayBe (words_of device.history word) (file word) (device.holds.within word (file word) inside (allowed word)))
      | inr outside ↦
          let none = behind word (omega (arith, outside, device.sized)) in
          inl (none ∙ sym (get_or_past device.words word 0 outside) ∙ device.holds.newest word)
    ])
