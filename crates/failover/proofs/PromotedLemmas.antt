-- What a promotion leaves obeys the rules of an image.
use Rattle.std.proofs.Common.{◌≡◌, Bool, true, false, inl, inr, Result, Ok, Err, OnOk, refl, sym, ◌∙◌}
use Rattle.std.proofs.lemmas.Bool.{cases_Bool}
use Rattle.kv_types.specs.declared.refusal.Refusal.{Refusal}
use Rattle.kv_types.specs.declared.refusal.Refusal.TheVariants.{Exhausted, Fault}
use Rattle.model.specs.Group.{Contents}
use Rattle.wbl_engine.specs.Contents.{Same}
use Rattle.wbl_engine.specs.Lawful.{AreLawful}
use Rattle.wbl_engine.specs.Promoting.{ExhaustsPromotion, promoted}
use Rattle.wbl_engine.proofs.LawfulLemmas.{same_lawful}
use Rattle.wbl_engine.proofs.PromotingLemmas.{lawful_promoted}

ok_is_no_refusal : {T : Type 0} (x : T) (refusal : Refusal) → Ok x ≡ Err refusal → ⊥
ok_is_no_refusal x refusal is = cc

-- a promotion that succeeded met no limit
pub promoted_obeys : {T : Type 0} (result : Result T Refusal) (x : T) (faulted : Bool) (old new : Contents) → result ≡ Ok x
    → (faulted ≡ true → result ≡ Err Fault) → (faulted ≡ false → ExhaustsPromotion old.current → result ≡ Err Exhausted)
    → Same (promoted old) new → AreLawful old → AreLawful new
promoted_obeys result x faulted old new ok when_faulted when_exhausted moved are =
    same_lawful (promoted old) new moved
    (lawful_promoted old are
    (λ reached.
    elim (cases_Bool faulted) [
      | inl is ↦ ok_is_no_refusal x Fault (sym ok ∙ when_faulted is)
      | inr sound ↦ ok_is_no_refusal x Exhausted (sym ok ∙ when_exhausted sound reached)
    ]))

-- and so does what any promotion leaves that succeeds
pub promotion_lawful : {T : Type 0} (result : Result T Refusal) (faulted : Bool) (old new : Contents)
    → (faulted ≡ true → result ≡ Err Fault) → (faulted ≡ false → ExhaustsPromotion old.current → result ≡ Err Exhausted)
    → OnOk result (Same (promoted old) new) → AreLawful old → OnOk result (AreLawful new)
promotion_lawful (Ok x) faulted old new when_faulted when_exhausted moved are = promoted_obeys (Ok x) x faulted old new refl when_faulted when_exhausted moved are
promotion_lawful (Err refusal) faulted old new when_faulted when_exhausted moved are = tt
