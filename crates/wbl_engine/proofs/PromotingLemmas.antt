-- A record of a primary is written over an image at rest, and nothing else.
use Rattle.std.proofs.Common.{◌≡◌, ◌+◌, ◌<◌, ◌⊎◌, inl, inr, refl, ap, arith}
use Rattle.pmem.specs.Device.{State}
use Rattle.pmem.specs.Crash.{IsImage}
use Rattle.pmem.specs.Runs.{LeavesOnly}
use Rattle.pmem.proofs.Leaving.{none_leaves}
use Rattle.kv_types.specs.declared.refusal.Refusal.{Refusal}
use Rattle.kv_types.specs.declared.refusal.Refusal.TheVariants.{Exhausted, Memory}
use Rattle.model.specs.declared.image.TheConstants.{COUNTER_LIMIT}
use Rattle.model.specs.declared.record.Record.{Record}
use Rattle.model.specs.declared.record.Role.TheVariants.{Newcomer, Primary}
use Rattle.model.specs.Group.{Contents, IsConsistent}
use Rattle.model.specs.Image.{Image}
use Rattle.wbl_record.specs.Current.{IsLawful}
use Rattle.wbl_record.specs.Record.{IsRecorded, IsRecordFault, IsSucceeded, IsEitherRecord}
use Rattle.wbl_engine.specs.AtRest.{IsAtRest, contents_of}
use Rattle.wbl_engine.specs.Contents.{Keeps, Same}
use Rattle.wbl_engine.specs.Lawful.{AreLawful}
use Rattle.wbl_engine.specs.Promoting.{ExhaustsPromotion, promoted, promoted_record}
use Rattle.wbl_engine.specs.Reopening.{ExhaustsReopening, RefusesReopening}
use Rattle.wbl_engine.proofs.AnotherRecord.{another_fault, another_moments, another_rest, another_same}
use Rattle.wbl_engine.proofs.LawfulLemmas.{below_limit, lawful_from}
use Rattle.wbl_engine.proofs.ReopeningLaws.{lawful_refusal}
use Rattle.wbl_engine.proofs.SuccessorLemmas.{lawful_later, primary_other}

-- ---- the record

-- it obeys the rules
pub promoted_is_lawful : (r : Record) → IsLawful r → r.number + 1 < COUNTER_LIMIT → r.epoch + 1 < COUNTER_LIMIT → IsLawful (promoted_record r)
promoted_is_lawful r lawful number epoch =
    lawful_later r (promoted_record r) lawful
    (record { number = number; position = lawful.position; room = lawful.room; epoch = epoch }) refl lawful.limit (omega arith) (omega arith) refl refl (λ is. absurd (primary_other is))

-- of a record that comes out of it lawful, no counter has reached the limit
pub not_promotion : (r next : Record) → next ≡ promoted_record r → IsLawful next → (r.role ≡ Newcomer → ⊥) → ExhaustsPromotion r → ⊥
not_promotion r next is lawful other (inl reached) = omega (arith, reached, ap (λ (q : Record). q.number) is, lawful.number)
not_promotion r next is lawful other (inr (inl reached)) = omega (arith, reached, ap (λ (q : Record). q.epoch) is, lawful.epoch)
not_promotion r next is lawful other (inr (inr newcomer)) = other newcomer

-- ---- the contents

abbrev pub IsPromotedOrNot : Record → State → Image → Type 0
IsPromotedOrNot r d image = Keeps (contents_of r d) image ⊎ Keeps (promoted (contents_of r d)) image

module _ {r : Record} {d : State} (rest : IsAtRest r d) where
  pub promoted_rest : {c : State} (next : Record) → next ≡ promoted_record r → IsLawful next → IsRecorded d c next → IsAtRest next c
  promoted_rest next is lawful recorded = another_rest rest (r.epoch + 1) Primary r.position next is lawful recorded

  pub promoted_same : {c : State} (next : Record) → next ≡ promoted_record r → IsRecorded d c next → Same (promoted (contents_of r d)) (contents_of next c)
  promoted_same next is recorded = another_same rest (r.epoch + 1) Primary r.position next is recorded

  -- where a fence failed
  pub promotion_fault : {c : State} (next : Record) → next ≡ promoted_record r → IsRecordFault d c next → Same (contents_of r d) (contents_of r c)
  promotion_fault next is fault = another_fault rest (r.epoch + 1) Primary r.position next is fault

  -- at each crash
  pub promotion_moments : {c : State} (next : Record) → next ≡ promoted_record r
      → ((current : Record) → IsSucceeded d current next → LeavesOnly d c (IsEitherRecord d current next)) → LeavesOnly d c (IsPromotedOrNot r d)
  promotion_moments next is moments = another_moments rest (r.epoch + 1) Primary r.position next is moments

-- where nothing was stored
pub promotion_none : {r : Record} {d : State} → ((image : Image) → IsImage d.words image → Keeps (contents_of r d) image)
    → LeavesOnly d d (IsPromotedOrNot r d)
promotion_none {r} {d} keeps = none_leaves d (IsPromotedOrNot r d) (λ image is. inl (keeps image is))

-- ---- the laws

pub lawful_promoted : (contents : Contents) → AreLawful contents → (ExhaustsPromotion contents.current → ⊥) → AreLawful (promoted contents)
lawful_promoted contents are fits =
    lawful_from contents (promoted contents)
    (promoted_is_lawful contents.current are.current (below_limit (contents.current.number + 1) (λ reached. fits (inl reached)))
    (below_limit (contents.current.epoch + 1) (λ reached. fits (inr (inl reached)))))
    refl (λ newcomer. absurd (primary_other newcomer)) refl (λ i. refl) are

pub consistent_promoted : (contents : Contents) → IsConsistent contents → IsConsistent (promoted contents)
consistent_promoted contents consistent = record { free = consistent.free; beyond = consistent.beyond }

pub promoted_refusal : (contents : Contents) (image : Image) (refusal : Refusal) → AreLawful contents → (ExhaustsPromotion contents.current → ⊥)
    → Keeps (promoted contents) image → RefusesReopening contents.current.layout contents.lines image Primary refusal
    → (refusal ≡ Memory) ⊎ ((refusal ≡ Exhausted) × ExhaustsReopening (promoted_record contents.current))
promoted_refusal contents image refusal are fits keeps refuses =
    lawful_refusal (promoted contents) image refusal (lawful_promoted contents are fits) keeps refuses
