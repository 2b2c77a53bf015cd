-- The record with the open gap is written over a readable image.
use Rattle.std.proofs.Common.{◌≡◌, ℕ, ◌+◌, ◌<◌, length, refl, sym, ap, subst, arith}
use Rattle.pmem.specs.Device.{State}
use Rattle.pmem.specs.Crash.{image_of}
use Rattle.pmem.specs.Runs.{LeavesOnly}
use Rattle.model.specs.declared.image.TheConstants.{COUNTER_LIMIT, STAMP_WINDOW}
use Rattle.model.specs.declared.record.Record.{Record}
use Rattle.model.specs.Layout.{max_gaps}
use Rattle.model.specs.Image.{entry_word}
use Rattle.wbl_record.specs.Current.{IsLawful}
use Rattle.wbl_record.specs.Record.{IsRecorded, IsSucceeded, IsEitherRecord}
use Rattle.wbl_engine.specs.Reopening.{with_open_gap, IsBesideRecords, IsReadable, StaysReadable}
use Rattle.wbl_engine.proofs.Erased.{CountAlike, undamaged_below}
use Rattle.wbl_engine.proofs.Readable.{IsLater, recorded_readable, either_stays}
use Rattle.wbl_engine.proofs.Storing.{beside_next}
use Rattle.wbl_engine.proofs.Reopened.{open_lawful, counts-open}

-- there is room for the gap, and no counter reaches its limit
pub record HasRoom (r : Record) : Type 0 where
  pub room : length r.gaps.items < max_gaps r.layout
  pub limit : r.cd + 1 + STAMP_WINDOW < COUNTER_LIMIT
  pub number : r.number + 1 < COUNTER_LIMIT

module _ {r : Record} {d : State} (next : Record) (is : next ≡ with_open_gap r) (readable : IsReadable r d) where
  later : IsLater r (with_open_gap r)
  later = record { layout = refl; position = refl; epoch = refl; role = refl; floor = refl; limit = omega arith }

  lawful_open : HasRoom r → IsLawful (with_open_gap r)
  lawful_open has = open_lawful r readable.undamaged.current.lawful has.room has.limit has.number

  alike : CountAlike d.lines (image_of d.words) r (with_open_gap r)
  alike i k within low = counts-open r (image_of d.words (entry_word i k)) (undamaged_below readable.undamaged i k within low)

  pub open_readable : {c : State} → HasRoom r → IsRecorded d c next → IsReadable (with_open_gap r) c
  open_readable {c} has recorded = recorded_readable readable later (lawful_open has) alike (subst (λ (q : Record). IsRecorded d c q) is recorded)

  pub open_moments : {c : State} → HasRoom r → ((current : Record) → IsSucceeded d current next → LeavesOnly d c (IsEitherRecord d current next))
      → LeavesOnly d c (StaysReadable d.lines r (image_of d.words))
  open_moments {c} has moments =
      either_stays readable later (lawful_open has) alike
      (subst (λ (q : Record). LeavesOnly d c (IsEitherRecord d r q)) is
      (moments r (subst (λ (q : Record). IsSucceeded d r q) (sym is) (record { layout = refl; number = refl; durable = readable.recorded }))))

pub open_beside : {r : Record} {d c : State} (next : Record) → next ≡ with_open_gap r → IsReadable r d → IsRecorded d c next → (word : ℕ)
    → IsBesideRecords r.layout d.lines word
    → image_of c.words word ≡ image_of d.words word
open_beside next is readable recorded word beside =
    recorded.newest word (beside_next next (ap (λ (q : Record). q.layout) is) refl readable.many word beside)
