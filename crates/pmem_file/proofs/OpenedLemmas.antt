-- A device that was opened, by what was asked of its file.
use Rattle.std.proofs.Common.{◌≡◌, ℕ, ◌*◌, false, List, [], length, Result, Ok, Err, IfOk, sym, subst}
use Rattle.std.specs.Int.{div_ceil}
use Rattle.kv_types.specs.declared.refusal.Refusal.{Refusal}
use Rattle.journal.specs.declared.shape.Head.{Head}
use Rattle.journal.specs.File.{lines_of_file}
use Rattle.pmem_file.specs.declared.device.FilePmem.{FilePmem}
use Rattle.pmem_file.specs.declared.run.TheConstants.{LINES_A_WRITE}
use Rattle.pmem_file.specs.Finding.{IsSeen}
use Rattle.pmem_file.specs.Opening.{Step, with_blocks}
use Rattle.pmem_file.specs.Device.{state_of, opening_by, IsMadeOver, IsReadThrough}

-- a device that was read through, between two looks at the same head
pub read-through : (result : Result FilePmem Refusal) (head : Head) (file : List ℕ) (before looked steps : List Step)
    → length file ≡ 8 * lines_of_file head.shape → IfOk result (λ device. IsMadeOver device head.shape file)
    → IfOk result (λ device. (state_of device).lines ≡ head.shape.lines) → IfOk result (λ device. opening_by device ≡ steps) → IsSeen head before looked
    → IsSeen head (with_blocks false file (div_ceil (lines_of_file head.shape) LINES_A_WRITE) looked) steps → IfOk result (λ device. IsReadThrough device)
read-through (Ok device) head file before looked steps size over lines opening first again =
    record {
      head = head;
      file = file;
      image = over.image;
      size = size;
      lines = lines;
      made = over.made;
      words = over.words;
      past = over.past;
      failures = over.failures;
      before = before;
      looked = looked;
      first = first;
      again = subst (λ (s : List Step). IsSeen head (with_blocks false file (div_ceil (lines_of_file head.shape) LINES_A_WRITE) looked) s) (sym opening) again;
    }
read-through (Err refusal) head file before looked steps size over lines opening first again = tt
