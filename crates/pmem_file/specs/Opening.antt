-- What was asked of a file before the device over it was there.
use Rattle.std.specs.Prelude.{◌≡◌, ◌⊎◌, ⊤, ℕ, zero, suc, ◌*◌, Bool, true, false, Option, List, [], ◌∷◌}
use Rattle.pmem_file.specs.declared.opening_calls.OpeningCall.{OpeningCall}
use Rattle.pmem_file.specs.declared.opening_calls.OpeningCall.TheVariants.{Make, Open, Lock, Resize, SyncFile, SyncFolder, Measure, Read, WriteBack, SyncData}
use Rattle.pmem_file.specs.declared.opening_calls.OpeningCalls.{OpeningCalls}
use Rattle.pmem_file.specs.declared.opening_calls.OpeningCalls.TheVariants.{Nothing, Then'}
use Rattle.pmem_file.specs.declared.run.TheConstants.{LINES_A_WRITE}
use Rattle.pmem_file.specs.Line.{run_bytes}

-- one call, and whether it succeeded
pub data Step : Type 0 where
  -- a file is made, which fails where one is there
  Made : (done : Bool) → Step
  -- a file that is there is opened
  Opened : (done : Bool) → Step
  -- it is locked against every other device
  Locked : (done : Bool) → Step
  -- it is given this length in bytes
  Resized : (bytes : ℕ) (done : Bool) → Step
  -- its data and its length are synced
  FileSynced : (done : Bool) → Step
  -- its folder is synced
  FolderSynced : (done : Bool) → Step
  -- a look at its length in bytes, and what it found. It found nothing where it failed
  Found : (bytes : Option ℕ) → Step
  -- a read from this byte of the file on, which gave these bytes. Where it failed they may be others
  ReadAt : (offset : ℕ) (bytes : List ℕ) (done : Bool) → Step
  -- a write of these bytes from this byte of the file on, which were read there
  WroteBack : (offset : ℕ) (bytes : List ℕ) (done : Bool) → Step
  -- its data are synced
  DataSynced : (done : Bool) → Step

-- each of these is a read, which succeeded
abbrev pub AreReads : List Step → Type 0
AreReads [] = ⊤
AreReads (ReadAt offset bytes true ∷ steps) = AreReads steps
AreReads (step ∷ steps) = ⊥

-- how the file of a device that is created begins: it is made, locked and given its length in bytes; or one is there, and it is opened and locked
abbrev pub IsBegun : ℕ → List Step → Type 0
IsBegun bytes steps =
    (steps ≡ Resized bytes true ∷ Locked true ∷ Made true ∷ []) ⊎ (steps ≡ Locked true ∷ Opened true ∷ Made false ∷ [])

-- a block was read, and it may be that it was then written back as it was read
abbrev pub with_block : Bool → ℕ → List ℕ → List Step → List Step
with_block false offset bytes steps = ReadAt offset bytes true ∷ steps
with_block true offset bytes steps = WroteBack offset bytes true ∷ ReadAt offset bytes true ∷ steps

-- the calls after the first blocks of a file were read, in order, which gave these words, and it may be that each was written back. The last block
-- may be shorter than the others
abbrev pub with_blocks : Bool → List ℕ → ℕ → List Step → List Step
with_blocks back words zero steps = steps
with_blocks back words (suc blocks) steps =
    with_block back (64 * (LINES_A_WRITE * blocks)) (run_bytes words (LINES_A_WRITE * blocks, LINES_A_WRITE)) (with_blocks back words blocks steps)

abbrev pub step_of : OpeningCall → Step
step_of (Make done) = Made done
step_of (Open done) = Opened done
step_of (Lock done) = Locked done
step_of (Resize bytes done) = Resized bytes done
step_of (SyncFile done) = FileSynced done
step_of (SyncFolder done) = FolderSynced done
step_of (Measure found) = Found found
step_of (Read offset bytes done) = ReadAt offset bytes.value.items done
step_of (WriteBack offset bytes done) = WroteBack offset bytes.value.items done
step_of (SyncData done) = DataSynced done

-- the calls so far, the newest first
abbrev pub steps_of : OpeningCalls → List Step
steps_of Nothing = []
steps_of (Then' call mark before) = step_of call.value ∷ steps_of before
