-- What the program tells where it did not do what it was asked.
use Rattle.std.specs.Prelude.{◌≡◌, ◌⊎◌, ◌≤◌, ℕ, Bool, true, false, List, [], ◌∷◌, ◌++◌, ◌==◌, if◌then◌else◌, Option, Some, None, codes, ⊤}
use Rattle.std.specs.Fmt.{decimal}
use Rattle.std.specs.Io.KnownBytes.{Keeps}
use Rattle.kv_types.specs.Refusal.{refusal_number, refusal_text}
use Rattle.kv_types.specs.declared.refusal.Refusal.{Refusal}
use Rattle.kv_types.specs.declared.refusal.Refusal.TheVariants as refusal
use Rattle.model.specs.Image.{Image}
use Rattle.wbl_engine.specs.Reopening.{RefusesReading, layout_in}
use Rattle.images.specs.declared.serve_error.ServeError.{ServeError}
use Rattle.images.specs.declared.serve_error.ServeError.TheVariants.{Broken, Random, Read, Refused, Socket, Write}
use Rattle.images.specs.declared.failure.Failure.{Failure}
use Rattle.images.specs.declared.failure.Failure.TheVariants.{Misused, CannotListen, Held, Stopped, InUse, Kept}
use Rattle.images.specs.declared.failure.Kept.{Kept as WhyKept}
use Rattle.images.specs.declared.failure.Kept.TheVariants.{Below, IsThere, NotConfirmed}

-- the end of a line
abbrev pub newline : List ℕ
newline = 10 ∷ []

-- a status that a program ends with: 75 where the same may be done if it is asked for again
abbrev pub IsStatus : ℕ → Type 0
IsStatus status = (status ≤ 3) ⊎ (status ≡ 75)

-- the exit status after a refusal: memory may be there another time
abbrev pub status_of_refusal : Refusal → ℕ
status_of_refusal refusal = if refusal_number refusal == 14 then 75 else 1

-- the same after a call that ended early
abbrev pub status_of : ServeError → ℕ
status_of (Refused refusal) = status_of_refusal refusal
status_of (Read error) = 1
status_of (Random error) = 1
status_of (Socket error) = 1
status_of Broken = 1
status_of (Write error) = 1

-- the exit status
abbrev pub status_after : Failure → ℕ
status_after (Misused error) = 2
status_after (CannotListen may_pass) = if may_pass then 75 else 1
status_after (Held refusal) = 75
status_after (Stopped error) = status_of error
status_after InUse = 75
status_after (Kept why) = 3

-- the image is at the first position, below the second
abbrev pub below_text : ℕ → ℕ → List ℕ
below_text at least = codes "position " ++ decimal at ++ codes ", below " ++ decimal least ++ codes ": not promoted" ++ newline

-- why all is kept as it was
abbrev pub kept_text : WhyKept → List ℕ
kept_text IsThere = codes "not formatted: the file is there" ++ newline
kept_text (Below position least) = below_text position least
kept_text NotConfirmed = codes "nothing was changed" ++ newline

-- a refusal with its number
abbrev pub refusal_line : Refusal → List ℕ
refusal_line refusal = codes "refusal " ++ decimal (refusal_number refusal) ++ codes ": " ++ refusal_text refusal ++ newline

-- The text of a refusal, with its number, and of a connection that broke. Those of the other errors come from the system.
abbrev pub stop_text : ServeError → Option (List ℕ)
stop_text (Refused refusal) = Some (refusal_line refusal)
stop_text (Read error) = None
stop_text (Random error) = None
stop_text (Socket error) = None
stop_text Broken = Some (codes "broken connection" ++ newline)
stop_text (Write error) = None

-- a call over an image that another process has open was refused
abbrev pub while_held : Bool → Failure → Failure
while_held true (Stopped (Refused refusal)) = Held refusal
while_held true (Stopped (Read error)) = Stopped (Read error)
while_held true (Stopped (Random error)) = Stopped (Random error)
while_held true (Stopped (Socket error)) = Stopped (Socket error)
while_held true (Stopped Broken) = Stopped Broken
while_held true (Stopped (Write error)) = Stopped (Write error)
while_held true (Misused error) = Misused error
while_held true (CannotListen may_pass) = CannotListen may_pass
while_held true (Held refusal) = Held refusal
while_held true InUse = InUse
while_held true (Kept why) = Kept why
while_held false failure = failure

-- what is written to standard error, where it is known
abbrev pub text_of : Failure → Option (List ℕ)
text_of (Misused error) = None
text_of (Held refusal) = Some (refusal_line refusal)
text_of (CannotListen may_pass) = Some (codes "cannot listen" ++ newline)
text_of (Stopped error) = stop_text error
text_of InUse = Some (codes "in use" ++ newline)
text_of (Kept why) = Some (kept_text why)

-- If an image was refused, it was for what reading it refuses, and nothing was printed.
abbrev pub IsReadingRefusal : ServeError → ℕ → Image → (before after : Option (List ℕ)) → Type 0
IsReadingRefusal (Refused refusal) lines image before after = RefusesReading (layout_in image) lines image refusal × Keeps before after
IsReadingRefusal (Read error) lines image before after = ⊥
IsReadingRefusal (Random error) lines image before after = ⊥
IsReadingRefusal (Socket error) lines image before after = ⊥
IsReadingRefusal Broken lines image before after = ⊥
IsReadingRefusal (Write error) lines image before after = ⊤

abbrev pub IsRefusalOf : (lines : ℕ) (image : Image) (before after : Option (List ℕ)) → Failure → Type 0
IsRefusalOf lines image before after (Misused error) = ⊥
IsRefusalOf lines image before after (CannotListen may_pass) = ⊥
IsRefusalOf lines image before after (Held refusal) = ⊥
IsRefusalOf lines image before after InUse = ⊥
IsRefusalOf lines image before after (Kept why) = ⊥
IsRefusalOf lines image before after (Stopped error) = IsReadingRefusal error lines image before after
