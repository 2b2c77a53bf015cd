-- What the program prints of itself, and its statuses (this project's profile).
use Rattle.std.specs.Prelude.{◌≡◌, ◌⊎◌, ◌≤◌, ℕ, Bool, List, [], ◌∷◌, ◌++◌, length, Option, Some, None, IfSome, String, string_bytes, codes}
use Rattle.std.specs.List.{flat_map}
use Rattle.version.specs.declared.release.TheConstants.{VERSION}
use Rattle.std.specs.Io.KnownBytes.{Appends}
use Rattle.kv_types.specs.declared.reply.Reply.{Reply}
use Rattle.std.specs.Fmt.{decimal}
use Rattle.kv_types.specs.Refusal.{refusal_number, refusal_text}
use Rattle.kv_types.specs.declared.refusal.Refusal.{Refusal}
use Rattle.kv_types.specs.declared.refusal.Refusal.TheVariants as refusal
use Rattle.client.specs.Asked.{requests_of}
use Rattle.client.specs.Exchange.{any_error}
use Rattle.client.specs.Printed.{printed_reply}
use Rattle.client.specs.declared.failure.Failure.{Failure}
use Rattle.client.specs.declared.failure.Failure.TheVariants.{Misused, Unreached, Broken, NoReply, Memory, Read, Write}
use Rattle.client.specs.declared.failure.Unreached.{Unreached as WhyUnreached}
use Rattle.client.specs.declared.failure.Unreached.TheVariants.{Nobody, Name, Descriptor}

-- what the program prints where it is started without a word
abbrev pub usage : List ℕ
usage = codes "wbl-cli --connect A [word ..]" ++ 10 ∷ []

-- the one word behind the program's name asks which program it is
abbrev pub AsksVersion : {Z : Type 0} → List (String Z) → Type 0
AsksVersion (name ∷ word ∷ []) = (string_bytes word ≡ codes "--version") ⊎ (string_bytes word ≡ codes "-V")
AsksVersion words = ⊥

-- a word by which help is asked for
abbrev pub IsHelp : {Z : Type 0} → String Z → Type 0
IsHelp word = (string_bytes word ≡ codes "--help") ⊎ (string_bytes word ≡ codes "-h")

-- one of the words asks for help
abbrev pub AsksHelp : {Z : Type 0} → List (String Z) → Type 0
AsksHelp [] = ⊥
AsksHelp (word ∷ words) = IsHelp word ⊎ AsksHelp words

-- what the program prints where it is asked which it is
abbrev pub version_line : List ℕ
version_line = codes "wbl-cli " ++ VERSION.now ++ 10 ∷ []

-- a status that the program ends with: 75 where the same may be done if it is asked for again
abbrev pub IsStatus : ℕ → Type 0
IsStatus status = (status ≤ 2) ⊎ (status ≡ 75)

-- the exit status
abbrev pub status_after : Failure → ℕ
status_after (Misused error) = 2
status_after (Unreached why) = 75
status_after Broken = 75
status_after NoReply = 1
status_after Memory = 75
status_after (Read error) = 1
status_after (Write error) = 1

-- a refusal with its number
abbrev pub refusal_line : Refusal → List ℕ
refusal_line refusal = codes "refusal " ++ decimal (refusal_number refusal) ++ codes ": " ++ refusal_text refusal ++ 10 ∷ []

-- why there was no connection
abbrev pub unreached_line : WhyUnreached → List ℕ
unreached_line Nobody = codes "no connection: nobody takes one there" ++ 10 ∷ []
unreached_line Name = codes "no connection: the name of the host does not resolve" ++ 10 ∷ []
unreached_line Descriptor = codes "no connection: no descriptor is left" ++ 10 ∷ []

-- What is written to standard error. The other texts are clap's or come from the system.
abbrev pub told_of : Failure → Option (List ℕ)
told_of (Misused error) = None
told_of (Unreached why) = Some (unreached_line why)
told_of NoReply = Some (codes "what came is no reply" ++ 10 ∷ [])
told_of Broken = Some (codes "broken connection" ++ 10 ∷ [])
told_of Memory = Some (refusal_line refusal.Memory)
told_of (Read error) = None
told_of (Write error) = None

-- Replies were printed: one, or one for each request of this input. It says whether one of them was an error.
pub record PrintsReplies (failed : Bool) (input printed printed' : Option (List ℕ)) : Type 0 where
  pub replies : List Reply
  pub each : (length replies ≡ 1) ⊎ IfSome input (λ text. length replies ≡ length (requests_of text))
  pub errors : failed ≡ any_error replies
  pub told : Appends printed printed' (flat_map printed_reply replies)
