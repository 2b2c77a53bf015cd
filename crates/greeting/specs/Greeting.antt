-- What a node says first on a link, as bytes, and whom it links with (this project's profile). Numbers are big-endian.
use Rattle.std.specs.Prelude.{◌≡◌, ◌≢◌, ◌⊎◌, ℕ, List, ◌∷◌, ◌++◌}
use Rattle.std.specs.Int.{w64, to_be_bytes}
use Rattle.greeting.specs.declared.greeting.Greeting.{Greeting}

-- its first byte, the version of its links, and the number of its pair
abbrev pub greeting_text : Greeting → List ℕ
greeting_text greeting = 8 ∷ to_be_bytes w64 greeting.version ++ to_be_bytes w64 greeting.pair

-- they are of one pair, as far as their numbers tell: 0 is the number of an image that has none
abbrev pub MayBePair : ℕ → ℕ → Type 0
MayBePair own theirs = (own ≡ 0) ⊎ ((theirs ≡ 0) ⊎ (own ≡ theirs))

-- two nodes link
abbrev pub MayLink : Greeting → Greeting → Type 0
MayLink own theirs = (own.version ≡ theirs.version) × MayBePair own.pair theirs.pair

-- they do not, since their links are not the same
abbrev pub SpeaksAsOther : Greeting → Greeting → Type 0
SpeaksAsOther own theirs = own.version ≢ theirs.version

-- they do not, since each belongs to a pair, and not to the same
abbrev pub IsOfOtherPair : Greeting → Greeting → Type 0
IsOfOtherPair own theirs = (own.version ≡ theirs.version) × (own.pair ≢ 0) × (theirs.pair ≢ 0) × (own.pair ≢ theirs.pair)
