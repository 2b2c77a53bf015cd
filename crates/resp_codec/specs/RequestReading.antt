-- Where a parser stands in the grammar, and what its steps do.
use Rattle.std.specs.Prelude.{◌≡◌, ℕ, zero, suc, ◌<◌, ◌≤◌, List, [], ◌∷◌, ◌++◌, length, Option, None, Some, IfSome}
use Rattle.std.specs.List.{AllByRecursion, flat_map}
use Rattle.kv_types.specs.declared.limits.TheConstants.{REQUEST_LIMITS}
use Rattle.kv_types.specs.declared.item.Item.{Item}
use Rattle.kv_types.specs.declared.item.Item.TheVariants as item
use Rattle.kv_types.specs.Request.{number_line, bulk}
use Rattle.kv_types.specs.Reading.{items_at}
use Rattle.kv_types.specs.declared.stop.Stop.TheVariants.{Short, Broken}
use Rattle.resp_codec.specs.declared.request_reading.Reading.{Reading}
use Rattle.resp_codec.specs.declared.request_reading.Step.{Step}
use Rattle.resp_codec.specs.declared.request_reading.Step.TheVariants.{Read, Given, Stopped}
use Rattle.resp_codec.specs.Unread.{unread_bytes}

-- so many requests of no words
abbrev pub passed_over : ℕ → List ℕ
passed_over zero = []
passed_over (suc n) = 42 ∷ number_line 0 ++ passed_over n

-- the line of a request of so many words, and the words that were read; nothing if no request is begun
abbrev pub opened : ℕ → List (List ℕ) → List ℕ
opened zero words = []
opened (suc n) words = 42 ∷ number_line (suc n) ++ flat_map bulk words

-- the line of the word that is being read
abbrev pub measured : Option ℕ → List ℕ
measured None = []
measured (Some len) = 36 ∷ number_line len

-- the bytes from the begun request on
abbrev pub text_from : ℕ → List (List ℕ) → Option ℕ → List ℕ → List ℕ
text_from count words len unread = opened count words ++ (measured len ++ unread)

-- The bytes fed and not yet given as items. Those that were read are spelled from what was read, since they have one spelling.
abbrev pub held : Reading → List ℕ
held r = passed_over r.passed ++ text_from r.count r.words.items r.len (unread_bytes r.unread)

pub record IsStanding (r : Reading) : Type 0 where
  pub between : r.count ≡ 0 → (r.words.items ≡ []) × (r.len ≡ None)
  pub begun : 0 < r.count → length r.words.items < r.count
  pub few : r.count ≤ REQUEST_LIMITS.words
  pub short : AllByRecursion (λ word. length word ≤ REQUEST_LIMITS.word_bytes) r.words.items
  pub measure : IfSome r.len (λ len. len ≤ REQUEST_LIMITS.word_bytes)

-- What a step does. A part that is read stays among the bytes held, until the request is given.
abbrev pub Steps : Reading → Step → Reading → Type 0
Steps old Read new = (held new ≡ held old) × (length (unread_bytes new.unread) < length (unread_bytes old.unread))
Steps old (Given words) new = (more : List ℕ) → items_at REQUEST_LIMITS (held old ++ more) ≡ item.Request words ∷ items_at REQUEST_LIMITS (held new ++ more)
Steps old (Stopped Short) new = (held new ≡ held old) × (items_at REQUEST_LIMITS (held old) ≡ [])
Steps old (Stopped (Broken fault)) new = (more : List ℕ) → items_at REQUEST_LIMITS (held old ++ more) ≡ item.Fault fault ∷ []

-- the bytes held after an item, or `None` after a fault
abbrev pub left_behind : Option Item → List ℕ → Option (List ℕ)
left_behind None rest = Some rest
left_behind (Some (item.Request words)) rest = Some rest
left_behind (Some (item.Fault fault)) rest = None
