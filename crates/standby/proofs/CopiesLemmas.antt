-- What the parts of a copy are whose records rise.
use Rattle.std.proofs.Common.{◌≡◌, ◌-◌, ◌<◌, List, [], ◌∷◌, map, length, get_or, suc, refl, sym, ap, ap₂, ◌∙◌, arith}
use Rattle.std.proofs.lemmas.Bool.{false≢true, true≢false}
use Rattle.std.specs.Prelude.{ℕ, Bool, true, false, Option, Some}
use Rattle.kv_types.specs.declared.change.Change.{Change}
use Rattle.kv_types.specs.declared.change.Change.TheVariants as change
use Rattle.kv_types.specs.declared.record_id.RecordId.{RecordId}
use Rattle.model.specs.declared.group.PlacedChange.{PlacedChange}
use Rattle.model.specs.declared.group.PlacedChange.TheVariants as placed
use Rattle.model.specs.declared.group.Put.{Put}
use Rattle.model.specs.Group.{change_of}
use Rattle.mv_keyspace.specs.Table.{Table, place_all, puts_of, records}
use Rattle.mv_keyspace.proofs.TableLemmas.{records-place_all}
use Rattle.kv_types.specs.Keyspace.{play_all}
use Rattle.wbl_engine.specs.Copying.{AreRising, last_record}
use Rattle.standby.specs.Copies.{Rise, change_told, changes_told, last_told}
use Rattle.standby.specs.Gathering.{told_of}

-- the puts rise with their places as they were told
pub rising : (last : Option RecordId) (puts : List Put) → Rise last (map told_of puts) → AreRising last puts
rising last [] r = tt
rising last (put ∷ puts) r = (r.0, rising (Some put.id) puts r.1)

-- and have the same last record
pub last_placed : (last : Option RecordId) (puts : List Put) → last_record last puts ≡ last_told last (map told_of puts)
last_placed last [] = refl
last_placed last (put ∷ puts) = last_placed (Some put.id) puts

pub last_told-get : (last : Option RecordId) (puts : List (RecordId × List ℕ)) (d : RecordId × List ℕ) → 0 < length puts
    → last_told last puts ≡ Some (get_or puts (length puts - 1) d).0
last_told-get last [] d some = absurd (omega arith)
last_told-get last (put ∷ []) d some = refl
last_told-get last (put ∷ next ∷ puts) d some =
    let e : length (put ∷ next ∷ puts) - 1 ≡ suc (length (next ∷ puts) - 1) = omega arith in
    last_told-get (Some put.0) (next ∷ puts) d (omega arith) ∙ ap (λ (i : ℕ). Some (get_or (put ∷ next ∷ puts) i d).0) (sym e)

-- ---- changes that are puts

abbrev rest_of : List Change → List Change
rest_of [] = []
rest_of (c ∷ cs) = cs

abbrev first_id : RecordId → List Change → RecordId
first_id d [] = d
first_id d (change.Put id value ∷ cs) = id
first_id d (change.Drop id ∷ cs) = d
first_id d (change.DropKey key ∷ cs) = d
first_id d (change.Clear ∷ cs) = d

abbrev first_value : List Change → List ℕ
first_value [] = []
first_value (change.Put id value ∷ cs) = value
first_value (change.Drop id ∷ cs) = []
first_value (change.DropKey key ∷ cs) = []
first_value (change.Clear ∷ cs) = []

abbrev begins_put : List Change → Bool
begins_put [] = false
begins_put (change.Put id value ∷ cs) = true
begins_put (change.Drop id ∷ cs) = false
begins_put (change.DropKey key ∷ cs) = false
begins_put (change.Clear ∷ cs) = false

abbrev is_any : List Change → Bool
is_any [] = false
is_any (c ∷ cs) = true

-- changes that are puts as they were told
pub all_puts : (changes : List PlacedChange) (told : List (RecordId × List ℕ)) → map change_of changes ≡ changes_told told
    → (changes ≡ map placed.Put (puts_of changes)) × (map told_of (puts_of changes) ≡ told)
all_puts [] [] e = (refl, refl)
all_puts [] (t ∷ told) e = absurd (false≢true (ap is_any e))
all_puts (c ∷ changes) [] e = absurd (true≢false (ap is_any e))
all_puts (placed.Put put ∷ changes) (t ∷ told) e =
    let rest = all_puts changes told (ap rest_of e) in (
      ap (λ (cs : List PlacedChange). placed.Put put ∷ cs) rest.0,
      ap₂ (λ (x : RecordId × List ℕ) (xs : List (RecordId × List ℕ)). x ∷ xs)
          (ap₂ (λ (a : RecordId) (b : List ℕ). (a, b)) (ap (first_id put.id) e) (ap first_value e)) rest.1,
    )
all_puts (placed.Drop id ∷ changes) (t ∷ told) e = absurd (false≢true (ap begins_put e))
all_puts (placed.DropKey key ∷ changes) (t ∷ told) e = absurd (false≢true (ap begins_put e))
all_puts (placed.Clear ∷ changes) (t ∷ told) e = absurd (false≢true (ap begins_put e))

-- puts as changes are the puts
pub puts_back : (puts : List Put) → puts_of (map placed.Put puts) ≡ puts
puts_back [] = refl
puts_back (put ∷ puts) = ap (λ (ps : List Put). put ∷ ps) (puts_back puts)

many_map : {X A : Type 0} (made : X → A) (xs : List X) → length (map made xs) ≡ length xs
many_map made [] = refl
many_map made (x ∷ xs) = ap suc (many_map made xs)

pub as_many : (changes : List PlacedChange) (told : List (RecordId × List ℕ)) → map change_of changes ≡ changes_told told → length changes ≡ length told
as_many changes told e = sym (many_map change_of changes) ∙ ap (λ (cs : List Change). length cs) e ∙ many_map change_told told

told_change : (puts : List Put) → map change_of (map placed.Put puts) ≡ changes_told (map told_of puts)
told_change [] = refl
told_change (put ∷ puts) = ap (λ (cs : List Change). change.Put put.id put.value ∷ cs) (told_change puts)

-- the records play the puts as they were told
pub told_changes : (position : ℕ) (table : Table) (told : List (RecordId × List ℕ)) (puts : List Put) (after : Table) → map told_of puts ≡ told
    → after ≡ place_all position table (map placed.Put puts) → records after ≡ play_all (records table) (changes_told told)
told_changes position table told puts after these is =
    ap records is ∙ records-place_all position table (map placed.Put puts) ∙ ap (play_all (records table)) (told_change puts ∙ ap changes_told these)
