-- The worked images, computed from the definitions: a new primary image of version 1 and of 4,096 lines, after the group of `SET a 1` or of `HSET h f 1`, and the
-- first where the root of the commit was lost.
use Rattle.std.proofs.Common.{◌≡◌, ℕ, zero, suc, ◌<◌, ◌≤◌, Bool, true, false, ◌*◌, ◌||◌, ◌&&◌, nat_eq, if◌then◌else◌, List, [], ◌∷◌, codes, Some, None, Option, is_none, ⊎_elim, refl, sym, subst, ◌∙◌, arith, eqb-true}
use Rattle.std.proofs.lemmas.Bool.{cases_lt, and_parts}
use Rattle.kv_types.specs.declared.item.Item.TheVariants.{Request}
use Rattle.kv_types.specs.declared.record_id.RecordId.{RecordId}
use Rattle.kv_types.specs.declared.record_id.RecordId.TheVariants.{Str, Field}
use Rattle.kv_types.specs.declared.reply.Reply.{Simple}
use Rattle.kv_types.specs.Keyspace.{Keyspace}
use Rattle.kv_types.specs.CommandName.{is_named}
use Rattle.multi_watch.specs.Verb.{verb_of}
use Rattle.cmd_table.specs.Request.{outcome_of_words}
use Rattle.model.specs.declared.call.Call.{Call}
use Rattle.model.specs.declared.record.Record.{Record}
use Rattle.model.specs.declared.record.Role.TheVariants.{Primary}
use Rattle.model.specs.declared.layout.Layout.TheVariants.{Version1}
use Rattle.model.specs.Image.{Image, Version, IsLive, IsMapOf, counts, version_at, map_below, Holds}
use Rattle.model.specs.Standing.{Holder, StandsAt}
use Rattle.model.proofs.MapLemmas.{OnceBelow, IsMapOf-map_below, not_live}

-- the image that has these words, and zeros elsewhere
abbrev image_with : List (ℕ × ℕ) → Image
image_with [] w = 0
image_with (pair ∷ pairs) w = if nat_eq w pair.0 then pair.1 else image_with pairs w

-- ---- maps of at most one entry

-- no entry below this number holds a version, except entry 0
abbrev only_first : (ℕ → Option Version) → ℕ → Bool
only_first versions zero = true
only_first versions (suc i) = (nat_eq i 0 || is_none (versions i)) && only_first versions i

nothing_there : (entry : Option Version) → is_none entry ≡ true → entry ≡ None
nothing_there None e = refl
nothing_there (Some version) e = cc

first_or_none : (versions : ℕ → Option Version) (i : ℕ) {id : RecordId} {value : List ℕ} → (nat_eq i 0 || is_none (versions i)) ≡ true → IsLive versions i id value → i ≡ 0
first_or_none versions i e live =
    elim (nat_eq i 0) as (λ b. nat_eq i 0 ≡ b → (b || is_none (versions i)) ≡ true → i ≡ 0) [
      | true ↦ λ first h. eqb-true i 0 first
      | false ↦ λ other h. absurd (not_live (nothing_there (versions i) h) live)
    ] refl e

live_first : (versions : ℕ → Option Version) (n i : ℕ) {id : RecordId} {value : List ℕ} → only_first versions n ≡ true → i < n → IsLive versions i id value → i ≡ 0
live_first versions zero i e lt live = absurd (omega arith)
live_first versions (suc n) i {id} {value} e lt live =
    let parts = and_parts (nat_eq n 0 || is_none (versions n)) (only_first versions n) e in
    ⊎_elim (λ (below : i < n). live_first versions n i parts.1 below live) (λ (above : n ≤ i). let last : n ≡ i = omega arith in let P : ℕ → Type 0 = λ k. (nat_eq k 0 || is_none (versions k)) ≡ true in first_or_none versions i (subst P last parts.0) live) (cases_lt i n)

once_first : (versions : ℕ → Option Version) (n : ℕ) → only_first versions n ≡ true → OnceBelow versions n
once_first versions n e i j id v w lt lt' a b = live_first versions n i e lt a ∙ sym (live_first versions n j e lt' b)

map_of_first : (versions : ℕ → Option Version) (n : ℕ) (s : Keyspace) → only_first versions n ≡ true → map_below versions n ≡ s → IsMapOf versions n s
map_of_first versions n s e computed = subst (IsMapOf versions n) computed (IsMapOf-map_below versions n (once_first versions n e))

-- ---- SET a 1

-- the superblock, record 2 in slot 0, record 1 in slot 1, entry 0, and the extent at line 520
abbrev set_words : ℕ → List (ℕ × ℕ)
set_words root =
    (0, 3544411304008368727) ∷ (1, 1) ∷ (2, 4096) ∷ (3, 512) ∷ (4, root) ∷ (8, 2) ∷ (9, 1) ∷ (10, 1) ∷ (11, 4098) ∷ (12, 1) ∷ (30, 1) ∷ (32, 1) ∷ (35, 4097) ∷ (36, 1) ∷ (54, 1)
    ∷ (64, 1) ∷ (66, 1) ∷ (67, 520) ∷ (68, 1) ∷ (69, 1) ∷ (70, 1) ∷ (71, 1) ∷ (4160, 12641) ∷ []

abbrev set_image : Image
set_image = image_with (set_words 2)

abbrev record_two : Record
record_two = record { layout = Version1; number = 2; position = 1; cp = 1; cd = 4098; epoch = 1; role = Primary; gaps = record { items = [] }; floor = 0 }

abbrev set_list : List Call
set_list = record { connection = 0; item = Request (codes "SET" ∷ codes "a" ∷ codes "1" ∷ []); reply = Simple (codes "OK") } ∷ []

first_extent_word : set_image (8 * 520) ≡ 12641
first_extent_word = refl

set_map : map_below (version_at record_two set_image) 512 ≡ (Str (codes "a"), codes "1") ∷ []
unfolding map_below
set_map = refl

set_holds : Holds 4096 record_two ((Str (codes "a"), codes "1") ∷ []) set_image
set_holds = record {
  superblock = record { magic = refl; version = refl; line_count = refl; room = refl };
  has_record = record { root = refl; words = (refl, (refl, (refl, (refl, (refl, (refl, (refl, (refl, (refl, (refl, (refl, (refl, (refl, (refl, (refl, (refl, (refl, (refl, (refl, (refl, (refl, (refl, (refl, (refl, tt)))))))))))))))))))))))) };
  map = map_of_first (version_at record_two set_image) 512 ((Str (codes "a"), codes "1") ∷ []) refl set_map;
}

-- the primary of the first epoch, with the smallest image
abbrev first_primary : Holder
first_primary = record { lines = 4096; role = Primary; epoch = 1 }

-- the image stands at position 1 of the list of that one call
set_stands : StandsAt first_primary set_list 1 set_image
unfolding outcome_of_words verb_of is_named
set_stands = record { current = record_two; position = refl; role = refl; epoch = refl; holds = set_holds }

-- ---- the root of the commit was lost

abbrev lost_image : Image
lost_image = image_with (set_words 1)

abbrev record_one : Record
record_one = record { layout = Version1; number = 1; position = 0; cp = 0; cd = 4097; epoch = 1; role = Primary; gaps = record { items = [] }; floor = 0 }

lost_map : map_below (version_at record_one lost_image) 512 ≡ []
unfolding map_below
lost_map = refl

lost_holds : Holds 4096 record_one [] lost_image
lost_holds = record {
  superblock = record { magic = refl; version = refl; line_count = refl; room = refl };
  has_record = record { root = refl; words = (refl, (refl, (refl, (refl, (refl, (refl, (refl, (refl, (refl, (refl, (refl, (refl, (refl, (refl, (refl, (refl, (refl, (refl, (refl, (refl, (refl, (refl, (refl, (refl, tt)))))))))))))))))))))))) };
  map = map_of_first (version_at record_one lost_image) 512 [] refl lost_map;
}

-- it stands at the position before the call
lost_stands : StandsAt first_primary set_list 0 lost_image
unfolding outcome_of_words verb_of is_named
lost_stands = record { current = record_one; position = refl; role = refl; epoch = refl; holds = lost_holds }

-- ---- HSET h f 1

abbrev field_image : Image
field_image = image_with ((69, 2) ∷ (70, 65537) ∷ (71, 1) ∷ (4160, 3237480) ∷ set_words 2)

field_map : map_below (version_at record_two field_image) 512 ≡ (Field (codes "h") (codes "f"), codes "1") ∷ []
unfolding map_below
field_map = refl

-- ---- stamps

abbrev reopened : Record
reopened = record { layout = Version1; number = 3; position = 3; cp = 4100; cd = 8197; epoch = 1; role = Primary; gaps = record { items = record { first = 4; last = 4099 } ∷ [] }; floor = 0 }

-- after a reopening the stamps of the three commands count, those in the gap do not, and the stamp limit from before the reopening does
stamps_count : (counts reopened 0 ≡ false) × (counts reopened 3 ≡ true) × (counts reopened 4 ≡ false) × (counts reopened 4099 ≡ false) × (counts reopened 4100 ≡ true) × (counts reopened 4101 ≡ false)
stamps_count = (refl, refl, refl, refl, refl, refl)
