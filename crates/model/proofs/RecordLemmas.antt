-- The words of an image determine its record.
use Rattle.std.proofs.Common.{◌≡◌, ℕ, zero, suc, ◌+◌, ◌*◌, ◌≤◌, List, [], ◌∷◌, ◌++◌, length, take, replicate, refl, sym, ap, subst, ◌∙◌, arith, length-append, length-take}
use Rattle.std.proofs.lemmas.List.{length-replicate}
use Rattle.std.specs.List.{flat_map}
use Rattle.model.specs.declared.record.Gap.{Gap}
use Rattle.model.specs.declared.record.Record.{Record}
use Rattle.model.specs.declared.record.Role.{Role}
use Rattle.model.specs.declared.layout.Layout.{Layout}
use Rattle.model.specs.Layout.{first_word, gap_room, max_gaps, record_word, root_word, slot_lines, version}
use Rattle.model.specs.Image.{Image, HasWords, role_number, gap_words, gaps_words, record_words, HasRecord}
use Rattle.model.proofs.LayoutLemmas.{same_version, slot_words}

-- ---- words one after another

pub HasWords-same : (image : Image) (first : ℕ) (xs ys : List ℕ) → length xs ≡ length ys → HasWords image first xs → HasWords image first ys → xs ≡ ys
HasWords-same image first [] [] e a b = refl
HasWords-same image first [] (y ∷ ys) e a b = absurd (omega arith)
HasWords-same image first (x ∷ xs) [] e a b = absurd (omega arith)
HasWords-same image first (x ∷ xs) (y ∷ ys) e a b = cc (a.0, b.0, HasWords-same image (first + 1) xs ys (omega arith) a.1 b.1)

-- ---- a record's words

pub length-gaps_words : (room : ℕ) (gaps : List Gap) → length (gaps_words room gaps) ≡ room
length-gaps_words room gaps =
    let zeros : List ℕ = replicate room 0 in
    let many : length zeros ≡ room = length-replicate room 0 in
    length-take room (flat_map gap_words gaps ++ zeros) ∙ omega (arith, length-append (flat_map gap_words gaps) zeros, many)

-- they fill its slot
pub length-record_words : (r : Record) → length (record_words r) ≡ first_word (slot_lines r.layout)
length-record_words r =
    omega (arith, length-append (gaps_words (gap_room r.layout) r.gaps.items) (role_number r.role ∷ r.floor ∷ []), length-gaps_words (gap_room r.layout) r.gaps.items, slot_words r.layout)

same_role : (a b : Role) → role_number a ≡ role_number b → a ≡ b
same_role a b e = grind arith

-- the pairs determine the gaps, where there is room for all of them
same_gaps : (zeros : List ℕ) (xs ys : List Gap) (room : ℕ) → length xs ≡ length ys → 2 * length xs ≤ room → take room (flat_map gap_words xs ++ zeros) ≡ take room (flat_map gap_words ys ++ zeros) → xs ≡ ys
same_gaps zeros [] [] room e le same = refl
same_gaps zeros [] (y ∷ ys) room e le same = absurd (omega arith)
same_gaps zeros (x ∷ xs) [] room e le same = absurd (omega arith)
same_gaps zeros (x ∷ xs) (y ∷ ys) zero e le same = absurd (omega arith)
same_gaps zeros (x ∷ xs) (y ∷ ys) (suc zero) e le same = absurd (omega arith)
same_gaps zeros (x ∷ xs) (y ∷ ys) (suc (suc room)) e le same =
    let first : x.first ≡ y.first = cc in
    let last : x.last ≡ y.last = cc in
    let more : take room (flat_map gap_words xs ++ zeros) ≡ take room (flat_map gap_words ys ++ zeros) = cc in
    let rest = same_gaps zeros xs ys room (omega arith) (omega arith) more in
    λ i. record { first = first i; last = last i } ∷ rest i

same_prefixes : (xs ys us vs : List ℕ) → length xs ≡ length ys → xs ++ us ≡ ys ++ vs → (xs ≡ ys) × (us ≡ vs)
same_prefixes [] [] us vs e same = (refl, same)
same_prefixes [] (y ∷ ys) us vs e same = absurd (omega arith)
same_prefixes (x ∷ xs) [] us vs e same = absurd (omega arith)
same_prefixes (x ∷ xs) (y ∷ ys) us vs e same = let tails = same_prefixes xs ys us vs (omega arith) cc in (cc, tails.1)

-- the words of a record in a slot that has this room for gaps
abbrev words_in : ℕ → Record → List ℕ
words_in room r = r.number ∷ r.position ∷ r.cp ∷ r.cd ∷ r.epoch ∷ length r.gaps.items ∷ gaps_words room r.gaps.items ++ role_number r.role ∷ r.floor ∷ []

-- two records of one layout with the same words are equal, where there is room for their gaps
same_record_words : (room : ℕ) (a b : Record) → a.layout ≡ b.layout → 2 * length a.gaps.items ≤ room → words_in room a ≡ words_in room b → a ≡ b
same_record_words room a b layout few same =
    let number : a.number ≡ b.number = cc in
    let position : a.position ≡ b.position = cc in
    let cp : a.cp ≡ b.cp = cc in
    let cd : a.cd ≡ b.cd = cc in
    let epoch : a.epoch ≡ b.epoch = cc in
    let count : length a.gaps.items ≡ length b.gaps.items = cc in
    let rest : gaps_words room a.gaps.items ++ role_number a.role ∷ a.floor ∷ [] ≡ gaps_words room b.gaps.items ++ role_number b.role ∷ b.floor ∷ [] = cc in
    let parts =
    same_prefixes (gaps_words room a.gaps.items) (gaps_words room b.gaps.items) (role_number a.role ∷ a.floor ∷ []) (role_number b.role ∷ b.floor ∷ [])
    (length-gaps_words room a.gaps.items ∙ sym (length-gaps_words room b.gaps.items)) rest in
    let last = parts.1 in
    let number_of_role : role_number a.role ≡ role_number b.role = cc in
    let role = same_role a.role b.role number_of_role in
    let floor : a.floor ≡ b.floor = cc in
    let gaps = same_gaps (replicate room 0) a.gaps.items b.gaps.items room count few parts.0 in
    λ i. record { layout = layout i; number = number i; position = position i; cp = cp i; cd = cd i; epoch = epoch i; role = role i; gaps = record { items = gaps i }; floor = floor i }

-- an image of as many lines has the same record
pub HasRecord-lines : {m n : ℕ} {r : Record} {image : Image} → m ≡ n → HasRecord m r image → HasRecord n r image
HasRecord-lines {r = r} {image = image} e = subst (λ n. HasRecord n r image) e

-- an image has one record of a layout
record_of_layout : (lines : ℕ) (image : Image) (a b : Record) → a.layout ≡ b.layout → length a.gaps.items ≤ max_gaps a.layout → HasRecord lines a image
    → HasRecord lines b image → a ≡ b
record_of_layout lines image a b layout few in_a in_b =
    let number : b.number ≡ a.number = sym in_b.root ∙ ap (λ (l : Layout). image (root_word l)) (sym layout) ∙ in_a.root in
    let slot : HasWords image (record_word a.layout lines b.number 0) (words_in (gap_room a.layout) b) =
    subst (λ (l : Layout). HasWords image (record_word l lines b.number 0) (words_in (gap_room l) b)) (sym layout) in_b.words in
    let words : HasWords image (record_word a.layout lines a.number 0) (words_in (gap_room a.layout) b) =
    subst (λ n. HasWords image (record_word a.layout lines n 0) (words_in (gap_room a.layout) b)) number slot in
    let many : length (words_in (gap_room a.layout) b) ≡ length (record_words a) =
    ap (λ (l : Layout). length (words_in (gap_room l) b)) layout ∙ length-record_words b ∙ ap (λ (l : Layout). first_word (slot_lines l)) (sym layout)
    ∙ sym (length-record_words a) in
    same_record_words (gap_room a.layout) a b layout (omega (arith, few))
    (HasWords-same image (record_word a.layout lines a.number 0) (record_words a) (words_in (gap_room a.layout) b) (sym many) in_a.words words)

-- an image has one current record: that of its version
pub HasRecord-unique : (lines : ℕ) (image : Image) (a b : Record) → length a.gaps.items ≤ max_gaps a.layout → image 1 ≡ version a.layout
    → image 1 ≡ version b.layout → HasRecord lines a image → HasRecord lines b image → a ≡ b
HasRecord-unique lines image a b few of_a of_b in_a in_b = record_of_layout lines image a b (same_version a.layout b.layout (sym of_a ∙ of_b)) few in_a in_b
