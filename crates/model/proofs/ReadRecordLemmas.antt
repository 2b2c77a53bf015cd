-- A record read word by word.
use Rattle.std.proofs.Common.{◌≡◌, ◌≢◌, ℕ, zero, suc, ◌+◌, ◌-◌, ◌*◌, ◌<◌, ◌≤◌, List, [], ◌∷◌, ◌++◌, length, take, replicate, refl, sym, ap, subst, ◌∙◌, arith, add-zero, add_assoc}
use Rattle.std.specs.List.{flat_map}
use Rattle.std.proofs.Math.Seq.{take-append-add}
use Rattle.std.proofs.lemmas.List.{take-replicate, length-replicate, replicate_more}
use Rattle.model.specs.declared.record.Gap.{Gap}
use Rattle.model.specs.declared.record.Record.{Record}
use Rattle.model.specs.declared.record.Role.{Role}
use Rattle.model.specs.declared.layout.Layout.{Layout}
use Rattle.model.specs.Layout.{first_word, gap_room, max_gaps, record_word, role_word, root_word, slot_line, version}
use Rattle.model.specs.Image.{Image, HasWords, role_number, gap_words, gaps_words, record_words}
use Rattle.model.proofs.LayoutLemmas.{same_version}
use Rattle.model.proofs.RecordLemmas.{length-gaps_words}
use Rattle.model.specs.ReadImage.{gaps_from, AreZero, IsFilled, IsRecordOf}

-- ---- words one after another

pub HasWords-at : (image : Image) (first other : ℕ) (xs : List ℕ) → first ≡ other → HasWords image first xs → HasWords image other xs
HasWords-at image first other xs e h = subst (λ n. HasWords image n xs) e h

pub HasWords-append : (image : Image) (first : ℕ) (xs ys : List ℕ) → HasWords image first xs → HasWords image (first + length xs) ys → HasWords image first (xs ++ ys)
HasWords-append image first [] ys a b = HasWords-at image (first + 0) first ys (omega arith) b
HasWords-append image first (x ∷ xs) ys a b = (a.0, HasWords-append image (first + 1) xs ys a.1 (HasWords-at image (first + suc (length xs)) (first + 1 + length xs) ys (omega arith) b))

pub HasWords-prefix : (image : Image) (first : ℕ) (xs ys : List ℕ) → HasWords image first (xs ++ ys) → HasWords image first xs
HasWords-prefix image first [] ys h = tt
HasWords-prefix image first (x ∷ xs) ys h = (h.0, HasWords-prefix image (first + 1) xs ys h.1)

pub HasWords-rest : (image : Image) (first : ℕ) (xs ys : List ℕ) → HasWords image first (xs ++ ys) → HasWords image (first + length xs) ys
HasWords-rest image first [] ys h = HasWords-at image first (first + 0) ys (omega arith) h
HasWords-rest image first (x ∷ xs) ys h = HasWords-at image (first + 1 + length xs) (first + suc (length xs)) ys (omega arith) (HasWords-rest image (first + 1) xs ys h.1)

-- ---- zeros

pub AreZero-more : (image : Image) (first k : ℕ) → AreZero image first k → image (first + k) ≡ 0 → AreZero image first (k + 1)
AreZero-more image first k zeros e =
    subst (HasWords image first) (replicate_more k 0) (HasWords-append image first (replicate k 0) (0 ∷ []) zeros (ap (λ n. image (first + n)) (length-replicate k 0) ∙ e, tt))

pub AreZero-at : (image : Image) (first k count : ℕ) → k < count → AreZero image first count → image (first + k) ≡ 0
AreZero-at image first k zero lt zeros = absurd (omega arith)
AreZero-at image first zero (suc count) lt zeros = let same : first + 0 ≡ first = omega arith in ap image same ∙ zeros.0
AreZero-at image first (suc k) (suc count) lt zeros = let same : first + suc k ≡ first + 1 + k = omega arith in ap image same ∙ AreZero-at image (first + 1) k count (omega arith) zeros.1

-- ---- gaps

pub length-gaps_from : (image : Image) (first count : ℕ) → length (gaps_from image first count) ≡ count
length-gaps_from image first zero = refl
length-gaps_from image first (suc count) = ap suc (length-gaps_from image (first + 2) count)

abbrev pub pair_at : Image → ℕ → Gap
pair_at image first = record { first = image first; last = image (first + 1) }

gaps_from-suc : (image : Image) (first count : ℕ) → gaps_from image first (suc count) ≡ gaps_from image first count ++ pair_at image (first + 2 * count) ∷ []
gaps_from-suc image first zero = grind arith
gaps_from-suc image first (suc count) = grind (arith, gaps_from-suc image (first + 2) count)

-- one more pair
pub gaps_from-more : (image : Image) (first count : ℕ) → gaps_from image first (count + 1) ≡ gaps_from image first count ++ pair_at image (first + 2 * count) ∷ []
gaps_from-more image first count = let same : count + 1 ≡ suc count = omega arith in ap (gaps_from image first) same ∙ gaps_from-suc image first count

-- the pairs that are there are those that are read
HasWords-gaps_from : (image : Image) (first count : ℕ) → HasWords image first (flat_map gap_words (gaps_from image first count))
HasWords-gaps_from image first zero = tt
HasWords-gaps_from image first (suc count) =
    let same : first + 2 ≡ first + 1 + 1 = omega arith in
    let rest = flat_map gap_words (gaps_from image (first + 2) count) in
    (refl, (refl, HasWords-at image (first + 2) (first + 1 + 1) rest same (HasWords-gaps_from image (first + 2) count)))

length-pairs : (gaps : List Gap) → length (flat_map gap_words gaps) ≡ 2 * length gaps
length-pairs [] = refl
length-pairs (gap ∷ gaps) = let rest = length-pairs gaps in omega arith

-- the words of the gaps are their pairs, and zeros
gaps_words-pairs : (room : ℕ) (gaps : List Gap) → 2 * length gaps ≤ room
    → gaps_words room gaps ≡ flat_map gap_words gaps ++ replicate (room - 2 * length gaps) 0
gaps_words-pairs room gaps few =
    let pairs = flat_map gap_words gaps in
    let whole : room ≡ length pairs + (room - 2 * length gaps) = omega (arith, length-pairs gaps, few) in
    ap (λ n. take n (pairs ++ replicate room 0)) whole ∙ take-append-add pairs (replicate room 0) (room - 2 * length gaps)
    ∙ ap (λ zeros. pairs ++ zeros) (take-replicate (room - 2 * length gaps) room 0 (omega arith))

-- ---- a record

-- the first word of the slot that the root names
abbrev pub slot_word : Layout → ℕ → ℕ → ℕ
slot_word layout lines root = first_word (slot_line layout lines root)

-- where a record of this layout is looked for: the image has the layout's version, and its root is this number, whose slot begins at this word
pub record IsSought (layout : Layout) (lines : ℕ) (image : Image) (number first : ℕ) : Type 0 where
  pub version_is : image 1 ≡ version layout
  pub root : image (root_word layout) ≡ number
  pub slot : first ≡ slot_word layout lines number

-- ---- no record

-- what is known of a record's slot where the root is this number
record IsAt (image : Image) (number first : ℕ) (r : Record) : Type 0 where
  number_is : image first ≡ number
  count : image (first + 5) ≡ length r.gaps.items
  unused : AreZero image (first + 6 + 2 * length r.gaps.items) (gap_room r.layout - 2 * length r.gaps.items)
  role : image (first + role_word r.layout) ≡ role_number r.role

layout_sought : (layout : Layout) (lines : ℕ) (image : Image) (number first : ℕ) (r : Record) → IsSought layout lines image number first → IsRecordOf lines image r
    → layout ≡ r.layout
layout_sought layout lines image number first r sought is = same_version layout r.layout (sym sought.version_is ∙ is.version_is)

at_root : (lines : ℕ) (image : Image) (number first : ℕ) (r : Record) → IsSought r.layout lines image number first → IsRecordOf lines image r → IsAt image number first r
at_root lines image number first r sought is =
    let room = gap_room r.layout in
    let number_is : r.number ≡ number = sym is.has_record.root ∙ sought.root in
    let words =
    HasWords-at image (record_word r.layout lines r.number 0) first (record_words r)
    (add-zero (slot_word r.layout lines r.number) ∙ ap (slot_word r.layout lines) number_is ∙ sym sought.slot) is.has_record.words in
    let pairs = flat_map gap_words r.gaps.items in
    let unused : List ℕ = replicate (room - 2 * length r.gaps.items) 0 in
    let ending = role_number r.role ∷ r.floor ∷ [] in
    let few : 2 * length r.gaps.items ≤ room = omega (arith, is.few) in
    let tail : HasWords image (first + 6) (gaps_words room r.gaps.items ++ ending) =
    HasWords-at image (first + 1 + 1 + 1 + 1 + 1 + 1) (first + 6) (gaps_words room r.gaps.items ++ ending) (omega arith) words.1.1.1.1.1.1 in
    let middle : HasWords image (first + 6) (pairs ++ unused) =
    subst (HasWords image (first + 6)) (gaps_words-pairs room r.gaps.items few) (HasWords-prefix image (first + 6) (gaps_words room r.gaps.items) ending tail) in
    let after : HasWords image (first + role_word r.layout) ending =
    HasWords-at image (first + 6 + length (gaps_words room r.gaps.items)) (first + role_word r.layout) ending (omega (arith, length-gaps_words room r.gaps.items))
    (HasWords-rest image (first + 6) (gaps_words room r.gaps.items) ending tail) in
    record {
      number_is = words.0 ∙ number_is;
      count = simp add_assoc at words.1.1.1.1.1.0;
      unused = rw (length-pairs r.gaps.items) at (HasWords-rest image (first + 6) pairs unused middle);
      role = after.0;
    }

pub no_record-role : (layout : Layout) (lines : ℕ) (image : Image) (number first code : ℕ) → IsSought layout lines image number first
    → image (first + role_word layout) ≡ code → ((role : Role) → role_number role ≢ code) → (r : Record) → IsRecordOf lines image r → ⊥
no_record-role layout lines image number first code sought at none r is =
    let same = layout_sought layout lines image number first r sought is in
    let stands = at_root lines image number first r (subst (λ (l : Layout). IsSought l lines image number first) same sought) is in
    none r.role (sym stands.role ∙ ap (λ (l : Layout). image (first + role_word l)) (sym same) ∙ at)

pub no_record-filled : (layout : Layout) (lines : ℕ) (image : Image) (number first count : ℕ) → IsSought layout lines image number first
    → image (first + 5) ≡ count → (IsFilled layout image first number count → ⊥) → (r : Record) → IsRecordOf lines image r → ⊥
no_record-filled layout lines image number first count sought at none r is =
    let same = layout_sought layout lines image number first r sought is in
    let stands = at_root lines image number first r (subst (λ (l : Layout). IsSought l lines image number first) same sought) is in
    let filled : IsFilled r.layout image first number count =
    record {
      number_is = stands.number_is;
      unused = subst (λ n. AreZero image (first + 6 + 2 * n) (gap_room r.layout - 2 * n)) (sym stands.count ∙ at) stands.unused;
    } in
    none (subst (λ (l : Layout). IsFilled l image first number count) (sym same) filled)

-- a record that was read
pub IsRecordOf-read : (lines : ℕ) (image : Image) (number first count : ℕ) (r : Record) → IsSought r.layout lines image number first → r.number ≡ number
    → image (first + 1) ≡ r.position → image (first + 2) ≡ r.cp → image (first + 3) ≡ r.cd → image (first + 4) ≡ r.epoch → image (first + 5) ≡ count
    → count ≤ max_gaps r.layout → r.gaps.items ≡ gaps_from image (first + 6) count → image (first + role_word r.layout) ≡ role_number r.role
    → image (first + role_word r.layout + 1) ≡ r.floor → IsFilled r.layout image first number count → IsRecordOf lines image r
IsRecordOf-read lines image number first count r sought number_is position cp cd epoch at few gaps role floor filled =
    let room = gap_room r.layout in
    let len : length r.gaps.items ≡ count = ap length gaps ∙ length-gaps_from image (first + 6) count in
    let fits : 2 * length r.gaps.items ≤ room = omega (arith, len, few) in
    let pairs = flat_map gap_words r.gaps.items in
    let unused : List ℕ = replicate (room - 2 * length r.gaps.items) 0 in
    let ending = role_number r.role ∷ r.floor ∷ [] in
    let in_gaps : HasWords image (first + 6) pairs =
    subst (λ gaps. HasWords image (first + 6) (flat_map gap_words gaps)) (sym gaps) (HasWords-gaps_from image (first + 6) count) in
    let zeros : HasWords image (first + 6 + length pairs) unused = rw (length-pairs r.gaps.items, len) filled.unused in
    let middle : HasWords image (first + 6) (gaps_words room r.gaps.items) =
    subst (HasWords image (first + 6)) (sym (gaps_words-pairs room r.gaps.items fits)) (HasWords-append image (first + 6) pairs unused in_gaps zeros) in
    let after : HasWords image (first + 6 + length (gaps_words room r.gaps.items)) ending =
    HasWords-at image (first + role_word r.layout) (first + 6 + length (gaps_words room r.gaps.items)) ending (omega (arith, length-gaps_words room r.gaps.items))
    (role, (floor, tt)) in
    let tail : HasWords image (first + 6) (gaps_words room r.gaps.items ++ ending) = HasWords-append image (first + 6) (gaps_words room r.gaps.items) ending middle after in
    let words : HasWords image first (record_words r) = simp add_assoc (filled.number_is ∙ sym number_is, (position, (cp, (cd, (epoch, (at ∙ sym len, tail)))))) in
    let start : first ≡ record_word r.layout lines r.number 0 =
    sought.slot ∙ ap (slot_word r.layout lines) (sym number_is) ∙ sym (add-zero (slot_word r.layout lines r.number)) in
    record {
      version_is = sought.version_is;
      has_record = record { root = sought.root ∙ sym number_is; words = HasWords-at image first (record_word r.layout lines r.number 0) (record_words r) start words };
      few = omega (arith, len, few);
    }
