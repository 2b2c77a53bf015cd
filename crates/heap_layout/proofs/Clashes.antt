-- When two runs overlap and two records clash, in lists sorted by first line and by record.
use Rattle.std.proofs.Common.{◌≡◌, ℕ, ◌+◌, ◌-◌, ◌<◌, List, Bool, true, false, not, ◌&&◌, ◌||◌, Ordering, Less, Equal, Greater, is_lt, is_eq, nat_cmp, nat_eq, refl, sym, ap, ap₂, ◌∙◌, arith, true≢false}
use Rattle.std.proofs.lemmas.Bool.{and_parts, and_from, false_from_ne_true}
use Rattle.std.proofs.Math.Bool.{and_comm}
use Rattle.std.proofs.lemmas.Bool.Decides.{nat_tests}
use Rattle.std.proofs.lemmas.Map.Keys.{ge_from_not_lt}
use Rattle.std.specs.Cmp.{tied_itself, eq_by_cmp_equiv}
use Rattle.std.specs.Cmp.Lexicographic.{pointwise, nat_list_cmp_total, nat_list_eq_equiv}
use Rattle.std.specs.Ordering.{eq_by_cmp, ordering_then, ordering_reverse}
use Rattle.std.specs.Option.{option_cmp}
use Rattle.std.specs.Prelude.{nat_lt, nat_le, is_none}
use Rattle.kv_types.specs.declared.place.Extent.{Extent}
use Rattle.kv_types.specs.declared.record_id.RecordId.{RecordId}
use Rattle.kv_types.specs.declared.record_id.RecordId.TheVariants.{Str, Field}
use Rattle.kv_types.specs.Keyspace.{key_of, field_of, bytes_cmp, record_cmp}
use Rattle.kv_types.specs.Order.{record_cmp_total}
use Rattle.kv_types.proofs.OrderLemmas.{same_key, key_itself, same_record, bytes_cmp_equal}
use Rattle.model.specs.Group.{AreApart}
use Rattle.model.specs.ReadImage.{is_clash}
use Rattle.heap_layout.specs.Versions.{overlap}

-- ---- runs

pub overlap-flips : (run other : Extent) → overlap run other ≡ overlap other run
overlap-flips run other = and_comm (nat_lt run.first_line (other.first_line + other.lines)) (nat_lt other.first_line (run.first_line + run.lines))

-- runs with no line in common do not overlap
pub not_overlap : (run other : Extent) → AreApart run.first_line run.lines other.first_line other.lines → overlap run other ≡ false
not_overlap run other apart = grind (arith, nat_tests)

pub apart_from_overlap : (run other : Extent) → overlap run other ≡ false → AreApart run.first_line run.lines other.first_line other.lines
apart_from_overlap run other h = grind (arith, nat_tests)

abbrev pub starts_before : Extent → Extent → Bool
starts_before run other = is_lt (nat_cmp run.first_line other.first_line)

-- the run ends before the next begins, where the next does not begin before it
abbrev pub ends_before : Extent → Extent → Bool
ends_before run next = nat_le run.lines (next.first_line - run.first_line)

pub overlap-far : (run next other : Extent) → starts_before next run ≡ false → starts_before other next ≡ false → ends_before run next ≡ true → overlap run other ≡ false
overlap-far run next other e f fits =
    grind (arith, nat_tests, ge_from_not_lt next.first_line run.first_line e, ge_from_not_lt other.first_line next.first_line f)

pub overlap-near : (run next : Extent) → 0 < run.lines → 0 < next.lines → starts_before next run ≡ false → ends_before run next ≡ false → overlap run next ≡ true
overlap-near run next some more e fits = grind (arith, nat_tests, ge_from_not_lt next.first_line run.first_line e)

-- ---- records

abbrev pub comes_before : RecordId → RecordId → Bool
comes_before id other = is_lt (record_cmp id other)

-- what stands neither before nor after is the same
tie : (o p : Ordering) → o ≡ ordering_reverse p → is_lt o ≡ false → is_lt p ≡ false → o ≡ Equal
tie Less p e f g = cc
tie Equal p e f g = refl
tie Greater Less e f g = cc
tie Greater Equal e f g = cc
tie Greater Greater e f g = cc

pub first_not_less : (o p : Ordering) → is_lt (ordering_then o p) ≡ false → is_lt o ≡ false
first_not_less Less p e = e
first_not_less Equal p e = refl
first_not_less Greater p e = refl

or_flip : (a b c : Bool) → (a || b || c) ≡ (a || c || b)
or_flip a b c = grind arith

pub is_clash-flips : (a b : RecordId) → is_clash a b ≡ is_clash b a
is_clash-flips a b =
    ap₂ (λ s t. s && t) (nat_list_eq_equiv.symm (key_of a) (key_of b))
    (ap (λ s. s || is_none (field_of a) || is_none (field_of b)) ((eq_by_cmp_equiv record_cmp_total).symm a b)
    ∙ or_flip (eq_by_cmp record_cmp b a) (is_none (field_of a)) (is_none (field_of b)))

-- the keys between two of one key are that key
same_between : (x z y : RecordId) → comes_before z x ≡ false → comes_before y z ≡ false → key_of x ≡ key_of y → key_of x ≡ key_of z
same_between x z y e f same =
    let lower : is_lt (bytes_cmp (key_of z) (key_of x)) ≡ false = first_not_less (bytes_cmp (key_of z) (key_of x)) (option_cmp bytes_cmp (field_of z) (field_of x)) e in
    let upper : is_lt (bytes_cmp (key_of y) (key_of z)) ≡ false = first_not_less (bytes_cmp (key_of y) (key_of z)) (option_cmp bytes_cmp (field_of y) (field_of z)) f in
    bytes_cmp_equal (key_of x) (key_of z)
    (tie (bytes_cmp (key_of x) (key_of z)) (bytes_cmp (key_of z) (key_of x)) (nat_list_cmp_total.antisymm (key_of x) (key_of z))
    (ap (λ key. is_lt (bytes_cmp key (key_of z))) same ∙ upper) lower)

-- a string is not after a field of its key
string_first : (a b g : List ℕ) → a ≡ b → comes_before (Str a) (Field b g) ≡ true
string_first a b g same = ap (λ o. is_lt (ordering_then o Less)) (ap (bytes_cmp a) (sym same) ∙ tied_itself nat_list_cmp_total a)

or_first : (a b c : Bool) → b ≡ false → c ≡ false → (a || b || c) ≡ true → a ≡ true
or_first a b c e f h = grind arith

-- what stands between a record and itself is that record
own_between : (x z y : RecordId) → comes_before z x ≡ false → comes_before y z ≡ false → eq_by_cmp record_cmp x y ≡ true → eq_by_cmp record_cmp x z ≡ true
own_between x z y e f same =
    ap is_eq
    (tie (record_cmp x z) (record_cmp z x) (record_cmp_total.antisymm x z)
    (ap (λ id. comes_before id z) (same_record x y same) ∙ f) e)

-- why the parts other than the keys make a clash
clashes_with : (x z y : RecordId) → comes_before z x ≡ false → comes_before y z ≡ false → key_of x ≡ key_of y → key_of x ≡ key_of z
    → (eq_by_cmp record_cmp x y || is_none (field_of x) || is_none (field_of y)) ≡ true
    → (eq_by_cmp record_cmp x z || is_none (field_of x) || is_none (field_of z)) ≡ true
clashes_with (Str a) z y e f same between h = grind arith
clashes_with (Field a d) (Str b) y e f same between h = grind arith
clashes_with (Field a d) (Field b g) (Str c) e f same between h =
    absurd (true≢false (sym (string_first c b g (sym same ∙ between)) ∙ f))
clashes_with (Field a d) (Field b g) (Field c k) e f same between h =
    ap (λ s. s || false || false)
    (own_between (Field a d) (Field b g) (Field c k) e f (or_first (eq_by_cmp record_cmp (Field a d) (Field c k)) false false refl refl h))

-- Where the first of three in order clashes with the last, it clashes with the one between.
clash_between : (x z y : RecordId) → comes_before z x ≡ false → comes_before y z ≡ false → is_clash x y ≡ true → is_clash x z ≡ true
clash_between x z y e f clash =
    let parts = and_parts (pointwise nat_eq (key_of x) (key_of y)) _ clash in
    let same : key_of x ≡ key_of y = same_key (key_of x) (key_of y) parts.0 in
    let between : key_of x ≡ key_of z = same_between x z y e f same in
    and_from (pointwise nat_eq (key_of x) (key_of z)) _ (ap (pointwise nat_eq (key_of x)) (sym between) ∙ key_itself (key_of x))
    (clashes_with x z y e f same between parts.1)

pub no_clash-far : (x z y : RecordId) → comes_before z x ≡ false → comes_before y z ≡ false → not (is_clash x z) ≡ true → is_clash x y ≡ false
no_clash-far x z y e f none =
    false_from_ne_true (is_clash x y) (λ clash. true≢false (sym none ∙ ap not (clash_between x z y e f clash)))
