-- Records in the order of the numbers of their keys: one that clashes with a later one clashes with the next.
use Rattle.std.proofs.Common.{◌≡◌, ℕ, ◌≤◌, Bool, true, false, not, Ordering, is_lt, nat_cmp, sym, ap, ◌∙◌, arith, true≢false}
use Rattle.std.proofs.lemmas.Bool.{and_parts, false_from_ne_true}
use Rattle.std.proofs.lemmas.Cmp.{nat_cmp_total}
use Rattle.std.proofs.lemmas.Map.Keys.{ge_from_not_lt}
use Rattle.std.specs.Cmp.{tied_itself}
use Rattle.std.specs.Cmp.Lexicographic.{pointwise}
use Rattle.std.specs.Ordering.{ordering_then}
use Rattle.std.specs.Prelude.{nat_eq}
use Rattle.kv_types.specs.Keyspace.{key_of, record_cmp}
use Rattle.kv_types.proofs.OrderLemmas.{same_key}
use Rattle.model.specs.ReadImage.{is_clash}
use Rattle.heap_layout.specs.declared.tagged.Tagged.{Tagged}
use Rattle.heap_layout.specs.Tag.{tag_of}
use Rattle.heap_layout.specs.Tagged.{tagged_cmp}
use Rattle.heap_layout.proofs.Clashes.{comes_before, no_clash-far, first_not_less}

abbrev pub tagged_before : Tagged → Tagged → Bool
tagged_before a b = is_lt (tagged_cmp a b)

-- of one number the records decide
by_records : (m n : ℕ) (o : Ordering) → m ≡ n → ordering_then (nat_cmp m n) o ≡ o
by_records m n o same =
    ap (λ (k : ℕ). ordering_then (nat_cmp m k) o) (sym same) ∙ ap (λ (p : Ordering). ordering_then p o) (tied_itself nat_cmp_total m)

not_below : (a b : Tagged) → tagged_before a b ≡ false → b.tag ≤ a.tag
not_below a b e = ge_from_not_lt a.tag b.tag (first_not_less (nat_cmp a.tag b.tag) (record_cmp a.id.now b.id.now) e)

pub no_clash-tagged : (x z y : Tagged) → tagged_before z x ≡ false → tagged_before y z ≡ false → not (is_clash x.id.now z.id.now) ≡ true
    → is_clash x.id.now y.id.now ≡ false
no_clash-tagged x z y e f none =
    false_from_ne_true (is_clash x.id.now y.id.now) (λ clash.
    let keys = and_parts (pointwise nat_eq (key_of x.id.now) (key_of y.id.now)) _ clash in
    let tags : x.tag ≡ y.tag = x.made ∙ ap tag_of (same_key (key_of x.id.now) (key_of y.id.now) keys.0) ∙ sym y.made in
    let low = not_below z x e in
    let high = not_below y z f in
    let first : z.tag ≡ x.tag = omega (arith, tags, low, high) in
    let last : y.tag ≡ z.tag = omega (arith, tags, low, high) in
    let up : comes_before z.id.now x.id.now ≡ false =
    ap is_lt (sym (by_records z.tag x.tag (record_cmp z.id.now x.id.now) first)) ∙ e in
    let up' : comes_before y.id.now z.id.now ≡ false =
    ap is_lt (sym (by_records y.tag z.tag (record_cmp y.id.now z.id.now) last)) ∙ f in
    true≢false (sym clash ∙ no_clash-far x.id.now z.id.now y.id.now up up' none))
