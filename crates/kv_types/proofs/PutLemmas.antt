-- A record put into a list, by the index where it belongs.
use Rattle.std.proofs.Common.{◌≡◌, ℕ, ◌+◌, ◌<◌, List, ◌∷◌, ◌++◌, length, take, drop, set, get_or, Equal, refl, sym, ap, ap₂, ◌∙◌, take-append-drop}
use Rattle.std.proofs.lemmas.List.{take-set, drop-set, drop_more, get_or_read}
use Rattle.std.specs.FinMap.Entries.{by_order}
use Rattle.kv_types.specs.declared.record_id.RecordId.{RecordId}
use Rattle.kv_types.specs.Keyspace.{Keyspace, record_cmp, with_record}

-- the record is put after the first n records
abbrev pub PassesPrefix : RecordId → Keyspace → ℕ → Type 0
PassesPrefix id s n = (value : List ℕ) → with_record id value s ≡ take n s ++ with_record id value (drop n s)

put_at : (id : RecordId) (value : List ℕ) (s : Keyspace) (n : ℕ) (e : RecordId × List ℕ) → n < length s → e ≡ get_or s n e → with_record id value (drop n s) ≡ by_order (record_cmp id e.0) ((id, value) ∷ drop n s) ((e.0, value) ∷ drop (n + 1) s) (e ∷ with_record id value (drop (n + 1) s))
put_at id value s n e lt is = rw (drop_more s n e lt ∙ ap (λ x. x ∷ drop (n + 1) s) (sym is)) refl

pub put_equal : (id : RecordId) (s : Keyspace) (n : ℕ) (e : RecordId × List ℕ) → PassesPrefix id s n → n < length s → e ≡ get_or s n e → record_cmp id e.0 ≡ Equal → (value : List ℕ) (other : RecordId × List ℕ) → with_record id value s ≡ set s n ((get_or s n other).0, value)
put_equal id s n e passes lt is ties value other =
    passes value ∙ ap (λ rest. take n s ++ rest) (put_at id value s n e lt is ∙ ap (λ o. by_order o ((id, value) ∷ drop n s) ((e.0, value) ∷ drop (n + 1) s) (e ∷ with_record id value (drop (n + 1) s))) ties)
    ∙ sym (ap₂ (λ prefix rest. prefix ++ rest) (take-set s n (e.0, value)) (drop-set s n (e.0, value) lt)) ∙ take-append-drop n (set s n (e.0, value))
    ∙ ap (λ (x : RecordId × List ℕ). set s n (x.0, value)) (get_or_read s n e lt is other)
