-- A text asks for one list of items.
use Rattle.std.proofs.Common.{◌≡◌, ℕ, ◌≢◌, inl, inr, List, [], ◌∷◌, ◌++◌, Result, Ok, Err, refl, ap, sym, ◌∙◌}
use Rattle.std.proofs.lemmas.List.{append_assoc, append-nil}
use Rattle.std.specs.List.{AllByRecursion, flat_map}
use Rattle.kv_types.specs.declared.limits.Limits.{Limits}
use Rattle.kv_types.specs.declared.item.ProtocolFault.{ProtocolFault}
use Rattle.kv_types.specs.declared.item.Item.{Item}
use Rattle.kv_types.specs.declared.item.Item.TheVariants.{Fault}
use Rattle.kv_types.specs.Word.{IsWithin}
use Rattle.kv_types.specs.Request.{spelling, Begins, FaultsWith, item_of, EndsWith, AsksFor}
use Rattle.kv_types.specs.declared.stop.Stop.{Stop}
use Rattle.kv_types.specs.declared.stop.Stop.TheVariants.{Short, Broken}
use Rattle.kv_types.specs.Reader.{Read}
use Rattle.kv_types.specs.Reading.{request_at, items_from, items_at}
use Rattle.kv_types.proofs.GrammarGrows.{request_at-more}
use Rattle.kv_types.proofs.GrammarItems.{items_at-step}
use Rattle.kv_types.proofs.GrammarRequests.{HasNumbers, request_at-again, request_at-takes}
use Rattle.kv_types.proofs.GrammarTells.{Tells, Says-tells}
use Rattle.kv_types.proofs.GrammarAsks.{Begins-short, not_begun}

-- the byte with which no spelling continues breaks the reading, with the fault of its position
told_by : (limits : Limits) (bytes : List ℕ) (fault said : ProtocolFault) → HasNumbers limits → (f : FaultsWith limits bytes fault) → request_at limits bytes ≡ Err (Broken said) → (r : Result (Read (List (List ℕ))) (Stop ProtocolFault)) → request_at limits (f.prefix ++ f.byte ∷ []) ≡ r → Tells fault r → fault ≡ said
told_by limits bytes fault said numbers f e (Ok x) broken tells =
    let found = request_at-takes limits (f.prefix ++ f.byte ∷ []) x.0 x.1 numbers broken in
    absurd (f.breaks (record { rest = []; words = x.0; spells = record { within = found.0; whole = append-nil (f.prefix ++ f.byte ∷ []) ∙ found.1 ∙ ap (λ rest. spelling x.0 ++ rest) tells ∙ append-nil (spelling x.0) } }))
told_by limits bytes fault said numbers f e (Err Short) broken tells = absurd (f.breaks (Begins-short limits (f.prefix ++ f.byte ∷ []) numbers broken))
told_by limits bytes fault said numbers f e (Err (Broken other)) broken tells =
    let later : request_at limits ((f.prefix ++ f.byte ∷ []) ++ f.rest) ≡ Err (Broken other) = rw broken at (request_at-more f.rest limits (f.prefix ++ f.byte ∷ [])) in
    let whole : request_at limits ((f.prefix ++ f.byte ∷ []) ++ f.rest) ≡ Err (Broken said) = ap (request_at limits) (append_assoc f.prefix (f.byte ∷ []) f.rest ∙ sym f.split) ∙ e in
    let same : other ≡ said = cc in
    sym tells ∙ same

ends_so : (limits : Limits) (rest : List ℕ) (ending : List Item) → HasNumbers limits → ((words : List (List ℕ)) (more : List ℕ) → IsWithin limits words → rest ≢ spelling words ++ more) → EndsWith limits rest ending → (r : Result (Read (List (List ℕ))) (Stop ProtocolFault)) → request_at limits rest ≡ r → ending ≡ items_from (items_at limits) r
ends_so limits rest ending numbers longest ends (Ok request) e =
    let found = request_at-takes limits rest request.0 request.1 numbers e in
    absurd (longest request.0 request.1 found.0 found.1)
ends_so limits rest ending numbers longest (inl ends) (Err Short) e = ends.1
ends_so limits rest ending numbers longest (inr ends) (Err Short) e =
    let f = ends.1 in
    let b : Begins limits ((f.prefix ++ f.byte ∷ []) ++ f.rest) = rw (append_assoc f.prefix (f.byte ∷ []) f.rest, ← f.split) (Begins-short limits rest numbers e) in
    let whole = sym (append_assoc (f.prefix ++ f.byte ∷ []) f.rest b.rest) ∙ b.spells.whole in
    absurd (f.breaks (record { rest = f.rest ++ b.rest; words = b.words; spells = record { within = b.spells.within; whole = whole } }))
ends_so limits rest ending numbers longest (inl ends) (Err (Broken said)) e = absurd (not_begun limits rest said numbers e ends.0)
ends_so limits rest ending numbers longest (inr ends) (Err (Broken said)) e =
    let f = ends.1 in
    ends.2 ∙ ap (λ fault. Fault fault ∷ []) (told_by limits rest ends.0 said numbers f e (request_at limits (f.prefix ++ f.byte ∷ [])) refl (Says-tells limits f.prefix f.byte ends.0 numbers f.begins f.says))

once_from : (limits : Limits) (requests : List (List (List ℕ))) (rest : List ℕ) (ending : List Item) → HasNumbers limits → AllByRecursion (IsWithin limits) requests → ((words : List (List ℕ)) (more : List ℕ) → IsWithin limits words → rest ≢ spelling words ++ more) → EndsWith limits rest ending → flat_map item_of requests ++ ending ≡ items_at limits (flat_map spelling requests ++ rest)
once_from limits [] rest ending numbers within longest ends = ends_so limits rest ending numbers longest ends (request_at limits rest) refl ∙ sym (items_at-step limits rest)
once_from limits (words ∷ requests) rest ending numbers within longest ends =
    let after = flat_map spelling requests ++ rest in
    let read : request_at limits ((spelling words ++ flat_map spelling requests) ++ rest) ≡ Ok (words, after) = ap (request_at limits) (append_assoc (spelling words) (flat_map spelling requests) rest) ∙ request_at-again limits words after numbers within.0 in
    append_assoc (item_of words) (flat_map item_of requests) ending
    ∙ ap (λ items. item_of words ++ items) (once_from limits requests rest ending numbers within.1 longest ends)
    ∙ sym (items_at-step limits ((spelling words ++ flat_map spelling requests) ++ rest) ∙ ap (items_from (items_at limits)) read)

-- What is asked for is computed.
pub items_at-AsksFor : (limits : Limits) (text : List ℕ) (items : List Item) → HasNumbers limits → AsksFor limits text items → items ≡ items_at limits text
items_at-AsksFor limits text items numbers a =
    a.all ∙ once_from limits a.requests a.rest a.ending numbers a.within a.longest a.ends ∙ ap (items_at limits) (sym a.split)
