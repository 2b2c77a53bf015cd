-- What a parser gave over all its calls, compared with what the grammar asks for in the bytes fed.
use Rattle.std.proofs.Common.{◌≡◌, ℕ, List, [], ◌++◌, Option, None, Some, refl, ap, sym, ◌∙◌}
use Rattle.std.proofs.lemmas.List.{append_assoc, append-nil}
use Rattle.std.specs.Prelude.{option_to_list}
use Rattle.kv_types.specs.declared.item.Item.{Item}
use Rattle.kv_types.specs.declared.limits.TheConstants.{REQUEST_LIMITS}
use Rattle.kv_types.specs.Request.{AsksFor}
use Rattle.kv_types.specs.Reading.{items_at}
use Rattle.kv_types.proofs.GrammarAsks.{AsksFor-items_at}
use Rattle.resp_codec.specs.Parsing.{fed, ahead, Reaches, begun, took, gave}
use Rattle.resp_codec.proofs.UnreadReads.{served_numbers}

pub fed-fed : (held : Option (List ℕ)) (piece more : List ℕ) → fed (fed held piece) more ≡ fed held (piece ++ more)
fed-fed None piece more = refl
fed-fed (Some unread) piece more = ap Some (append_assoc unread piece more)

pub fed-nothing : (held : Option (List ℕ)) → fed held [] ≡ held
fed-nothing None = refl
fed-nothing (Some unread) = ap Some (append-nil unread)

-- the items of all the bytes, whatever comes later, are those given and those ahead
items_at-Reaches : {text : List ℕ} {given : List Item} {held : Option (List ℕ)} → Reaches text given held → (more : List ℕ) → items_at REQUEST_LIMITS (text ++ more) ≡ given ++ ahead (fed held more)
items_at-Reaches begun more = refl
items_at-Reaches (took {text} {given} {held} r piece) more =
    ap (items_at REQUEST_LIMITS) (append_assoc text piece more) ∙ items_at-Reaches r (piece ++ more) ∙ ap (λ h. given ++ ahead h) (sym (fed-fed held piece more))
items_at-Reaches (gave {text} {given} {old} {new} r item advances) more =
    items_at-Reaches r more ∙ ap (λ items. given ++ items) (advances more) ∙ sym (append_assoc given (option_to_list item) (ahead (fed new more)))

pub AsksFor-Reaches : {text : List ℕ} {given : List Item} {held : Option (List ℕ)} → Reaches text given held → AsksFor REQUEST_LIMITS text (given ++ ahead held)
AsksFor-Reaches {text} {given} {held} r =
    let same : items_at REQUEST_LIMITS text ≡ given ++ ahead held = ap (items_at REQUEST_LIMITS) (sym (append-nil text)) ∙ items_at-Reaches r [] ∙ ap (λ h. given ++ ahead h) (fed-nothing held) in
    rw (← same) (AsksFor-items_at REQUEST_LIMITS text served_numbers)

pub AsksFor-Reaches_all : {text : List ℕ} {given : List Item} {held : Option (List ℕ)} → Reaches text given held → ahead held ≡ [] → AsksFor REQUEST_LIMITS text given
AsksFor-Reaches_all {text} {given} {held} r none =
    let all : given ++ ahead held ≡ given = ap (λ items. given ++ items) none ∙ append-nil given in
    rw all at (AsksFor-Reaches r)
