-- Laws of the calls of one connection, and of what its bytes ask for.
use Rattle.std.proofs.Common.{◌≡◌, ◌≢◌, ℕ, Bool, true, false, cond, List, [], ◌∷◌, ◌++◌, map, nat_eq, refl, sym, ap, ◌∙◌, append-nil, eq-eqb, ne_eqb, arith}
use Rattle.std.specs.List.{list_any}
use Rattle.std.proofs.lemmas.List.{map-append}
use Rattle.std.proofs.lemmas.List.Elements.{filter-append}
use Rattle.kv_types.specs.declared.item.Item.{Item}
use Rattle.kv_types.specs.Reply.{text_of}
use Rattle.model.specs.declared.call.Call.{Call}
use Rattle.model.specs.Command.{closes}
use Rattle.model.specs.Call.{calls_of, items_of, replies_to, up_to_closing, IsPrefix}
use Rattle.model.proofs.PrefixLemmas.{IsPrefix-map, IsPrefix-flat_map, IsPrefix-filter}

-- ---- the lists of one connection

pub calls_of-append : (connection : ℕ) (xs ys : List Call) → calls_of connection (xs ++ ys) ≡ calls_of connection xs ++ calls_of connection ys
calls_of-append connection xs ys = filter-append (λ (call : Call). nat_eq call.connection connection) xs ys

pub items_of-append : (connection : ℕ) (xs ys : List Call) → items_of connection (xs ++ ys) ≡ items_of connection xs ++ items_of connection ys
items_of-append connection xs ys = ap (map (λ (call : Call). call.item)) (calls_of-append connection xs ys) ∙ map-append (λ (call : Call). call.item) (calls_of connection xs) (calls_of connection ys)

calls_of_one : (connection : ℕ) (call : Call) (b : Bool) → nat_eq call.connection connection ≡ b → calls_of connection (call ∷ []) ≡ cond b (call ∷ []) []
calls_of_one connection call b e = ap (λ t. cond t (call ∷ []) []) e

pub items_of-push_own : (connection : ℕ) (calls : List Call) (call : Call) → call.connection ≡ connection → items_of connection (calls ++ call ∷ []) ≡ items_of connection calls ++ call.item ∷ []
items_of-push_own connection calls call e = items_of-append connection calls (call ∷ []) ∙ ap (λ last. items_of connection calls ++ map (λ (c : Call). c.item) last) (calls_of_one connection call true (eq-eqb call.connection connection e))

-- a call of another one
pub calls_of-push_other : (connection : ℕ) (calls : List Call) (call : Call) → call.connection ≢ connection → calls_of connection (calls ++ call ∷ []) ≡ calls_of connection calls
calls_of-push_other connection calls call differ =
    calls_of-append connection calls (call ∷ []) ∙ ap (λ last. calls_of connection calls ++ last) (calls_of_one connection call false (ne_eqb call.connection connection differ)) ∙ append-nil (calls_of connection calls)

pub items_of-push_other : (connection : ℕ) (calls : List Call) (call : Call) → call.connection ≢ connection → items_of connection (calls ++ call ∷ []) ≡ items_of connection calls
items_of-push_other connection calls call differ = ap (map (λ (c : Call). c.item)) (calls_of-push_other connection calls call differ)

pub IsPrefix-calls_of : {xs ys : List Call} (connection : ℕ) → IsPrefix xs ys → IsPrefix (calls_of connection xs) (calls_of connection ys)
IsPrefix-calls_of connection a = IsPrefix-filter (λ (call : Call). nat_eq call.connection connection) a

pub IsPrefix-items_of : {xs ys : List Call} (connection : ℕ) → IsPrefix xs ys → IsPrefix (items_of connection xs) (items_of connection ys)
IsPrefix-items_of connection a = IsPrefix-map (λ (call : Call). call.item) (IsPrefix-calls_of connection a)

pub IsPrefix-replies_to : {xs ys : List Call} (connection : ℕ) → IsPrefix xs ys → IsPrefix (replies_to connection xs) (replies_to connection ys)
IsPrefix-replies_to connection a = IsPrefix-flat_map (λ (call : Call). text_of call.reply) (IsPrefix-calls_of connection a)

-- ---- up to the first that closes

-- where none does, all of them count
pub up_to_closing-open : (xs ys : List Item) → list_any closes xs ≡ false → up_to_closing (xs ++ ys) ≡ xs ++ up_to_closing ys
up_to_closing-open [] ys e = refl
up_to_closing-open (item ∷ xs) ys e = grind (arith, up_to_closing-open xs ys)

pub up_to_closing-all : (xs : List Item) → list_any closes xs ≡ false → up_to_closing xs ≡ xs
up_to_closing-all xs e = ap up_to_closing (sym (append-nil xs)) ∙ up_to_closing-open xs [] e ∙ append-nil xs
