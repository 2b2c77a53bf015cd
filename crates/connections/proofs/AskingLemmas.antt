-- The inbound half of a connection still refines the machine's after each step.
use Rattle.std.proofs.Common.{◌≡◌, ℕ, zero, suc, ◌-◌, ◌<◌, ◌≤◌, ◌++◌, ◌&&◌, true, false, nat_lt, List, [], ◌∷◌, length, take, drop, Some, refl, sym, ap, subst, ◌∙◌, arith, length-append, length-drop}
use Rattle.std.proofs.lemmas.Bool.{lt-ltb, and_from}
use Rattle.std.proofs.lemmas.List.{take-append-le}
use Rattle.kv_types.specs.declared.item.Item.{Item}
use Rattle.machine.specs.declared.event.TheConstants.{PIPE_ITEMS}
use Rattle.machine.specs.Connection.{Inbound as Machine, asked, fed_with, has_room, no_connection}
use Rattle.inbound.specs.declared.inbound.Inbound.{Inbound}
use Rattle.inbound.specs.ToCome.{with_piece, to_come, GivesAll, HasGiven}
use Rattle.inbound.proofs.Giving.{asked-nothing, closed-by, closes-nothing, given-nothing, given-piece}
use Rattle.connections.specs.declared.asking.Asking.{Asking}
use Rattle.connections.specs.Asking.{AskingRefines}

-- ---- a new connection

pub new-stands : (code : Asking) → code.source.parser ≡ Some [] → code.source.is_closed ≡ false → code.asked.items ≡ [] → code.waiting.items ≡ [] → AskingRefines code no_connection.inbound
new-stands code unread is_open asked_none waiting_none = record {
  given = given-nothing code.source unread is_open;
  closed = is_open ∙ sym closes-nothing;
  run = 0;
  within = omega arith;
  counted = refl;
  kept = asked-nothing ∙ sym asked_none;
  waits = waiting_none;
  first = refl;
}

-- ---- one more piece

drop-append-le : (n : ℕ) (xs ys : List Item) → n ≤ length xs → drop n (xs ++ ys) ≡ drop n xs ++ ys
drop-append-le zero xs ys le = refl
drop-append-le (suc n) [] ys le = absurd (omega arith)
drop-append-le (suc n) (x ∷ xs) ys le = drop-append-le n xs ys (omega arith)

length-take-all : (n : ℕ) (xs : List Item) → length (take n xs) ≡ n → n ≤ length xs
length-take-all zero xs e = omega arith
length-take-all (suc n) [] e = absurd (omega arith)
length-take-all (suc n) (x ∷ xs) e = omega (arith, length-take-all n xs (omega arith))

pub fed-stands : (old new : Asking) (machine : Machine) (piece : List ℕ) → AskingRefines old machine → GivesAll old.asked.items new.asked.items (with_piece old.source piece) new.source
    → new.waiting.items ≡ old.waiting.items → AskingRefines new (fed_with piece machine)
fed-stands old new machine piece stands gives same =
    let added = to_come (with_piece old.source piece) in
    let asks : asked (machine.fed ++ piece) ≡ asked machine.fed ++ added = stands.given piece in
    let enough : length machine.waiting ≤ length old.asked.items = length-take-all (length machine.waiting) old.asked.items (ap length stands.first) in
    record {
      given = given-piece old.asked.items new.asked.items machine.fed piece old.source new.source stands.given gives;
      closed = closed-by old.asked.items new.asked.items machine.fed piece old.source new.source stands.given stands.closed gives;
      run = stands.run;
      within = omega (arith, stands.within, ap length asks, length-append (asked machine.fed) added);
      counted = stands.counted;
      kept = ap (drop stands.run) asks ∙ drop-append-le stands.run (asked machine.fed) added stands.within ∙ ap (λ xs. xs ++ added) stands.kept ∙ sym gives.all;
      waits = same ∙ stands.waits;
      first = ap (take (length machine.waiting)) gives.all ∙ take-append-le _ _ _ enough ∙ stands.first;
    }

-- what it has is the same
pub same-stands : (old new : Asking) (machine : Machine) → AskingRefines old machine → new.source ≡ old.source → new.asked.items ≡ old.asked.items → new.waiting.items ≡ old.waiting.items → AskingRefines new machine
same-stands old new machine stands source asked_same waiting_same = record {
  given = subst (HasGiven machine.fed) (sym source) stands.given;
  closed = ap (λ (inbound : Inbound). inbound.is_closed) source ∙ stands.closed;
  run = stands.run;
  within = stands.within;
  counted = stands.counted;
  kept = stands.kept ∙ sym asked_same;
  waits = waiting_same ∙ stands.waits;
  first = ap (take (length machine.waiting)) asked_same ∙ stands.first;
}

-- an item that was asked for and does not wait may be offered, where there is room
pub may-offer : (code : Asking) (machine : Machine) → AskingRefines code machine → length code.waiting.items < length code.asked.items → length code.waiting.items < PIPE_ITEMS
    → (nat_lt machine.offered (length (asked machine.fed)) && has_room machine.waiting) ≡ true
may-offer code machine stands some room =
    let count : length (asked machine.fed) - stands.run ≡ length code.asked.items = sym (length-drop stands.run (asked machine.fed)) ∙ ap length stands.kept in
    let waits : length code.waiting.items ≡ length machine.waiting = ap length stands.waits in
    and_from (nat_lt machine.offered (length (asked machine.fed))) (has_room machine.waiting)
    (lt-ltb machine.offered (length (asked machine.fed)) (omega (arith, count, waits, some, stands.within, stands.counted)))
    (lt-ltb (length machine.waiting) PIPE_ITEMS (omega (arith, waits, room)))

-- ---- what was taken before a refusal

pub still-behind : (before now : List Item) (item : Item) → take (length before) now ≡ before → take (length before) (now ++ item ∷ []) ≡ before
still-behind before now item front = take-append-le (length before) now (item ∷ []) (length-take-all (length before) now (ap length front)) ∙ front
