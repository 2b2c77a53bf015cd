use Rattle.std.proofs.Common.{◌≡◌, ◌≢◌, is_ok, cond, ◌++◌, ◌∷◌, [], ◌||◌, nat_eq, Some, None, rules, sym, ap, ap₂, ◌∙◌}
use Rattle.cmd_core.specs.Contents.{same_bytes}
use Rattle.multi_watch.specs.Watchers.{numbers_of, numbers_at, has_number, SaysSame, EachWatched}
use Rattle.multi_watch.proofs.TableLemmas.{Becomes, becomes_at, pushed, says_same, adds, one_more, some_still, still_watched, watched_as_before, either_way}
use Rattle.multi_watch.proofs.watchers.Watchers.add.Goals as goal

pub returns-in_err-push-clause-err : goal.returns-in_err-push-clause-err
returns-in_err-push-clause-err c =
    let old = c.args.self.now.table.entries in
    let key = c.args.key.now in
    let now = c.push.new.self in
    let new = (c.get_mut.follows.lender now).entries in
    let updates = (c.get_mut.follows.holds now).3 (search rules) in
    let was : numbers_at old key ≡ Some c.in-Some.numbers.now = search rules in
    let kept : now.items ≡ c.in-Some.numbers.now.items = search rules in
    let same : SaysSame old new = says_same old new key (Some now) (becomes_at old new key (Some now) updates.1 updates.3)
    (λ n. ap (λ xs. has_number n xs) kept ∙ ap (λ o. has_number n (numbers_of o)) (sym was)) in
    search (rules, same)

pub returns-in-Some-clause-ok : goal.returns-in-Some-clause-ok
returns-in-Some-clause-ok c =
    let old = c.args.self.now.table.entries in
    let key = c.args.key.now in
    let number = c.args.number in
    let now = c.push.new.self in
    let new = (c.get_mut.follows.lender now).entries in
    let updates = (c.get_mut.follows.holds now).3 (search rules) in
    let was : numbers_at old key ≡ Some c.in-Some.numbers.now = search rules in
    let more : now.items ≡ c.in-Some.numbers.now.items ++ number ∷ [] = search rules in
    adds old new key (Some now) (becomes_at old new key (Some now) updates.1 updates.3) number
    (λ n. ap (λ xs. has_number n xs) more ∙ pushed n number c.in-Some.numbers.now.items ∙ ap (λ o. has_number n (numbers_of o) || nat_eq number n) (sym was))

pub returns-clause-ok : goal.returns-clause-ok
returns-clause-ok c =
    let old = c.args.self.now.table.entries in
    let key = c.args.key.now in
    let number = c.args.number in
    let now = c.in_ok-numbers.numbers in
    let own = c.in_ok-to_vec.field-0 in
    let before = c.get_mut.follows.lender-at-none.entries in
    let new = c.insert.new.self.entries in
    let copied : own.items ≡ key = search rules in
    let unchanged : c.get_mut.follows.lender-at-none ≡ c.args.self.now.table = search rules in
    let updates = c.in_ok-insert.ensures.updates in
    let becomes : Becomes old key (Some now) new =
    λ q. (becomes_at before new own.items (Some now) updates.1 updates.3 q ∙ ap₂ (λ k m. cond (same_bytes k q) (Some now) (numbers_at m.entries q)) copied unchanged) in
    let was : numbers_at old key ≡ None = search rules in
    let one : now.items ≡ number ∷ [] = search rules in
    adds old new key (Some now) becomes number
    (λ n. ap (λ xs. has_number n xs) one ∙ pushed n number [] ∙ ap (λ o. has_number n (numbers_of o) || nat_eq number n) (sym was))

pub invariant_of-self : goal.invariant_of-self
invariant_of-self c =
    let old = c.args.self.now.table.entries in
    let key = c.args.key.now in
    let numbers = c.in-Some.numbers.now in
    let now = c.push.new.self in
    let new = (c.get_mut.follows.lender now).entries in
    let updates = (c.get_mut.follows.holds now).3 (search rules) in
    let was : numbers_at old key ≡ Some numbers = search rules in
    let some : now.items ≢ [] = λ none. some_still (is_ok c.push.result) numbers.items c.args.number (c.args.self.now.each_watched key numbers was).0 (sym c.push.ensures.items ∙ none) in
    record { each_watched = still_watched old new key c.args.self.now.each_watched now some c.requires (becomes_at old new key (Some now) updates.1 updates.3) }

pub invariant_of-self-2 : goal.invariant_of-self-2
invariant_of-self-2 c =
    let old = c.args.self.now.table.entries in
    let key = c.args.key.now in
    let now = c.in_ok-numbers.numbers in
    let own = c.in_ok-to_vec.field-0 in
    let before = c.get_mut.follows.lender-at-none.entries in
    let new = c.insert.new.self.entries in
    let copied : own.items ≡ key = search rules in
    let unchanged : c.get_mut.follows.lender-at-none ≡ c.args.self.now.table = search rules in
    let one : now.items ≡ c.args.number ∷ [] = search rules in
    let some : now.items ≢ [] = λ none. one_more [] c.args.number (sym one ∙ none) in
    let made : EachWatched new = either_way c.insert.result c.insert.ensures.updates c.insert.ensures.err
    (λ updates. still_watched old new key c.args.self.now.each_watched now some c.requires
    (λ q. (becomes_at before new own.items (Some now) updates.1 updates.3 q ∙ ap₂ (λ k m. cond (same_bytes k q) (Some now) (numbers_at m.entries q)) copied unchanged)))
    (λ same. watched_as_before old new (same ∙ ap (λ m. m.entries) unchanged) c.args.self.now.each_watched) in
    record { each_watched = made }
