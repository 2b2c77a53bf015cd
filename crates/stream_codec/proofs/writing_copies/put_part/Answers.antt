use Rattle.std.proofs.Common.{◌≡◌, ℕ, [], ◌∷◌, ◌++◌, map, ap, subst, ◌∙◌, arith}
use Rattle.std.proofs.lemmas.List.{append_assoc}
use Rattle.std.specs.List.{flat_map, AllByRecursion}
use Rattle.kv_types.specs.Change.{changes_size, changes_text}
use Rattle.stream_codec.specs.Message.{IsChange, long, put_of}
use Rattle.stream_codec.proofs.Putting.{OnOk-weaken, puts_after, some_size}
use Rattle.stream_codec.proofs.writing_copies.put_part.Goals as goal

pub returns-clause-puts : goal.returns-clause-puts
returns-clause-puts g c =
    let part = c.args.part.now in
    let puts = map put_of part.puts.items in
    let old = g.W.BufMut.written c.args.out.now in
    let mid = g.W.BufMut.written c.put_numbers.new.out in
    let size = some_size c.puts_len.result (changes_size (map put_of c.as_slice.result.now)) c.unwrap-size.result c.puts_len.ensures c.unwrap-size.ensures ∙ ap (λ list. changes_size (map put_of list)) c.as_slice.ensures.value in
    let numbers = λ (n : ℕ). flat_map long (part.epoch ∷ part.position ∷ part.number ∷ n ∷ []) in
    let put : mid ≡ old ++ (4 ∷ numbers (changes_size puts)) =
    c.in_ok-put_numbers.ensures.0 ∙ ap (λ w. w ++ numbers c.unwrap-size.result) c.in_ok-put_u8.ensures.ok
    ∙ append_assoc old (4 ∷ []) (numbers c.unwrap-size.result) ∙ ap (λ n. old ++ (4 ∷ numbers n)) size in
    rw c.as_slice-2.ensures.value at (puts_after c.put_puts.result old mid (g.W.BufMut.written c.put_puts.new.out)
    (g.W.BufMut.spare c.args.out.now) (g.W.BufMut.spare c.put_numbers.new.out) (g.W.BufMut.spare c.put_puts.new.out)
    (4 ∷ numbers (changes_size puts)) (changes_text (map put_of c.as_slice-2.result.now)) put (omega (arith, c.in_ok-put_u8.ensures.spare, c.in_ok-put_numbers.ensures.1)) c.put_puts.ensures.puts)

pub returns-clause-within : goal.returns-clause-within
returns-clause-within g c = OnOk-weaken c.put_puts.result (subst (λ list. AllByRecursion IsChange (map put_of list)) c.as_slice-2.ensures.value) c.put_puts.ensures.within
