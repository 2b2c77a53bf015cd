use Rattle.std.proofs.Common.{◌≡◌, ℕ, [], ◌∷◌, ◌++◌, ap, subst, ◌∙◌, arith}
use Rattle.std.proofs.lemmas.List.{append_assoc}
use Rattle.std.specs.List.{flat_map, AllByRecursion}
use Rattle.kv_types.specs.Change.{changes_size, changes_text}
use Rattle.stream_codec.specs.Message.{IsChange, long}
use Rattle.stream_codec.proofs.Putting.{OnOk-weaken, puts_after, some_size}
use Rattle.stream_codec.proofs.writing.put_group.Goals as goal

pub returns-clause-puts : goal.returns-clause-puts
returns-clause-puts g c =
    let frame = c.args.frame.now in
    let changes = frame.changes.items in
    let old = g.W.BufMut.written c.args.out.now in
    let mid = g.W.BufMut.written c.put_numbers.new.out in
    let size = some_size c.body_len.result (changes_size c.as_slice.result.now) c.unwrap-size.result c.body_len.ensures c.unwrap-size.ensures ∙ ap changes_size c.as_slice.ensures.value in
    let numbers = λ (n : ℕ). flat_map long (frame.epoch ∷ frame.before ∷ frame.after ∷ n ∷ []) in
    let put : mid ≡ old ++ (1 ∷ numbers (changes_size changes)) =
    c.in_ok-put_numbers.ensures.0 ∙ ap (λ w. w ++ numbers c.unwrap-size.result) c.in_ok-put_u8.ensures.ok
    ∙ append_assoc old (1 ∷ []) (numbers c.unwrap-size.result) ∙ ap (λ n. old ++ (1 ∷ numbers n)) size in
    rw c.as_slice-2.ensures.value at (puts_after c.put_changes.result old mid (g.W.BufMut.written c.put_changes.new.out)
    (g.W.BufMut.spare c.args.out.now) (g.W.BufMut.spare c.put_numbers.new.out) (g.W.BufMut.spare c.put_changes.new.out)
    (1 ∷ numbers (changes_size changes)) (changes_text c.as_slice-2.result.now) put (omega (arith, c.in_ok-put_u8.ensures.spare, c.in_ok-put_numbers.ensures.1)) c.put_changes.ensures.puts)

pub returns-clause-within : goal.returns-clause-within
returns-clause-within g c = OnOk-weaken c.put_changes.result (subst (AllByRecursion IsChange) c.as_slice-2.ensures.value) c.put_changes.ensures.within
