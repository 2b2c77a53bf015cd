use Rattle.std.proofs.Common.{◌≡◌, ◌++◌, ◌∷◌, [], true, false, refl, rules}
use Rattle.std.specs.BTreeSet.{contains, Updates}
use Rattle.kv_types.specs.Keyspace.{bytes_cmp}
use Rattle.cmd_core.specs.Naming as spec
use Rattle.cmd_core.proofs.NamingLemmas.{none_seen, passed, taken}
use Rattle.cmd_core.proofs.naming.firsts.Goals as goal
use Rattle.cmd_core.proofs.naming.firsts.Goals.{then-branch+in_ok-clone-2+in_ok-push, else-branch}

pub loop-name-init : goal.loop-name-init
loop-name-init c =
    let none = none_seen c.new-seen.result c.new-seen.ensures.empty (spec.firsts c.args.names.now) in
    (rw (c.new-once.ensures.items, none) refl)

pub loop-name-preserved : goal.loop-name-preserved
loop-name-preserved c =
    elim c.if-branch.branch [
      | then-branch+in_ok-clone-2+in_ok-push w ↦
          let was : contains bytes_cmp c.loop-name.seen c.name-item.result ≡ false = search rules in
          let updates : Updates bytes_cmp c.loop-name.seen c.insert.new.self c.name-item.result true = search rules in
          let pushed : c.if-branch.once.items ≡ c.loop-name.once.items ++ c.name-item.result ∷ [] = search rules in
          let made = taken c.args.names.now c.loop-name.name-index c.name-item.result c.loop-name.seen c.insert.new.self c.loop-name.once.items _
          c.loop-name-test.true c.name-item.is was updates c.loop-name.invariant in
          (rw pushed made)
      | else-branch w ↦
          let was : contains bytes_cmp c.loop-name.seen c.name-item.result ≡ true = search rules in
          let made = passed c.args.names.now c.loop-name.name-index c.name-item.result c.loop-name.seen c.insert.new.self c.loop-name.once.items _ c.loop-name-test.true c.name-item.is was
          (search rules) c.loop-name.invariant in
          (rw w.once-is made)
    ]
