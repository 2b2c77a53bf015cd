-- What dropping a half copy comes to, by how it ends.
use Rattle.std.proofs.Common.{◌≡◌, ◌≢◌, ◌⊎◌, inl, inr, Bool, true, false, not, is_some, Option, None, Some, Ok, Err, Result, refl, sym, ap, ◌∙◌}
use Rattle.std.proofs.lemmas.Bool.{true≢false}
use Rattle.kv_types.specs.declared.refusal.Refusal.{Refusal}
use Rattle.kv_types.specs.declared.refusal.Refusal.TheVariants.{Fault, Memory}
use Rattle.pmem.specs.Device.{State}
use Rattle.pmem.specs.Runs.{LeavesOnly}
use Rattle.pmem.proofs.Leaving.{none_leaves}
use Rattle.model.specs.Group.{Contents, Versions}
use Rattle.mv_keyspace.specs.Table.{Table}
use Rattle.wbl_engine.specs.Contents.{IsDurable, Keeps}
use Rattle.standby.specs.declared.copies.Half.{Half}
use Rattle.standby.specs.declared.newcomer.Newcomer.{Newcomer}
use Rattle.standby.specs.Newcomers.{BreaksCopy, Clears, DropsHalf}

-- ---- whether there is a half copy

pub no_half : (half : Option Half) (answer : Bool) → is_some half ≡ not answer → answer ≡ true → half ≡ None
no_half None answer is said = refl
no_half (Some half) answer is said = absurd (true≢false (is ∙ ap not said))

pub some_half : (half : Option Half) (answer : Bool) → is_some half ≡ not answer → answer ≡ false → half ≢ None
some_half half answer is said none = true≢false (sym (is ∙ ap not said) ∙ ap is_some none)

-- ---- answers

abbrev refused : Refusal → Result (Unit {0}) Refusal
refused x = Err x

refusal_is : (x y : Refusal) → refused x ≡ refused y → x ≡ y
refusal_is x y e = cc

not_both : Fault ≡ Memory → ⊥
not_both e = cc

not_refused : (done : Unit {0}) (x : Refusal) → Ok done ≡ Err x → ⊥
not_refused done x e = cc

module _ {E K D : Type 0} (device : E → State) (contents : E → Contents) (is_faulted : E → Bool) (staged : E → Versions) (table : K → Table) where
  -- there was none
  pub Clears-none : (node : Newcomer E K D) (done : Unit {0}) → node.half ≡ None → IsDurable (device node.engine) (contents node.engine)
      → Clears device contents is_faulted staged table node (Ok done) node
  Clears-none node done none durable = record {
    cleared = inl (none, refl);
    causes = tt;
    memory = λ is. absurd (not_refused done Memory is);
    fault = λ is. absurd (not_refused done Fault is);
    moments = none_leaves (device node.engine) (Keeps (contents node.engine)) durable;
  }

  -- it is dropped
  pub Clears-done : (old new : Newcomer E K D) (done : Unit {0}) → DropsHalf device contents is_faulted staged table old new
      → Clears device contents is_faulted staged table old (Ok done) new
  Clears-done old new done dropped = record {
    cleared = inr dropped;
    causes = tt;
    memory = λ is. absurd (not_refused done Memory is);
    fault = λ is. absurd (not_refused done Fault is);
    moments = dropped.rests.moments;
  }

  -- it is not: there was no memory, or a fence failed
  pub Clears-refused : (old new : Newcomer E K D) (refusal : Refusal) → (refusal ≡ Fault) ⊎ (refusal ≡ Memory) → (refusal ≡ Memory → new.engine ≡ old.engine)
      → new.keyspace ≡ old.keyspace → new.heap ≡ old.heap → new.half ≡ old.half → (refusal ≡ Fault → BreaksCopy device contents is_faulted staged table old Fault new)
      → IsDurable (device old.engine) (contents old.engine) → LeavesOnly (device old.engine) (device new.engine) (Keeps (contents old.engine))
      → Clears device contents is_faulted staged table old (Err refusal) new
  Clears-refused old new refusal (inl fault) engine keyspace heap half broken durable moments = record {
    cleared = tt;
    causes = inr fault;
    memory = λ is. absurd (not_both (sym fault ∙ refusal_is refusal Memory is));
    fault = λ is. broken fault;
    moments = moments;
  }
  Clears-refused old new refusal (inr memory) engine keyspace heap half broken durable moments = record {
    cleared = tt;
    causes = inl memory;
    memory = λ is p. record { engine = (engine memory) p; keyspace = keyspace p; heap = heap p; half = half p };
    fault = λ is. absurd (not_both (sym (refusal_is refusal Fault is) ∙ memory));
    moments = moments;
  }
