-- Steps of an engine, one after another.
use Rattle.std.proofs.Common.{◌≡◌, Bool, Result, Ok, Err, refl, ap, ◌∙◌, arith}
use Rattle.kv_types.specs.declared.refusal.Refusal.{Refusal}
use Rattle.kv_types.specs.declared.refusal.Refusal.TheVariants.{Fault}
use Rattle.pmem.specs.Device.{State}
use Rattle.pmem.proofs.Leaving.{LeavesOnly-then, LeavesOnly-weaken, none_leaves}
use Rattle.model.specs.Group.{Contents, IsConsistent}
use Rattle.model.specs.Image.{Image}
use Rattle.wbl_engine.specs.Contents.{Keeps}
use Rattle.wbl_migrate.specs.Moving.{HoldsBy, IsReady, IsStep}

pub ok_no_error : {X Y : Type 0} (x : X) (e : Y) → ◌≡◌ {A = Result X Y} (Ok x) (Err e) → ⊥
ok_no_error x e is = cc

module _ {E : Type 0} (device : E → State) (contents : E → Contents) (is_faulted : E → Bool) (R : Contents → Contents → Type 0)
    (same : (a : Contents) → R a a) (trans : (a b c : Contents) → R a b → R b c → R a c) where
  holds_same : (a : Contents) (image : Image) → Keeps a image → HoldsBy R a image
  holds_same a image keeps = record { new = a; stands = same a; consistent = λ consistent. consistent; keeps = keeps }

  holds_then : (a b : Contents) (image : Image) → R a b → IsConsistent b → HoldsBy R b image → HoldsBy R a image
  holds_then a b image first consistent second =
      record {
        new = second.new;
        stands = trans a b second.new first second.stands;
        consistent = λ _. second.consistent consistent;
        keeps = second.keeps;
      }

  -- nothing was done
  pub no_step : {X : Type 0} (engine : E) (result : Result X Refusal) → ¬ (result ≡ Err Fault) → IsReady device contents is_faulted engine
      → IsStep device contents is_faulted R engine result engine
  no_step engine result sound ready =
      record {
        stands = same (contents engine);
        ready = λ _. ready;
        failures = λ _. refl;
        fault = λ is. absurd (sound is);
        asked_moment = refl;
        moments = none_leaves (device engine) (HoldsBy R (contents engine)) (λ image is. holds_same (contents engine) image (ready.durable image is));
      }

  -- Unless the first step failed, the second may follow it.
  pub step-then : {X Y : Type 0} (a b c : E) (done : X) (result : Result Y Refusal) → IsStep device contents is_faulted R a (Ok done) b
      → IsStep device contents is_faulted R b result c → IsStep device contents is_faulted R a result c
  step-then a b c done result first second =
      let ready : IsReady device contents is_faulted b = first.ready (ok_no_error done Fault) in
      let failures : (device b).failures ≡ (device a).failures = first.failures (ok_no_error done Fault) in
      record {
        stands = trans (contents a) (contents b) (contents c) first.stands second.stands;
        ready = second.ready;
        failures = λ sound. second.failures sound ∙ failures;
        fault = λ is. let told = second.fault is in let more = told.1 in (told.0, omega (arith, more, failures));
        asked_moment = second.asked_moment ∙ first.asked_moment;
        moments = LeavesOnly-then first.moments
            (LeavesOnly-weaken (HoldsBy R (contents a)) (λ image holds. holds_then (contents a) (contents b) image first.stands ready.consistent holds)
            second.moments);
      }

  -- the same step, with another answer
  pub step-answers : {X Y : Type 0} (a b : E) (done : X) (result : Result Y Refusal) → ¬ (result ≡ Err Fault)
      → IsStep device contents is_faulted R a (Ok done) b → IsStep device contents is_faulted R a result b
  step-answers a b done result sound step =
      record {
        stands = step.stands;
        ready = λ _. step.ready (ok_no_error done Fault);
        failures = λ _. step.failures (ok_no_error done Fault);
        fault = λ is. absurd (sound is);
        asked_moment = step.asked_moment;
        moments = step.moments;
      }

  -- the same refusal, of a call with another answer
  pub step-refuses : {X Y : Type 0} (a b : E) (refusal : Refusal) → IsStep device contents is_faulted {X = X} R a (Err refusal) b
      → IsStep device contents is_faulted {X = Y} R a (Err refusal) b
  step-refuses a b refusal step =
      record {
        stands = step.stands;
        ready = λ sound. step.ready (λ is. let same : refusal ≡ Fault = cc in sound (ap Err same));
        failures = λ sound. step.failures (λ is. let same : refusal ≡ Fault = cc in sound (ap Err same));
        fault = λ is. let same : refusal ≡ Fault = cc in step.fault (ap Err same);
        asked_moment = step.asked_moment;
        moments = step.moments;
      }
