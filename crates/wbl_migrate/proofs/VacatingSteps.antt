-- Each step by which the end of a directory is emptied keeps the map under a record that goes on.
use Rattle.std.proofs.Common.{◌≡◌, Bool, Result, Err, [], refl, sym, ap, subst, ◌∙◌}
use Rattle.kv_types.specs.declared.refusal.Refusal.{Refusal}
use Rattle.kv_types.specs.declared.refusal.Refusal.TheVariants.{Fault}
use Rattle.pmem.specs.Device.{State}
use Rattle.pmem.specs.Runs.{LeavesOnly}
use Rattle.pmem.proofs.Leaving.{LeavesOnly-then, LeavesOnly-weaken}
use Rattle.model.specs.declared.record.Record.{Record}
use Rattle.model.specs.Group.{Contents, IsConsistent}
use Rattle.model.specs.Image.{Image}
use Rattle.wbl_engine.specs.Contents.{IsDurable}
use Rattle.wbl_migrate.specs.Leaving.{HasNoneLeft, HasOneLeft, IsEmptied, IsHeld, MovesEnded}
use Rattle.wbl_migrate.specs.Moving.{HoldsBy, IsLeft, IsReady, IsStep, KeepsAllVersions, MovesLive}
use Rattle.wbl_migrate.specs.Vacating.{IsVacated, StopsAt, Vacates}

pub vacates_same : (a : Contents) → Vacates a a
vacates_same a =
    record { layout = refl; position = refl; epoch = refl; role = refl; line_count = refl; map = λ s lawful map. map; lawful = λ lawful. lawful }

pub vacates_then : (a b c : Contents) → Vacates a b → Vacates b c → Vacates a c
vacates_then a b c first second =
    record {
      layout = second.layout ∙ first.layout;
      position = second.position ∙ first.position;
      epoch = second.epoch ∙ first.epoch;
      role = second.role ∙ first.role;
      line_count = second.line_count ∙ first.line_count;
      map = λ s lawful map. second.map s lawful (first.map s lawful map);
      lawful = λ lawful. second.lawful (first.lawful lawful);
    }

-- ---- the three steps

pub clearing_vacates : (a b : Contents) → KeepsAllVersions a b → Vacates a b
clearing_vacates a b keeps =
    record {
      layout = keeps.layout;
      position = keeps.position;
      epoch = keeps.epoch;
      role = keeps.role;
      line_count = keeps.line_count;
      map = λ s lawful map. keeps.map s map;
      lawful = keeps.lawful;
    }

pub moving_vacates : (a b : Contents) → MovesLive a b → Vacates a b
moving_vacates a b moves =
    record {
      layout = moves.layout;
      position = moves.position;
      epoch = moves.epoch;
      role = moves.role;
      line_count = moves.line_count;
      map = moves.map;
      lawful = moves.lawful;
    }

pub leaving_vacates : (a b : Contents) → MovesEnded a b → Vacates a b
leaving_vacates a b moves =
    record {
      layout = ap (λ (r : Record). r.layout) moves.current;
      position = ap (λ (r : Record). r.position) moves.current;
      epoch = ap (λ (r : Record). r.epoch) moves.current;
      role = ap (λ (r : Record). r.role) moves.current;
      line_count = moves.line_count;
      map = λ s lawful map. (moves.map s).0 map;
      lawful = moves.lawful;
    }

-- ---- a step by one relation is one by another

module _ (R Q : Contents → Contents → Type 0) (so : (a b : Contents) → R a b → Q a b) where
  pub holds_as : (a : Contents) (image : Image) → HoldsBy R a image → HoldsBy Q a image
  holds_as a image holds =
      record { new = holds.new; stands = so a holds.new holds.stands; consistent = holds.consistent; keeps = holds.keeps }

  module _ {E : Type 0} (device : E → State) (contents : E → Contents) (is_faulted : E → Bool) where
    pub step_as : {X : Type 0} (old new : E) (result : Result X Refusal) → IsStep device contents is_faulted R old result new
        → IsStep device contents is_faulted Q old result new
    step_as old new result step =
        record {
          stands = so (contents old) (contents new) step.stands;
          ready = step.ready;
          failures = step.failures;
          fault = step.fault;
          asked_moment = step.asked_moment;
          moments = LeavesOnly-weaken (HoldsBy Q (contents old)) (holds_as (contents old)) step.moments;
        }

-- ---- from the engine to its device

holds_behind : (a b : Contents) (image : Image) → Vacates a b → IsConsistent b → HoldsBy Vacates b image → HoldsBy Vacates a image
holds_behind a b image first consistent second =
    record {
      new = second.new;
      stands = vacates_then a b second.new first second.stands;
      consistent = λ _. second.consistent consistent;
      keeps = second.keeps;
    }

module _ {E : Type 0} (device : E → State) (contents : E → Contents) (is_faulted : E → Bool) where
  -- a device holds what its engine contained
  pub engine_held : (engine : E) (current : Record) (d : State) → IsReady device contents is_faulted engine → (contents engine).lines ≡ (device engine).lines
      → current ≡ (contents engine).current → d ≡ device engine → IsHeld current d (contents engine)
  engine_held engine current d ready sized copied given =
      record {
        current_is = sym copied;
        lines_are = sized ∙ ap (λ (state : State). state.lines) (sym given);
        durable = subst (λ (state : State). IsDurable state (contents engine)) (sym given) ready.durable;
        consistent = ready.consistent;
        lawful = ready.lawful;
      }

  -- what had ended was moved by hand
  pub engine_vacated : (old new : E) (current : Record) (d : State) → Vacates (contents old) (contents new) → (contents new).current.gaps.items ≡ []
      → current ≡ (contents new).current → HasNoneLeft current d (contents new) → IsVacated current d (contents old)
  engine_vacated old new current d vacates gapless copied none =
      record {
        new = none.new;
        stands = vacates_then (contents old) (contents new) none.new vacates (leaving_vacates (contents new) none.new none.stands);
        held = none.held;
        gapless = ap (λ (r : Record). r.gaps.items) copied ∙ gapless;
        emptied = none.emptied;
      }

  pub engine_moments : {X : Type 0} (old new : E) (result : Result X Refusal) (c d : State) → IsReady device contents is_faulted new → c ≡ device new
      → IsStep device contents is_faulted Vacates old result new → LeavesOnly c d (HoldsBy MovesEnded (contents new))
      → LeavesOnly (device old) d (HoldsBy Vacates (contents old))
  engine_moments old new result c d ready given step second =
      LeavesOnly-then step.moments
      (LeavesOnly-weaken (HoldsBy Vacates (contents old))
      (λ image holds.
      holds_behind (contents old) (contents new) image step.stands ready.consistent
      (holds_as MovesEnded Vacates leaving_vacates (contents new) image holds))
      (subst (λ (state : State). LeavesOnly state d (HoldsBy MovesEnded (contents new))) given second))

  -- ---- where a step is refused

  -- by the engine
  pub engine_stops : {X : Type 0} (AreSuch : Contents → Type 0) (old new : E) (result : Result X Refusal) (d : State) → ¬ (result ≡ Err Fault) → d ≡ device new
      → IsStep device contents is_faulted Vacates old result new → AreSuch (contents new) → StopsAt AreSuch d (contents old)
  engine_stops AreSuch old new result d sound given step such =
      let ready : IsReady device contents is_faulted new = step.ready sound in
      record {
        new = contents new;
        stands = step.stands;
        durable = subst (λ (state : State). IsDurable state (contents new)) (sym given) ready.durable;
        consistent = ready.consistent;
        such = such;
      }

  -- on its device
  pub device_stops : (old new : E) (current : Record) (d : State) → Vacates (contents old) (contents new) → HasOneLeft current d (contents new)
      → StopsAt (λ (a : Contents). ¬ IsEmptied a) d (contents old)
  device_stops old new current d vacates one =
      record {
        new = one.new;
        stands = vacates_then (contents old) (contents new) one.new vacates (leaving_vacates (contents new) one.new one.stands);
        durable = one.held.durable;
        consistent = one.held.consistent;
        such = one.left;
      }

-- a live version that is left is a version
pub left_somewhere : (a : Contents) → IsLeft a → ¬ IsEmptied a
left_somewhere a left emptied = emptied left.entry left.version left.beyond left.held
