-- What is made of a copy moves nothing else.
use Rattle.std.proofs.Common.{◌≡◌, ℕ, List, [], ◌∷◌, Bool, true, false, Option, Some, None, refl, sym, ap, subst, ◌∙◌, inl, inr, le_refl}
use Rattle.kv_types.specs.declared.place.EntryNo.{EntryNo}
use Rattle.kv_types.specs.declared.place.Extent.{Extent}
use Rattle.model.specs.Group.{Contents}
use Rattle.redis_core.specs.Copying.{CopyOf, begun_copy, restarted_copy}
use Rattle.redis_core.specs.Sequencing.{Expects, IsAheadOf, MovesCopy, Sequencing}
use Rattle.redis_core.proofs.ExpectingLemmas.{Expects-copied}
use Rattle.redis_core.proofs.StandingLemmas.{IsAheadOf-copied}
use Rattle.primary.proofs.LeadsLemmas.{Leads-still}
use Rattle.node_steps.specs.Acts.{Copied}
use Rattle.node_steps.specs.Law.{with_seats}
use Rattle.node_steps.proofs.CopyActs.{copied-act}
use Rattle.links.specs.declared.desk.CopyAsk.TheVariants as ask
use Rattle.serving.specs.Acts.{ServesActs}
use Rattle.serving.specs.Copying.{DoesAsked, HearsAsk, MakesCopy, MovesCopyAlone, PinsAt, SendsFrame, TellsPin}
use Rattle.serving.specs.Serving.{Serves}
use Rattle.serving.specs.declared.copying.CopyCame.{CopyCame}
use Rattle.serving.specs.declared.copying.CopyCame.TheVariants as came
use Rattle.serving.specs.declared.copying.CopyMade.{CopyMade}
use Rattle.serving.specs.declared.copying.CopyMaker.{CopyMaker}
use Rattle.serving.specs.declared.copying.CopyStage.{CopyStage}

-- ---- the copy alone

alone-same : (old new : Sequencing) → new ≡ old → MovesCopyAlone old new
alone-same old new same = (old.copy, same)

alone-then : (old between new : Sequencing) → MovesCopyAlone old between → MovesCopyAlone between new → MovesCopyAlone old new
alone-then old between new (first, one) (second, other) = (second, other ∙ ap (λ (s : Sequencing). record s { copy = second }) one)

asked-alone : (before after : CopyMaker) (old new : Sequencing) (did : Bool) → HearsAsk before old after new did → MovesCopyAlone old new
asked-alone before after old new true (ask.Wanted attempt, taken, does, copies) = alone-same old new does.0
asked-alone before after old new true (ask.Over, taken, does, copies) = (None, does.0)
asked-alone before after old new false hears = alone-same old new hears.3

pins-alone : (position : ℕ) (old new : Sequencing) → PinsAt position old new → MovesCopyAlone old new
pins-alone position old new (inl again) = (restarted_copy old.copy, again.1)
pins-alone position old new (inr begins) = (Some (begun_copy old.position old.table), begins.3)

told-alone : (before after : CopyMaker) (old new : Sequencing) (did : CopyCame) → TellsPin before old after new did → MovesCopyAlone old new
told-alone before after old new came.Told tells = pins-alone tells.1 old new tells.3
told-alone before after old new came.Nothing tells = alone-same old new tells.2
told-alone before after old new came.Lacks tells = alone-same old new tells.3

sent-alone : (local : ℕ) (before after : CopyMaker) (old new : Sequencing) (did : CopyCame) → SendsFrame local before old after new did → MovesCopyAlone old new
sent-alone local before after old new came.Told sends = (new.copy, sends.4.1)
sent-alone local before after old new came.Nothing sends = alone-same old new sends.2
sent-alone local before after old new came.Lacks sends = alone-same old new sends.3

pub makes-alone : (local : ℕ) (before after : CopyMaker) (old new : Sequencing) (made : CopyMade) → MakesCopy local before old after new made → MovesCopyAlone old new
makes-alone local before after old new made makes =
    alone-then old makes.at new (asked-alone before makes.heard old makes.at made.asked makes.hears)
    (alone-then makes.at makes.pinned new (told-alone makes.heard makes.told makes.at makes.pinned made.pinned makes.tells)
    (sent-alone local makes.told after makes.pinned new made.sent makes.sends))

-- ---- what it leaves

-- what is served is the same, and the past goes on
serves-beside : (old : Sequencing) (copy : Option CopyOf) → Serves old (record old { copy = copy })
serves-beside old copy =
    let new : Sequencing = record old { copy = copy } in
    record {
      keeps = λ contents waiting aside leads. Leads-still contents waiting aside old new [] (IsAheadOf-copied old copy new refl)
          (λ contents entries extents stands. Expects-copied old copy new refl contents entries extents) refl leads;
      waits = λ none. record { no_changes = none.no_changes; none_ended = none.none_ended };
      rises = le_refl old.position;
      goes_on = λ low past contents items aside leads keyspaces kept. (
        past,
        keyspaces,
        (λ p within. refl),
        record {
          now = kept.now;
          follows = record { served = kept.follows.served; waiting = kept.follows.waiting };
          remembers = record { earlier = kept.remembers.earlier; groups = kept.remembers.groups };
        },
      );
    }

pub copied-serves : (old new : Sequencing) → MovesCopyAlone old new → Serves old new
copied-serves old new (copy, moves) = subst (λ (s : Sequencing). Serves old s) (sym moves) (serves-beside old copy)

-- and it is an act, of no event
pub copied-acts : (seats : List (Option ℕ)) (old new : Sequencing) → MovesCopyAlone old new → ServesActs seats old seats new
copied-acts seats old new (copy, moves) = record {
  acts = Copied ∷ [];
  are = λ node. (with_seats seats new node, copied-act (with_seats seats old node) copy new moves, refl);
  none_handed = refl;
}
