-- What a link holds after it took a group, and after it framed one.
use Rattle.std.proofs.Common.{◌≡◌, ℕ, ◌+◌, ◌<◌, ◌++◌, if◌then◌else◌, [], ◌∷◌, Bool, true, false, length, Option, Some, None, Result, Ok, refl, sym, ap, subst, ◌∙◌, append-nil, arith, true≢false}
use Rattle.std.proofs.lemmas.List.{length-append}
use Rattle.kv_types.specs.declared.refusal.Refusal.{Refusal}
use Rattle.model.specs.declared.group.Group.{Group}
use Rattle.frames.specs.declared.frame.Frame.{Frame}
use Rattle.standby_stream.specs.Copying.{goes_aside}
use Rattle.standby_stream.specs.Sent.{IsSent}
use Rattle.standby_stream.specs.Stream.{Stream, TakesNext, Adds, Frames, IsFrameOf, placed, with_frame}
use Rattle.standby_stream.specs.declared.copying.Copying.{Copying}
use Rattle.standby_stream.specs.declared.copying.Copying.TheVariants.{Follows}

-- where a standby follows, no frame goes aside
placed-follows : (frame : Frame) (old : Stream) → old.copying ≡ Follows → placed frame old ≡ with_frame frame old
placed-follows frame old follows =
    ap (λ (copying : Copying). if goes_aside copying frame.after then record old { pending = None; aside = old.aside ++ frame ∷ [] } else with_frame frame old) follows

-- a frame was added, and is sent
pub sends-added : (old new : Stream) (found : Option Group) (did : Bool) → old.copying ≡ Follows → Adds old found did new → did ≡ true
    → Frames old found (Some new.next) (record new { next = new.next + 1 })
sends-added old new None did follows adds is = absurd (true≢false (sym is ∙ adds.0))
sends-added old new (Some group) did follows adds is =
    let same : new ≡ with_frame adds.1.0 old = adds.1.2 ∙ placed-follows adds.1.0 old follows in
    (ap (λ (s : Stream). Some s.next) same, (adds.1.0, adds.1.1, ap (λ (s : Stream). record s { next = s.next + 1 }) same))

pub sent-added : (old new : Stream) (found : Option Group) (did : Bool) → old.copying ≡ Follows → old.next ≡ length old.kept → Adds old found did new → did ≡ true
    → IsSent old new.next (record new { next = new.next + 1 })
sent-added old new None did follows all adds is = absurd (true≢false (sym is ∙ adds.0))
sent-added old new (Some group) did follows all adds is =
    let same : new ≡ with_frame adds.1.0 old = adds.1.2 ∙ placed-follows adds.1.0 old follows in
    record {
      index_is = ap (λ (s : Stream). s.next) same;
      next_is = ap (λ (s : Stream). s.next + 1) same;
      was_within = omega (arith, all);
      within = subst (λ (s : Stream). old.next < length s.kept) (sym same) (subst (λ (n : ℕ). old.next < n) (sym (length-append old.kept (adds.1.0 ∷ []))) (omega (arith, all)));
      grows = record { more = adds.1.0 ∷ []; is = ap (λ (s : Stream). s.kept) same };
    }

-- a kept frame is sent again
pub sent-again : (old : Stream) → old.next < length old.kept → IsSent old old.next (record old { next = old.next + 1 })
sent-again old kept = record { index_is = refl; next_is = refl; was_within = omega (arith, kept); within = kept; grows = record { more = []; is = sym (append-nil old.kept) } }

-- no frame was added
pub not-added : {X : Type 0} (did : Bool) → did ≡ true → ◌≡◌ {A = Result Bool Refusal} (Ok did) (Ok false) → X
not-added did is isnt = let wrong : true ≡ false = cc in absurd (true≢false wrong)

module _ {I : Type 0} (gives : I → Option Group → I → Type 0) (before after : I) (own now : Stream) (same : own ≡ now) (group : Group) (pending : Option Group) (is : pending ≡ Some group)
    (takes : TakesNext gives own.pending before pending after) where
  -- a group that was taken stays with the link
  pub keeps-group : (found : Group) × TakesNext gives now.pending before (Some found) after × (record own { pending = pending } ≡ record now { pending = Some found })
  keeps-group =
      subst (λ (s : Stream). (found : Group) × TakesNext gives s.pending before (Some found) after × (record own { pending = pending } ≡ record s { pending = Some found })) same
      (group, subst (λ found. TakesNext gives own.pending before found after) is takes, ap (λ p. record own { pending = p }) is)

  -- its frame is kept last, or is the last aside
  pub adds-frame : (frame : Frame) (new : Stream) → IsFrameOf own.epoch group frame → new ≡ placed frame own
      → (found : Option Group) × TakesNext gives now.pending before found after × Adds now found true new
  adds-frame frame new of is_placed =
      subst (λ (s : Stream). (found : Option Group) × TakesNext gives s.pending before found after × Adds s found true new) same
      (Some group, subst (λ found. TakesNext gives own.pending before found after) is takes, (refl, (frame, of, is_placed)))
