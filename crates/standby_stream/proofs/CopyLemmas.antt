-- Which frames end above a position, and which do not.
use Rattle.std.proofs.Common.{◌≡◌, ℕ, ◌+◌, ◌≤◌, Bool, true, false, cond, List, [], ◌∷◌, ◌++◌, length, take, drop, nat_le, refl, sym, ap, subst, ◌∙◌, true≢false, arith}
use Rattle.std.proofs.Math.Seq.{drop-append_seam, take-append_seam}
use Rattle.std.proofs.lemmas.Bool.{le-leb, leb-true}
use Rattle.std.proofs.lemmas.List.{length-append}
use Rattle.frames.specs.declared.frame.Frame.{Frame}
use Rattle.standby_stream.specs.Copying.{IsAside, above, ended_at, goes_aside, up_to}
use Rattle.standby_stream.specs.declared.copying.Copying.{Copying}
use Rattle.standby_stream.specs.declared.copying.Copying.TheVariants.{Follows, Awaited, Sending}

-- nothing ends above the position, where that holds of the others and of the one behind them
pub above-push : (position : ℕ) (frames : List Frame) (frame : Frame) → above position frames ≡ [] → nat_le frame.after position ≡ true → above position (frames ++ frame ∷ []) ≡ []
above-push position [] frame none low = ap (λ b. cond b [] (frame ∷ [])) low
above-push position (first ∷ frames) frame none low =
    elim (nat_le first.after position) as (λ b. cond b (above position frames) (first ∷ frames) ≡ [] → cond b (above position (frames ++ frame ∷ [])) (first ∷ (frames ++ frame ∷ [])) ≡ []) [
      | true ↦ λ rest. above-push position frames frame rest low
      | false ↦ λ rest. cc
    ] none

pub above-up_to : (position : ℕ) (frames : List Frame) → above position (up_to position frames) ≡ []
above-up_to position [] = refl
above-up_to position (frame ∷ frames) =
    elim (nat_le frame.after position) as (λ b. nat_le frame.after position ≡ b → above position (cond b (frame ∷ up_to position frames) []) ≡ []) [
      | true ↦ λ low. ap (λ b. cond b (above position (up_to position frames)) (frame ∷ up_to position frames)) low ∙ above-up_to position frames
      | false ↦ λ high. refl
    ] refl

-- a higher position has nothing above it either
pub above-higher : (pinned position : ℕ) (frames : List Frame) → pinned ≤ position → above pinned frames ≡ [] → above position frames ≡ []
above-higher pinned position [] le none = refl
above-higher pinned position (frame ∷ frames) le none =
    elim (nat_le frame.after pinned) as (λ b. nat_le frame.after pinned ≡ b → cond b (above pinned frames) (frame ∷ frames) ≡ [] → above position (frame ∷ frames) ≡ []) [
      | true ↦ λ low rest.
          ap (λ b. cond b (above position frames) (frame ∷ frames)) (le-leb frame.after position (omega (arith, leb-true frame.after pinned low, le)))
          ∙ above-higher pinned position frames le rest
      | false ↦ λ high rest. cc
    ] refl none

-- nor have those that are left where some went
pub above-left : (pinned position : ℕ) (frames : List Frame) → above pinned frames ≡ [] → above pinned (above position frames) ≡ []
above-left pinned position [] none = refl
above-left pinned position (frame ∷ frames) none =
    elim (nat_le frame.after position) as (λ b. above pinned (cond b (above position frames) (frame ∷ frames)) ≡ []) [
      | true ↦ above-left pinned position frames (rest_none (nat_le frame.after pinned) none)
      | false ↦ none
    ]
  where
    rest_none : (b : Bool) → cond b (above pinned frames) (frame ∷ frames) ≡ [] → above pinned frames ≡ []
    rest_none true is = is
    rest_none false is = cc

-- the frames up to the position, and those from the first on that ends above it, are all
up_to-above : (position : ℕ) (frames : List Frame) → up_to position frames ++ above position frames ≡ frames
up_to-above position [] = refl
up_to-above position (frame ∷ frames) =
    elim (nat_le frame.after position) as (λ b. cond b (frame ∷ up_to position frames) [] ++ cond b (above position frames) (frame ∷ frames) ≡ frame ∷ frames) [
      | true ↦ ap (λ rest. frame ∷ rest) (up_to-above position frames)
      | false ↦ refl
    ]

count-up_to : (position : ℕ) (frames : List Frame) (count : ℕ) → count + length (above position frames) ≡ length frames → count ≡ length (up_to position frames)
count-up_to position frames count all =
    let both : length frames ≡ length (up_to position frames) + length (above position frames) =
    sym (ap (λ (fs : List Frame). length fs) (up_to-above position frames)) ∙ length-append (up_to position frames) (above position frames) in
    omega (arith, all, both)

pub take-up_to : (position : ℕ) (frames : List Frame) (count : ℕ) → count + length (above position frames) ≡ length frames → take count frames ≡ up_to position frames
take-up_to position frames count all =
    ap (λ n. take n frames) (count-up_to position frames count all)
    ∙ sym (ap (λ (fs : List Frame). take (length (up_to position frames)) fs) (up_to-above position frames))
    ∙ take-append_seam (up_to position frames) (above position frames)

pub drop-up_to : (position : ℕ) (frames : List Frame) (count : ℕ) → count + length (above position frames) ≡ length frames → drop count frames ≡ above position frames
drop-up_to position frames count all =
    ap (λ n. drop n frames) (count-up_to position frames count all)
    ∙ sym (ap (λ (fs : List Frame). drop (length (up_to position frames)) fs) (up_to-above position frames))
    ∙ drop-append_seam (up_to position frames) (above position frames)

-- ---- what is true while no standby follows

pub is_aside-put : (copying : Copying) (kept : List Frame) (next : ℕ) (aside : List Frame) (frame : Frame) → goes_aside copying frame.after ≡ true → IsAside copying kept next aside
    → IsAside copying kept next (aside ++ frame ∷ [])
is_aside-put Follows kept next aside frame holds is = tt
is_aside-put Awaited kept next aside frame holds is = is
is_aside-put (Sending pinned) kept next aside frame holds is = (is.0, above-push pinned aside frame is.1 holds)

pub is_aside-keep : (copying : Copying) (kept : List Frame) (next : ℕ) (aside : List Frame) (frame : Frame) → goes_aside copying frame.after ≡ false → IsAside copying kept next aside
    → IsAside copying (kept ++ frame ∷ []) next aside
is_aside-keep Follows kept next aside frame sent is = tt
is_aside-keep Awaited kept next aside frame sent is = absurd (true≢false sent)
is_aside-keep (Sending pinned) kept next aside frame sent is = is

-- a copy that is pinned has nothing aside above it
pub is_aside-pinned : (position : ℕ) (kept moved : List Frame) (next : ℕ) (aside left : List Frame) (count : ℕ) → IsAside Awaited kept next aside
    → count + length (above position aside) ≡ length aside → left ≡ take count aside → IsAside (Sending position) moved next left
is_aside-pinned position kept moved next aside left count is all left_is =
    (is.0, ap (above position) (left_is ∙ take-up_to position aside count all) ∙ above-up_to position aside)

is_aside-ended : (pinned position : ℕ) (kept : List Frame) (next : ℕ) (aside : List Frame) (b : Bool) → next ≡ 0 → above pinned aside ≡ []
    → IsAside (cond b Follows (Sending pinned)) kept next (above position aside)
is_aside-ended pinned position kept next aside true from_first none = tt
is_aside-ended pinned position kept next aside false from_first none = (from_first, above-left pinned position aside none)

-- what an acknowledgement leaves
pub is_aside-reached : (position : ℕ) (copying : Copying) (kept : List Frame) (next after : ℕ) (aside : List Frame) → after ≤ next → IsAside copying kept next aside
    → IsAside (ended_at position copying) (above position kept) after (above position aside)
is_aside-reached position Follows kept next after aside less is = tt
is_aside-reached position Awaited kept next after aside less is = (omega (arith, less, is.0), ap (above position) is.1)
is_aside-reached position (Sending pinned) kept next after aside less is =
    is_aside-ended pinned position (above position kept) after aside (nat_le pinned position) (omega (arith, less, is.0)) is.1

-- one at the copy's position or above ends it
pub ends-copy : (position pinned : ℕ) (copying : Copying) (kept : List Frame) (next after : ℕ) (aside : List Frame) → after ≤ next → copying ≡ Sending pinned → pinned ≤ position
    → IsAside copying kept next aside → (ended_at position copying ≡ Follows) × (above position aside ≡ []) × (after ≡ 0)
ends-copy position pinned copying kept next after aside less is le stands =
    let at = subst (λ (c : Copying). IsAside c kept next aside) is stands in (
      ap (ended_at position) is ∙ ap (λ b. cond b Follows (Sending pinned)) (le-leb pinned position le),
      above-higher pinned position aside le at.1,
      omega (arith, less, at.0),
    )
