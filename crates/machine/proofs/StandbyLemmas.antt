-- The standby and the wire after each event: frames tell committed changes, and no acknowledgement has a position above the standby's.
use Rattle.std.proofs.Common.{◌≡◌, ℕ, zero, suc, ◌<◌, ◌≤◌, true, false, cond, nat_eq, List, [], ◌∷◌, ◌++◌, take, All, slice_get, Option, None, subst, refl, sym, arith, le_refl, ◌∙◌, ap, inl, inr, eqb-true}
use Rattle.std.proofs.lemmas.Bool.{and_parts}
use Rattle.std.proofs.lemmas.List.Elements.{All-nil, All-cons, All-append, All-head, All-tail, All-take, All-weaker}
use Rattle.machine.specs.Event.{Span, Told, Changes, Part, End, Role, Follower, Uncopied, Half, Frame, Acknowledgement, At, AsFollower, Standby, Wire, Takes, TakesChanges, TakesEnd, TakesOwn, acknowledged_of, acknowledgement_of, completed, counts, has_all, left_by_first, left_by_told, moved_to, option_items, with_half}
use Rattle.machine.specs.Sound.{IsFrameWithin, IsStandbyLeft, IsToldOf, IsToldWithin, SoundStandby, SoundWire}
use Rattle.machine.proofs.GroupLemmas.{StaysNewcomer, newcomer-itself, frames-later, frames_within-weaker}

-- what holds of all elements holds of the one at an index, if there is one
pub all-at : {X : Type 0} (P : X → Type 0) (xs : List X) (i : ℕ) → All P xs → All P (option_items (slice_get xs i))
all-at P [] i all = All-nil P
all-at P (x ∷ xs) zero all = All-cons P x [] (All-head P x xs all) (All-nil P)
all-at P (x ∷ xs) (suc i) all = all-at P xs i (All-tail P x xs all)

-- more was sent
pub standby-sent : (epoch reach reach' known : ℕ) (standby : Standby) → reach ≤ reach' → SoundStandby epoch reach known standby → SoundStandby epoch reach' known standby
standby-sent epoch reach reach' known standby le s =
    record { epoch_is = s.epoch_is; frames = frames_within-weaker epoch standby.role standby.position reach reach' standby.waiting le s.frames; behind = omega (arith, le, s.behind); known = s.known }

pub standby-first : (epoch reach known : ℕ) (frame : Frame) (standby : Standby) → take 1 standby.waiting ≡ frame ∷ [] → SoundStandby epoch reach known standby → IsFrameWithin epoch standby.role standby.position reach frame
standby-first epoch reach known frame standby first s =
    let P = IsFrameWithin epoch standby.role standby.position reach in
    All-head P frame [] (subst (All P) first (All-take P 1 standby.waiting s.frames))

-- ---- the wire

-- more was sent, perhaps these frames
pub wire-sent : (epoch : ℕ) (role : Role) (position reach reach' : ℕ) (frames : List Frame) (wire : Wire) → reach ≤ reach' → All (IsFrameWithin epoch role position reach') frames → SoundWire epoch reach role position wire
    → SoundWire epoch reach' role position (record wire { frames = wire.frames ++ frames })
wire-sent epoch role position reach reach' frames wire le within s =
    record { frames = All-append (IsFrameWithin epoch role position reach') wire.frames frames (frames_within-weaker epoch role position reach reach' wire.frames le s.frames) within; acknowledged = s.acknowledged }

pub wire-grown : (epoch : ℕ) (role : Role) (position reach reach' : ℕ) (wire : Wire) → reach ≤ reach' → SoundWire epoch reach role position wire → SoundWire epoch reach' role position wire
wire-grown epoch role position reach reach' wire le s = record { frames = frames_within-weaker epoch role position reach reach' wire.frames le s.frames; acknowledged = s.acknowledged }

-- the node told its position, and is at that position or a later one
pub wire-told : (epoch reach : ℕ) (role : Role) (position : ℕ) (role' : Role) (position' : ℕ) (told : List Acknowledgement) (wire : Wire) → StaysNewcomer role position role' position' → position ≤ position' → All (IsToldWithin epoch position') told
    → SoundWire epoch reach role position wire → SoundWire epoch reach role' position' (record wire { acknowledgements = wire.acknowledgements ++ told })
wire-told epoch reach role position role' position' told wire stays le within s =
    let before = All-weaker (IsToldWithin epoch position) (IsToldWithin epoch position') (λ ack h. record { epoch_is = h.epoch_is; within = λ same. let low = h.within same in omega (arith, low) }) wire.acknowledgements s.acknowledged in
    record { frames = frames-later epoch role position role' position' reach reach wire.frames stays (le_refl reach) s.frames; acknowledged = All-append (IsToldWithin epoch position') wire.acknowledgements told before within }

-- those of earlier epochs are of earlier ones than any later epoch
pub told-earlier : (epoch low later high : ℕ) (told : List Acknowledgement) → epoch < later → All (IsToldWithin epoch low) told → All (IsToldWithin later high) told
told-earlier epoch low later high told lt all =
    All-weaker (IsToldWithin epoch low) (IsToldWithin later high)
    (λ ack h. record { epoch_is = omega (arith, h.epoch_is, lt); within = λ same. absurd (omega (arith, h.epoch_is, lt, same)) }) told all

-- what a primary counts is within what the standby has
pub counted-within : (epoch own position : ℕ) (ack : Acknowledgement) → counts epoch own ack ≡ true → IsToldWithin epoch position ack → ack.position ≤ position
counted-within epoch own position ack counted told = told.within (eqb-true ack.epoch epoch (and_parts _ _ counted).0)

-- ---- what a call that is cut may leave

pub newcomer-follower : Follower ≡ Uncopied → ⊥
newcomer-follower e = cc

left-told : (role : Role) (told : Told) (standby : Standby) (reach : ℕ) → IsToldOf role standby.position reach told → All (IsStandbyLeft role standby.position reach) (left_by_told role told standby)
left-told Follower (Changes span) standby reach h =
    let P = IsStandbyLeft Follower standby.position reach in
    elim (nat_eq span.before standby.position) as (λ b. nat_eq span.before standby.position ≡ b → All P (cond b (At span.after ∷ []) [])) [
      | true ↦ λ e. let begins = eqb-true span.before standby.position e in All-cons P (At span.after) [] (omega (arith, h.rising, begins), h.within, λ e. absurd (newcomer-follower e)) (All-nil P)
      | false ↦ λ e. All-nil P
    ] refl
left-told Follower (Part position number) standby reach h = All-nil (IsStandbyLeft Follower standby.position reach)
left-told Follower (End position parts) standby reach h = All-nil (IsStandbyLeft Follower standby.position reach)
left-told Uncopied (Changes span) standby reach h = All-nil (IsStandbyLeft Uncopied standby.position reach)
left-told Uncopied (Part position number) standby reach h = All-nil (IsStandbyLeft Uncopied standby.position reach)
left-told Uncopied (End position parts) standby reach h =
    let P = IsStandbyLeft Uncopied standby.position reach in
    elim (has_all position parts standby.half) as (λ b. All P (cond b (AsFollower position ∷ []) [])) [
      | true ↦ All-cons P (AsFollower position) [] (h.above refl, h.within) (All-nil P)
      | false ↦ All-nil P
    ]

pub left-first : (epoch reach : ℕ) (standby : Standby) (frames : List Frame) → standby.epoch ≡ epoch → All (IsFrameWithin epoch standby.role standby.position reach) frames → All (IsStandbyLeft standby.role standby.position reach) (left_by_first standby frames)
left-first epoch reach standby [] same all = All-nil (IsStandbyLeft standby.role standby.position reach)
left-first epoch reach standby (frame ∷ frames) same all =
    let P = IsStandbyLeft standby.role standby.position reach in
    let within = All-head (IsFrameWithin epoch standby.role standby.position reach) frame frames all in
    elim (nat_eq frame.epoch standby.epoch) as (λ b. nat_eq frame.epoch standby.epoch ≡ b → All P (cond b (left_by_told standby.role frame.told standby) [])) [
      | true ↦ λ e. left-told standby.role frame.told standby reach (within.told (eqb-true frame.epoch standby.epoch e ∙ same))
      | false ↦ λ e. All-nil P
    ] refl

-- ---- what the node does with a frame

-- it stays sound, and what it tells is its position or one below it
pub record TakesWell (epoch reach known : ℕ) (old new : Standby) (told : List Acknowledgement) : Type 0 where
  pub standby : SoundStandby epoch reach known new
  pub runs : new.life ≡ old.life
  pub later : old.position ≤ new.position
  pub stays : StaysNewcomer old.role old.position new.role new.position
  pub told_within : All (IsToldWithin epoch new.position) told

pub told-one : (epoch reach known : ℕ) (standby : Standby) → SoundStandby epoch reach known standby → All (IsToldWithin epoch standby.position) (acknowledgement_of standby ∷ [])
told-one epoch reach known standby s =
    All-cons (IsToldWithin epoch standby.position) (acknowledgement_of standby) [] (record { epoch_is = omega (arith, s.epoch_is); within = λ same. le_refl standby.position }) (All-nil (IsToldWithin epoch standby.position))

-- what it tells where the link opens
pub told-opening : (epoch reach known : ℕ) (role : Role) (standby : Standby) → SoundStandby epoch reach known standby → All (IsToldWithin epoch standby.position) (acknowledged_of role standby)
told-opening epoch reach known Follower standby s = told-one epoch reach known standby s
told-opening epoch reach known Uncopied standby s = All-nil (IsToldWithin epoch standby.position)

settled : {epoch reach known : ℕ} {old is new : Standby} {said told : List Acknowledgement} → TakesWell epoch reach known old is said → new ≡ is → told ≡ said → TakesWell epoch reach known old new told
settled well same tells = rw (same, tells) well

-- what it does with its own frames, by its role
module _ (epoch reach known : ℕ) (old : Standby) (s : SoundStandby epoch reach known old) where
  silent : TakesWell epoch reach known old old []
  silent = record { standby = s; runs = refl; later = le_refl old.position; stays = newcomer-itself old.role old.position; told_within = All-nil (IsToldWithin epoch old.position) }

  again : TakesWell epoch reach known old old (acknowledgement_of old ∷ [])
  again = record { standby = s; runs = refl; later = le_refl old.position; stays = newcomer-itself old.role old.position; told_within = told-one epoch reach known old s }

  -- it is a standby at this position now
  moved-well : (new : Standby) → new.epoch ≡ old.epoch → new.life ≡ old.life → new.waiting ≡ old.waiting → new.role ≡ Follower → old.position ≤ new.position → new.position ≤ reach → TakesWell epoch reach known old new (acknowledgement_of new ∷ [])
  moved-well new same runs waiting follows later within =
      let no : StaysNewcomer old.role old.position new.role new.position = λ e. absurd (newcomer-follower (sym follows ∙ e)) in
      let frames = subst (All (IsFrameWithin epoch new.role new.position reach)) (sym waiting) (frames-later epoch old.role old.position new.role new.position reach reach old.waiting no (le_refl reach) s.frames) in
      let stands : SoundStandby epoch reach known new = record { epoch_is = same ∙ s.epoch_is; frames = frames; behind = within; known = omega (arith, s.known, later) } in
      record { standby = stands; runs = runs; later = later; stays = no; told_within = told-one epoch reach known new stands }

  -- it has another half of a copy
  half-well : (half : Option Half) → TakesWell epoch reach known old (with_half half old) []
  half-well half =
      record {
        standby = record { epoch_is = s.epoch_is; frames = s.frames; behind = s.behind; known = s.known };
        runs = refl;
        later = le_refl old.position;
        stays = newcomer-itself old.role old.position;
        told_within = All-nil (IsToldWithin epoch old.position);
      }

  takes-changes : (span : Span) (new : Standby) (told : List Acknowledgement) → old.role ≡ Follower → IsToldOf Follower old.position reach (Changes span) → TakesChanges span old new told → TakesWell epoch reach known old new told
  takes-changes span new told role within takes = elim takes [
    | inl below ↦ settled again below.1 below.2
    | inr (inl next) ↦
        let moved = moved_to span.after old in
        settled (moved-well moved refl refl refl role (omega (arith, next.0)) within.within) next.2 (next.3 ∙ ap (λ (x : Standby). acknowledgement_of x ∷ []) next.2)
    | inr (inr other) ↦ settled silent other.1.0 other.1.1
  ]

  takes-end : (position parts : ℕ) (new : Standby) (told : List Acknowledgement) → old.position ≤ position → position ≤ reach → TakesEnd position parts old new told → TakesWell epoch reach known old new told
  takes-end position parts new told above within takes = elim takes [
    | inl whole ↦
        let done = completed position old in
        settled (moved-well done refl refl refl refl above within) whole.1 (whole.2 ∙ ap (λ (x : Standby). acknowledgement_of x ∷ []) whole.1)
    | inr (inl other) ↦ settled silent other.0 other.1
    | inr (inr freed) ↦ settled (half-well None) freed.1 freed.2
  ]

  takes-own : (role : Role) (tells : Told) (new : Standby) (told : List Acknowledgement) → old.role ≡ role → IsToldOf role old.position reach tells → TakesOwn role tells old new told → TakesWell epoch reach known old new told
  takes-own Follower (Changes span) new told role within takes = takes-changes span new told role within takes
  takes-own Follower (Part position number) new told role within takes = settled silent takes.0 takes.1
  takes-own Follower (End position parts) new told role within takes = elim takes [
    | inl below ↦ settled again below.1 below.2
    | inr other ↦ settled silent other.1.0 other.1.1
  ]
  takes-own Uncopied (Changes span) new told role within takes = settled silent takes.0 takes.1
  takes-own Uncopied (Part position number) new told role within takes = settled (half-well takes.0) takes.2 takes.3
  takes-own Uncopied (End position parts) new told role within takes = takes-end position parts new told (within.above refl) within.within takes

pub standby-takes : (epoch reach known : ℕ) (frame : Frame) (old new : Standby) (told : List Acknowledgement) → IsFrameWithin epoch old.role old.position reach frame → Takes frame old new told → SoundStandby epoch reach known old
    → TakesWell epoch reach known old new told
standby-takes epoch reach known frame old new told within takes s = elim takes [
  | inl other ↦ settled (silent epoch reach known old s) other.1.0 other.1.1
  | inr own ↦ takes-own epoch reach known old s old.role frame.told new told refl (within.told (own.0 ∙ s.epoch_is)) own.1
]
