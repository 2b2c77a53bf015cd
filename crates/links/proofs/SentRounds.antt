-- What a link sent, step by step and round by round, and what was written of it.
use Rattle.std.proofs.Common.{◌≡◌, ◌⊎◌, inl, inr, ⊎_elim, true, true≢false, ℕ, ◌+◌, ◌<◌, ◌≤◌, List, [], ◌∷◌, ◌++◌, length, Option, Some, None, Result, Ok, Err, OnOk, refl, sym, ap, subst, ◌∙◌, append-nil, append_assoc, arith}
use Rattle.std.specs.Prelude.{is_none, slice_get}
use Rattle.std.proofs.lemmas.Bool.{cases_lt}
use Rattle.std.proofs.lemmas.Grind.{flat_map-append}
use Rattle.std.proofs.Math.Seq.{get_or-append_seam}
use Rattle.std.proofs.lemmas.Option.{get_or_from_slice_get}
use Rattle.std.specs.Io.KnownBytes.{Appends}
use Rattle.kv_types.specs.declared.refusal.Refusal.{Refusal}
use Rattle.model.specs.declared.group.Group.{Group}
use Rattle.pipes.specs.declared.limits.TheConstants.{KEPT_GROUPS}
use Rattle.frames.specs.declared.frame.Frame.{Frame}
use Rattle.standby_stream.specs.Sent.{MaySend}
use Rattle.standby_stream.specs.declared.copying.Copying.{Copying}
use Rattle.standby_stream.specs.declared.copying.Copying.TheVariants.{Follows, Awaited, Sending}
use Rattle.standby_stream.specs.Stream.{Stream, Frames, IsDue, IsFull, TakesNext, acknowledged}
use Rattle.links.specs.Sending.{Ends, broken, whole, HasSent, Rounds, WorksOff, unbegun, round, Sends, nothing, more, Step, again, fresh, waits, stays, HasNone, Waits, delta_text, frame_text, frames_text}
use Rattle.links.proofs.Serving.{Appends-join, Appends-none}
use Rattle.links.specs.declared.sending.TheConstants.{FRAMES_AT_ONCE}

pub follows_or_not : (copying : Copying) → (copying ≡ Follows) ⊎ (¬ (copying ≡ Follows))
follows_or_not Follows = inl refl
follows_or_not Awaited = inr (λ is. cc)
follows_or_not (Sending pinned) = inr (λ is. cc)

same_frame : (kept : List Frame) (own frame : Frame) → slice_get (kept ++ own ∷ []) (length kept) ≡ Some frame → own ≡ frame
same_frame kept own frame is = sym (get_or-append_seam kept own [] own) ∙ get_or_from_slice_get (kept ++ own ∷ []) (length kept) frame own is

-- nothing is said of a value that is not there
pub OnOk-err : {T E : Type 0} (P : Type 0) (result : Result T E) (e : E) → result ≡ Err e → OnOk result P
OnOk-err P (Ok x) e is = absurd cc
OnOk-err P (Err other) e is = tt

-- one frame is put
pub one_put : (out after : List ℕ) (frame : Frame) → after ≡ out ++ frame_text frame → after ≡ out ++ frames_text (frame ∷ [])
one_put out after frame put = put ∙ ap (λ (bytes : List ℕ). out ++ bytes) (sym (append-nil (frame_text frame)))

-- what is put into nothing is all that there is
pub put_alone : (old after text : List ℕ) → old ≡ [] → after ≡ old ++ text → after ≡ text
put_alone old after text empty put = put ∙ ap (λ (bytes : List ℕ). bytes ++ text) empty

module _ {I : Type 0} (gives : I → Option Group → I → Type 0) where
  -- what `Outgoing::next_frame` says where it gives what it gives
  pub record Given (given : Option ℕ) (old new : Stream) (groups left : I) : Type 0 where
    pub rests : (¬ (old.copying ≡ Follows)) → (◌≡◌ {A = Result (Option ℕ) Refusal} (Ok given) (Ok None)) × (new ≡ old) × (left ≡ groups)
    pub kept : old.copying ≡ Follows → old.next < length old.kept → (◌≡◌ {A = Result (Option ℕ) Refusal} (Ok given) (Ok (Some old.next))) × (new ≡ record old { next = old.next + 1 }) × (left ≡ groups)
    pub none : IsFull old → (◌≡◌ {A = Result (Option ℕ) Refusal} (Ok given) (Ok None)) × (new ≡ old) × (left ≡ groups)
    pub next : IsDue old → (found : Option Group) × TakesNext gives old.pending groups found left × Frames old found given new
    pub sends : MaySend old given new

  none_given : (found : Option Group) (old new : Stream) (groups left : I) → TakesNext gives old.pending groups found left → Frames old found None new → TakesNext gives old.pending groups None left
  none_given None old new groups left takes frames = takes
  none_given (Some group) old new groups left takes frames = let is = frames.0 in absurd cc

  -- where none is given all that are kept were sent
  none_left : (old new : Stream) (groups left : I) → old.next ≤ length old.kept → Given None old new groups left → old.copying ≡ Follows → old.next ≡ length old.kept
  none_left old new groups left within told follows =
      ⊎_elim (λ (kept : old.next < length old.kept). let is = (told.kept follows kept).0 in absurd cc) (λ (beyond : length old.kept ≤ old.next). omega (arith, within, beyond))
      (cases_lt old.next (length old.kept))

  -- where none is given there is none
  pub Waits-none : (given : Option ℕ) (old new : Stream) (groups left : I) → old.next ≤ length old.kept → given ≡ None → Given given old new groups left → Waits gives old groups left
  Waits-none (Some index) old new groups left within none told = absurd cc
  Waits-none None old new groups left within none told = record {
    all_sent = none_left old new groups left within told;
    due = λ due. let next = told.next due in none_given next.0 old new groups left next.1 next.2;
    full = λ full. (told.none full).2;
  }

  pub HasNone-there : (given : Option ℕ) (old new : Stream) (groups left : I) → is_none given ≡ true → (◌≡◌ {A = Result (Option ℕ) Refusal} (Ok given) (Ok None) → Waits gives old groups left)
      → MaySend old given new → HasNone gives new left
  HasNone-there (Some index) old new groups left none rests sends = absurd (true≢false (sym none))
  HasNone-there None old new groups left none rests sends = record { before = groups; waits = subst (λ (link : Stream). Waits gives link groups left) (sym sends) (rests refl) }

  pub Step-none : (given : Option ℕ) (old new : Stream) (groups left : I) → old.next ≤ length old.kept → given ≡ None → Given given old new groups left → Step gives old groups [] new left
  Step-none (Some index) old new groups left within none told = absurd cc
  Step-none None old new groups left within none told =
      subst (λ (link : Stream). Step gives old groups [] link left) (sym told.sends) (waits old groups left (Waits-none None old new groups left within none told))

  sent-fresh : (found : Option Group) (index : ℕ) (old new : Stream) (groups left : I) (frame : Frame) → IsDue old → TakesNext gives old.pending groups found left → Frames old found (Some index) new
      → slice_get new.kept index ≡ Some frame → Step gives old groups (frame ∷ []) new left
  sent-fresh None index old new groups left frame due takes frames put = let is = frames.0 in absurd cc
  sent-fresh (Some group) index old new groups left frame due takes frames put =
      let own = frames.1.0 in
      let kept : new.kept ≡ old.kept ++ own ∷ [] = ap (λ (link : Stream). link.kept) frames.1.2 in
      let at : index ≡ length old.kept = let first = frames.0 in let second = due.all_sent in cc in
      let put_at : slice_get (old.kept ++ own ∷ []) (length old.kept) ≡ Some frame =
      subst (λ (n : ℕ). slice_get (old.kept ++ own ∷ []) n ≡ Some frame) at (subst (λ (frames : List Frame). slice_get frames index ≡ Some frame) kept put) in
      let same = same_frame old.kept own frame put_at in
      subst (λ (link : Stream). Step gives old groups (frame ∷ []) link left) (sym frames.1.2)
      (subst (λ (sent : Frame). Step gives old groups (sent ∷ []) (record old { kept = old.kept ++ own ∷ []; next = old.next + 1; pending = None }) left) same
      (fresh old groups left group own due takes frames.1.1))

  sent-again : (index : ℕ) (old new : Stream) (groups left : I) (frame : Frame) → index ≡ old.next → new ≡ record old { next = old.next + 1 } → left ≡ groups
      → slice_get new.kept index ≡ Some frame → Step gives old groups (frame ∷ []) new left
  sent-again index old new groups left frame at is same put =
      let put_at : slice_get old.kept old.next ≡ Some frame =
      subst (λ (n : ℕ). slice_get old.kept n ≡ Some frame) at (subst (λ (frames : List Frame). slice_get frames index ≡ Some frame) (ap (λ (link : Stream). link.kept) is) put) in
      subst (λ (link : Stream). Step gives old groups (frame ∷ []) link left) (sym is)
      (subst (λ (rest : I). Step gives old groups (frame ∷ []) (record old { next = old.next + 1 }) rest) (sym same) (again old groups frame put_at))

  -- where one is given a standby follows
  where_given : (index : ℕ) (old new : Stream) (groups left : I) → Given (Some index) old new groups left → old.copying ≡ Follows
  where_given index old new groups left told =
      ⊎_elim (λ (follows : old.copying ≡ Follows). follows) (λ (other : ¬ (old.copying ≡ Follows)). let is = (told.rests other).0 in absurd cc) (follows_or_not old.copying)

  sent-by : (index : ℕ) (old new : Stream) (groups left : I) (frame : Frame) → Given (Some index) old new groups left → slice_get new.kept index ≡ Some frame → Step gives old groups (frame ∷ []) new left
  sent-by index old new groups left frame told put =
      let follows = where_given index old new groups left told in
      ⊎_elim (λ (within : old.next < length old.kept). let is = told.kept follows within in sent-again index old new groups left frame told.sends.index_is is.1 is.2 put)
      (λ (beyond : length old.kept ≤ old.next).
      let all_sent : old.next ≡ length old.kept = let within = told.sends.was_within in omega arith in
      ⊎_elim (λ (room : length old.kept < KEPT_GROUPS).
      let due : IsDue old = record { follows = follows; all_sent = all_sent; room = room } in
      let next = told.next due in sent-fresh next.0 index old new groups left frame due next.1 next.2 put)
      (λ (many : KEPT_GROUPS ≤ length old.kept). let is = (told.none (record { all_sent = all_sent; many = many })).0 in absurd cc)
      (cases_lt (length old.kept) KEPT_GROUPS))
      (cases_lt old.next (length old.kept))

  pub Step-sent : (given : Option ℕ) (index : ℕ) (old new : Stream) (groups left : I) (frame : Frame) → given ≡ Some index → Given given old new groups left
      → slice_get new.kept index ≡ Some frame → Step gives old groups (frame ∷ []) new left
  Step-sent given index old new groups left frame some told put =
      sent-by index old new groups left frame (subst (λ (g : Option ℕ). Given g old new groups left) some told) put

  pub Step-stays : (old new : Stream) (groups left : I) (group : Group) → IsDue old → TakesNext gives old.pending groups (Some group) left → new ≡ record old { pending = Some group }
      → Step gives old groups [] new left
  Step-stays old new groups left group due takes is = subst (λ (link : Stream). Step gives old groups [] link left) (sym is) (stays old groups left group due takes)

  -- ---- steps and rounds

  -- a link's steps so far, and what was put of them
  pub record Put (first : Stream) (from : I) (before : List ℕ) (now : Stream) (left : I) (out : List ℕ) : Type 0 where
    pub frames : List Frame
    pub steps : Sends gives first from frames now left
    pub put : out ≡ before ++ frames_text frames

  pub Put-begun : (first : Stream) (from : I) (before : List ℕ) → Put first from before first from before
  Put-begun first from before = record { frames = []; steps = nothing first from; put = sym (append-nil before) }

  joined_text : (before out text : List ℕ) (frames sent : List Frame) → text ≡ before ++ frames_text frames → out ≡ text ++ frames_text sent → out ≡ before ++ frames_text (frames ++ sent)
  joined_text before out text frames sent first then_put =
      then_put ∙ ap (λ (bytes : List ℕ). bytes ++ frames_text sent) first ∙ append_assoc before (frames_text frames) (frames_text sent)
      ∙ ap (λ (bytes : List ℕ). before ++ bytes) (sym (flat_map-append frame_text frames sent))

  pub Put-more : (first middle last : Stream) (from at left : I) (before text out : List ℕ) (sent : List Frame) → Put first from before middle at text → Step gives middle at sent last left
      → out ≡ text ++ frames_text sent → Put first from before last left out
  Put-more first middle last from at left before text out sent so_far step put = record {
    frames = so_far.frames ++ sent;
    steps = more first middle last from at left so_far.frames sent so_far.steps step;
    put = joined_text before out text so_far.frames sent so_far.put put;
  }

  -- What a link sent since it opened, where all of it was written.
  pub record SoSent (begun : ℕ) (first : Stream) (from : I) (before : Option (List ℕ)) (mark : ℕ) (now : Stream) (left : I) (after : Option (List ℕ)) : Type 0 where
    pub frames : List Frame
    pub rounds : Rounds gives begun (record first { delta = None }) from frames mark now left
    pub appended : Appends before after (delta_text first.delta ++ frames_text frames)

  -- the delta was
  pub SoSent-delta : (mark : ℕ) (first now : Stream) (from : I) (before after : Option (List ℕ)) (put : List ℕ) → now ≡ record first { delta = None } → put ≡ delta_text first.delta
      → Appends before after put → SoSent mark first from before mark now from after
  SoSent-delta mark first now from before after put is text appended = record {
    frames = [];
    rounds = subst (λ (link : Stream). Rounds gives mark (record first { delta = None }) from [] mark link from) (sym is) (unbegun mark (record first { delta = None }) from);
    appended = subst (λ (bytes : List ℕ). Appends before after bytes) (text ∙ sym (append-nil (delta_text first.delta))) appended;
  }

  -- one more round was
  pub SoSent-more : (begun mark higher : ℕ) (first middle last : Stream) (from at left : I) (before between after : Option (List ℕ)) (sent : List Frame) (put : List ℕ)
      → SoSent begun first from before mark middle at between → mark ≤ higher → Sends gives (acknowledged higher middle) at sent last left → WorksOff gives FRAMES_AT_ONCE (acknowledged higher middle) last left
      → put ≡ frames_text sent
      → Appends between after put → SoSent begun first from before higher last left after
  SoSent-more begun mark higher first middle last from at left before between after sent put so_far rises steps works text appended = record {
    frames = so_far.frames ++ sent;
    rounds = round begun mark higher (record first { delta = None }) middle last from at left so_far.frames sent so_far.rounds rises steps works;
    appended = subst (λ (bytes : List ℕ). Appends before after bytes) (joined_text (delta_text first.delta) _ _ so_far.frames sent refl refl)
        (Appends-join before between after (delta_text first.delta ++ frames_text so_far.frames) (frames_text sent) so_far.appended
        (subst (λ (bytes : List ℕ). Appends between after bytes) text appended));
  }

  -- all was written
  pub HasSent-all : (Cause : Type 0) (begun mark : ℕ) (first now : Stream) (from left : I) (before after : Option (List ℕ)) → SoSent begun first from before mark now left after
      → HasSent gives Cause begun first from before mark now left after []
  HasSent-all Cause begun mark first now from left before after so_far = record {
    frames = so_far.frames;
    written = delta_text first.delta ++ frames_text so_far.frames;
    rounds = whole begun mark (record first { delta = None }) now from left so_far.frames so_far.rounds;
    split = sym (append-nil (delta_text first.delta ++ frames_text so_far.frames));
    appended = so_far.appended;
  }

  -- the delta was written in part
  pub HasSent-delta : (Cause : Type 0) (mark : ℕ) (first now : Stream) (from : I) (before after : Option (List ℕ)) (put part rest : List ℕ) → now ≡ record first { delta = None } → put ≡ delta_text first.delta
      → put ≡ part ++ rest → Appends before after part → HasSent gives Cause mark first from before mark now from after rest
  HasSent-delta Cause mark first now from before after put part rest is text split appended = record {
    frames = [];
    written = part;
    rounds = subst (λ (link : Stream). Ends gives Cause mark (record first { delta = None }) from [] mark link from) (sym is)
        (whole mark mark (record first { delta = None }) (record first { delta = None }) from from [] (unbegun mark (record first { delta = None }) from));
    split = append-nil (delta_text first.delta) ∙ sym text ∙ split;
    appended = appended;
  }

  -- what was written of the last round, which ends so
  HasSent-ends : (Cause : Type 0) (begun mark higher : ℕ) (first middle last : Stream) (from at left : I) (before between after : Option (List ℕ)) (sent : List Frame) (put part rest : List ℕ)
      → (so_far : SoSent begun first from before mark middle at between) → Ends gives Cause begun (record first { delta = None }) from (so_far.frames ++ sent) higher last left → put ≡ frames_text sent → put ≡ part ++ rest
      → Appends between after part → HasSent gives Cause begun first from before higher last left after rest
  HasSent-ends Cause begun mark higher first middle last from at left before between after sent put part rest so_far ends text split appended =
      let so = delta_text first.delta ++ frames_text so_far.frames in
      record {
        frames = so_far.frames ++ sent;
        written = so ++ part;
        rounds = ends;
        split = sym (joined_text (delta_text first.delta) _ _ so_far.frames sent refl refl) ∙ ap (λ (bytes : List ℕ). so ++ bytes) (sym text ∙ split) ∙ sym (append_assoc so part rest);
        appended = Appends-join before between after so part so_far.appended appended;
      }

  -- the last round was written in part
  pub HasSent-part : (Cause : Type 0) (begun mark higher : ℕ) (first middle last : Stream) (from at left : I) (before between after : Option (List ℕ)) (sent : List Frame) (put part rest : List ℕ)
      → SoSent begun first from before mark middle at between → mark ≤ higher → Sends gives (acknowledged higher middle) at sent last left → WorksOff gives FRAMES_AT_ONCE (acknowledged higher middle) last left
      → put ≡ frames_text sent → put ≡ part ++ rest → Appends between after part → HasSent gives Cause begun first from before higher last left after rest
  HasSent-part Cause begun mark higher first middle last from at left before between after sent put part rest so_far rises steps works =
      let opened = record first { delta = None } in
      HasSent-ends Cause begun mark higher first middle last from at left before between after sent put part rest so_far
      (whole begun higher opened last from left (so_far.frames ++ sent) (round begun mark higher opened middle last from at left so_far.frames sent so_far.rounds rises steps works))

  -- it was broken off, and nothing of it was written
  pub HasSent-unwritten : (Cause : Type 0) (begun mark higher : ℕ) (first middle last : Stream) (from at left : I) (before after : Option (List ℕ)) (sent : List Frame)
      → Cause → SoSent begun first from before mark middle at after → mark ≤ higher → Sends gives (acknowledged higher middle) at sent last left
      → HasSent gives Cause begun first from before higher last left after (frames_text sent)
  HasSent-unwritten Cause begun mark higher first middle last from at left before after sent cause so_far rises steps =
      HasSent-ends Cause begun mark higher first middle last from at left before after after sent (frames_text sent) [] (frames_text sent) so_far
      (broken begun mark higher (record first { delta = None }) middle last from at left so_far.frames sent cause so_far.rounds rises steps) refl refl (Appends-none after)

  -- ---- the epoch of what is sent

  Step-epoch : (link : Stream) (groups : I) (frames : List Frame) (last : Stream) (left : I) → Step gives link groups frames last left → last.epoch ≡ link.epoch
  Step-epoch _ _ _ _ _ (again link groups frame is) = refl
  Step-epoch _ _ _ _ _ (fresh link groups left group frame due takes is) = refl
  Step-epoch _ _ _ _ _ (waits link groups left rests) = refl
  Step-epoch _ _ _ _ _ (stays link groups left group due takes) = refl

  Sends-epoch : (first : Stream) (from : I) (frames : List Frame) (last : Stream) (left : I) → Sends gives first from frames last left → last.epoch ≡ first.epoch
  Sends-epoch _ _ _ _ _ (nothing link groups) = refl
  Sends-epoch _ _ _ _ _ (more first middle last from at left frames sent so_far step) = Step-epoch middle at sent last left step ∙ Sends-epoch first from frames middle at so_far

  Rounds-epoch : (begun : ℕ) (first : Stream) (from : I) (frames : List Frame) (mark : ℕ) (last : Stream) (left : I) → Rounds gives begun first from frames mark last left → last.epoch ≡ first.epoch
  Rounds-epoch _ _ _ _ _ _ _ (unbegun mark link groups) = refl
  Rounds-epoch _ _ _ _ _ _ _ (round begun mark higher first middle last from at left frames sent so_far rises sends works) =
      Sends-epoch (acknowledged higher middle) at sent last left sends ∙ Rounds-epoch begun first from frames mark middle at so_far

  Ends-epoch : {Cause : Type 0} (begun : ℕ) (first : Stream) (from : I) (frames : List Frame) (mark : ℕ) (last : Stream) (left : I) → Ends gives Cause begun first from frames mark last left → last.epoch ≡ first.epoch
  Ends-epoch _ _ _ _ _ _ _ (whole begun mark first last from left frames rounds) = Rounds-epoch begun first from frames mark last left rounds
  Ends-epoch _ _ _ _ _ _ _ (broken begun mark higher first middle last from at left frames sent cause so_far rises sends) =
      Sends-epoch (acknowledged higher middle) at sent last left sends ∙ Rounds-epoch begun first from frames mark middle at so_far

  -- it stays
  pub HasSent-epoch : {Cause : Type 0} (begun : ℕ) (first : Stream) (from : I) (before : Option (List ℕ)) (mark : ℕ) (last : Stream) (left : I) (after : Option (List ℕ)) (rest : List ℕ)
      → HasSent gives Cause begun first from before mark last left after rest → last.epoch ≡ first.epoch
  HasSent-epoch begun first from before mark last left after rest sent = Ends-epoch begun (record first { delta = None }) from sent.frames mark last left sent.rounds
