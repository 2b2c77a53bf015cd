-- Laws of groups that follow one another; the link after each event: the groups that it keeps and those that wait are the committed ones that are not acknowledged.
use Rattle.std.proofs.Common.{◌≡◌, ℕ, ◌<◌, ◌≤◌, max, true, false, cond, nat_le, nat_lt, map, List, [], ◌∷◌, ◌++◌, All, refl, arith, Bool, not, length, take, sym, ap, subst, ◌∙◌, append_assoc, append-nil}
use Rattle.std.proofs.Common.{length-append, le_refl, ◌&&◌, ◌||◌}
use Rattle.std.proofs.lemmas.Bool.{ltb-true, ltb-false}
use Rattle.std.proofs.lemmas.List.Elements.{All-nil, All-cons, All-map, All-weaker, All-head, All-tail, filter-append}
use Rattle.machine.specs.Event.{Span, Told, Changes, Part, End, Role, Uncopied, Pinned, told_next, Copying, Follows, Awaited, Sending, Frame, framed, keeps_group, dropped_with, ended_at, may_take, taken_group, wanted_by, above, Stage, Ready, Durable, Shown, Link, is_ready, is_shown, shown, handed, handed_to, due_delta, opened_link, sent_waiting, sent_group}
use Rattle.machine.specs.Event.{sent_next, next_to_send, knowing, new_link}
use Rattle.machine.specs.Sound.{IsChain, IsGroupWithin, IsCopyWithin, IsToldOf, IsFrameWithin, in_hand, HasRoomFor, SoundLink}
use Rattle.std.proofs.lemmas.List.Filters.{length-filter_both}
use Rattle.model.specs.Call.{is_nonempty}
use Rattle.machine.specs.declared.event.TheConstants.{PIPE_ITEMS, KEPT_GROUPS}

pub chain-le : (from : ℕ) (groups : List Span) (to : ℕ) → IsChain from groups to → from ≤ to
chain-le from [] to chain = omega arith
chain-le from (group ∷ groups) to chain = let rest = chain-le group.after groups to chain.2 in omega (arith, chain.1)

pub chain-append : (from : ℕ) (xs : List Span) (middle : ℕ) (ys : List Span) (to : ℕ) → IsChain from xs middle → IsChain middle ys to → IsChain from (xs ++ ys) to
chain-append from [] middle ys to first second = rw first second
chain-append from (group ∷ groups) middle ys to first second = (first.0, first.1, chain-append group.after groups middle ys to first.2 second)

pub chain-push : (from : ℕ) (groups : List Span) (to : ℕ) (group : Span) → IsChain from groups to → group.before ≡ to → to < group.after → IsChain from (groups ++ group ∷ []) group.after
chain-push from groups to group chain before rising = chain-append from groups to (group ∷ []) group.after chain (before, rising, refl)

-- the groups of a chain end within it
pub chain-within : (from : ℕ) (groups : List Span) (to : ℕ) → IsChain from groups to → All (IsGroupWithin to) groups
chain-within from [] to chain = All-nil (IsGroupWithin to)
chain-within from (group ∷ groups) to chain =
    let le = chain-le group.after groups to chain.2 in
    All-cons (IsGroupWithin to) group groups (record { rising = omega (arith, chain.0, chain.1); within = le }) (chain-within group.after groups to chain.2)

-- Groups that end at a position or below are dropped: the chain begins at that position or below.
pub chain-above : (from : ℕ) (groups : List Span) (to position : ℕ) → IsChain from groups to → (from' : ℕ) × (from' ≤ max from position) × IsChain from' (above position groups) to
chain-above from [] to position chain = (from, omega arith, chain)
chain-above from (group ∷ groups) to position chain =
    elim (nat_lt position group.after) as (λ b. nat_lt position group.after ≡ b → (from' : ℕ) × (from' ≤ max from position) × IsChain from' (cond b (group ∷ above position groups) (above position groups)) to) [
      | true ↦ λ e.
          let lt = ltb-true position group.after e in
          (from, omega arith, (chain.0, chain.1, all-above group.after groups to position chain.2 (omega (arith, lt))))
      | false ↦ λ e.
          let low = ltb-false position group.after e in
          let rest = chain-above group.after groups to position chain.2 in
          (rest.0, omega (arith, rest.1), rest.2)
    ] refl
  where
    -- groups after the position all stay
    all-above : (from : ℕ) (groups : List Span) (to position : ℕ) → IsChain from groups to → position < from → IsChain from (above position groups) to
    all-above from [] to position chain lt = chain
    all-above from (group ∷ groups) to position chain lt =
        elim (nat_lt position group.after) as (λ b. nat_lt position group.after ≡ b → IsChain from (cond b (group ∷ above position groups) (above position groups)) to) [
          | true ↦ λ e. (chain.0, chain.1, all-above group.after groups to position chain.2 (omega (arith, chain.1)))
          | false ↦ λ e. let low = ltb-false position group.after e in absurd (omega (arith, chain.1))
        ] refl

pub IsGroupWithin-weaker : {low high : ℕ} {group : Span} → low ≤ high → IsGroupWithin low group → IsGroupWithin high group
IsGroupWithin-weaker le g = record { rising = g.rising; within = omega (arith, g.within) }

-- ---- frames

-- a node that is a newcomer now was one before, and its position did not rise
abbrev pub StaysNewcomer : Role → ℕ → Role → ℕ → Type 0
StaysNewcomer role low role' low' = role' ≡ Uncopied → (role ≡ Uncopied) × (low' ≤ low)

pub newcomer-itself : (role : Role) (low : ℕ) → StaysNewcomer role low role low
newcomer-itself role low = λ e. (e, le_refl low)

copy-weaker : (role : Role) (low : ℕ) (role' : Role) (low' high high' copied : ℕ) → StaysNewcomer role low role' low' → high ≤ high' → IsCopyWithin role low high copied → IsCopyWithin role' low' high' copied
copy-weaker role low role' low' high high' copied stays le h =
    record { above = λ e. let was = stays e in let above = h.above was.0 in omega (arith, was.1, above); within = omega (arith, le, h.within) }

told-weaker : (role : Role) (low : ℕ) (role' : Role) (low' high high' : ℕ) (told : Told) → StaysNewcomer role low role' low' → high ≤ high' → IsToldOf role low high told → IsToldOf role' low' high' told
told-weaker role low role' low' high high' (Changes span) stays le h = IsGroupWithin-weaker le h
told-weaker role low role' low' high high' (Part position number) stays le h = copy-weaker role low role' low' high high' position stays le h
told-weaker role low role' low' high high' (End position parts) stays le h = copy-weaker role low role' low' high high' position stays le h

-- more was sent, and the node is a newcomer no more, or as it was
pub frames-later : (epoch : ℕ) (role : Role) (low : ℕ) (role' : Role) (low' high high' : ℕ) (frames : List Frame) → StaysNewcomer role low role' low' → high ≤ high' → All (IsFrameWithin epoch role low high) frames
    → All (IsFrameWithin epoch role' low' high') frames
frames-later epoch role low role' low' high high' frames stays le all =
    All-weaker (IsFrameWithin epoch role low high) (IsFrameWithin epoch role' low' high')
    (λ frame h. record { epoch_is = h.epoch_is; told = λ same. told-weaker role low role' low' high high' frame.told stays le (h.told same) }) frames all

pub frames_within-weaker : (epoch : ℕ) (role : Role) (low high high' : ℕ) (frames : List Frame) → high ≤ high' → All (IsFrameWithin epoch role low high) frames → All (IsFrameWithin epoch role low high') frames
frames_within-weaker epoch role low high high' frames le all = frames-later epoch role low role low high high' frames (newcomer-itself role low) le all

-- those of earlier epochs are of earlier ones than any later epoch
pub frames-earlier : (epoch : ℕ) (role : Role) (low high later : ℕ) (role' : Role) (low' high' : ℕ) (frames : List Frame) → epoch < later → All (IsFrameWithin epoch role low high) frames → All (IsFrameWithin later role' low' high') frames
frames-earlier epoch role low high later role' low' high' frames lt all =
    All-weaker (IsFrameWithin epoch role low high) (IsFrameWithin later role' low' high')
    (λ frame h. record { epoch_is = omega (arith, h.epoch_is, lt); told = λ same. absurd (omega (arith, h.epoch_is, lt, same)) }) frames all

-- the frames of groups
pub framed-within : (epoch : ℕ) (role : Role) (low position : ℕ) (groups : List Span) → All (IsGroupWithin position) groups → All (IsFrameWithin epoch role low position) (framed epoch (map Changes groups))
framed-within epoch role low position groups all =
    let frame : Told → Frame = λ told. record { epoch = epoch; told = told } in
    All-map (IsFrameWithin epoch role low position) frame (map Changes groups)
    (All-map (λ told. IsFrameWithin epoch role low position (frame told)) Changes groups
    (All-weaker (IsGroupWithin position) (λ group. IsFrameWithin epoch role low position (frame (Changes group))) (λ group h. record { epoch_is = le_refl epoch; told = λ same. h }) groups all))

-- a frame of a copy that may be taken
pub copy-framed : (epoch : ℕ) (role : Role) (low high : ℕ) (pinned : Pinned) → IsCopyWithin role low high pinned.position → All (IsFrameWithin epoch role low high) (framed epoch (told_next pinned ∷ []))
copy-framed epoch role low high pinned within =
    let P = IsFrameWithin epoch role low high in
    let one : (told : Told) → IsToldOf role low high told → All P (framed epoch (told ∷ [])) = λ told h. All-cons P (record { epoch = epoch; told = told }) [] (record { epoch_is = le_refl epoch; told = λ same. h }) (All-nil P) in
    one (told_next pinned) (elim (nat_lt pinned.next pinned.parts) as (λ b. IsToldOf role low high (cond b (Part pinned.position pinned.next) (End pinned.position pinned.parts))) [ true ↦ within | false ↦ within ])

-- ---- the link after each event

-- a link that has sent nothing, over a primary that is opened at this position
pub link-new : (position : ℕ) → SoundLink position Ready position position new_link
link-new position =
    record {
      kept_from = position;
      known = omega arith;
      kept = refl;
      waiting = refl;
      sent_again = [];
      again = refl;
      remote = omega arith;
      sent_from = omega arith;
      delta = All-nil (IsGroupWithin position);
      few = omega arith;
      few_kept = omega arith;
    }

-- ---- the committer's turns

-- it takes a group, for which there is room
pub link-committed : {opened : ℕ} (stage : Stage) (position : ℕ) (group : Span) (sent : ℕ) (link : Link) → is_ready stage ≡ true → length link.waiting < PIPE_ITEMS → group.before ≡ position → position < group.after
    → SoundLink opened stage position sent link → SoundLink opened (Durable group) group.after sent link
link-committed Ready position group sent link ready room before rising s = search (chain-push sent link.waiting position group (rw (append-nil link.waiting) at s.waiting) before rising)
link-committed _ position group sent link ready room before rising s = cc

pub link-raised : {opened : ℕ} (stage : Stage) (position sent : ℕ) (link : Link) → SoundLink opened stage position sent link → SoundLink opened (shown stage) position sent link
link-raised (Durable group) position sent link s = search
link-raised Ready position sent link s = s
link-raised (Shown group) position sent link s = s

pub link-handed : {opened : ℕ} (stage : Stage) (position sent : ℕ) (link : Link) → is_shown stage ≡ true → SoundLink opened stage position sent link → SoundLink opened Ready position sent (handed_to (handed stage) link)
link-handed (Shown group) position sent link hand s = search (arith, rw (← append-nil (link.waiting ++ group ∷ [])) at s.waiting, length-append link.waiting (group ∷ []))
link-handed _ position sent link hand s = cc

-- ---- sending

-- what is sent only under a condition
all-when : (P : Span → Type 0) (b : Bool) (group : Span) → (b ≡ true → P group) → All P (cond b (group ∷ []) [])
all-when P true group holds = All-cons P group [] (holds refl) (All-nil P)
all-when P false group holds = All-nil P

pub deltas-weaker : (low high : ℕ) (deltas : List Span) → low ≤ high → All (IsGroupWithin low) deltas → All (IsGroupWithin high) deltas
deltas-weaker low high deltas le all = All-weaker (IsGroupWithin low) (IsGroupWithin high) (λ delta h. IsGroupWithin-weaker le h) deltas all

-- a delta rises, and ends where the standby should be
pub due_delta-within : (position opened : ℕ) → All (IsGroupWithin opened) (due_delta position opened)
due_delta-within position opened = all-when (IsGroupWithin opened) _ _ (λ due. record { rising = ltb-true position opened due; within = omega arith })

pub link-opened : {opened : ℕ} (stage : Stage) (position sent : ℕ) (delta : List Span) (link : Link) → All (IsGroupWithin sent) delta → SoundLink opened stage position sent link
    → SoundLink opened stage position sent (opened_link delta link)
link-opened stage position sent delta link within s =
    let again : [] ++ link.kept ≡ link.kept = refl in
    search (within, again)

-- ---- a newcomer

dropped-low : (dropped : ℕ) (groups : List Span) → dropped ≤ dropped_with dropped groups
dropped-low dropped [] = le_refl dropped
dropped-low dropped (group ∷ groups) = let more = dropped-low (max dropped group.after) groups in omega (arith, more)

-- of a chain of groups that are dropped the last one ends where the chain does
dropped-all : (from : ℕ) (groups : List Span) (to dropped : ℕ) → IsChain from groups to → to ≤ max from (dropped_with dropped groups)
dropped-all from [] to dropped chain = omega (arith, chain)
dropped-all from (group ∷ groups) to dropped chain =
    let rest = dropped-all group.after groups to (max dropped group.after) chain.2 in
    let low = dropped-low (max dropped group.after) groups in
    omega (arith, rest, low)

dropped-high : (from : ℕ) (groups : List Span) (to dropped : ℕ) → IsChain from groups to → dropped_with dropped groups ≤ max dropped to
dropped-high from [] to dropped chain = omega arith
dropped-high from (group ∷ groups) to dropped chain =
    let rest = dropped-high group.after groups to (max dropped group.after) chain.2 in
    let le = chain-le group.after groups to chain.2 in
    omega (arith, rest, le)

-- what is kept is dropped
link-dropped : (opened : ℕ) (stage : Stage) (position sent : ℕ) (link : Link) → SoundLink opened stage position sent link → SoundLink opened stage position sent (record link { delta = []; again = []; kept = []; copying = Awaited; dropped = dropped_with link.dropped link.kept })
link-dropped opened stage position sent link s =
    let all = dropped-all s.kept_from link.kept sent link.dropped s.kept in
    let high = dropped-high s.kept_from link.kept sent link.dropped s.kept in
    let low = dropped-low link.dropped link.kept in
    record {
      kept_from = sent;
      known = omega (arith, all, low, s.known);
      kept = refl;
      waiting = s.waiting;
      sent_again = [];
      again = refl;
      remote = s.remote;
      sent_from = omega (arith, high, s.sent_from);
      delta = All-nil (IsGroupWithin sent);
      few = s.few;
      few_kept = omega arith;
    }

pub link-wanted : (opened : ℕ) (stage : Stage) (position sent : ℕ) (copying : Copying) (link : Link) → SoundLink opened stage position sent link → SoundLink opened stage position sent (wanted_by copying link)
link-wanted opened stage position sent Follows link s = link-dropped opened stage position sent link s
link-wanted opened stage position sent Awaited link s = link-dropped opened stage position sent link s
link-wanted opened stage position sent (Sending pinned) link s =
    record {
      kept_from = s.kept_from;
      known = s.known;
      kept = s.kept;
      waiting = s.waiting;
      sent_again = link.kept;
      again = append-nil link.kept;
      remote = s.remote;
      sent_from = s.sent_from;
      delta = All-nil (IsGroupWithin sent);
      few = s.few;
      few_kept = s.few_kept;
    }

-- the awaiting ends, and the groups that are kept are to be sent
link-ended : (opened : ℕ) (stage : Stage) (position sent acknowledged : ℕ) (copying : Copying) (link : Link) → SoundLink opened stage position sent link → SoundLink opened stage position sent (ended_at acknowledged copying link)
link-ended opened stage position sent acknowledged Follows link s = s
link-ended opened stage position sent acknowledged Awaited link s = s
link-ended opened stage position sent acknowledged (Sending pinned) link s =
    elim (nat_le pinned.position acknowledged) as (λ b. SoundLink opened stage position sent (cond b (record link { again = link.kept; copying = Follows }) link)) [
      | true ↦ record {
        kept_from = s.kept_from;
        known = s.known;
        kept = s.kept;
        waiting = s.waiting;
        sent_again = [];
        again = refl;
        remote = s.remote;
        sent_from = s.sent_from;
        delta = s.delta;
        few = s.few;
        few_kept = s.few_kept;
      }
      | false ↦ s
    ]

room-less : (stage : Stage) (group : Span) (groups : List Span) → HasRoomFor stage (group ∷ groups) → HasRoomFor stage groups
room-less Ready group groups h = omega arith
room-less _ group groups h = omega arith

all-middle : (P : Span → Type 0) (xs : List Span) (group : Span) (ys : List Span) → All P (xs ++ group ∷ ys) → P group
all-middle P [] group ys all = All-head P group ys all
all-middle P (x ∷ xs) group ys all = all-middle P xs group ys (All-tail P x (xs ++ group ∷ ys) all)

-- The link sent these groups: all groups sent so far end at `after`, which is the position up to which groups were sent before, or a later one.
pub record Sends (opened : ℕ) (stage : Stage) (position sent : ℕ) (new : Link) (groups : List Span) : Type 0 where
  pub after : ℕ
  pub later : sent ≤ after
  pub sound : SoundLink opened stage position after new
  pub within : All (IsGroupWithin after) groups

module _ (opened : ℕ) (stage : Stage) (position sent : ℕ) (link : Link) (s : SoundLink opened stage position sent link) where
  -- the next group that was never sent
  sent-first : (groups : List Span) → (is_nonempty groups && nat_lt (length link.kept) KEPT_GROUPS) ≡ true → IsChain sent (groups ++ in_hand stage) position → HasRoomFor stage groups
      → Sends opened stage position sent (sent_waiting groups link) (take 1 groups)
  sent-first [] some chain room = record { after = sent; later = le_refl sent; sound = s; within = All-nil (IsGroupWithin sent) }
  sent-first (group ∷ groups) some chain room =
      let more = ltb-true (length link.kept) KEPT_GROUPS some in
      let from : max opened link.dropped ≤ group.after = omega (arith, s.sent_from, chain.1) in
      let deltas = deltas-weaker sent group.after link.delta (omega (arith, chain.1)) s.delta in
      let sound : SoundLink opened stage position group.after (sent_waiting (group ∷ groups) link) =
      search (arith, from, deltas, chain-push s.kept_from link.kept sent group s.kept chain.0 chain.1, append-nil (link.kept ++ group ∷ []), room-less stage group groups room, length-append link.kept (group ∷ [])) in
      record { after = group.after; later = omega (arith, chain.1); sound = sound; within = All-cons (IsGroupWithin group.after) group [] (omega (arith, chain)) (All-nil (IsGroupWithin group.after)) }

  -- the next group that is to be sent, or else one that was never sent
  sent-again : (groups : List Span) → (is_nonempty groups || (is_nonempty link.waiting && nat_lt (length link.kept) KEPT_GROUPS)) ≡ true → s.sent_again ++ groups ≡ link.kept
      → Sends opened stage position sent (sent_group groups link) (take 1 (groups ++ link.waiting))
  sent-again [] some joined = sent-first link.waiting some s.waiting s.few
  sent-again (group ∷ groups) some joined =
      let kept = subst (All (IsGroupWithin sent)) (sym joined) (chain-within s.kept_from link.kept sent s.kept) in
      let sound : SoundLink opened stage position sent (sent_group (group ∷ groups) link) = search (append_assoc s.sent_again (group ∷ []) groups ∙ joined) in
      record { after = sent; later = le_refl sent; sound = sound; within = All-cons (IsGroupWithin sent) group [] (all-middle (IsGroupWithin sent) s.sent_again group groups kept) (All-nil (IsGroupWithin sent)) }

  -- the delta, or else a group
  sent-delta : (deltas : List Span) → (is_nonempty deltas || (is_nonempty link.again || (is_nonempty link.waiting && nat_lt (length link.kept) KEPT_GROUPS))) ≡ true → All (IsGroupWithin sent) deltas
      → Sends opened stage position sent (sent_next deltas link) (take 1 (deltas ++ (link.again ++ link.waiting)))
  sent-delta [] some all = sent-again link.again some s.again
  sent-delta (delta ∷ deltas) some all =
      let sound : SoundLink opened stage position sent (sent_next (delta ∷ deltas) link) = search (All-tail (IsGroupWithin sent) delta deltas all) in
      let one = All-head (IsGroupWithin sent) delta deltas all in
      record { after = sent; later = le_refl sent; sound = sound; within = All-cons (IsGroupWithin sent) delta [] one (All-nil (IsGroupWithin sent)) }

  pub link-sent : (is_nonempty link.delta || (is_nonempty link.again || (is_nonempty link.waiting && nat_lt (length link.kept) KEPT_GROUPS))) ≡ true → Sends opened stage position sent (sent_next link.delta link) (next_to_send link)
  link-sent some = sent-delta link.delta some s.delta

  -- while a copy is awaited, the next group is kept or dropped, and none is sent
  pub link-taken : (copying : Copying) (groups : List Span) → may_take copying link.kept groups ≡ true → IsChain sent (groups ++ in_hand stage) position → HasRoomFor stage groups → Sends opened stage position sent (taken_group copying groups link) []
  link-taken copying [] some chain room = record { after = sent; later = le_refl sent; sound = s; within = All-nil (IsGroupWithin sent) }
  link-taken copying (group ∷ groups) some chain room =
      let from : max opened link.dropped ≤ group.after = omega (arith, s.sent_from, chain.1) in
      let from_now : max opened group.after ≤ group.after = omega (arith, s.sent_from, chain.1) in
      let deltas = deltas-weaker sent group.after link.delta (omega (arith, chain.1)) s.delta in
      let later : sent ≤ group.after = omega (arith, chain.1) in
      elim (keeps_group copying group) as (λ b. (not b || nat_lt (length link.kept) KEPT_GROUPS) ≡ true
      → Sends opened stage position sent (cond b (record link { waiting = groups; kept = link.kept ++ group ∷ []; again = [] }) (record link { waiting = groups; kept = []; again = []; dropped = group.after })) []) [
        | true ↦ λ some.
            let more = ltb-true (length link.kept) KEPT_GROUPS some in
            let few : length (link.kept ++ group ∷ []) ≤ KEPT_GROUPS = omega (arith, more, length-append link.kept (group ∷ [])) in
            let sound : SoundLink opened stage position group.after (record link { waiting = groups; kept = link.kept ++ group ∷ []; again = [] }) =
            record {
              kept_from = s.kept_from;
              known = s.known;
              kept = chain-push s.kept_from link.kept sent group s.kept chain.0 chain.1;
              waiting = chain.2;
              sent_again = link.kept ++ group ∷ [];
              again = append-nil (link.kept ++ group ∷ []);
              remote = s.remote;
              sent_from = from;
              delta = deltas;
              few = room-less stage group groups room;
              few_kept = few;
            } in
            record { after = group.after; later = later; sound = sound; within = All-nil (IsGroupWithin group.after) }
        | false ↦ λ some.
            let sound : SoundLink opened stage position group.after (record link { waiting = groups; kept = []; again = []; dropped = group.after }) =
            record {
              kept_from = group.after;
              known = omega arith;
              kept = refl;
              waiting = chain.2;
              sent_again = [];
              again = refl;
              remote = s.remote;
              sent_from = from_now;
              delta = deltas;
              few = room-less stage group groups room;
              few_kept = omega arith;
            } in
            record { after = group.after; later = later; sound = sound; within = All-nil (IsGroupWithin group.after) }
      ] some

  -- ---- acknowledgements

  pub link-knowing : (acknowledged : ℕ) → SoundLink opened stage position sent (knowing acknowledged link)
  link-knowing acknowledged =
      let stays = λ (group : Span). nat_lt acknowledged group.after in
      let kept = chain-above s.kept_from link.kept sent acknowledged s.kept in
      let again : above acknowledged s.sent_again ++ above acknowledged link.again ≡ above acknowledged link.kept = sym (filter-append stays s.sent_again link.again) ∙ ap (above acknowledged) s.again in
      let told : SoundLink opened stage position sent (record link { kept = above acknowledged link.kept; again = above acknowledged link.again; known = max link.known acknowledged }) =
      search (arith, kept, again, length-filter_both stays (λ group. not (stays group)) (λ group. refl) link.kept) in
      link-ended opened stage position sent acknowledged link.copying _ told
