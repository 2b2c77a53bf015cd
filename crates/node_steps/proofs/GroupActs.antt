-- Groups that commit one after another are acts.
use Rattle.std.proofs.Common.{◌≡◌, ℕ, ◌+◌, ◌≤◌, Bool, false, List, [], ◌∷◌, ◌++◌, length, map, Option, Some, inl, inr, max, refl, sym, ap, subst, ◌∙◌, arith, append-nil, append_assoc, length-append}
use Rattle.std.specs.Coded.{le_prop}
use Rattle.std.specs.List.{flat_map}
use Rattle.pmem.specs.Device.{State}
use Rattle.model.specs.declared.group.Group.{Group}
use Rattle.model.specs.declared.work.FreeList.{FreeList}
use Rattle.model.specs.declared.work.Work.{Work}
use Rattle.model.specs.declared.work.Work.TheVariants as work
use Rattle.model.specs.Floor.{floored}
use Rattle.model.specs.Group.{Contents, after_group}
use Rattle.wbl_engine.specs.Committing.{under_floor}
use Rattle.wbl_engine.specs.CommittingAll.{CommitsEach, ExhaustsOne, after_commits}
use Rattle.wbl_engine.specs.Contents.{Exhausts, IsDurable}
use Rattle.pipes.specs.Waiting.{Waiting}
use Rattle.pipes.specs.declared.limits.TheConstants.{PIPE_ITEMS}
use Rattle.redis_core.specs.Sequencing.{Sequencing}
use Rattle.group_commit.specs.Working.{AreTaken, AreTakenEach}
use Rattle.node_steps.specs.Acts.{Act, AreActs}
use Rattle.node_steps.specs.Clauses.{acts_of_group}
use Rattle.node_steps.specs.Committing.{Committing, Durable, Ready, Shown}
use Rattle.node_steps.specs.Law.{with_seats}
use Rattle.node_steps.specs.Node.{Node}
use Rattle.node_steps.specs.Orders.{AreBacks}
use Rattle.node_steps.proofs.CommitterActs.{commit-act, hand-act, raise-act, with_back}

-- what waits in a pipe is all that there is of it
pub Waiting-same : {T : Type 0} (a b : Waiting T) → a.items ≡ b.items → a ≡ b
Waiting-same a b same =
    subst (λ items. (within : length items ≤ PIPE_ITEMS) → a ≡ record { items = items; within = within }) same (λ within. ap (λ w. record a { within = w }) (le_prop a.within within)) b.within

-- what is left of it
left-of : (before : Waiting Work) (lists : List FreeList) (group : Group) (after : List Work) → AreTaken before.items lists (Some group) after → Waiting Work
left-of before lists group after taken =
    record {
      items = after;
      within = let all = ap length taken in let parts = length-append (map work.Free lists) (work.Commit group ∷ after) in omega (arith, all, parts, before.within);
    }

-- where the groups fit from the contents on, the others fit from what the first makes on
fits-under : (floor : ℕ) (contents : Contents) (groups : List Group) → ExhaustsOne (under_floor floor contents) groups → ExhaustsOne contents groups
fits-under floor contents [] one = one
fits-under floor contents (group ∷ groups) (inl this) = inl this
fits-under floor contents (group ∷ groups) (inr later) = inr (fits-under floor (after_group contents group) groups later)

-- what the thread has once a group is handed on that it committed behind these lists
abbrev pub having : Node → Waiting Work → List FreeList → State → Contents → Bool → Node
having old after lists device contents is_faulted =
    with_back old (record { waiting = after; aside = old.committing.aside ++ lists; stage = Ready; local = contents.current.position }) old.notices device contents is_faulted

-- acts of the back alone are acts
pub backs-go : (seats : List (Option ℕ)) (s : Sequencing) (old : Node) (acts : List Act) (new : Node) → AreBacks old acts new → AreActs (with_seats seats s old) acts (with_seats seats s new)
backs-go seats s old [] new same = rw same refl
backs-go seats s old (act ∷ acts) new (between, is, are) = (with_seats seats s between, is seats s, backs-go seats s between acts new are)

-- and go on
backs-append : (old middle new : Node) (acts more : List Act) → AreBacks old acts middle → AreBacks middle more new → AreBacks old (acts ++ more) new
backs-append old middle new [] more are then = subst (λ (node : Node). AreBacks node more new) are then
backs-append old middle new (act ∷ acts) more (between, is, are) then = (between, is, backs-append between middle new acts more are then)

-- the first group
one-group : (remote : ℕ) (old : Node) (lists : List FreeList) (group : Group) (after : Waiting Work) (device : State) (is_faulted : Bool) → old.committing.stage ≡ Ready
    → AreTaken old.committing.waiting.items lists (Some group) after.items → IsDurable device (after_group (floored remote old.contents) group) → is_faulted ≡ false → ¬ Exhausts old.contents group
    → AreBacks old (acts_of_group group) (having old after lists device (after_group (floored remote old.contents) group) is_faulted)
one-group remote old lists group after device is_faulted ready taken durable sound fits =
    let made = after_group (floored remote old.contents) group in
    let committing : Committing = record { waiting = after; aside = old.committing.aside ++ lists; stage = Durable group; local = old.committing.local } in
    let committed : Node = with_back old committing old.notices device made is_faulted in
    let shown : Node = with_back old (record committing { stage = Shown group; local = made.current.position }) old.notices device made is_faulted in (
      committed,
      λ seats s holder handed w stands rests.
          commit-act holder handed w (with_seats seats s old) stands ready rests remote lists group after device is_faulted taken durable sound fits,
      (
        shown,
        λ seats s holder handed w stands rests. raise-act holder handed w (with_seats seats s committed) stands group refl,
        (having old after lists device made is_faulted, λ seats s holder handed w stands rests. hand-act holder handed w (with_seats seats s shown) stands group refl, refl),
      ),
    )

-- all of them
pub each-group : (remote : ℕ) (groups : List Group) (group : Group) (old : Node) (lists : List FreeList) (after : Waiting Work) (device : State) (is_faulted : Bool) → old.committing.stage ≡ Ready
    → AreTakenEach old.committing.waiting.items lists (group ∷ groups) after.items → CommitsEach remote old.contents (group ∷ groups) old.device device → is_faulted ≡ false
    → ¬ ExhaustsOne old.contents (group ∷ groups)
    → AreBacks old (flat_map acts_of_group (group ∷ groups)) (having old after lists device (after_commits remote old.contents (group ∷ groups)) is_faulted)
unfolding left-of
each-group remote [] group old lists after device is_faulted ready taken commits sound fits =
    let (front, rest, between, is, one, others) = taken in
    let (middle, leaves, durable, same) = commits in
    let made = after_group (floored remote old.contents) group in
    let left : Waiting Work = left-of old.committing.waiting front group between one in
    let acts = one-group remote old front group left middle is_faulted ready one durable sound (λ exhausts. fits (inl exhausts)) in
    let lists_are : lists ≡ front = is ∙ ap (λ (xs : List FreeList). front ++ xs) others.0 ∙ append-nil front in
    backs-append old (having old after lists device made is_faulted) (having old after lists device made is_faulted) (acts_of_group group) []
    (subst (λ (d : State). AreBacks old (acts_of_group group) (having old after lists d made is_faulted)) (sym same)
    (subst (λ (xs : List FreeList). AreBacks old (acts_of_group group) (having old after xs middle made is_faulted)) (sym lists_are)
    (subst (λ (waiting : Waiting Work). AreBacks old (acts_of_group group) (having old waiting front middle made is_faulted)) (Waiting-same left after (sym others.1)) acts)))
    refl
each-group remote (next ∷ groups) group old lists after device is_faulted ready taken commits sound fits =
    let (front, rest, between, is, one, others) = taken in
    let (middle, leaves, durable, later) = commits in
    let made = after_group (floored remote old.contents) group in
    let last = after_commits remote made (next ∷ groups) in
    let left : Waiting Work = left-of old.committing.waiting front group between one in
    let then : Node = having old left front middle made is_faulted in
    let acts = one-group remote old front group left middle is_faulted ready one durable sound (λ exhausts. fits (inl exhausts)) in
    let more = each-group remote groups next then rest after device is_faulted refl others later sound
    (λ exhausts. fits (inr (fits-under (max old.contents.current.floor remote) (after_group old.contents group) (next ∷ groups) exhausts))) in
    let aside_is : (old.committing.aside ++ front) ++ rest ≡ old.committing.aside ++ lists =
    append_assoc old.committing.aside front rest ∙ ap (λ (xs : List FreeList). old.committing.aside ++ xs) (sym is) in
    backs-append old then (having old after lists device last is_faulted) (acts_of_group group) (flat_map acts_of_group (next ∷ groups)) acts
    (subst
    (λ (xs : List FreeList). AreBacks then (flat_map acts_of_group (next ∷ groups)) (with_back old (record { waiting = after; aside = xs; stage = Ready; local = last.current.position }) old.notices device last is_faulted))
    aside_is more)
