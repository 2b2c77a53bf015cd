-- What a turn comes to, of what its parts did.
use Rattle.std.proofs.Common.{rules, ◌≡◌, ◌≢◌, ◌↔◌, ◌⊎◌, inl, inr, ℕ, zero, suc, ◌==◌, ◌<◌, Bool, true, false, IsTrue, List, [], ◌∷◌, ◌++◌, length, drop, Result, Ok, slice_index_or, nat_lt, Global, refl, sym, ap, subst, ◌∙◌, arith, true≢false}
use Rattle.std.specs.declared.collections.VecDeque.{VecDeque}
use Rattle.std.proofs.lemmas.Grind.{flat_map-append}
use Rattle.pipes.specs.Waiting.{Waiting}
use Rattle.pmem.specs.Device.{State}
use Rattle.kv_types.specs.declared.refusal.Refusal.{Refusal}
use Rattle.model.specs.declared.group.Group.{Group}
use Rattle.model.specs.declared.work.FreeList.{FreeList}
use Rattle.model.specs.declared.work.Work.{Work}
use Rattle.model.specs.declared.work.Work.TheVariants as work
use Rattle.model.specs.Group.{AreEnded, Contents}
use Rattle.group_commit.specs.Committing.{Commits, HasShown}
use Rattle.group_commit.specs.Due.{due_now, has_group, left_by, reached_by}
use Rattle.group_commit.specs.Group.{lists_before, lists_of}
use Rattle.group_commit.specs.Working.{FreesFirst, HandsOn, IsLawful, Takes, entries_of_lists}
use Rattle.group_commit.specs.declared.committer.Committer.{Committer}
use Rattle.group_commit.specs.declared.due.Due.{Due}
use Rattle.group_commit.specs.declared.stage.Done.{Done}
use Rattle.group_commit.specs.declared.stage.Done.TheVariants.{Handed, Idle}
use Rattle.group_commit.specs.declared.stage.Stage.{Stage}
use Rattle.group_commit.specs.declared.stage.Stage.TheVariants.{Ready, Shown}
use Rattle.group_commit.proofs.FreedLemmas.{AreEnded-first}
use Rattle.group_commit.proofs.TakingLemmas.{AllAside}

-- ---- lists

-- a test that tells whether there is an element
pub none-left : {X : Type 0} (xs : List X) (some : Bool) → IsTrue some ↔ (xs ≢ []) → some ≡ false → xs ≡ []
none-left [] some tells is = refl
none-left (x ∷ xs) some tells is = absurd (let told = sym is ∙ tells.1 (λ e. let none = ap length e in omega arith) in cc)

-- the first of some lists, and the rest
pub first-is : (lists : List FreeList) (list : FreeList) → 0 < length lists → list ≡ slice_index_or lists 0 list → lists ≡ list ∷ drop 1 lists
first-is [] list some is = absurd (omega arith)
first-is (first ∷ lists) list some is = ap (λ x. x ∷ lists) (sym is)

-- the entries of the first have ended
pub first-ended : (contents : Contents) (lists : List FreeList) (list : FreeList) (rest : List FreeList) → lists ≡ list ∷ rest → AreEnded contents (entries_of_lists lists) → AreEnded contents list.entries.items
first-ended contents lists list rest is are = AreEnded-first contents list.entries.items (entries_of_lists rest) (subst (λ xs. AreEnded contents (entries_of_lists xs)) is are)

-- the entries of the lists aside have ended
pub aside-ended : (contents : Contents) (aside : List FreeList) (items : List Work) → IsLawful contents aside items → AreEnded contents (entries_of_lists aside)
aside-ended contents aside items lawful =
    AreEnded-first contents (entries_of_lists aside) (entries_of_lists (lists_before items))
    (subst (AreEnded contents) (flat_map-append (λ (list : FreeList). list.entries.items) aside (lists_before items)) lawful.lists)

-- and where no group waits, so have those of all lists
lists-all : (items : List Work) → has_group items ≡ false → lists_before items ≡ lists_of items
lists-all [] none = refl
lists-all (work.Commit group ∷ items) none = cc
lists-all (work.Free list ∷ items) none = ap (λ (lists : List FreeList). list ∷ lists) (lists-all items none)

pub reached-ended : (contents : Contents) (has_room : Bool) (aside : List FreeList) (items : List Work) → (has_room ≡ true → has_group items ≡ false) → IsLawful contents aside items
    → AreEnded contents (entries_of_lists (reached_by has_room aside items))
reached-ended contents true aside items none lawful = subst (λ (lists : List FreeList). AreEnded contents (entries_of_lists (aside ++ lists))) (lists-all items (none refl)) lawful.lists
reached-ended contents false aside items none lawful = aside-ended contents aside items lawful

-- ---- what is in hand

pub some-left : (n : ℕ) → (n == 0) ≡ false → 0 < n
some-left zero is = absurd (true≢false is)
some-left (suc n) is = omega arith

-- a list with an element is to be handed on
pub shown-list : (list : VecDeque Group Global) (groups : List Group) → list.items ≡ groups → 0 < length groups → HasShown groups (Shown list)
shown-list list [] is some = absurd (omega (arith, some))
shown-list list (group ∷ groups) is some = (list, refl, is)

-- ---- the parts of a turn

module _ {E : Type 0} (device : E → State) (contents : E → Contents) (is_faulted : E → Bool) where
  -- what is set aside beforehand is no matter of what is freed or committed
  module _ (old : Committer E) (aside : VecDeque FreeList Global) where
    abbrev middle : Committer E
    middle = record old { aside = aside }

    pub commits-from : (remote : ℕ) (groups : List Group) (result : Result Done Refusal) (new : Committer E) → Commits device contents is_faulted remote middle groups result new
        → Commits device contents is_faulted remote old groups result new
    commits-from remote groups result new it = search rules

    pub frees-from : (list : FreeList) (rest : List FreeList) (result : Result Done Refusal) (new : Committer E) → FreesFirst device contents is_faulted middle list rest result new
        → FreesFirst device contents is_faulted old list rest result new
    frees-from list rest result new it = search rules

    pub freed-from : (before after : Waiting Work) (list : FreeList) (rest : List FreeList) (result : Result Done Refusal) (new : Committer E) → AllAside old.aside.items before.items aside.items after.items
        → reached_by true old.aside.items before.items ≡ list ∷ rest
        → ((list : FreeList) (rest : List FreeList) → aside.items ≡ list ∷ rest → FreesFirst device contents is_faulted middle list rest result new)
        → (after.items ≡ left_by true before.items) × FreesFirst device contents is_faulted old list rest result new
    freed-from before after list rest result new all reached frees = (all.left, frees-from list rest result new (frees list rest (sym all.reached ∙ reached)))

  -- ---- the step that is due

  module _ {O : Type 0} (offered : O → List Group) (known_room : O → ℕ) (old new : Committer E) (before after : Waiting Work) (link link' : O) (remote : ℕ) (result : Result Done Refusal) where
    abbrev Took : Due → Bool → Type 0
    Took step has_room = Takes device contents is_faulted offered known_room step has_room remote old before link result new after link'

    -- it was taken
    pub takes-step : (step : Due) (room : ℕ) → room ≡ known_room link' → due_now contents old before (nat_lt 0 room) remote ≡ step → Took step (nat_lt 0 room)
        → Took (due_now contents old before (nat_lt 0 (known_room link')) remote) (nat_lt 0 (known_room link'))
    takes-step step room at is took =
        subst (λ (n : ℕ). Took (due_now contents old before (nat_lt 0 n) remote) (nat_lt 0 n)) at (subst (λ (s : Due). Took s (nat_lt 0 room)) (sym is) took)

  -- ---- what is in hand is handed on

  module _ {O : Type 0} (offered : O → List Group) (known_room : O → ℕ) (old new : Committer E) (link link' : O) (result : Result Done Refusal) where
    -- nothing else changes, and the step is not refused
    pub record IsBeside : Type 0 where
      pub answer : (result ≡ Ok Handed) ⊎ (result ≡ Ok Idle)
      pub engine : new.engine ≡ old.engine
      pub local : new.local ≡ old.local
      pub aside : new.aside.items ≡ old.aside.items

    beside : (stage : Stage) → (result ≡ Ok Handed) ⊎ (result ≡ Ok Idle) → new ≡ record old { stage = stage } → IsBeside
    beside stage answer is = record {
      answer = answer;
      engine = ap (λ (c : Committer E). c.engine) is;
      local = ap (λ (c : Committer E). c.local) is;
      aside = ap (λ (c : Committer E). c.aside.items) is;
    }

    pub hands-beside : HandsOn device contents is_faulted offered known_room old link result new link' → IsBeside
    hands-beside hands = elim hands.came [
      | inl first ↦ beside new.stage (inl first.answer) first.now
      | inr (inl full) ↦ beside old.stage (inr full.0) full.1
      | inr (inr none) ↦ beside Ready (inr none.1) none.2
    ]
