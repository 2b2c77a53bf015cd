-- What is taken from the queue: free lists, and what comes behind them.
use Rattle.std.proofs.Common.{◌≡◌, ◌<◌, ◌≤◌, ◌+◌, ℕ, Bool, true, false, List, [], ◌∷◌, ◌++◌, length, map, get_or, take, Option, Some, None, refl, sym, ap, subst, ◌∙◌, append-nil, append_assoc, length-append, true≢false, arith}
use Rattle.std.proofs.lemmas.List.{length-map, map-append, take_more}
use Rattle.model.specs.declared.group.Group.{Group}
use Rattle.model.specs.declared.work.FreeList.{FreeList}
use Rattle.model.specs.declared.work.Work.{Work}
use Rattle.model.specs.declared.work.Work.TheVariants as work
use Rattle.model.specs.Group.{Contents, after_group}
use Rattle.wbl_engine.specs.CommittingAll.{AreGroups}
use Rattle.group_commit.specs.Due.{has_group, left_by, reached_by}
use Rattle.group_commit.specs.Group.{groups_of, lists_of}
use Rattle.group_commit.specs.Working.{AreTaken, AreTakenEach, IsLawful, SetsAside}
use Rattle.group_commit.proofs.DueLemmas.{group-behind}
use Rattle.group_commit.proofs.WorkLemmas.{groups_of-append, groups_of-lists, lists_of-lists}

-- so many lists were taken, and stand aside
pub record Taken (before : List Work) (aside : List FreeList) (count : ℕ) (between : List Work) (aside' : List FreeList) : Type 0 where
  pub lists : List FreeList
  pub items : before ≡ map work.Free lists ++ between
  pub set_aside : aside' ≡ aside ++ lists
  pub count_is : length lists ≡ count

pub Taken-none : (before : List Work) (aside : List FreeList) → Taken before aside 0 before aside
Taken-none before aside = record { lists = []; items = refl; set_aside = sym (append-nil aside); count_is = refl }

-- one more list is taken
pub Taken-push : (before between after : List Work) (aside aside' aside'' : List FreeList) (count : ℕ) (list : FreeList) → Taken before aside count between aside'
    → between ≡ work.Free list ∷ after → aside'' ≡ aside' ++ list ∷ [] → Taken before aside (count + 1) after aside''
Taken-push before between after aside aside' aside'' count list taken given pushed = record {
  lists = taken.lists ++ list ∷ [];
  items = taken.items ∙ ap (λ (xs : List Work). map work.Free taken.lists ++ xs) given ∙ sym (append_assoc (map work.Free taken.lists) (work.Free list ∷ []) after)
      ∙ ap (λ (xs : List Work). xs ++ after) (sym (map-append work.Free taken.lists (list ∷ [])));
  set_aside = pushed ∙ ap (λ xs. xs ++ list ∷ []) taken.set_aside ∙ append_assoc aside taken.lists (list ∷ []);
  count_is = let more = length-append taken.lists (list ∷ []) in let is = taken.count_is in omega arith;
}

-- a group comes behind them
pub Taken-group : (before between after : List Work) (aside aside' aside'' : List FreeList) (count : ℕ) (group : Group) → Taken before aside count between aside'
    → between ≡ work.Commit group ∷ after → aside'' ≡ aside' → SetsAside aside before (Some group) aside'' after
Taken-group before between after aside aside' aside'' count group taken given same = record {
  lists = taken.lists;
  set_aside = same ∙ taken.set_aside;
  taken = taken.items ∙ ap (λ (xs : List Work). map work.Free taken.lists ++ xs) given;
}

-- nothing is left
pub Taken-all : (before between after : List Work) (aside aside' : List FreeList) (count : ℕ) → Taken before aside count between aside'
    → between ≡ [] → after ≡ [] → SetsAside aside before None aside' after
Taken-all before between after aside aside' count taken none left = record {
  lists = taken.lists;
  set_aside = taken.set_aside;
  taken = (taken.items ∙ ap (λ (xs : List Work). map work.Free taken.lists ++ xs) none ∙ append-nil (map work.Free taken.lists), left);
}

-- what was aside before
pub from-same : {aside aside' aside'' : List FreeList} {before after : List Work} {came : Option Group} → aside' ≡ aside → SetsAside aside' before came aside'' after → SetsAside aside before came aside'' after
from-same {aside} {aside'} {aside''} {before} {after} {came} same sets = subst (λ (xs : List FreeList). SetsAside xs before came aside'' after) same sets

-- as many were taken as ever wait
pub none-left-over : (before between : List Work) (aside aside' : List FreeList) (count most : ℕ) → Taken before aside count between aside' → length before ≤ most → most ≤ count → between ≡ []
none-left-over before between aside aside' count most taken within all =
    nothing between (let both = length-append (map work.Free taken.lists) between in let each = length-map taken.lists work.Free in let is = ap length taken.items in let many = taken.count_is in omega arith)
  where
    nothing : (items : List Work) → length items ≤ 0 → items ≡ []
    nothing [] few = refl
    nothing (item ∷ items) few = absurd (omega arith)

-- where no group waits, none comes
pub none-comes : (aside : List FreeList) (before : List Work) (came : Option Group) (aside' : List FreeList) (after : List Work) → SetsAside aside before came aside' after
    → has_group before ≡ false → SetsAside aside before None aside' after
none-comes aside before (Some group) aside' after sets none = absurd (true≢false (sym (sym none ∙ ap has_group sets.taken ∙ group-behind sets.lists group after)))
none-comes aside before None aside' after sets none = sets

-- where none waits, all lists stand aside then
pub record AllAside (aside : List FreeList) (before : List Work) (aside' : List FreeList) (after : List Work) : Type 0 where
  pub reached : reached_by true aside before ≡ aside'
  pub left : after ≡ left_by true before

pub all-aside : (aside : List FreeList) (before : List Work) (aside' : List FreeList) (after : List Work) → SetsAside aside before None aside' after → AllAside aside before aside' after
all-aside aside before aside' after sets = record {
  reached = ap (λ (xs : List FreeList). aside ++ xs)
      (ap lists_of (sets.taken.0 ∙ sym (append-nil (map work.Free sets.lists))) ∙ lists_of-lists sets.lists [] ∙ append-nil sets.lists) ∙ sym sets.set_aside;
  left = sets.taken.1;
}

-- ---- groups, one after another

-- how many groups wait
abbrev pub many_in : List Work → ℕ
many_in items = length (groups_of items)

pub many-within : (items : List Work) → many_in items ≤ length items
many-within [] = omega arith
many-within (work.Commit group ∷ items) = let more = many-within items in omega (arith, more)
many-within (work.Free list ∷ items) = let more = many-within items in omega (arith, more)

pub many-some : (items : List Work) → has_group items ≡ true → 0 < many_in items
many-some [] some = absurd (true≢false (sym some))
many-some (work.Commit group ∷ items) some = omega arith
many-some (work.Free list ∷ items) some = many-some items some

pub many-more : (items : List Work) (i : ℕ) (item : Work) → i < length items → item ≡ get_or items i item
    → many_in (take (i + 1) items) ≡ many_in (take i items) + many_in (item ∷ [])
many-more items i item below is =
    ap many_in (take_more items i item below ∙ ap (λ x. take i items ++ x ∷ []) (sym is)) ∙ ap length (groups_of-append (take i items) (item ∷ []))
    ∙ length-append (groups_of (take i items)) (groups_of (item ∷ []))

pub many-of-two : (first second items : List Work) → first ++ second ≡ items → many_in first + many_in second ≡ many_in items
many-of-two first second items is =
    sym (ap many_in (sym is) ∙ ap length (groups_of-append first second) ∙ length-append (groups_of first) (groups_of second))

-- where none comes, none waited
pub none-many : (aside : List FreeList) (before : List Work) (aside' : List FreeList) (after : List Work) → SetsAside aside before None aside' after → many_in before ≡ 0
none-many aside before aside' after sets =
    ap many_in (sets.taken.0 ∙ sym (append-nil (map work.Free sets.lists))) ∙ ap length (groups_of-lists sets.lists [])

pub one-less : (aside : List FreeList) (before : List Work) (group : Group) (aside' : List FreeList) (after : List Work) → SetsAside aside before (Some group) aside' after
    → many_in before ≡ many_in after + 1
one-less aside before group aside' after sets =
    let is : many_in before ≡ length (group ∷ groups_of after) = ap many_in sets.taken ∙ ap length (groups_of-lists sets.lists (work.Commit group ∷ after)) in
    omega (arith, is)

-- these groups were taken, and the lists before them stand aside
pub record TakesEach (before : List Work) (aside : List FreeList) (groups : List Group) (after : List Work) (aside' : List FreeList) : Type 0 where
  pub lists : List FreeList
  pub set_aside : aside' ≡ aside ++ lists
  pub taken : AreTakenEach before lists groups after

pub TakesEach-none : (before : List Work) (aside aside' : List FreeList) → aside' ≡ aside → TakesEach before aside [] before aside'
TakesEach-none before aside aside' is = record { lists = []; set_aside = is ∙ sym (append-nil aside); taken = (refl, refl) }

each-last : (before : List Work) (lists : List FreeList) (groups : List Group) (between : List Work) (first : List FreeList) (group : Group) (after : List Work)
    → AreTakenEach before lists groups between → AreTaken between first (Some group) after → AreTakenEach before (lists ++ first) (groups ++ group ∷ []) after
each-last before lists [] between first group after taken more =
    (first, [], after, ap (λ (xs : List FreeList). xs ++ first) taken.0 ∙ sym (append-nil first), sym taken.1 ∙ more, (refl, refl))
each-last before lists (other ∷ groups) between first group after taken more =
    let (front, rest, middle, is, one, others) = taken in
    (front, rest ++ first, middle, ap (λ (xs : List FreeList). xs ++ first) is ∙ append_assoc front rest first, one, each-last middle rest groups between first group after others more)

-- one more is
pub TakesEach-more : (before : List Work) (aside : List FreeList) (groups : List Group) (between : List Work) (aside' : List FreeList) (group : Group) (after : List Work) (aside'' : List FreeList)
    → TakesEach before aside groups between aside' → SetsAside aside' between (Some group) aside'' after → TakesEach before aside (groups ++ group ∷ []) after aside''
TakesEach-more before aside groups between aside' group after aside'' takes sets = record {
  lists = takes.lists ++ sets.lists;
  set_aside = sets.set_aside ∙ ap (λ (xs : List FreeList). xs ++ sets.lists) takes.set_aside ∙ append_assoc aside takes.lists sets.lists;
  taken = each-last before takes.lists groups between sets.lists group after takes.taken sets.taken;
}

-- they are the first that waited
pub each-groups : (before : List Work) (lists : List FreeList) (groups : List Group) (after : List Work) → AreTakenEach before lists groups after
    → groups_of before ≡ groups ++ groups_of after
each-groups before lists [] after taken = ap groups_of (sym taken.1)
each-groups before lists (group ∷ groups) after taken =
    let (front, rest, middle, is, one, others) = taken in
    ap groups_of one ∙ groups_of-lists front (work.Commit group ∷ middle) ∙ ap (λ (gs : List Group). group ∷ gs) (each-groups middle rest groups after others)

AreGroups-first : (contents : Contents) (groups others : List Group) → AreGroups contents (groups ++ others) → AreGroups contents groups
AreGroups-first contents [] others are = tt
AreGroups-first contents (group ∷ groups) others are = (are.0, AreGroups-first (after_group contents group) groups others are.1)

-- and so what a commit asks for
pub each-asked : (contents : Contents) (aside : List FreeList) (before : List Work) (lists : List FreeList) (groups : List Group) (after : List Work) → IsLawful contents aside before
    → AreTakenEach before lists groups after → AreGroups contents groups
each-asked contents aside before lists groups after lawful taken =
    AreGroups-first contents groups (groups_of after) (subst (AreGroups contents) (each-groups before lists groups after taken) lawful.groups)

-- ---- the first list that is reached

pub no-items : {X : Type 0} (xs : List X) → length xs ≡ 0 → xs ≡ []
no-items [] none = refl
no-items (x ∷ xs) none = absurd (omega (arith, none))

-- none is aside, and the link has room
pub first-waits : (has_room : Bool) (aside : List FreeList) (items : List Work) (list : FreeList) (rest : List Work) → has_room ≡ true → aside ≡ [] → items ≡ work.Free list ∷ rest
    → reached_by has_room aside items ≡ list ∷ lists_of rest
first-waits has_room aside items list rest room none first =
    ap (λ (b : Bool). reached_by b aside items) room ∙ ap (λ (xs : List FreeList). xs ++ lists_of items) none ∙ ap lists_of first
