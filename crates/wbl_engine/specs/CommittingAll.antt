-- Groups that one call commits, one after another, with one sync behind the last.
use Rattle.std.specs.Prelude.{◌≡◌, ℕ, ◌≤◌, ◌⊎◌, List, [], ◌∷◌, length, take}
use Rattle.pmem.specs.Device.{State}
use Rattle.pmem.specs.Runs.{LeavesOnly}
use Rattle.model.specs.declared.group.Group.{Group}
use Rattle.model.specs.Floor.{floored}
use Rattle.model.specs.Group.{Contents, IsGroup, after_group}
use Rattle.model.specs.Image.{Image}
use Rattle.wbl_engine.specs.Contents.{Exhausts, IsDurable, Keeps}

-- each group is what a commit asks for, after those before it
abbrev pub AreGroups : Contents → List Group → Type 0
AreGroups contents [] = Unit {0}
AreGroups contents (group ∷ groups) = IsGroup contents group × AreGroups (after_group contents group) groups

-- the contents after these groups, each under a record of its own that has this floor or a higher one
abbrev pub after_commits : ℕ → Contents → List Group → Contents
after_commits floor contents [] = contents
after_commits floor contents (group ∷ groups) = after_commits floor (after_group (floored floor contents) group) groups

-- so it is after some first ones of the groups, perhaps none and perhaps all
abbrev pub AfterSome : ℕ → Contents → List Group → (Contents → Type 0) → Type 0
AfterSome floor contents groups P = (n : ℕ) × (n ≤ length groups) × P (after_commits floor contents (take n groups))

-- the image holds the contents after some first ones of the groups
abbrev pub KeepsSome : ℕ → Contents → List Group → Image → Type 0
KeepsSome floor contents groups image = AfterSome floor contents groups (λ some. Keeps some image)

-- The device went from the first state to the last by commits of these groups, one after another: at any moment of one a crash leaves the contents from before it
-- or those after it, and behind it those after it alone.
abbrev pub CommitsEach : ℕ → Contents → List Group → State → State → Type 0
CommitsEach floor contents [] first last = last ≡ first
CommitsEach floor contents (group ∷ groups) first last =
    let after = after_group (floored floor contents) group in
    (between : State) × LeavesOnly first between (λ image. Keeps contents image ⊎ Keeps after image) × IsDurable between after
    × CommitsEach floor after groups between last

-- a counter of the record of one of the groups would reach the limit
abbrev pub ExhaustsOne : Contents → List Group → Type 0
ExhaustsOne contents [] = ⊥
ExhaustsOne contents (group ∷ groups) = Exhausts contents group ⊎ ExhaustsOne (after_group contents group) groups
