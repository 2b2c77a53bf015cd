-- When the changes that wait become a group, and the versions that have ended a free list.
use Rattle.std.specs.Prelude.{ℕ, ◌-◌, Bool, false, nat_le, nat_lt, min, ◌&&◌, ◌||◌, if◌then◌else◌, is_some}
use Rattle.model.specs.declared.group.TheConstants.{MAX_PARTS}
use Rattle.serving.specs.Copying.{awaited_by}
use Rattle.serving.specs.declared.copying.CopyStage.{CopyStage}
use Rattle.serving.specs.declared.gathering.Gathering.{Gathering}
use Rattle.serving.specs.declared.gathering.TheConstants.{IDLE_ROUNDS, LISTED_AT_ONCE, MOST_BEFORE_HEAVY, MOST_LIGHT, MOST_ON_THE_WAY}

-- while so many changes are in groups that the standby has not acknowledged, those that wait are not closed: fewer where they take many lines
abbrev pub most_on_the_way : Gathering → ℕ
most_on_the_way gathering = if nat_lt MOST_LIGHT gathering.lines then MOST_BEFORE_HEAVY else MOST_ON_THE_WAY

-- Fewer than so many changes are in groups that the standby has not acknowledged; and a request waits for room, or as many changes wait as those, or as a group
-- may have.
abbrev pub is_usually_due : Gathering → ℕ → ℕ → Bool → Bool
is_usually_due gathering position remote is_short =
    nat_lt (gathering.closed - remote) (most_on_the_way gathering)
    && (is_short || nat_le (min (gathering.closed - remote) MAX_PARTS) (position - gathering.closed))

-- Changes wait, and a newcomer waits for a copy, or they are due as ever.
abbrev pub is_group_due : Gathering → ℕ → ℕ → Bool → Bool
is_group_due gathering position remote is_short =
    nat_lt 0 (position - gathering.closed) && (gathering.is_awaited || is_usually_due gathering position remote is_short)

-- The changes that wait are due to be a group, and as many as one may have.
abbrev pub is_ahead_due : Gathering → ℕ → ℕ → Bool
is_ahead_due gathering position remote = nat_le MAX_PARTS (position - gathering.closed) && is_group_due gathering position remote false

-- a newcomer's copy has come to this stage
abbrev pub with_copy : CopyStage → Gathering → Gathering
with_copy stage gathering = record gathering { is_awaited = is_some (awaited_by stage) }

-- nothing was done for a while, and the standby has acknowledged all groups
abbrev pub is_idle : Gathering → ℕ → Bool
is_idle gathering remote = nat_le IDLE_ROUNDS gathering.quiet_rounds && nat_le gathering.closed remote

-- No change waits, versions have ended that are in no list, and room is short, or they are many, or the node is idle.
abbrev pub is_list_due : Gathering → ℕ → ℕ → Bool → ℕ → Bool
is_list_due gathering position remote is_short ended =
    nat_le position gathering.closed && (nat_lt 0 ended && (is_short || (nat_le LISTED_AT_ONCE ended || is_idle gathering remote)))
