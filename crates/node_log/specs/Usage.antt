-- How much of an image's room is taken, and when that is told.
use Rattle.std.specs.Prelude.{ℕ, ◌-◌, ◌/◌, Bool, Option, Some, None, max, min, nat_le, nat_lt, if◌then◌else◌}
use Rattle.placing.specs.declared.fill.Fill.{Fill}
use Rattle.node_log.specs.declared.usage.Capacity.{Capacity}
use Rattle.node_log.specs.declared.usage.Share.{Share}
use Rattle.node_log.specs.declared.usage.Usage.{Usage}

-- what is not free is taken
abbrev pub usage_of : Fill → Capacity → Usage
usage_of fill capacity = record {
  keys = fill.keys;
  versions = record { taken = capacity.versions - fill.free_entries; of = capacity.versions };
  lines = record { taken = capacity.lines - fill.free_lines; of = capacity.lines };
}

-- at most one of so many is free
abbrev pub is_taken_but : ℕ → Share → Bool
is_taken_but one_in share = nat_le (share.of - share.taken) (share.of / one_in)

-- at least so many of 100 are taken
abbrev pub percent_taken : Share → ℕ
percent_taken share = if is_taken_but 100 share then 99 else (if is_taken_but 10 share then 90 else (if is_taken_but 5 share then 80 else 0))

-- What was told last of a share, 0, 90 or 99, once it is looked at: 90 is told anew once fewer than 80 of 100 were taken, and 99 once fewer than 90 were.
abbrev pub told_after : ℕ → Share → ℕ
told_after told share =
    let percent = percent_taken share in
    if nat_le 90 percent then max told percent else (if nat_le 80 percent then min told 90 else 0)

-- what is told of it then: what it has come to that was not told
abbrev pub news_of : ℕ → Share → Option ℕ
news_of told share = if nat_lt told (told_after told share) then Some (told_after told share) else None
