-- The lines of extents.
use Rattle.std.specs.Prelude.{ℕ, ◌+◌, Bool, ◌&&◌, nat_lt, nat_le}
use Rattle.kv_types.specs.declared.place.Extent.{Extent}

-- the line is one of the extent's
abbrev pub is_line_of : Extent → ℕ → Bool
is_line_of extent line = nat_le extent.first_line line && nat_lt line (extent.first_line + extent.lines)
