-- The bytes of pieces that were not read yet.
use Rattle.std.specs.Prelude.{ℕ, List, ◌++◌, length, ◌==◌, if◌then◌else◌}
use Rattle.resp_codec.specs.declared.unread.Unread.{Unread}

-- all of them, in order
abbrev pub unread_bytes : Unread → List ℕ
unread_bytes u = u.cut.items ++ u.rest

-- those of them that lie in one place, at the front
abbrev pub front : Unread → List ℕ
front u = if length u.cut.items == 0 then u.rest else u.cut.items
