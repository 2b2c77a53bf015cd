-- What a contract sees of a seat.
use Rattle.atomic_table.specs.Seated.{TableId}
use Rattle.marks.specs.declared.view.MarkView.{MarkView}

-- the marks to which it belongs, and what it knows of them
pub record Held : Type 0 where
  pub marks : TableId
  pub knows : MarkView
