-- What a clause sees of each end.
use Rattle.lending.specs.declared.view.EndView.{EndView}
use Rattle.lending.specs.declared.view.LendingView.{LendingView}

module _ {T : Type 0} where
  abbrev pub lender_view : LendingView T → EndView T
  lender_view v = record { value = v.lent; asked = v.asked; found = v.found }

  abbrev pub borrower_view : LendingView T → EndView T
  borrower_view v = record { value = v.taken; asked = v.asked; found = v.found }
