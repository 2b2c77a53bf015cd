-- The texts of the errors of transactions (this project's profile).
use Rattle.std.specs.Prelude.{ℕ, List, codes}
use Rattle.multi_watch.specs.declared.error.SessionError.{SessionError}
use Rattle.multi_watch.specs.declared.error.SessionError.TheVariants.{NestedMulti, ExecOutside, DiscardOutside, WatchInside, TooLong, Aborted}

abbrev pub error_text : SessionError → List ℕ
error_text NestedMulti = codes "ERR MULTI calls can not be nested"
error_text ExecOutside = codes "ERR EXEC without MULTI"
error_text DiscardOutside = codes "ERR DISCARD without MULTI"
error_text WatchInside = codes "ERR WATCH inside MULTI is not allowed"
error_text TooLong = codes "ERR transaction is too long"
error_text Aborted = codes "EXECABORT Transaction discarded because of previous errors."
