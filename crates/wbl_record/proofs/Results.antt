-- Clauses on a `Result`, from a fact that holds anyway.
use Rattle.std.proofs.Common.{Result, Ok, Err, OnOk, OnErr}

pub on_err_from : {T E P : Type 0} (r : Result T E) → P → OnErr r P
on_err_from (Ok x) p = tt
on_err_from (Err e) p = p

-- what holds on either side holds
pub on_both : {T E P : Type 0} (r : Result T E) → OnOk r P → OnErr r P → P
on_both (Ok x) ok err = ok
on_both (Err e) ok err = err
