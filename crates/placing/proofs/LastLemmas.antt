-- The position of the last change, where rows are loaded that were read of an image.
use Rattle.std.proofs.Common.{◌≡◌, ℕ, ◌≤◌, ◌==◌, Bool, true, false, List, [], ◌∷◌, Contains, refl, arith}
use Rattle.std.specs.Prelude.{max}
use Rattle.kv_types.specs.declared.place.EntryNo.{EntryNo}
use Rattle.heap_layout.specs.declared.entry.Entry.{Entry}
use Rattle.mv_keyspace.specs.Versions.{last_among}
use Rattle.placing.specs.Read.{rows_read}
use Rattle.placing.proofs.MemberLemmas.{here, later}

-- it is none after a position up to which each was made
pub last-read : (bound first : ℕ) (counted : List (EntryNo × Entry)) → first ≤ bound → ((read : EntryNo × Entry) → Contains counted read → read.1.position ≤ bound)
    → last_among first (rows_read counted) ≤ bound
last-read bound first [] low upto = low
last-read bound first (read ∷ counted) low upto = by (read.1.end == 0) refl (λ next below. last-read bound next counted below rest)
  where
    rest : (read' : EntryNo × Entry) → Contains counted read' → read'.1.position ≤ bound
    rest read' m = upto read' (later read read' counted m)

    higher : max first read.1.position ≤ bound
    higher = omega (arith, low, upto read (here read counted))

    by : (b : Bool) → (read.1.end == 0) ≡ b → ((next : ℕ) → next ≤ bound → last_among next (rows_read counted) ≤ bound) → last_among first (rows_read (read ∷ counted)) ≤ bound
    by true e others = rw e (others (max first read.1.position) higher)
    by false e others = rw e (others first low)
