-- Rows of a table until they have more than so many bytes.
use Rattle.std.proofs.Common.{◌≡◌, ℕ, ◌+◌, ◌-◌, ◌<◌, ◌≤◌, true, false, cond, List, [], ◌∷◌, ◌++◌, length, take, Some, None, nat_le, nat_lt, refl, sym, ap, subst, ◌∙◌, append_assoc, ltb-true, ltb-false, leb-true, leb-false, lt-ltb, le-ltb, le-leb, ◌≢◌, arith}
use Rattle.std.proofs.Math.Seq.{take-length}
use Rattle.std.proofs.lemmas.List.{length-take-le}
use Rattle.kv_types.specs.declared.record_id.RecordId.{RecordId}
use Rattle.mv_keyspace.specs.declared.row.Row.{Row}
use Rattle.mv_keyspace.specs.Paging.{put_size, size_of, front, page, filled, room_left, room_less}
use Rattle.mv_keyspace.specs.Row.{table_of}
use Rattle.mv_keyspace.specs.Table.{Cell, Table}
use Rattle.mv_keyspace.proofs.ListLemmas.{entry_of, length_map}

-- ---- bytes

pub size_of-append : (rows more : Table) → size_of (rows ++ more) ≡ size_of rows + size_of more
size_of-append [] more = omega arith
size_of-append (row ∷ rows) more = omega (arith, size_of-append rows more)

-- ---- rows until they have more than so many bytes

pub filled-full : (bytes : ℕ) (done rows : Table) → nat_lt bytes (size_of done) ≡ true → filled bytes done rows ≡ done
filled-full bytes done [] full = refl
filled-full bytes done (row ∷ rows) full = ap (λ b. cond b done (filled bytes (done ++ row ∷ []) rows)) full

pub filled-append : (bytes : ℕ) (done rows more : Table) → filled bytes done (rows ++ more) ≡ filled bytes (filled bytes done rows) more
filled-append bytes done [] more = refl
filled-append bytes done (row ∷ rows) more =
    elim (nat_lt bytes (size_of done)) as (λ b. nat_lt bytes (size_of done) ≡ b
    → cond b done (filled bytes (done ++ row ∷ []) (rows ++ more)) ≡ filled bytes (cond b done (filled bytes (done ++ row ∷ []) rows)) more) [
      | true ↦ λ full. sym (filled-full bytes done more full)
      | false ↦ λ room. filled-append bytes (done ++ row ∷ []) rows more
    ] refl

-- what is left of the bytes once a row more is taken
pub room-less : (bytes : ℕ) (rows : Table) (row : RecordId × Cell) → room_less (room_left bytes rows) (put_size row) ≡ room_left bytes (rows ++ row ∷ [])
room-less bytes rows row =
    let all = size_of (rows ++ row ∷ []) in
    let e : all ≡ size_of rows + put_size row = omega (arith, size_of-append rows (row ∷ [])) in
    elim (nat_lt bytes (size_of rows)) as (λ b. nat_lt bytes (size_of rows) ≡ b → room_less (cond b None (Some (bytes - size_of rows))) (put_size row) ≡ room_left bytes (rows ++ row ∷ [])) [
      | true ↦ λ full. sym (ap (λ b. cond b None (Some (bytes - all))) (lt-ltb bytes all (omega (arith, e, ltb-true bytes (size_of rows) full))))
      | false ↦ λ room. elim (nat_le (put_size row) (bytes - size_of rows)) as (λ b. nat_le (put_size row) (bytes - size_of rows) ≡ b → cond b (Some (bytes - size_of rows - put_size row)) None ≡ room_left bytes (rows ++ row ∷ [])) [
        | true ↦ λ fits. ap Some (omega (arith, e)) ∙ sym (ap (λ b. cond b None (Some (bytes - all))) (le-ltb bytes all (omega (arith, e, ltb-false bytes (size_of rows) room, leb-true (put_size row) (bytes - size_of rows) fits))))
        | false ↦ λ over. sym (ap (λ b. cond b None (Some (bytes - all))) (lt-ltb bytes all (omega (arith, e, ltb-false bytes (size_of rows) room, leb-false (put_size row) (bytes - size_of rows) over))))
      ] refl
    ] refl

-- the rows that are not taken any more, of which there are none where the others have not more bytes
abbrev Rest : ℕ → Table → Table → Type 0
Rest bytes all taken = (rest : Table) × (all ≡ taken ++ rest) × (size_of taken ≤ bytes → rest ≡ [])

pub filled-rest : (bytes : ℕ) (done rows : Table) → Rest bytes (done ++ rows) (filled bytes done rows)
filled-rest bytes done [] = ([], refl, λ le. refl)
filled-rest bytes done (row ∷ rows) =
    elim (nat_lt bytes (size_of done)) as (λ b. nat_lt bytes (size_of done) ≡ b → Rest bytes (done ++ row ∷ rows) (cond b done (filled bytes (done ++ row ∷ []) rows))) [
      | true ↦ λ full. (row ∷ rows, refl, λ le. absurd (omega (arith, ltb-true bytes (size_of done) full, le)))
      | false ↦ λ room. let rest = filled-rest bytes (done ++ row ∷ []) rows in (rest.0, sym (append_assoc done (row ∷ []) rows) ∙ rest.1, rest.2)
    ] refl

-- ---- pages

front-more : (room : ℕ) (rows more : Table) → room < size_of rows → front room (rows ++ more) ≡ front room rows
front-more room [] more lt = absurd (omega (arith, lt))
front-more room (row ∷ rows) more lt =
    elim (nat_le (put_size row) room) as (λ b. nat_le (put_size row) room ≡ b → cond b (row ∷ front (room - put_size row) (rows ++ more)) [] ≡ cond b (row ∷ front (room - put_size row) rows) []) [
      | true ↦ λ fits. ap (λ t. row ∷ t) (front-more (room - put_size row) rows more (omega (arith, leb-true (put_size row) room fits, lt)))
      | false ↦ λ e. refl
    ] refl

-- what comes behind more bytes than a page has is not in it
pub page-more : (bytes : ℕ) (rows more : Table) → bytes < size_of rows → page bytes (rows ++ more) ≡ page bytes rows
page-more bytes [] more lt = absurd (omega (arith, lt))
page-more bytes (row ∷ rows) more lt = ap (λ t. cond (nat_le (put_size row) bytes) t (row ∷ [])) (front-more bytes (row ∷ rows) more lt)

pub size-front : (room : ℕ) (rows : Table) → size_of (front room rows) ≤ room
size-front room [] = omega arith
size-front room (row ∷ rows) =
    elim (nat_le (put_size row) room) as (λ b. nat_le (put_size row) room ≡ b → size_of (cond b (row ∷ front (room - put_size row) rows) []) ≤ room) [
      | true ↦ λ fits. omega (arith, leb-true (put_size row) room fits, size-front (room - put_size row) rows)
      | false ↦ λ e. omega arith
    ] refl

front-all : (room : ℕ) (rows : Table) → size_of rows ≤ room → front room rows ≡ rows
front-all room [] le = refl
front-all room (row ∷ rows) le =
    ap (λ b. cond b (row ∷ front (room - put_size row) rows) []) (le-leb (put_size row) room (omega (arith, le))) ∙ ap (λ t. row ∷ t) (front-all (room - put_size row) rows (omega (arith, le)))

-- rows that all fit have no more bytes than there is room for
pub all-fit : (bytes : ℕ) (rows : List Row) (n : ℕ) → front bytes (table_of rows) ≡ table_of (take n rows) → n ≡ length rows → size_of (table_of rows) ≤ bytes
all-fit bytes rows n is all =
    subst (λ t. size_of t ≤ bytes) (is ∙ ap (λ k. table_of (take k rows)) all ∙ ap table_of (take-length rows)) (size-front bytes (table_of rows))

-- and others have more
pub some-over : (bytes : ℕ) (rows : List Row) (n : ℕ) → front bytes (table_of rows) ≡ table_of (take n rows) → n ≤ length rows → n ≢ length rows → bytes < size_of (table_of rows)
some-over bytes rows n is within apart =
    elim (nat_lt bytes (size_of (table_of rows))) as (λ b. nat_lt bytes (size_of (table_of rows)) ≡ b → bytes < size_of (table_of rows)) [
      | true ↦ λ e. ltb-true bytes (size_of (table_of rows)) e
      | false ↦ λ e.
          let whole = front-all bytes (table_of rows) (ltb-false bytes (size_of (table_of rows)) e) in
          absurd (apart (omega (arith, ap (λ (t : Table). length t) (sym is ∙ whole), length_map entry_of (take n rows), length_map entry_of rows, length-take-le n rows within)))
    ] refl
