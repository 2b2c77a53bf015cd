-- An image of a newcomer that was opened again holds nothing, and nothing is staged on it: a copy may come.
use Rattle.std.proofs.Common.{◌≡◌, ℕ, ◌+◌, Bool, true, false, List, [], ◌∷◌, drop, None, Some, inl, inr, nat_lt, refl, sym, ap, subst, ◌∙◌, arith}
use Rattle.std.proofs.lemmas.Bool.{and_from, cases_Bool, ltb-true, or_left, true≢false}
use Rattle.std.proofs.lemmas.List.{drop-drop}
use Rattle.std.proofs.lemmas.Option.{none-some}
use Rattle.std.specs.Prelude.{if◌then◌else◌, is_none}
use Rattle.kv_types.specs.declared.place.EntryNo.{EntryNo}
use Rattle.heap_layout.specs.declared.entry.Entry.{Entry}
use Rattle.extent_heap.specs.Room.{Room}
use Rattle.model.specs.declared.record.Gap.{Gap}
use Rattle.model.specs.declared.record.Record.{Record}
use Rattle.model.specs.declared.record.Role.TheVariants.{Newcomer}
use Rattle.model.specs.Group.{AreEnded, Contents, Versions, entries_of, is_ended_version, is_listed}
use Rattle.model.specs.Image.{Image, entries_of_lines, version_at, version_in}
use Rattle.mv_keyspace.specs.Table.{IsTable, Table}
use Rattle.mv_keyspace.proofs.PartTables.{table-none}
use Rattle.placing.specs.Back.{HasOut, has_version}
use Rattle.placing.proofs.CountLemmas.{none_counted}
use Rattle.wbl_engine.specs.Copying.{after_copy}
use Rattle.wbl_engine.specs.Freeing.{Clears, record_after_clearing}
use Rattle.wbl_engine.specs.Reopening.{Reopens, is_full, reopened, with_open_gap}
use Rattle.wbl_engine.proofs.CopyLaws.{copy_consistent, none_copy}
use Rattle.standby.specs.Beginning.{ClearsGaps}
use Rattle.standby.specs.Following.{Follows}
use Rattle.standby.specs.Gathering.{Gathers}
use Rattle.standby.proofs.CopyRests.{rows_none}

role_either : (full : Bool) (r : Record) → (with_open_gap (if full then record_after_clearing r else r)).role ≡ r.role
role_either true r = refl
role_either false r = refl

role_kept : (r : Record) → (reopened r).role ≡ r.role
role_kept r = role_either (is_full r) r

module _ (lines' : ℕ) (image : Image) (contents : Contents) (counted : List (EntryNo × Entry)) (gapped : List EntryNo)
    (reopens : Reopens lines' image Newcomer contents counted gapped) where
  pub is_newcomer : contents.current.role ≡ Newcomer
  is_newcomer = ap (λ (r : Record). r.role) reopens.current ∙ role_kept reopens.before ∙ reopens.role_is

  pub none_there : (i : ℕ) → contents.versions i ≡ None
  none_there i = elim (cases_Bool (nat_lt i (entries_of_lines reopens.before.layout lines'))) [
    | inl within ↦
        reopens.versions i
        ∙ ap (λ (b : Bool). if b then version_at reopens.before image i else None) within
        ∙ ap (λ (b : Bool). if b then Some (version_in reopens.before image i) else None)
        (reopens.undamaged.versions.uncopied reopens.role_is i (ltb-true i (entries_of_lines reopens.before.layout lines') within))
    | inr beyond ↦ reopens.versions i ∙ ap (λ (b : Bool). if b then version_at reopens.before image i else None) beyond
  ]

-- nothing has ended where there is nothing
pub none_ended : (contents : Contents) (ended : List EntryNo) → ((i : ℕ) → contents.versions i ≡ None) → AreEnded contents ended → ended ≡ []
none_ended contents [] none are = refl
none_ended contents (entry ∷ ended) none are = absurd (true≢false (sym are.1 ∙ ap is_ended_version (none entry.0)))

-- ---- gaps that are cleared one after another

at_number : (r : Record) (n m : ℕ) (xs ys : List Gap) → n ≡ m → xs ≡ ys → record r { number = n; gaps = record { items = xs } } ≡ record r { number = m; gaps = record { items = ys } }
at_number r n m xs ys numbers gaps = λ p. record r { number = numbers p; gaps = record { items = gaps p } }

pub ClearsGaps-none : (contents : Contents) → ClearsGaps contents contents
ClearsGaps-none contents =
    let r = contents.current in
    record {
      count = 0;
      current = sym (at_number r (r.number + 0) r.number (drop 0 r.gaps.items) r.gaps.items (omega arith) refl);
      lines_are = refl;
      versions = λ i. refl;
      is_free = λ i free. free;
    }

pub ClearsGaps-then : (old mid new : Contents) (entries : List EntryNo) → ClearsGaps old mid → Clears mid entries new → ClearsGaps old new
ClearsGaps-then old mid new entries first second =
    let r = old.current in
    let n = first.count in
    record {
      count = n + 1;
      current =
          second.current ∙ ap record_after_clearing first.current
          ∙ at_number r (r.number + n + 1) (r.number + (n + 1)) (drop 1 (drop n r.gaps.items)) (drop (n + 1) r.gaps.items) (omega arith) (drop-drop 1 n r.gaps.items);
      lines_are = second.lines_are ∙ first.lines_are;
      versions = λ i. second.versions i ∙ first.versions i;
      is_free = λ i free. second.is_free i ∙ or_left (mid.is_free i) (is_listed i entries) (first.is_free i free);
    }

-- ---- what is read of a newcomer's image

module _ (contents : Contents) (is_newcomer : contents.current.role ≡ Newcomer) (none_there : (i : ℕ) → contents.versions i ≡ None)
    (staged : Versions) (none : (i : ℕ) → staged i ≡ None) (table : Table) (room : Room) (ended : List EntryNo) (follows : Follows contents table room ended) where
  no_rows : table ≡ []
  no_rows = rows_none contents.versions table none_there follows.table_is

  out' : HasOut (after_copy contents staged 0) room 0
  out' =
      let count = none_counted staged (entries_of contents) (λ i lt. ap has_version (none i)) in
      record { end_line = follows.out.end_line; end_entry = follows.out.end_entry; held = omega (arith, count) }

  follows' : Follows (after_copy contents staged 0) table room []
  follows' = record {
    consistent = copy_consistent contents staged 0 (none_copy (entries_of contents) staged none);
    left = record {
      entries = λ i free.
          let before = follows.left.entries i free in
          (before.0, and_from (contents.is_free i) (is_none (staged i)) before.1 (ap is_none (none i)), none i);
      lines = follows.left.lines;
      apart = λ i version is. absurd (none-some version (sym (none i) ∙ is));
    };
    table_is = subst (IsTable staged) (sym no_rows) (table-none staged none);
    apart = (none_copy (entries_of contents) staged none).apart;
    out = out';
    listed = tt;
    all = λ i is. absurd (true≢false (sym is ∙ ap is_ended_version (none i)));
  }

  pub Gathers-opened : Gathers contents staged table room None
  Gathers-opened = record {
    newcomer = is_newcomer;
    empty = none_there;
    of_half = none;
    copy = none_copy (entries_of contents) staged none;
    is_free = λ i version is. absurd (none-some version (sym (none i) ∙ is));
    placed = λ i version is. absurd (none-some version (sym (none i) ∙ is));
    follows = follows';
  }
