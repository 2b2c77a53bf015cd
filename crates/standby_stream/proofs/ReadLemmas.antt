-- What is read of an image names the records of its versions that have ended.
use Rattle.std.proofs.Common.{◌≡◌, ⊎_elim, ℕ, ◌==◌, Bool, true, false, not, IsTrue, List, Contains, refl, sym, ap, subst, ◌∙◌, eqb-true, eq-eqb, true≢false}
use Rattle.std.proofs.lemmas.Bool.{false_from_ne_true}
use Rattle.kv_types.specs.declared.place.EntryNo.{EntryNo}
use Rattle.kv_types.specs.declared.record_id.RecordId.{RecordId}
use Rattle.heap_layout.specs.declared.entry.Entry.{Entry}
use Rattle.heap_layout.specs.Version.{version_of}
use Rattle.model.specs.Group.{Contents}
use Rattle.model.specs.Image.{Version, counts}
use Rattle.placing.specs.Read.{AreOf}
use Rattle.placing.proofs.MemberLemmas.{chosen-from_member, member-from_chosen}
use Rattle.standby_stream.specs.Delta.{AreIdsEnded, IsGone, ids_ended}

abbrev has_ended : EntryNo × Entry → Bool
has_ended read = not (read.1.end == 0)

abbrev id_read : EntryNo × Entry → RecordId
id_read read = read.1.id

not_false : (b : Bool) → b ≡ false → IsTrue (not b)
not_false b is = ap not is

false-from_not : (b : Bool) → IsTrue (not b) → b ≡ false
false-from_not true t = sym t
false-from_not false t = refl

module _ (contents : Contents) (counted : List (EntryNo × Entry)) (gapped : List EntryNo) (of : AreOf contents counted gapped) where
  gone-from_read : (id : RecordId) → Contains (ids_ended counted) id → (i : ℕ) × IsGone contents.versions i id
  gone-from_read id m =
      let found = member-from_chosen has_ended id_read counted id m in
      let read = found.0 in (
        read.0.0,
        record {
          version = version_of contents.current read.1;
          begun = (of.versions read.0.0 (version_of contents.current read.1)).1 (record { entry = read.1; listed = found.1; version_is = refl });
          has_ended =
              ⊎_elim (λ (none : read.1.end ≡ 0). absurd (true≢false (sym (eq-eqb read.1.end 0 none) ∙ false-from_not (read.1.end == 0) found.2)))
              (λ (counts_end : IsTrue (counts contents.current read.1.end)). counts_end)
              (of.ends read found.1);
          id_is = found.3;
        },
      )

  read-from_gone : (id : RecordId) → ((i : ℕ) × IsGone contents.versions i id) → Contains (ids_ended counted) id
  read-from_gone id gone =
      let read = (of.versions gone.0 gone.1.version).0 gone.1.begun in
      let counts_end : counts contents.current read.entry.end ≡ true = ap (λ (v : Version). v.is_ended) read.version_is ∙ gone.1.has_ended in
      let named : read.entry.id ≡ id = ap (λ (v : Version). v.id) read.version_is ∙ gone.1.id_is in
      subst (λ x. Contains (ids_ended counted) x) named
      (chosen-from_member has_ended id_read counted (record { 0 = gone.0 }, read.entry) read.listed
      (not_false (read.entry.end == 0) (false_from_ne_true (read.entry.end == 0) (λ none.
      true≢false (sym counts_end ∙ ap (counts contents.current) (eqb-true read.entry.end 0 none))))))

  pub ids_are_ended : AreIdsEnded contents (ids_ended counted)
  ids_are_ended = λ id. (λ m. gone-from_read id m, λ gone. read-from_gone id gone)
