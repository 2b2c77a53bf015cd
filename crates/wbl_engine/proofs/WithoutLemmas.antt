-- Contents without versions that have ended, and contents whose oldest gap is cleared.
use Rattle.std.proofs.Common.{◌≡◌, ℕ, ◌+◌, ◌<◌, Bool, true, false, cond, ◌||◌, IsTrue, List, inl, inr, Option, None, Some, refl, sym, ap, subst, ◌∙◌, arith}
use Rattle.std.proofs.lemmas.Bool.{cond-false, cases_Bool, or_cases, both_ways}
use Rattle.kv_types.specs.declared.place.EntryNo.{EntryNo}
use Rattle.kv_types.specs.declared.record_id.RecordId.{RecordId}
use Rattle.kv_types.specs.Keyspace.{Keyspace}
use Rattle.model.specs.declared.image.TheConstants.{COUNTER_LIMIT}
use Rattle.model.specs.Group.{Contents, IsConsistent, Versions, is_ended_version, entries_of}
use Rattle.model.specs.Image.{IsLive, IsMapOf, Version}
use Rattle.wbl_record.specs.Current.{IsLawful}
use Rattle.model.specs.declared.record.Record.{Record}
use Rattle.model.proofs.DirectoryLemmas.{entries_same}
use Rattle.wbl_engine.specs.Freeing.{Clears, is_listed, without}
use Rattle.wbl_engine.specs.Lawful.{AreLawful}
use Rattle.wbl_engine.proofs.GapLemmas.{lawful_but_one}
use Rattle.wbl_engine.proofs.LawfulLemmas.{lawful_from}
use Rattle.std.proofs.lemmas.Option.{none-some}

-- each of these entries holds a version that has ended
abbrev pub AllEnded : (ℕ → Bool) → Versions → Type 0
AllEnded gone versions = (i : ℕ) → IsTrue (gone i) → IsTrue (is_ended_version (versions i))

-- the versions without those of these entries
abbrev pub versions_without : (ℕ → Bool) → Versions → Versions
versions_without gone versions = λ i. cond (gone i) None (versions i)

-- ---- versions that are left

-- what is left was there
pub was_there : (gone : Bool) (old : Option Version) (version : Version) → cond gone None old ≡ Some version → old ≡ Some version
was_there true old version e = absurd (none-some _ e)
was_there false old version e = e

-- a live version is not one that has ended
still_live : (gone : ℕ → Bool) (versions : Versions) (i : ℕ) (id : RecordId) (value : List ℕ) → AllEnded gone versions
    → IsLive versions i id value → IsLive (versions_without gone versions) i id value
still_live gone versions i id value ended live =
    elim (cases_Bool (gone i)) [
      | inl is_gone ↦
          absurd (both_ways live.version.is_ended live.not_ended (sym (ap is_ended_version live.begun) ∙ ended i is_gone))
      | inr left ↦
          record {
            version = live.version;
            begun = cond-false (gone i) None (versions i) left ∙ live.begun;
            not_ended = live.not_ended;
            id_is = live.id_is;
            value_is = live.value_is;
          }
    ]

was_live : (gone : ℕ → Bool) (versions : Versions) (i : ℕ) (id : RecordId) (value : List ℕ) → IsLive (versions_without gone versions) i id value
    → IsLive versions i id value
was_live gone versions i id value live =
    record {
      version = live.version;
      begun = was_there (gone i) (versions i) live.version live.begun;
      not_ended = live.not_ended;
      id_is = live.id_is;
      value_is = live.value_is;
    }

-- They make up the map that all made up.
pub IsMapOf-without : (gone : ℕ → Bool) (versions : Versions) (entries : ℕ) (s : Keyspace) → AllEnded gone versions → IsMapOf versions entries s
    → IsMapOf (versions_without gone versions) entries s
IsMapOf-without gone versions entries s ended map =
    record {
      held = λ id value at.
          let found = map.held id value at in (found.0, found.1, still_live gone versions found.0 id value ended found.2);
      found = λ i id value below live. map.found i id value below (was_live gone versions i id value live);
      once = λ i j id v w below_i below_j live_i live_j.
          map.once i j id v w below_i below_j (was_live gone versions i id v live_i) (was_live gone versions j id w live_j);
    }

-- ---- contents without versions that have ended

pub IsMapOf-contents_without : (contents : Contents) (gone : ℕ → Bool) (s : Keyspace)
    → ((i : ℕ) → IsTrue (gone i) → IsTrue (is_ended_version (contents.versions i)))
    → IsMapOf contents.versions (entries_of contents) s
    → IsMapOf (without gone contents).versions (entries_of contents) s
IsMapOf-contents_without contents gone s ended map = IsMapOf-without gone contents.versions (entries_of contents) s ended map

still_none : (gone : Bool) (old : Option Version) → old ≡ None → cond gone None old ≡ None
still_none true old none = refl
still_none false old none = none

pub lawful_without : (contents : Contents) (gone : ℕ → Bool) → ((i : ℕ) → IsTrue (gone i) → IsTrue (is_ended_version (contents.versions i)))
    → AreLawful contents → AreLawful (without gone contents)
lawful_without contents gone ended are =
    record {
      many = are.many;
      few = are.few;
      current = are.current;
      apart = λ i j v w differ is_v is_w.
          are.apart i j v w differ (was_there (gone i) (contents.versions i) v is_v) (was_there (gone j) (contents.versions j) w is_w);
      keyspace = are.keyspace;
      lawful = are.lawful;
      map = IsMapOf-contents_without contents gone are.keyspace ended are.map;
      uncopied = λ newcomer i. still_none (gone i) (contents.versions i) (are.uncopied newcomer i);
    }

none_where_free : (free gone : Bool) (old : Option Version) → (free ≡ true → old ≡ None) → IsTrue (free || gone) → cond gone None old ≡ None
none_where_free free true old none is = refl
none_where_free true false old none is = none refl
none_where_free false false old none is = absurd (both_ways false refl is)

pub consistent_without : (contents : Contents) (gone : ℕ → Bool) → IsConsistent contents → IsConsistent (without gone contents)
consistent_without contents gone consistent =
    record {
      free = λ i is. none_where_free (contents.is_free i) (gone i) (contents.versions i) (consistent.free i) is;
      beyond = λ i above. still_none (gone i) (contents.versions i) (consistent.beyond i above);
    }

-- ---- contents whose oldest gap is cleared

pub lawful_cleared : (old new : Contents) (cleared : List EntryNo) → Clears old cleared new → old.current.number + 1 < COUNTER_LIMIT
    → AreLawful old → AreLawful new
lawful_cleared old new cleared clears room are =
    lawful_from old new (subst IsLawful (sym clears.current) (lawful_but_one old.current are.current room))
    (ap (λ (r : Record). r.layout) clears.current) (λ newcomer. ap (λ (r : Record). r.role) (sym clears.current) ∙ newcomer) clears.lines_are clears.versions are

pub consistent_cleared : (old new : Contents) (cleared : List EntryNo) → Clears old cleared new → IsConsistent old → IsConsistent new
consistent_cleared old new cleared clears consistent =
    record {
      free = λ i is.
          clears.versions i
          ∙ elim (or_cases (old.is_free i) (is_listed i cleared) (sym (clears.is_free i) ∙ is)) [
            | inl was ↦ consistent.free i was
            | inr begun ↦ clears.held_none i begun
          ];
      beyond = λ i above. clears.versions i ∙ consistent.beyond i
          (omega (arith, above, entries_same old new (ap (λ (r : Record). r.layout) clears.current) clears.lines_are));
    }
