-- The parts of a copy make up contents that obey the rules.
use Rattle.std.proofs.Common.{◌≡◌, ◌≢◌, ℕ, ◌+◌, ◌≤◌, false, IsTrue, List, [], ◌∷◌, ◌⊎◌, inl, inr, Option, None, Some, refl, sym, ap, subst, ◌∙◌, arith}
use Rattle.std.specs.Prelude.{is_none}
use Rattle.std.proofs.lemmas.Bool.{and_parts, both_ways, cases_Bool}
use Rattle.model.specs.declared.group.Put.{Put}
use Rattle.model.specs.Image.{Version, map_below}
use Rattle.model.specs.ReadImage.{is_clash}
use Rattle.model.specs.Group.{AreApart, Contents, IsConsistent, IsPlaced, IsUnused, Versions, entries_of, is_put_at, version_of_put, with_puts}
use Rattle.heap_layout.proofs.Clashes.{is_clash-flips}
use Rattle.wbl_engine.specs.Copying.{AreAllDistinct, AreStageable, ExhaustsCopy, IsCopy, IsFresh, after_copy, copied_record, is_unstaged}
use Rattle.wbl_engine.specs.Lawful.{AreLawful}
use Rattle.wbl_engine.proofs.ApartLemmas.{puts_apart}
use Rattle.wbl_engine.proofs.ClashLemmas.{AreDistinct, distinct_keyspace, distinct_map}
use Rattle.wbl_engine.proofs.CopyEnding.{copied_is_lawful}
use Rattle.wbl_engine.proofs.CopyImages.{with_puts-among, with_puts-none}
use Rattle.wbl_engine.proofs.GroupSteps.{flip_apart}
use Rattle.wbl_engine.proofs.LawfulLemmas.{below_limit, some_version}
use Rattle.wbl_engine.proofs.SuccessorLemmas.{standby_other}
use Rattle.wbl_engine.proofs.PartEffects.{IsAmong, is_put_at-among}
use Rattle.wbl_engine.proofs.PutPairs.{among-all}

-- where nothing is staged, no rule can be broken
pub none_copy : (entries : ℕ) (staged : Versions) → ((i : ℕ) → staged i ≡ None) → IsCopy entries staged
none_copy entries staged none =
    record {
      within = λ i version is. absurd (some_version version (sym (none i) ∙ is));
      live = λ i version is. absurd (some_version version (sym (none i) ∙ is));
      apart = λ i j v w differ is_v is_w. absurd (some_version v (sym (none i) ∙ is_v));
      distinct = λ i j v w differ is_v is_w. absurd (some_version v (sym (none i) ∙ is_v));
    }

-- two puts of different entries are of records that do not clash
puts_differ : (puts : List Put) (put other : Put) → AreAllDistinct puts → IsAmong put puts → IsAmong other puts → put.entry.0 ≢ other.entry.0
    → is_clash put.id other.id ≡ false
puts_differ [] put other distinct among there differ = absurd among
puts_differ (first ∷ puts) put other distinct (inl here) (inl also) differ = absurd (differ (ap (λ (p : Put). p.entry.0) (here ∙ sym also)))
puts_differ (first ∷ puts) put other distinct (inl here) (inr later) differ =
    ap (λ (p : Put). is_clash p.id other.id) here ∙ among-all (λ q. is_clash first.id q.id ≡ false) puts other later distinct.0
puts_differ (first ∷ puts) put other distinct (inr later) (inl here) differ =
    ap (λ (p : Put). is_clash put.id p.id) here ∙ is_clash-flips put.id first.id
    ∙ among-all (λ q. is_clash first.id q.id ≡ false) puts put later distinct.0
puts_differ (first ∷ puts) put other distinct (inr later) (inr there) differ = puts_differ puts put other distinct.1 later there differ

-- where a staged version comes from: a put of the part, or it was there
record ComesFrom (staged : Versions) (puts : List Put) (position i : ℕ) (version : Version) : Type 0 where
  source : ((put : Put) × IsAmong put puts × (i ≡ put.entry.0) × (version ≡ version_of_put position put)) ⊎ (staged i ≡ Some version)

module _ {contents : Contents} {staged : Versions} {puts : List Put} (position : ℕ) (copy : IsCopy (entries_of contents) staged)
    (asked : AreStageable contents staged puts) where
  comes_from : (i : ℕ) (version : Version) → with_puts position puts staged i ≡ Some version → ComesFrom staged puts position i version
  comes_from i version is =
      elim (cases_Bool (is_put_at i puts)) [
        | inl there ↦
            let at = is_put_at-among i puts there in
            let both : Some version ≡ Some (version_of_put position at.0) =
            sym is ∙ ap (with_puts position puts staged) at.2 ∙ with_puts-among position puts staged at.0 at.1 asked.apart in
            let same : version ≡ version_of_put position at.0 = cc in
            record { source = inl (at.0, at.1, at.2, same) }
        | inr none ↦ record { source = inr (sym (with_puts-none position puts staged i none) ∙ is) }
      ]

  unused : (put : Put) → IsAmong put puts → IsUnused staged (is_unstaged contents staged) put
  unused put among = among-all (IsUnused staged (is_unstaged contents staged)) puts put among asked.unused

  fresh : (put : Put) → IsAmong put puts → IsFresh staged put
  fresh put among = among-all (IsFresh staged) puts put among asked.fresh

  both_apart : (i j : ℕ) (v w : Version) → i ≢ j → ComesFrom staged puts position i v → ComesFrom staged puts position j w
      → AreApart v.first_line v.lines w.first_line w.lines
  both_apart i j v w differ from_v from_w =
      elim from_v.source [
        | inl a ↦
            elim from_w.source [
              | inl b ↦
                  subst (λ (x : Version). AreApart x.first_line x.lines w.first_line w.lines) (sym a.3)
                  (subst (λ (x : Version). AreApart a.0.extent.first_line a.0.extent.lines x.first_line x.lines) (sym b.3)
                  (puts_apart puts a.0 b.0 asked.apart a.1 b.1 (λ same. differ (a.2 ∙ same ∙ sym b.2))))
              | inr there ↦
                  subst (λ (x : Version). AreApart x.first_line x.lines w.first_line w.lines) (sym a.3) ((unused a.0 a.1).lines j w there)
            ]
        | inr there ↦
            elim from_w.source [
              | inl b ↦
                  subst (λ (x : Version). AreApart v.first_line v.lines x.first_line x.lines) (sym b.3)
                  (flip_apart b.0.extent.first_line b.0.extent.lines v.first_line v.lines ((unused b.0 b.1).lines i v there))
              | inr also ↦ copy.apart i j v w differ there also
            ]
      ]

  both_distinct : (i j : ℕ) (v w : Version) → i ≢ j → ComesFrom staged puts position i v → ComesFrom staged puts position j w → is_clash v.id w.id ≡ false
  both_distinct i j v w differ from_v from_w =
      elim from_v.source [
        | inl a ↦
            elim from_w.source [
              | inl b ↦
                  ap (λ (x : Version). is_clash x.id w.id) a.3 ∙ ap (λ (x : Version). is_clash a.0.id x.id) b.3
                  ∙ puts_differ puts a.0 b.0 asked.distinct a.1 b.1 (λ same. differ (a.2 ∙ same ∙ sym b.2))
              | inr there ↦ ap (λ (x : Version). is_clash x.id w.id) a.3 ∙ is_clash-flips a.0.id w.id ∙ fresh a.0 a.1 j w there
            ]
        | inr there ↦
            elim from_w.source [
              | inl b ↦ ap (λ (x : Version). is_clash v.id x.id) b.3 ∙ fresh b.0 b.1 i v there
              | inr also ↦ copy.distinct i j v w differ there also
            ]
      ]

  -- A part goes on with the copy.
  pub more_copy : (new : Versions) → ((i : ℕ) → new i ≡ with_puts position puts staged i) → IsCopy (entries_of contents) new
  more_copy new are =
      record {
        within = λ i version is.
            elim (comes_from i version (sym (are i) ∙ is)).source [
              | inl put ↦
                  omega (arith, put.2, (among-all (IsPlaced (entries_of contents) contents.lines) puts put.0 put.1 asked.placed).entry)
              | inr there ↦ copy.within i version there
            ];
        live = λ i version is.
            elim (comes_from i version (sym (are i) ∙ is)).source [
              | inl put ↦ ap (λ (x : Version). x.is_ended) put.3
              | inr there ↦ copy.live i version there
            ];
        apart = λ i j v w differ is_v is_w. both_apart i j v w differ (comes_from i v (sym (are i) ∙ is_v)) (comes_from j w (sym (are j) ∙ is_w));
        distinct = λ i j v w differ is_v is_w. both_distinct i j v w differ (comes_from i v (sym (are i) ∙ is_v)) (comes_from j w (sym (are j) ∙ is_w));
      }

-- A copy that has ended obeys the rules.
pub copy_lawful : (contents : Contents) (staged : Versions) (position : ℕ) → AreLawful contents → IsCopy (entries_of contents) staged
    → (ExhaustsCopy contents.current position → ⊥) → AreLawful (after_copy contents staged position)
copy_lawful contents staged position are copy room =
    let entries : ℕ = entries_of contents in
    let distinct : AreDistinct staged entries = λ i j v w within_i within_j differ is_v is_w live_v live_w. copy.distinct i j v w differ is_v is_w in
    record {
      many = are.many;
      few = are.few;
      current = copied_is_lawful contents.current position are.current
          (below_limit (copied_record contents.current position).cd (λ reached. room (inl reached)))
          (below_limit position (λ reached. room (inr (inl reached))))
          (below_limit (contents.current.number + 1) (λ reached. room (inr (inr reached))));
      apart = copy.apart;
      keyspace = map_below staged entries;
      lawful = distinct_keyspace staged entries distinct;
      map = distinct_map staged entries distinct;
      uncopied = λ newcomer. absurd (standby_other newcomer);
    }

-- free entries still have no version
pub copy_consistent : (contents : Contents) (staged : Versions) (position : ℕ) → IsCopy (entries_of contents) staged → IsConsistent (after_copy contents staged position)
copy_consistent contents staged position copy =
    record {
      free = λ i free. none_is (staged i) (and_parts (contents.is_free i) (is_none (staged i)) free).1;
      beyond = λ i beyond. none_where i beyond (staged i) refl;
    }
  where
    none_is : (o : Option Version) → IsTrue (is_none o) → o ≡ None
    none_is None is = refl
    none_is (Some version) is = absurd (both_ways false refl is)

    none_where : (i : ℕ) → entries_of contents ≤ i → (o : Option Version) → staged i ≡ o → staged i ≡ None
    none_where i beyond None is = is
    none_where i beyond (Some version) is = absurd (omega (arith, copy.within i version is, beyond))
