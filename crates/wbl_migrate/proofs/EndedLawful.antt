-- While a version is moved that has ended, the contents obey the rules.
use Rattle.std.proofs.Common.{◌≡◌, ℕ, not, IsTrue, ◌⊎◌, inl, inr, Some, sym, ap, subst, ◌∙◌, arith}
use Rattle.std.specs.Prelude.{nat_eq}
use Rattle.std.proofs.lemmas.Bool.{and_parts, both_ways, eq-eqb, eqb-true, not-true}
use Rattle.pmem.proofs.Staging.{same_or_other}
use Rattle.model.specs.Group.{AreApart, Contents, IsConsistent, is_ended_version}
use Rattle.model.specs.Image.{Version}
use Rattle.wbl_engine.specs.Lawful.{AreLawful}
use Rattle.wbl_engine.proofs.LawfulLemmas.{some_version}
use Rattle.wbl_engine.proofs.WithoutLemmas.{consistent_without, lawful_without}
use Rattle.wbl_migrate.specs.Ended.{IsMovable, after_move, with_copy}
use Rattle.wbl_migrate.proofs.EndedMaps.{apart, copied_at, copied_map, copied_other}
use Rattle.wbl_engine.proofs.GroupSteps.{flip_apart}

module _ {contents : Contents} {from to to_line : ℕ} {version : Version} (may : IsMovable contents from to to_line version) where
  -- a version of the contents with both copies is the copy, or was there
  copied_held : (i : ℕ) (v : Version) → (with_copy from to to_line contents).versions i ≡ Some v
      → ((i ≡ to) × (v ≡ record version { first_line = to_line })) ⊎ (contents.versions i ≡ Some v)
  copied_held i v is =
      elim (same_or_other i to) [
        | inl here ↦
            let same : Some (record version { first_line = to_line }) ≡ Some v = sym (copied_at may i here) ∙ is in
            let one : v ≡ record version { first_line = to_line } = cc in
            inl (here, one)
        | inr other ↦ inr (sym (copied_other may i other) ∙ is)
      ]

  pub copied_lawful : AreLawful contents → AreLawful (with_copy from to to_line contents)
  copied_lawful are =
      record {
        many = are.many;
        few = are.few;
        current = are.current;
        apart = λ i j v w differ is_v is_w.
            elim (copied_held i v is_v) [
              | inl here ↦
                  elim (copied_held j w is_w) [
                    | inl there ↦ absurd (differ (here.0 ∙ sym there.0))
                    | inr other ↦
                        subst (λ (x : Version). AreApart x.first_line x.lines w.first_line w.lines) (sym here.1) (may.unused.lines j w other)
                  ]
              | inr kept ↦
                  elim (copied_held j w is_w) [
                    | inl there ↦
                        subst (λ (x : Version). AreApart v.first_line v.lines x.first_line x.lines) (sym there.1)
                        (flip_apart to_line version.lines v.first_line v.lines (may.unused.lines i v kept))
                    | inr other ↦ are.apart i j v w differ kept other
                  ]
            ];
        keyspace = are.keyspace;
        lawful = are.lawful;
        map = (copied_map may are.keyspace).0 are.map;
        uncopied = λ newcomer. absurd (some_version version (sym (are.uncopied newcomer from) ∙ may.held));
      }

  -- the version that leaves its old entry has ended
  gone_ended : (i : ℕ) → IsTrue (nat_eq i from) → IsTrue (is_ended_version ((with_copy from to to_line contents).versions i))
  gone_ended i gone =
      let here : i ≡ from = eqb-true i from gone in
      ap is_ended_version (copied_other may i (λ same. apart may (sym here ∙ same)) ∙ ap contents.versions here ∙ may.held) ∙ may.ended

  pub moved_lawful : AreLawful contents → AreLawful (after_move from to to_line contents)
  moved_lawful are = lawful_without (with_copy from to to_line contents) (λ i. nat_eq i from) gone_ended (copied_lawful are)

  pub copied_consistent : IsConsistent contents → IsConsistent (with_copy from to to_line contents)
  copied_consistent consistent =
      record {
        free = λ i is.
            let parts = and_parts (contents.is_free i) (not (nat_eq i to)) is in
            copied_other may i (λ same. both_ways (nat_eq i to) (not-true (nat_eq i to) parts.1) (eq-eqb i to same)) ∙ consistent.free i parts.0;
        beyond = λ i above. copied_other may i (λ same. omega (arith, same, above, may.placed.entry)) ∙ consistent.beyond i above;
      }

  pub moved_consistent : IsConsistent contents → IsConsistent (after_move from to to_line contents)
  moved_consistent consistent = consistent_without (with_copy from to to_line contents) (λ i. nat_eq i from) (copied_consistent consistent)
