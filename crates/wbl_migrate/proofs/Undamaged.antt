-- An image that breaks no rule of the format has a map.
use Rattle.std.proofs.Common.{◌≡◌, ℕ, Bool, false, not, ◌&&◌, IsTrue, Some, sym, ap, ap₂, subst, ◌∙◌}
use Rattle.std.proofs.lemmas.Option.{cond_some}
use Rattle.kv_types.specs.Keyspace.{Keyspace}
use Rattle.heap_layout.specs.Versions.{is_counted, is_live}
use Rattle.model.specs.declared.layout.Layout.{Layout}
use Rattle.model.specs.declared.record.Record.{Record}
use Rattle.model.specs.Image.{Image, IsMapOf, Version, entries_of_lines, map_below, version_at, version_in}
use Rattle.model.specs.ReadImage.{is_clash}
use Rattle.wbl_engine.specs.Lawful.{IsUndamaged}
use Rattle.wbl_engine.proofs.ClashLemmas.{AreDistinct, distinct_map}
use Rattle.wbl_migrate.specs.Migrating.{IsImageOf}

module _ (lines' : ℕ) (r : Record) (image : Image) (undamaged : IsUndamaged lines' r image) where
  abbrev count : ℕ
  count = entries_of_lines r.layout lines'

  begun_at : (i : ℕ) (version : Version) → version_at r image i ≡ Some version → IsTrue (is_counted r image i) × (version_in r image i ≡ version)
  begun_at i version is = let begun = cond_some (is_counted r image i) (version_in r image i) version is in (begun.0, begun.1)

  live_at : (i : ℕ) (version : Version) → version_at r image i ≡ Some version → version.is_ended ≡ false → IsTrue (is_live r image i)
  live_at i version is live =
      let at = begun_at i version is in
      ap₂ (λ (a b : Bool). a && not b) at.0 (ap (λ (v : Version). v.is_ended) at.1 ∙ live)

  distinct : AreDistinct (version_at r image) count
  distinct i j v w within_i within_j differ is_v is_w live_v live_w =
      sym (ap₂ (λ (a b : Version). is_clash a.id b.id) (begun_at i v is_v).1 (begun_at j w is_w).1)
      ∙ undamaged.versions.distinct i j within_i within_j differ (live_at i v is_v live_v) (live_at j w is_w live_w)

  pub undamaged_image : (layout : Layout) → r.layout ≡ layout → (s : Keyspace) × IsImageOf layout lines' r s image
  undamaged_image layout is =
      let s : Keyspace = map_below (version_at r image) count in (
        s,
        record {
          layout = is;
          undamaged = undamaged;
          map = subst (λ (l : Layout). IsMapOf (version_at r image) (entries_of_lines l lines') s) is (distinct_map (version_at r image) count distinct);
        },
      )
