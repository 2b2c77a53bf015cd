-- A group keeps the lines of any two versions apart.
use Rattle.std.proofs.Common.{◌≡◌, ◌≢◌, ℕ, Bool, List, [], ◌∷◌, ◌++◌, ◌⊎◌, inl, inr, Option, None, Some, refl, sym, ap, subst, ◌∙◌, arith}
use Rattle.std.specs.List.{AllByRecursion}
use Rattle.std.proofs.lemmas.Bool.{cases_Bool}
use Rattle.model.specs.declared.group.Group.{Group}
use Rattle.model.specs.declared.group.Part.{Part}
use Rattle.model.specs.declared.group.Put.{Put}
use Rattle.model.specs.Image.{Version}
use Rattle.model.specs.Group.{Versions, Contents, IsGroup, IsUnused, AreApart, IsApartFrom, AreAllApart, is_put_at, puts_of_part, part_versions, parts_versions, version_of_put, after_group}
use Rattle.wbl_engine.specs.Stage.{puts_of_parts}
use Rattle.wbl_engine.proofs.GroupSteps.{all-from, apart-across, flip_apart}
use Rattle.wbl_engine.proofs.PartEffects.{IsAmong, end_if, end_if_begun, changes_kept, changes_made, is_put_at-among}
use Rattle.wbl_engine.proofs.PutPairs.{among-all}
use Rattle.wbl_engine.proofs.StagingLemmas.{all-prefix, all-back}
use Rattle.model.proofs.GroupsLemmas.{AreAllApart-prefix, AreAllApart-rest}

-- two runs of lines, of which each has a first line and a length
abbrev pub LieApart : Version → Version → Type 0
LieApart v w = AreApart v.first_line v.lines w.first_line w.lines

-- no two versions have a line in common
abbrev pub AreVersionsApart : Versions → Type 0
AreVersionsApart versions = (i j : ℕ) (v w : Version) → i ≢ j → versions i ≡ Some v → versions j ≡ Some w → LieApart v w

-- no version has one of the lines of the put
abbrev pub IsFresh : Versions → Put → Type 0
IsFresh versions put =
    (i : ℕ) (version : Version) → versions i ≡ Some version → AreApart put.extent.first_line put.extent.lines version.first_line version.lines

-- where a version after a part comes from: a put of the part made it, or it was there
record ComesFrom (versions : Versions) (puts : List Put) (i : ℕ) (version : Version) : Type 0 where
  source : ((put : Put) × IsAmong put puts × (i ≡ put.entry.0) × (version.first_line ≡ put.extent.first_line) × (version.lines ≡ put.extent.lines))
      ⊎ ((old : Version) × (versions i ≡ Some old) × (version.first_line ≡ old.first_line) × (version.lines ≡ old.lines))

kept_from : (test : Bool) (old : Option Version) (version : Version) → end_if_begun test old ≡ Some version
    → (was : Version) × (old ≡ Some was) × (version.first_line ≡ was.first_line) × (version.lines ≡ was.lines)
kept_from test None version is = absurd (cc)
kept_from test (Some was) version is =
    let same : end_if test was ≡ version = cc in
    (was, refl, ap (λ (v : Version). v.first_line) (sym same), ap (λ (v : Version). v.lines) (sym same))

comes_from : (versions : Versions) (part : Part) → AreAllApart (puts_of_part part) → (i : ℕ) (version : Version)
    → part_versions versions part i ≡ Some version → ComesFrom versions (puts_of_part part) i version
comes_from versions part apart i version is =
    elim (cases_Bool (is_put_at i (puts_of_part part))) [
      | inl there ↦
          let at = is_put_at-among i (puts_of_part part) there in
          let made = changes_made part.position versions part.changes.items at.0 at.1 apart in
          let both : Some version ≡ Some (end_if made.test (version_of_put part.position at.0)) =
          sym is ∙ ap (part_versions versions part) at.2 ∙ made.is in
          let same : version ≡ end_if made.test (version_of_put part.position at.0) = cc in
          record {
            source = inl (at.0, at.1, at.2, ap (λ (v : Version). v.first_line) same, ap (λ (v : Version). v.lines) same);
          }
      | inr none ↦
          let kept = changes_kept part.position versions part.changes.items i none in
          record { source = inr (kept_from kept.test (versions i) version (sym kept.is ∙ is)) }
    ]

-- lines that are apart, under other names
apart_as : {a b c d a' b' c' d' : ℕ} → a' ≡ a → b' ≡ b → c' ≡ c → d' ≡ d → AreApart a b c d → AreApart a' b' c' d'
apart_as ea eb ec ed (inl before) = inl (omega (arith, ea, eb, ec, before))
apart_as ea eb ec ed (inr after) = inr (omega (arith, ea, ec, ed, after))

-- two puts of different entries
pub puts_apart : (puts : List Put) (put other : Put) → AreAllApart puts → IsAmong put puts → IsAmong other puts → put.entry.0 ≢ other.entry.0
    → AreApart put.extent.first_line put.extent.lines other.extent.first_line other.extent.lines
puts_apart [] put other apart among there differ = absurd among
puts_apart (first ∷ puts) put other apart (inl here) (inl also) differ =
    absurd (differ (ap (λ (p : Put). p.entry.0) (here ∙ sym also)))
puts_apart (first ∷ puts) put other apart (inl here) (inr later) differ =
    subst (λ (p : Put). AreApart p.extent.first_line p.extent.lines other.extent.first_line other.extent.lines) (sym here)
    (among-all (IsApartFrom first) puts other later apart.0).lines
puts_apart (first ∷ puts) put other apart (inr among) (inl here) differ =
    subst (λ (p : Put). AreApart put.extent.first_line put.extent.lines p.extent.first_line p.extent.lines) (sym here)
    (flip_apart first.extent.first_line first.extent.lines put.extent.first_line put.extent.lines
    (among-all (IsApartFrom first) puts put among apart.0).lines)
puts_apart (first ∷ puts) put other apart (inr among) (inr later) differ = puts_apart puts put other apart.1 among later differ

-- after a part the versions are apart
pub part_apart : (versions : Versions) (part : Part) → AreVersionsApart versions → AllByRecursion (IsFresh versions) (puts_of_part part)
    → AreAllApart (puts_of_part part) → AreVersionsApart (part_versions versions part)
part_apart versions part apart fresh puts_are i j v w differ is_v is_w =
    let puts : List Put = puts_of_part part in
    elim ((comes_from versions part puts_are i v is_v).source) [
      | inl (put, among, at, first, count) ↦
          elim ((comes_from versions part puts_are j w is_w).source) [
            | inl (other, there, at', first', count') ↦
                apart_as first count first' count'
                (puts_apart puts put other puts_are among there (λ e. differ (at ∙ e ∙ sym at')))
            | inr (old, was, first', count') ↦
                apart_as first count first' count'
                (among-all (IsFresh versions) puts put among fresh j old was)
          ]
      | inr (old, was, first, count) ↦
          elim ((comes_from versions part puts_are j w is_w).source) [
            | inl (put, among, at, first', count') ↦
                apart_as first count first' count'
                (flip_apart put.extent.first_line put.extent.lines old.first_line old.lines
                (among-all (IsFresh versions) puts put among fresh i old was))
            | inr (old', was', first', count') ↦
                apart_as first count first' count'
                (apart i j old old' differ was was')
          ]
    ]

-- and the lines of a put of a later part are still those of no version
still_fresh : (versions : Versions) (part : Part) (later : List Put) → AllByRecursion (IsFresh versions) (puts_of_part part ++ later)
    → AreAllApart (puts_of_part part ++ later) → (put : Put) → IsAmong put later → IsFresh (part_versions versions part) put
still_fresh versions part later fresh puts_are put among i version is =
    let puts : List Put = puts_of_part part in
    elim ((comes_from versions part (AreAllApart-prefix puts later puts_are) i version is).source) [
      | inl (other, there, at, first, count) ↦
          apart_as {a' = put.extent.first_line} {b' = put.extent.lines} refl refl first count
          (flip_apart other.extent.first_line other.extent.lines put.extent.first_line put.extent.lines
          (apart-across puts later puts_are other put there among).lines)
      | inr (old, was, first, count) ↦
          apart_as {a' = put.extent.first_line} {b' = put.extent.lines} refl refl first count
          (among-all (IsFresh versions) later put among (all-back (IsFresh versions) puts later fresh) i old was)
    ]

-- after parts they are too
pub parts_apart : (parts : List Part) (versions : Versions) → AreVersionsApart versions → AllByRecursion (IsFresh versions) (puts_of_parts parts)
    → AreAllApart (puts_of_parts parts) → AreVersionsApart (parts_versions versions parts)
parts_apart [] versions apart fresh puts_are = apart
parts_apart (part ∷ parts) versions apart fresh puts_are =
    let first : List Put = puts_of_part part in
    let later : List Put = puts_of_parts parts in
    parts_apart parts (part_versions versions part)
    (part_apart versions part apart (all-prefix (IsFresh versions) first later fresh) (AreAllApart-prefix first later puts_are))
    (all-from (IsFresh (part_versions versions part)) later
    (λ put among. still_fresh versions part later fresh puts_are put among))
    (AreAllApart-rest first later puts_are)

-- After a group no two versions have a line in common.
pub group_apart : (contents : Contents) (group : Group) → AreVersionsApart contents.versions → IsGroup contents group
    → AreVersionsApart (after_group contents group).versions
group_apart contents group apart asked =
    let puts : List Put = puts_of_parts group.parts.items in
    parts_apart group.parts.items contents.versions apart
    (all-from (IsFresh contents.versions) puts
    (λ put among. (among-all (IsUnused contents.versions contents.is_free) puts put among asked.unused).lines))
    asked.apart
