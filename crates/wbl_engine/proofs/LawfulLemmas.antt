-- Contents that obey the rules, from the first to the next, and the images that hold them.
use Rattle.std.proofs.Common.{◌≡◌, ℕ, ◌+◌, ◌<◌, ◌≤◌, true, false, not, List, [], length, inl, inr, None, Some, refl, sym, ap, subst, ◌∙◌, arith}
use Rattle.std.proofs.lemmas.Bool.{cond-true, cases_lt, and_parts, false_from_ne_true, not-true}
use Rattle.kv_types.proofs.PlayLemmas.{is_keyspace-empty}
use Rattle.model.specs.declared.group.Group.{Group}
use Rattle.model.specs.declared.image.TheConstants.{MIN_LINES, MAX_LINES, COUNTER_LIMIT}
use Rattle.model.specs.declared.record.Gap.{Gap}
use Rattle.model.specs.declared.record.Role.{Role}
use Rattle.model.specs.declared.record.Role.TheVariants.{Newcomer}
use Rattle.model.specs.Floor.{with_floor}
use Rattle.model.specs.declared.record.Record.{Record}
use Rattle.model.specs.Group.{Versions, Contents, IsGroup, next_record, after_group, entries_of}
use Rattle.model.specs.Image.{Image, Version, IsMapOf, map_below, entry_word, version_in, counts}
use Rattle.model.proofs.MapLemmas.{IsMapOf-none, IsMapOf-same}
use Rattle.heap_layout.specs.Versions.{is_counted, is_live}
use Rattle.model.proofs.DirectoryLemmas.{entries_same}
use Rattle.wbl_record.specs.Current.{AreGaps, IsLawful}
use Rattle.wbl_engine.specs.Contents.{Keeps, IsNew, Same, Exhausts}
use Rattle.wbl_engine.specs.Lawful.{AreLawful, IsUndamaged}
use Rattle.wbl_engine.proofs.ApartLemmas.{group_apart}
use Rattle.wbl_engine.proofs.ClashLemmas.{AreDistinct, parts_distinct, map_distinct, distinct_map, distinct_keyspace}
use Rattle.wbl_engine.proofs.SuccessorLemmas.{lawful_later}

-- ---- a new image

new_current : (lines : ℕ) (role : Role) (epoch' : ℕ) (contents : Contents) → IsNew lines role epoch' contents → 0 < epoch' → epoch' < COUNTER_LIMIT
    → IsLawful contents.current
new_current lines role epoch' contents new some below =
    record {
      some = omega (arith, new.number);
      number = omega (arith, new.number);
      position = omega (arith, new.position);
      limit = omega (arith, new.cd, new.cp);
      room = omega (arith, new.cd);
      some_epoch = omega (arith, new.epoch, some);
      epoch = omega (arith, new.epoch, below);
      newcomer = λ is. new.position;
      few = omega (arith, ap length new.gaps);
      gaps = subst (λ (gaps : List Gap). AreGaps 0 gaps contents.current.cp) (sym new.gaps) tt;
    }

pub some_version : (version : Version) → None ≡ Some version → ⊥
some_version version e = cc

pub new_lawful : (lines : ℕ) (role : Role) (epoch' : ℕ) (contents : Contents) → IsNew lines role epoch' contents → MIN_LINES ≤ lines → lines ≤ MAX_LINES
    → 0 < epoch' → epoch' < COUNTER_LIMIT → AreLawful contents
new_lawful lines role epoch' contents new many few some below =
    record {
      many = omega (arith, new.line_count, many);
      few = omega (arith, new.line_count, few);
      current = new_current lines role epoch' contents new some below;
      apart = λ i j v w differ is_v is_w. absurd (some_version v (sym (new.versions i) ∙ is_v));
      keyspace = [];
      lawful = is_keyspace-empty;
      map = IsMapOf-none contents.versions (entries_of contents) (λ i within. new.versions i);
      uncopied = λ newcomer. new.versions;
    }

-- ---- a group

-- a counter that does not reach the limit is below it
pub below_limit : (counter : ℕ) → (COUNTER_LIMIT ≤ counter → ⊥) → counter < COUNTER_LIMIT
below_limit counter other = elim (cases_lt counter COUNTER_LIMIT) [ inl below ↦ below | inr reached ↦ absurd (other reached) ]

group_current : (contents : Contents) (group : Group) → IsLawful contents.current → IsGroup contents group → (Exhausts contents group → ⊥)
    → IsLawful (next_record contents.current group)
group_current contents group lawful asked room =
    lawful_later contents.current (next_record contents.current group) lawful
    (record {
      number = below_limit (contents.current.number + 1) (λ reached. room (inr (inr (inl reached))));
      position = below_limit (next_record contents.current group).position (λ reached. room (inr (inl reached)));
      room = below_limit (next_record contents.current group).cd (λ reached. room (inl reached));
      epoch = elim asked.epoch [
        | inl same ↦ omega (arith, same, lawful.epoch)
        | inr later ↦ below_limit group.epoch (λ reached. room (inr (inr (inr (inl (later.1, reached))))))
      ];
    })
    refl refl (omega arith)
    (elim asked.epoch [ inl same ↦ omega (arith, same) | inr later ↦ omega (arith, later.1) ])
    refl refl (λ is. absurd (room (inr (inr (inr (inr is))))))

-- of a record that comes out of it lawful, no counter has reached the limit
pub not_exhausted : (floor : ℕ) (contents : Contents) (group : Group) (next : Record) → next ≡ next_record (with_floor floor contents.current) group → IsLawful next
    → (contents.current.role ≡ Newcomer → ⊥) → Exhausts contents group → ⊥
not_exhausted floor contents group next is lawful other (inl reached) = omega (arith, reached, ap (λ (q : Record). q.cd) is, lawful.room)
not_exhausted floor contents group next is lawful other (inr (inl reached)) = omega (arith, reached, ap (λ (q : Record). q.position) is, lawful.position)
not_exhausted floor contents group next is lawful other (inr (inr (inl reached))) = omega (arith, reached, ap (λ (q : Record). q.number) is, lawful.number)
not_exhausted floor contents group next is lawful other (inr (inr (inr (inl later)))) = omega (arith, later.1, ap (λ (q : Record). q.epoch) is, lawful.epoch)
not_exhausted floor contents group next is lawful other (inr (inr (inr (inr newcomer)))) = other newcomer

-- no two live versions clash
pub lawful_distinct : (contents : Contents) → AreLawful contents → AreDistinct contents.versions (entries_of contents)
lawful_distinct contents are = map_distinct contents.versions (entries_of contents) are.keyspace are.lawful are.map

pub group_lawful : (contents : Contents) (group : Group) → AreLawful contents → IsGroup contents group
    → (Exhausts contents group → ⊥) → AreLawful (after_group contents group)
group_lawful contents group are asked room =
    let entries : ℕ = entries_of contents in
    let versions : Versions = (after_group contents group).versions in
    let distinct : AreDistinct versions entries =
    parts_distinct group.parts.items contents.versions entries (lawful_distinct contents are) in
    record {
      many = are.many;
      few = are.few;
      current = group_current contents group are.current asked room;
      apart = group_apart contents group are.apart asked;
      keyspace = map_below versions entries;
      lawful = distinct_keyspace versions entries distinct;
      map = distinct_map versions entries distinct;
      uncopied = λ newcomer. absurd (room (inr (inr (inr (inr newcomer)))));
    }

-- ---- contents with the same versions

-- they obey the rules, if their record does and is no newcomer's that was none
pub lawful_from : (old new : Contents) → IsLawful new.current → new.current.layout ≡ old.current.layout
    → (new.current.role ≡ Newcomer → old.current.role ≡ Newcomer) → new.lines ≡ old.lines
    → ((i : ℕ) → new.versions i ≡ old.versions i)
    → AreLawful old → AreLawful new
lawful_from old new current layout newcomers lines versions are =
    record {
      many = omega (arith, lines, are.many);
      few = omega (arith, lines, are.few);
      current = current;
      apart = λ i j v w differ is_v is_w. are.apart i j v w differ (sym (versions i) ∙ is_v) (sym (versions j) ∙ is_w);
      keyspace = are.keyspace;
      lawful = are.lawful;
      map = subst (λ (n : ℕ). IsMapOf new.versions n are.keyspace) (sym (entries_same old new layout lines))
          (IsMapOf-same old.versions new.versions (entries_of old) are.keyspace (λ i within. sym (versions i)) are.map);
      uncopied = λ newcomer i. versions i ∙ are.uncopied (newcomers newcomer) i;
    }

pub same_lawful : (old new : Contents) → Same old new → AreLawful old → AreLawful new
same_lawful old new same are = lawful_from old new (subst IsLawful (sym same.current) are.current) (ap (λ (r : Record). r.layout) same.current)
    (λ newcomer. ap (λ (r : Record). r.role) (sym same.current) ∙ newcomer) same.lines same.versions are

-- ---- an image

-- an entry whose begin counts holds the version that the contents have
counted_version : (contents : Contents) (image : Image) → Keeps contents image → (i : ℕ) → i < entries_of contents
    → is_counted contents.current image i ≡ true → contents.versions i ≡ Some (version_in contents.current image i)
counted_version contents image keeps i within counted =
    sym (keeps.versions i within) ∙ cond-true (is_counted contents.current image i) _ _ counted

-- and of one that is live the version is not ended
live_version : (contents : Contents) (image : Image) → Keeps contents image → (i : ℕ) → i < entries_of contents
    → is_live contents.current image i ≡ true
    → (contents.versions i ≡ Some (version_in contents.current image i)) × (counts contents.current (image (entry_word i 1)) ≡ false)
live_version contents image keeps i within live =
    let parts = and_parts (is_counted contents.current image i) (not (counts contents.current (image (entry_word i 1)))) live in
    (counted_version contents image keeps i within parts.0, not-true (counts contents.current (image (entry_word i 1))) parts.1)

pub lawful_undamaged : (contents : Contents) (image : Image) → AreLawful contents → Keeps contents image
    → IsUndamaged contents.lines contents.current image
lawful_undamaged contents image are keeps =
    record {
      superblock = keeps.superblock;
      current = record { version_is = keeps.superblock.version; has_record = keeps.has_record; lawful = are.current };
      versions = record {
        entries = keeps.entries;
        apart = λ i j within_i within_j differ counted_i counted_j.
            are.apart i j (version_in contents.current image i) (version_in contents.current image j) differ
            (counted_version contents image keeps i within_i counted_i) (counted_version contents image keeps j within_j counted_j);
        distinct = λ i j within_i within_j differ live_i live_j.
            let at_i = live_version contents image keeps i within_i live_i in
            let at_j = live_version contents image keeps j within_j live_j in
            lawful_distinct contents are i j (version_in contents.current image i) (version_in contents.current image j) within_i within_j differ
            at_i.0 at_j.0 at_i.1 at_j.1;
        uncopied = λ newcomer i within.
            false_from_ne_true (is_counted contents.current image i)
            (λ counted.
            some_version (version_in contents.current image i) (sym (are.uncopied newcomer i) ∙ counted_version contents image keeps i within counted));
      };
    }
