-- What writing the number does to a device.
use Rattle.std.proofs.Common.{◌≡◌, ◌≢◌, ℕ, [], ◌∷◌, refl, inl, inr, sym, subst, ◌∙◌, arith}
use Rattle.std.proofs.lemmas.Bool.{cases_lt}
use Rattle.kv_types.specs.Keyspace.{Keyspace}
use Rattle.pmem.specs.Device.{State, Word, Only}
use Rattle.pmem.specs.Crash.{image_of}
use Rattle.pmem.specs.Runs.{IsPartlyStored, IsStored, LeavesOnly}
use Rattle.pmem.proofs.Leaving.{LeavesOnly-weaken, none_leaves}
use Rattle.model.specs.declared.layout.Layout.{Layout}
use Rattle.model.specs.declared.record.Record.{Record}
use Rattle.model.specs.Group.{Contents}
use Rattle.model.specs.Image.{Image}
use Rattle.wbl_record.proofs.Mixing.{IsMixed, mixed}
use Rattle.wbl_engine.specs.Contents.{IsDurable, IsNew, Keeps}
use Rattle.wbl_migrate.specs.Migrating.{IsImageOf}
use Rattle.wbl_migrate.specs.Steps.{KeepsOthers, Leaves}
use Rattle.wbl_migrate.proofs.Touching.{IsStep, one_stored, step_keeps, value_stored}
use Rattle.images.specs.Pair.{IsFormatted, IsNumbering}
use Rattle.images.specs.declared.formatting.NewImage.{NewImage}
use Rattle.images.specs.declared.pair.TheConstants.{PAIR_WORD}
use Rattle.images.proofs.PairLemmas.{contents_same, image_same}

-- what a crash leaves while the number is stored
numbering : (words : ℕ → Word) (pair : ℕ) (image : Image) → IsPartlyStored ((PAIR_WORD, pair) ∷ []) words image → IsNumbering words pair image
numbering words pair image partly =
    let mix : IsMixed words (λ word. IsStored ((PAIR_WORD, pair) ∷ []) word (image word)) image =
    mixed words (λ word. IsStored ((PAIR_WORD, pair) ∷ []) word (image word)) image partly in
    record {
      base = mix.base;
      before = mix.is;
      same = λ word other. elim (mix.same word) [ inl e ↦ e | inr stored ↦ absurd (other (one_stored PAIR_WORD pair word (image word) stored)) ];
      number = elim (mix.same PAIR_WORD) [ inl e ↦ inl e | inr stored ↦ inr (value_stored PAIR_WORD pair PAIR_WORD (image PAIR_WORD) stored) ];
    }

pub pair_moments : {old new : State} {pair : ℕ} → IsStep old new ((PAIR_WORD, pair) ∷ []) → LeavesOnly old new (IsNumbering old.words pair)
pair_moments {old} {new} {pair} step = LeavesOnly-weaken (IsNumbering old.words pair) (numbering old.words pair) step.moments

pub pair_elsewhere : {old new : State} {pair : ℕ} → IsStep old new ((PAIR_WORD, pair) ∷ []) → KeepsOthers old new (λ word. word ≡ PAIR_WORD)
pair_elsewhere {old} {new} {pair} step = step_keeps (λ word. word ≡ PAIR_WORD) (λ word x stored. one_stored PAIR_WORD pair word x stored) step

-- whatever record and keyspace each crash left, it leaves at any moment of that
pub pair_image : {old new : State} {pair : ℕ} → IsStep old new ((PAIR_WORD, pair) ∷ []) → (layout : Layout) (lines : ℕ) (r : Record) (s : Keyspace)
    → Leaves old (IsImageOf layout lines r s) → LeavesOnly old new (IsImageOf layout lines r s)
pair_image {old} {new} {pair} step layout lines r s all =
    LeavesOnly-weaken (IsImageOf layout lines r s)
    (λ image left. image_same left.base image left.same layout lines r s (all left.base left.before)) (pair_moments step)

pub pair_contents : {old new : State} {pair : ℕ} → IsStep old new ((PAIR_WORD, pair) ∷ []) → (contents : Contents) → IsDurable old contents
    → LeavesOnly old new (Keeps contents)
pair_contents {old} {new} {pair} step contents durable =
    LeavesOnly-weaken (Keeps contents) (λ image left. contents_same left.base image left.same contents (durable left.base left.before)) (pair_moments step)

-- ---- where nothing is written

pub none_moments : (d : State) (pair : ℕ) → LeavesOnly d d (IsNumbering d.words pair)
none_moments d pair =
    none_leaves d (IsNumbering d.words pair) (λ image is. record { base = image; before = is; same = λ word other. refl; number = inl refl })

pub none_elsewhere : (d : State) → KeepsOthers d d (λ word. word ≡ PAIR_WORD)
none_elsewhere d =
    record {
      newest = λ word other. refl;
      left = λ word y other may. may;
      stays = record { lines = refl; kept = refl; starved = λ is. is };
    }

-- what loads return of a word that each crash leaves so
pub newest_is : {word : Word} {x : ℕ} → Only word x → word.newest ≡ x
newest_is {word} only = only.only word.newest (inl refl)

-- on a device of which a crash leaves what loads return, that is so once the number was written and is certain
pub settled_after : {old new : State} {pair : ℕ} → ((word : ℕ) → Only (old.words word) (image_of old.words word))
    → KeepsOthers old new (λ word. word ≡ PAIR_WORD) → Only (new.words PAIR_WORD) pair → (word : ℕ) → Only (new.words word) (image_of new.words word)
settled_after {old} {new} {pair} settled keeps certain word =
    let other : word ≢ PAIR_WORD → Only (new.words word) (image_of new.words word) =
    λ differs. record { only = λ y may. (settled word).only y (keeps.left word y differs may) ∙ sym (keeps.newest word differs) } in
    let there : Only (new.words PAIR_WORD) (image_of new.words PAIR_WORD) =
    record { only = λ y may. certain.only y may ∙ sym (newest_is certain) } in
    let here : word ≡ PAIR_WORD → Only (new.words word) (image_of new.words word) =
    λ e. subst (λ (w : ℕ). Only (new.words w) (image_of new.words w)) (sym e) there in
    elim (cases_lt word 6) [
      | inl below ↦ other (λ e. omega (arith, e, below))
      | inr from ↦ elim (cases_lt 6 word) [ inl above ↦ other (λ e. omega (arith, e, above)) | inr upto ↦ here (omega (arith, from, upto)) ]
    ]

-- ---- a new image

pub is_formatted : {asked : NewImage} {made : ℕ} {contents : Contents} {engine old new : State} → made ≡ asked.lines
    → IsNew made asked.role asked.epoch contents → old ≡ engine → IsDurable engine contents
    → ((others : Contents) → IsDurable old others → LeavesOnly old new (Keeps others)) → Only (new.words PAIR_WORD) asked.pair → IsFormatted asked new
is_formatted {asked} {made} {contents} {engine} {old} {new} same is_new given durable keeps number =
    record {
      contents = contents;
      new = subst (λ (n : ℕ). IsNew n asked.role asked.epoch contents) same is_new;
      durable = λ image is. (keeps contents (subst (λ (d : State). IsDurable d contents) (sym given) durable)).each image (inl is);
      number = number;
    }
