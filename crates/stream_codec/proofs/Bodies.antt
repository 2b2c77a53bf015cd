-- Many changes as texts that are read.
use Rattle.std.proofs.Common.{◌≡◌, ℕ, zero, suc, ◌-◌, ◌<◌, ◌≤◌, false, List, [], ◌∷◌, ◌++◌, length, Ok, Err, inl, inr, refl, sym, ap, subst, ◌∙◌, arith}
use Rattle.std.specs.Prelude.{◌==◌}
use Rattle.std.specs.List.{AllByRecursion}
use Rattle.std.proofs.lemmas.Bool.{eqb-true}
use Rattle.std.proofs.lemmas.Bool.Decides.{nat_tests}
use Rattle.std.proofs.lemmas.List.{append-nil}
use Rattle.kv_types.specs.declared.change.Change.{Change}
use Rattle.kv_types.specs.Change.{change_text, changes_text, changes_size}
use Rattle.kv_types.proofs.ChangeTextLemmas.{change_text_nonempty, changes_size-cons}
use Rattle.kv_types.specs.declared.stop.Stop.{Stop}
use Rattle.kv_types.specs.Reader.{◌>>=◌}
use Rattle.stream_codec.specs.declared.change.Body.{Body}
use Rattle.stream_codec.specs.declared.change.Body.TheVariants as bodies
use Rattle.stream_codec.specs.Message.{IsChange}
use Rattle.stream_codec.specs.Bytes.{Outcome}
use Rattle.stream_codec.specs.Reading.{change_at, changes_within, changes_at}
use Rattle.stream_codec.proofs.Readers.{Gives, Reads, Reads-as, Reads-done, Reads-then, Reads-same, Then, same_readers}
use Rattle.stream_codec.proofs.Numbers.{true_or_false, cond_true, cond_false}
use Rattle.stream_codec.proofs.Names.{Leaves, least_of}
use Rattle.stream_codec.proofs.Changes.{IsIn, put_long, IsChangeWithin, change_reads, change_fits}

nonzero : (n : ℕ) → n == 0 ≡ false → 0 < n
nonzero n f = grind (arith, nat_tests)

is_nonzero : (n : ℕ) → 0 < n → n == 0 ≡ false
is_nonzero n h = grind (arith, nat_tests)

-- changes that such a body holds and that have exactly so many bytes
pub record IsBody (b : Body) (left : ℕ) (changes : List Change) (text : List ℕ) : Type 0 where
  pub each : AllByRecursion IsChange changes
  pub kinds : AllByRecursion (IsIn b) changes
  pub size : changes_size changes ≡ left
  pub text_is : text ≡ changes_text changes

puts_leave : (changes : List Change) → AllByRecursion (IsIn bodies.Puts) changes → Leaves bodies.Puts (changes_size changes)
puts_leave [] kinds = inl refl
puts_leave (c ∷ changes) kinds = inr (omega (arith, changes_size-cons c changes, put_long c kinds.0))

-- there is no body of a size that it cannot have
pub body_leaves : (b : Body) (changes : List Change) → AllByRecursion (IsIn b) changes → Leaves b (changes_size changes)
body_leaves bodies.Changes changes kinds = tt
body_leaves bodies.Puts changes kinds = puts_leave changes kinds

least_left : (b : Body) (left : ℕ) → Leaves b left → 0 < left → least_of b ≤ left
least_left bodies.Changes left leaves some = omega (arith, some)
least_left bodies.Puts left leaves some =
    elim leaves [
      | inl none ↦ absurd (omega (arith, none, some))
      | inr more ↦ more
    ]

body_of_none : (b : Body) (left : ℕ) → left ≡ 0 → (changes : List Change) (text : List ℕ) → Gives [] changes text → IsBody b left changes text
body_of_none b left h changes text t = subst (λ cs. IsBody b left cs text) (sym t.1) (record { each = tt; kinds = tt; size = sym h; text_is = t.0 })

none_of_body : (b : Body) (left : ℕ) → left ≡ 0 → (changes : List Change) (text : List ℕ) → IsBody b left changes text → Gives [] changes text
none_of_body b left h [] text i = (i.text_is, refl)
none_of_body b left h (c ∷ changes) text i = absurd (omega (arith, h, i.size, changes_size-cons c changes, change_text_nonempty c))

nothing_reads : (b : Body) (left : ℕ) → left ≡ 0 → Reads (λ bytes. Ok ([], bytes)) (IsBody b left)
nothing_reads b left h = Reads-as (λ bytes. Ok ([], bytes)) (Gives []) (IsBody b left) (Reads-done []) (λ cs text t. body_of_none b left h cs text t) (λ cs text i. none_of_body b left h cs text i)

abbrev Others : Body → ℕ → Change → List Change → List ℕ → Type 0
Others b left c = Then (IsBody b (left - length (change_text c))) (λ others. Gives (c ∷ others))

abbrev FirstAndOthers : Body → ℕ → List Change → List ℕ → Type 0
FirstAndOthers b left = Then (IsChangeWithin b left) (Others b left)

body_of_some : (b : Body) (left : ℕ) (changes : List Change) (text : List ℕ) → FirstAndOthers b left changes text → IsBody b left changes text
body_of_some b left changes text t =
    let u = t.after in
    let second : t.second ≡ changes_text u.x = u.joined ∙ ap (λ s. u.first ++ s) u.after.0 ∙ append-nil u.first ∙ u.before.text_is in
    subst (λ cs. IsBody b left cs text) (sym u.after.1) (record {
      each = (t.before.within, u.before.each);
      kinds = (t.before.member, u.before.kinds);
      size = omega (arith, changes_size-cons t.x u.x, u.before.size, t.before.fits);
      text_is = t.joined ∙ ap (λ s. s ++ t.second) t.before.text_is ∙ ap (λ s. change_text t.x ++ s) second;
    })

some_of_body : (b : Body) (left : ℕ) → 0 < left → (changes : List Change) (text : List ℕ) → IsBody b left changes text → FirstAndOthers b left changes text
some_of_body b left h [] text i = let e : 0 ≡ left = i.size in absurd (omega (arith, e, h))
some_of_body b left h (c ∷ changes) text i =
    let size = changes_size-cons c changes in
    let behind : changes_size changes ≡ left - length (change_text c) = omega (arith, size, i.size) in
    record {
      x = c;
      first = change_text c;
      second = changes_text changes;
      before = record { within = i.each.0; member = i.kinds.0; fits = omega (arith, size, i.size); leaves = subst (Leaves b) behind (body_leaves b changes i.kinds.1); text_is = refl };
      after = record {
        x = changes;
        first = changes_text changes;
        second = [];
        before = record { each = i.each.1; kinds = i.kinds.1; size = behind; text_is = refl };
        after = (refl, refl);
        joined = sym (append-nil (changes_text changes));
      };
      joined = i.text_is;
    }

abbrev others_at : Body → ℕ → ℕ → Change → List ℕ → Outcome (List Change)
others_at b most left c rest = changes_within b most (left - length (change_text c)) rest >>= λ others. Ok (c ∷ others.0, others.1)

abbrev some_at : Body → ℕ → ℕ → List ℕ → Outcome (List Change)
some_at b most left bytes = change_at b left bytes >>= λ c. others_at b most left c.0 c.1

pub within_reads : (b : Body) (most left : ℕ) → left ≤ most → Leaves b left → Reads (changes_within b most left) (IsBody b left)
within_reads b zero left h leaves = nothing_reads b left (omega (arith, h))
within_reads b (suc most) left h leaves =
    elim (true_or_false (left == 0)) [
      | inl t ↦ Reads-same (λ bytes. Ok ([], bytes)) (changes_within b (suc most) left) (IsBody b left) (nothing_reads b left (eqb-true left 0 t)) (λ bytes. cond_true (left == 0) (Ok ([], bytes)) (some_at b most left bytes) t)
      | inr f ↦ let pos : 0 < left = nonzero left f in
          Reads-same (some_at b most left) (changes_within b (suc most) left) (IsBody b left)
          (Reads-as (some_at b most left) (FirstAndOthers b left) (IsBody b left)
          (Reads-then (change_at b left) (others_at b most left) (IsChangeWithin b left) (Others b left) (change_reads b left (least_left b left leaves pos))
          (λ c text i. Reads-then (changes_within b most (left - length (change_text c))) (λ others rest. Ok (c ∷ others, rest)) (IsBody b (left - length (change_text c))) (λ others. Gives (c ∷ others))
          (within_reads b most (left - length (change_text c)) (omega (arith, h, change_text_nonempty c)) i.leaves)
          (λ others text2 j. Reads-done (c ∷ others))))
          (λ cs text t. body_of_some b left cs text t)
          (λ cs text i. some_of_body b left pos cs text i))
          (λ bytes. cond_false (left == 0) (Ok ([], bytes)) (some_at b most left bytes) f)
    ]

pub changes_read : (b : Body) (left : ℕ) → Leaves b left → Reads (changes_at b left) (IsBody b left)
unfolding changes_at
changes_read b left leaves = within_reads b left left (omega arith) leaves

-- the changes behind the first one
pub changes_at-step : (b : Body) (left : ℕ) (bytes : List ℕ) (c : Change) (rest : List ℕ) → 0 < left → change_at b left bytes ≡ Ok (c, rest) → changes_at b left bytes ≡ (changes_at b (left - length (change_text c)) rest >>= λ others. Ok (c ∷ others.0, others.1))
unfolding changes_at
changes_at-step b zero bytes c rest h e = absurd (omega (arith, h))
changes_at-step b (suc most) bytes c rest h e =
    let smaller : suc most - length (change_text c) ≤ most = omega (arith, change_text_nonempty c) in
    let leaves = ((change_reads b (suc most) (change_fits b (suc most) bytes c rest e)).takes bytes c rest e).1.leaves in
    cond_false (suc most == 0) (Ok ([], bytes)) (some_at b most (suc most) bytes) (is_nonzero (suc most) h)
    ∙ ap (λ r. r >>= λ x. others_at b most (suc most) x.0 x.1) e
    ∙ ap (λ r. r >>= λ others. Ok (c ∷ others.0, others.1))
    (same_readers (changes_within b most (suc most - length (change_text c))) (changes_within b (suc most - length (change_text c)) (suc most - length (change_text c))) (IsBody b (suc most - length (change_text c)))
    (within_reads b most (suc most - length (change_text c)) smaller leaves)
    (within_reads b (suc most - length (change_text c)) (suc most - length (change_text c)) (omega arith) leaves) rest)

pub changes_at-stop : (b : Body) (left : ℕ) (bytes : List ℕ) (stop : Stop Unit) → 0 < left → change_at b left bytes ≡ Err stop → changes_at b left bytes ≡ Err stop
unfolding changes_at
changes_at-stop b zero bytes stop h e = absurd (omega (arith, h))
changes_at-stop b (suc most) bytes stop h e =
    cond_false (suc most == 0) (Ok ([], bytes)) (some_at b most (suc most) bytes) (is_nonzero (suc most) h) ∙ ap (λ r. r >>= λ x. others_at b most (suc most) x.0 x.1) e

pub changes_at-none : (b : Body) (bytes : List ℕ) → changes_at b 0 bytes ≡ Ok ([], bytes)
unfolding changes_at
changes_at-none b bytes = refl
