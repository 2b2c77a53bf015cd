-- What the calls on a file make of its disk and of what is cached.
use Rattle.std.proofs.Common.{◌≡◌, ◌⊎◌, ℕ, Bool, true, false, not, cond, ◌&&◌, ◌||◌, ◌==◌, List, [], ◌∷◌, get_or, refl, inl, inr, sym, subst, ap, ◌∙◌, arith}
use Rattle.std.proofs.lemmas.Bool.{or_left, or_right, and_parts, cond_both, eq-eqb, true≢false}
use Rattle.pmem_file.specs.Call.{Call, Wrote, Measured, Synced, has_failed, reaches, brought, written, may_hold}
use Rattle.pmem_file.specs.PageCache.{Pages, Event, Writes, Looks, Syncs, Rests, GivesUp, pages_after, has_untold, tells, calls_in}

-- One word, where `may` are the values that it may have, and `last` the one that was written last, where that is known
pub record Word (may : ℕ → Bool) (failed lost known : Bool) (last disk cached : ℕ) (dirty : Bool) : Type 0 where
  pub on_disk : may disk ≡ true
  pub in_cache : may cached ≡ true
  pub sure : failed ≡ false → lost ≡ false → known ≡ true → (cached ≡ last) × ((dirty ≡ true) ⊎ (disk ≡ cached))

never : {A : Type 0} → true ≡ false → A
never e = absurd (true≢false e)

at-rest : (may : ℕ → Bool) (failed lost known : Bool) (last disk cached : ℕ) (dirty brings forgets : Bool)
    → Word may failed lost known last disk cached dirty
    → Word may failed lost known last (cond (dirty && brings) cached disk) (cond (forgets && not dirty) disk cached) (dirty && not brings)
at-rest may failed lost known last disk cached true true true w =
    record { on_disk = w.in_cache; in_cache = w.in_cache; sure = λ u l k. ((w.sure u l k).0, inr refl) }
at-rest may failed lost known last disk cached true true false w =
    record { on_disk = w.in_cache; in_cache = w.in_cache; sure = λ u l k. ((w.sure u l k).0, inr refl) }
at-rest may failed lost known last disk cached true false true w = w
at-rest may failed lost known last disk cached true false false w = w
at-rest may failed lost known last disk cached false brings true w =
    record {
      on_disk = w.on_disk;
      in_cache = w.on_disk;
      sure = λ u l k. (grind (arith, w.sure u l k), inr refl);
    }
at-rest may failed lost known last disk cached false brings false w = w

at-giving_up : (may : ℕ → Bool) (failed lost known : Bool) (last disk cached : ℕ) (dirty dirty' : Bool)
    → Word may failed lost known last disk cached dirty → Word may failed true known last disk cached dirty'
at-giving_up may failed lost known last disk cached dirty dirty' w =
    record { on_disk = w.on_disk; in_cache = w.in_cache; sure = λ u l k. never l }

at-write : (may : ℕ → Bool) (failed lost known : Bool) (last disk cached : ℕ) (dirty : Bool) (here part done : Bool) (new : ℕ)
    → Word may failed lost known last disk cached dirty
    → Word (λ x. (here && (x == new)) || may x) (failed || not done) lost (here || known) (cond here new last) disk
    (cond (here && (done || part)) new cached) ((here && (done || part)) || dirty)
at-write may failed lost known last disk cached dirty true part true new w =
    record {
      on_disk = or_right (disk == new) (may disk) w.on_disk;
      in_cache = or_left (new == new) (may new) (eq-eqb new new refl);
      sure = λ u l k. (refl, inl refl);
    }
at-write may failed lost known last disk cached dirty true true false new w =
    record {
      on_disk = or_right (disk == new) (may disk) w.on_disk;
      in_cache = or_left (new == new) (may new) (eq-eqb new new refl);
      sure = λ u l k. (refl, inl refl);
    }
at-write may failed lost known last disk cached dirty true false false new w =
    record {
      on_disk = or_right (disk == new) (may disk) w.on_disk;
      in_cache = or_right (cached == new) (may cached) w.in_cache;
      sure = λ u l k. grind (arith, u);
    }
at-write may failed lost known last disk cached dirty false part done new w =
    record {
      on_disk = w.on_disk;
      in_cache = w.in_cache;
      sure = λ u l k. w.sure (grind (arith, u)) l k;
    }

at-failed_sync : (may : ℕ → Bool) (failed lost known : Bool) (last disk cached : ℕ) (dirty brings dirty' : Bool)
    → Word may failed lost known last disk cached dirty
    → Word may (failed || true) false known last (cond (dirty && brings) cached disk) cached dirty'
at-failed_sync may failed lost known last disk cached dirty brings dirty' w =
    record {
      on_disk = cond_both (dirty && brings) cached disk (λ x. may x ≡ true) (λ _. w.in_cache) (λ _. w.on_disk);
      in_cache = w.in_cache;
      sure = λ u l k. grind (arith, u);
    }

at-sync : (may : ℕ → Bool) (failed known : Bool) (last disk cached : ℕ) (dirty : Bool)
    → Word may failed false known last disk cached dirty
    → Word (λ x. cond (not failed && known) (x == last) (may x)) (failed || false) false known last (cond (dirty && true) cached disk) cached (dirty && false)
at-sync may true known last disk cached dirty w =
    record {
      on_disk = cond_both (dirty && true) cached disk (λ x. may x ≡ true) (λ _. w.in_cache) (λ _. w.on_disk);
      in_cache = w.in_cache;
      sure = λ u l k. never u;
    }
at-sync may false false last disk cached dirty w =
    record {
      on_disk = cond_both (dirty && true) cached disk (λ x. may x ≡ true) (λ _. w.in_cache) (λ _. w.on_disk);
      in_cache = w.in_cache;
      sure = λ u l k. never (sym k);
    }
at-sync may false true last disk cached true w =
    let is : cached ≡ last = (w.sure refl refl refl).0 in
    record {
      on_disk = eq-eqb cached last is;
      in_cache = eq-eqb cached last is;
      sure = λ u l k. (is, inr refl);
    }
at-sync may false true last disk cached false w =
    let is : cached ≡ last = (w.sure refl refl refl).0 in
    let same : disk ≡ cached = grind (arith, (w.sure refl refl refl).1) in
    record {
      on_disk = eq-eqb disk last (same ∙ is);
      in_cache = eq-eqb cached last is;
      sure = λ u l k. (is, inr same);
    }

-- what was written last to a word is known: it was so at the start, or it was written since
abbrev pub is_known : Bool → List Call → ℕ → Bool
is_known settled [] word = settled
is_known settled (Wrote offset bytes done ∷ calls) word = reaches offset bytes word || is_known settled calls word
is_known settled (Measured bytes done ∷ calls) word = is_known settled calls word
is_known settled (Synced done ∷ calls) word = is_known settled calls word

-- as `may_hold`, where a word may have held anything at the start that was not settled then
abbrev pub may_have : Bool → List ℕ → List Call → ℕ → ℕ → Bool
may_have settled read [] word x = not settled || (x == get_or read word 0)
may_have settled read (Wrote offset bytes done ∷ calls) word x =
    (reaches offset bytes word && (x == brought offset bytes word)) || may_have settled read calls word x
may_have settled read (Measured bytes done ∷ calls) word x = may_have settled read calls word x
may_have settled read (Synced done ∷ calls) word x =
    cond ((done && not (has_failed calls)) && is_known settled calls word) (x == written read calls word) (may_have settled read calls word x)

-- what is so of a word after these events
abbrev pub After : Bool → List ℕ → List Event → Pages → ℕ → Type 0
After settled read events start word =
    Word (may_have settled read (calls_in events) word) (has_failed (calls_in events)) (has_untold events) (is_known settled (calls_in events) word)
    (written read (calls_in events) word) ((pages_after events start).disk word) ((pages_after events start).cached word)
    ((pages_after events start).dirty word)

after-none : (settled : Bool) (read : List ℕ) (start : Pages) (word : ℕ)
    → (settled ≡ true → (start.disk word ≡ get_or read word 0) × (start.cached word ≡ get_or read word 0))
    → After settled read [] start word
after-none true read start word is =
    record {
      on_disk = eq-eqb (start.disk word) (get_or read word 0) (is refl).0;
      in_cache = eq-eqb (start.cached word) (get_or read word 0) (is refl).1;
      sure = λ u l k. ((is refl).1, inr ((is refl).0 ∙ sym (is refl).1));
    }
after-none false read start word is = record { on_disk = refl; in_cache = refl; sure = λ u l k. never (sym k) }

after-sync : (settled : Bool) (read : List ℕ) (events : List Event) (start : Pages) (word : ℕ) (brings cleans : ℕ → Bool) (done : Bool)
    → not (done && has_untold events) ≡ true → After settled read events start word → After settled read (Syncs brings cleans done ∷ events) start word
after-sync settled read events start word brings cleans true told w =
    let pages = pages_after events start in
    let calls = calls_in events in
    at-sync (may_have settled read calls word) (has_failed calls) (is_known settled calls word) (written read calls word)
    (pages.disk word) (pages.cached word) (pages.dirty word)
    (let none : has_untold events ≡ false = grind (arith, told) in
    subst (λ (lost : Bool). Word (may_have settled read calls word) (has_failed calls) lost (is_known settled calls word) (written read calls word)
    (pages.disk word) (pages.cached word) (pages.dirty word)) none w)
after-sync settled read events start word brings cleans false told w =
    let pages = pages_after events start in
    let calls = calls_in events in
    at-failed_sync (may_have settled read calls word) (has_failed calls) (has_untold events) (is_known settled calls word) (written read calls word)
    (pages.disk word) (pages.cached word) (pages.dirty word) (brings word) (pages.dirty word && not (cleans word)) w

-- after any events
pub after : (settled : Bool) (read : List ℕ) (events : List Event) (start : Pages) (word : ℕ) → tells events ≡ true
    → (settled ≡ true → (start.disk word ≡ get_or read word 0) × (start.cached word ≡ get_or read word 0))
    → After settled read events start word
after settled read [] start word told is = after-none settled read start word is
after settled read (Writes offset bytes part done ∷ events) start word told is =
    let pages = pages_after events start in
    let calls = calls_in events in
    at-write (may_have settled read calls word) (has_failed calls) (has_untold events) (is_known settled calls word) (written read calls word)
    (pages.disk word) (pages.cached word) (pages.dirty word) (reaches offset bytes word) (part word) done (brought offset bytes word)
    (after settled read events start word told is)
after settled read (Looks bytes done ∷ events) start word told is =
    let w = after settled read events start word told is in
    record { on_disk = w.on_disk; in_cache = w.in_cache; sure = λ u l k. w.sure (grind (arith, u)) l k }
after settled read (Syncs brings cleans done ∷ events) start word told is =
    let both = and_parts (not (done && has_untold events)) (tells events) told in
    after-sync settled read events start word brings cleans done both.0 (after settled read events start word both.1 is)
after settled read (Rests brings forgets ∷ events) start word told is =
    let pages = pages_after events start in
    let calls = calls_in events in
    at-rest (may_have settled read calls word) (has_failed calls) (has_untold events) (is_known settled calls word) (written read calls word)
    (pages.disk word) (pages.cached word) (pages.dirty word) (brings word) (forgets word) (after settled read events start word told is)
after settled read (GivesUp words ∷ events) start word told is =
    let pages = pages_after events start in
    let calls = calls_in events in
    at-giving_up (may_have settled read calls word) (has_failed calls) (has_untold events) (is_known settled calls word) (written read calls word)
    (pages.disk word) (pages.cached word) (pages.dirty word) (pages.dirty word && not (words word)) (after settled read events start word told is)

-- where all was settled at the start, each word is known
known-settled : (calls : List Call) (word : ℕ) → is_known true calls word ≡ true
known-settled [] word = refl
known-settled (Wrote offset bytes done ∷ calls) word = or_right (reaches offset bytes word) (is_known true calls word) (known-settled calls word)
known-settled (Measured bytes done ∷ calls) word = known-settled calls word
known-settled (Synced done ∷ calls) word = known-settled calls word

and-known : (a b : Bool) → b ≡ true → (a && b) ≡ a
and-known a b e = grind (arith, e)

pub may_have-settled : (read : List ℕ) (calls : List Call) (word x : ℕ) → may_have true read calls word x ≡ may_hold read calls word x
may_have-settled read [] word x = refl
may_have-settled read (Wrote offset bytes done ∷ calls) word x =
    ap (λ (b : Bool). (reaches offset bytes word && (x == brought offset bytes word)) || b) (may_have-settled read calls word x)
may_have-settled read (Measured bytes done ∷ calls) word x = may_have-settled read calls word x
may_have-settled read (Synced done ∷ calls) word x =
    ap (λ (b : Bool). cond b (x == written read calls word) (may_have true read calls word x))
    (and-known (done && not (has_failed calls)) (is_known true calls word) (known-settled calls word))
    ∙ ap (λ (b : Bool). cond (done && not (has_failed calls)) (x == written read calls word) b) (may_have-settled read calls word x)
