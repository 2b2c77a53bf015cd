-- A watched key is marked exactly where a call modified it since a call that watches it; and what EXEC answers after a legal list of calls.
use Rattle.std.proofs.Common.{◌≡◌, ℕ, Bool, true, false, cond, ◌&&◌, ◌||◌, ◌⊎◌, inl, inr, List, [], ◌∷◌, ◌++◌, map, drop, refl, sym, ap, ◌∙◌, arith, ◌↔◌, subst}
use Rattle.std.specs.List.{list_any}
use Rattle.std.proofs.Math.Bool.{or-false, or_assoc, and_assoc}
use Rattle.std.proofs.lemmas.Bool.{or_left, cases_Bool, and_parts, and_from, or_cases, or_right}
use Rattle.std.proofs.lemmas.List.Folds.{list_any-append}
use Rattle.kv_types.proofs.OrderLemmas.{same_key, key_itself}
use Rattle.cmd_core.specs.Contents.{same_bytes}
use Rattle.multi_watch.specs.declared.watch.Watch.{Watch}
use Rattle.multi_watch.specs.Session.{is_watched, unmodified, watching, marked_where, Session, has_modified, idle_session}
use Rattle.multi_watch.specs.Modified.{modifies}
use Rattle.model.specs.declared.call.Call.{Call}
use Rattle.model.specs.State.{State, start_state}
use Rattle.model.specs.Call.{changes_of, after_call, IsLegal, IsLegalFrom, MayReply, changes_for, state_from, state_after, MayAnswer, is_memory}
use Rattle.machine.specs.Transaction.{asks, is_watch, is_unwatch, words_of, is_ok, ends_it, forgets, watches_it, is_by, does_by, NoneDoes, ModifiedSinceWatched, session_now, is_exec, is_error}
use Rattle.machine.specs.Transaction.{is_array, is_null_array, is_aborted, ExecAnswers}
use Rattle.machine.proofs.TransactionLemmas.{DoesAt, marked_by, does_at, both, opened_where, read_off}
use Rattle.kv_types.specs.declared.item.Item.{Item}
use Rattle.kv_types.specs.declared.item.Item.TheVariants.{Request, Fault}
use Rattle.kv_types.specs.declared.reply.Reply.{Reply, Error, NullArray}
use Rattle.multi_watch.specs.declared.verb.Verb.{Verb}
use Rattle.multi_watch.specs.declared.verb.Verb.TheVariants as verb
use Rattle.multi_watch.specs.Verb.{verb_of}
use Rattle.multi_watch.specs.Admission.{Answer, Step, step_of, RunAll, answers, refuses}
use Rattle.model.specs.Command.{closes, admission_of}
use Rattle.model.proofs.CallsLemmas.{state_from-append, IsLegalFrom-prefix, IsLegalFrom-rest}
use Rattle.machine.proofs.ItemLemmas.{ends_of, closing_only, never, memory_is, proper_only}
use Rattle.kv_types.specs.Keyspace.{Keyspace}
use Rattle.multi_watch.specs.declared.error.SessionError.TheVariants.{ExecOutside, Aborted}
use Rattle.multi_watch.specs.Error.{error_text}

-- ---- lists of watches

module _ (key : List ℕ) where
  -- some watch of the key is marked
  abbrev pub has_mark : List Watch → Bool
  has_mark watched = list_any (λ watch. watch.is_modified && same_bytes watch.key key) watched

  watched_marked : (f : List ℕ → Bool) (watched : List Watch) → is_watched key (map (marked_where f) watched) ≡ is_watched key watched
  watched_marked f [] = refl
  watched_marked f (watch ∷ watched) = ap (λ b. same_bytes watch.key key || b) (watched_marked f watched)

  has_marked : (f : List ℕ → Bool) (watched : List Watch) → has_mark (map (marked_where f) watched) ≡ (has_mark watched || (is_watched key watched && f key))
  has_marked f [] = refl
  has_marked f (watch ∷ watched) =
      let rest = has_marked f watched in
      let same : same_bytes watch.key key ≡ true → f watch.key ≡ f key = λ e. ap f (same_key watch.key key e) in
      grind (arith, rest, same)

  pub mark_watched : (watched : List Watch) → has_mark watched ≡ true → is_watched key watched ≡ true
  mark_watched [] is = is
  mark_watched (watch ∷ watched) is = let later = mark_watched watched in grind (arith, later)

  -- ---- keys that are watched besides

  add_marks_none : (known : Bool) (other : List ℕ) (watched : List Watch) → has_mark (cond known watched (watched ++ unmodified other ∷ [])) ≡ has_mark watched
  add_marks_none true other watched = refl
  add_marks_none false other watched = list_any-append (λ watch. watch.is_modified && same_bytes watch.key key) watched (unmodified other ∷ []) ∙ or-false (has_mark watched)

  watching_marks_none : (keys : List (List ℕ)) (watched : List Watch) → has_mark (watching keys watched) ≡ has_mark watched
  watching_marks_none [] watched = refl
  watching_marks_none (other ∷ keys) watched =
      watching_marks_none keys (cond (is_watched other watched) watched (watched ++ unmodified other ∷ [])) ∙ add_marks_none (is_watched other watched) other watched

  known_already : (other : List ℕ) (watched : List Watch) → is_watched other watched ≡ true → is_watched key watched ≡ (is_watched key watched || same_bytes other key)
  known_already other watched is =
      let same : same_bytes other key ≡ true → is_watched key watched ≡ true = λ e. ap (λ k. is_watched k watched) (sym (same_key other key e)) ∙ is in
      grind (arith, same)

  add_watches : (known : Bool) (other : List ℕ) (watched : List Watch) → is_watched other watched ≡ known
      → is_watched key (cond known watched (watched ++ unmodified other ∷ [])) ≡ (is_watched key watched || same_bytes other key)
  add_watches true other watched is = known_already other watched is
  add_watches false other watched is = list_any-append (λ watch. same_bytes watch.key key) watched (unmodified other ∷ []) ∙ ap (λ b. is_watched key watched || b) (or-false (same_bytes other key))

  watching_watches : (keys : List (List ℕ)) (watched : List Watch) → is_watched key (watching keys watched) ≡ (is_watched key watched || list_any (λ other. same_bytes other key) keys)
  watching_watches [] watched = sym (or-false (is_watched key watched))
  watching_watches (other ∷ keys) watched =
      watching_watches keys (cond (is_watched other watched) watched (watched ++ unmodified other ∷ []))
      ∙ ap (λ b. b || list_any (λ k. same_bytes k key) keys) (add_watches (is_watched other watched) other watched refl)
      ∙ or_assoc (is_watched key watched) (same_bytes other key) (list_any (λ k. same_bytes k key) keys)

  -- ---- one call

  -- the call makes its connection forget the key
  pub record Forgets (c : ℕ) (call : Call) (new : List Watch) : Type 0 where
    pub forgets_all : does_by forgets c call ≡ true
    pub watched : is_watched key new ≡ false

  -- it does not
  pub record Remembers (s : State) (c : ℕ) (call : Call) (old new : List Watch) : Type 0 where
    pub forgets_none : does_by forgets c call ≡ false
    pub watched : is_watched key new ≡ (is_watched key old || does_by (watches_it key) c call)
    pub mark : has_mark new ≡ (has_mark old || (is_watched key new && modifies s.keyspace (changes_of s call) key))

  abbrev pub RemembersAt : State → ℕ → Call → List Watch → List Watch → Type 0
  RemembersAt s c call old new = Forgets c call new ⊎ Remembers s c call old new

  module _ (s : State) (c : ℕ) (call : Call) (old : List Watch) where
    abbrev unwatches : Bool
    unwatches = does_by (λ item reply. asks is_unwatch item && is_ok reply) c call

    abbrev adds : Bool
    adds = does_by (λ item reply. asks is_watch item && is_ok reply) c call

    abbrev by_unwatch : Bool → Bool → List Watch
    by_unwatch u a = cond u [] (cond a (watching (drop 1 (words_of call.item)) old) old)

    abbrev named : Bool
    named = list_any (λ other. same_bytes other key) (drop 1 (words_of call.item))

    watched_by_it : (a : Bool) → is_watched key (cond a (watching (drop 1 (words_of call.item)) old) old) ≡ (is_watched key old || (a && named))
    watched_by_it true = watching_watches (drop 1 (words_of call.item)) old
    watched_by_it false = sym (or-false (is_watched key old))

    mark_by_it : (a : Bool) → has_mark (cond a (watching (drop 1 (words_of call.item)) old) old) ≡ has_mark old
    mark_by_it true = watching_marks_none (drop 1 (words_of call.item)) old
    mark_by_it false = refl

    remembers : does_by ends_it c call ≡ false → (u : Bool) → unwatches ≡ u → (new : List Watch) → new ≡ marked_by s call (by_unwatch u adds) → RemembersAt s c call old new
    remembers ends true unwatch new is =
        inl (record { forgets_all = grind (arith, ends, unwatch); watched = ap (is_watched key) is })
    remembers ends false unwatch new is =
        let f = modifies s.keyspace (changes_of s call) in
        let kept = cond adds (watching (drop 1 (words_of call.item)) old) old in
        let here : is_watched key new ≡ is_watched key kept = ap (is_watched key) is ∙ watched_marked f kept in
        inr (record {
          forgets_none = grind (arith, ends, unwatch);
          watched = here ∙ watched_by_it adds ∙ ap (λ b. is_watched key old || b) (and_assoc (is_by c call) (asks is_watch call.item && is_ok call.reply) named);
          mark = ap has_mark is ∙ has_marked f kept ∙ ap (λ b. b || (is_watched key kept && f key)) (mark_by_it adds) ∙ ap (λ b. has_mark old || (b && f key)) (sym here);
        })

  pub remembers_at : (s : State) (c : ℕ) (call : Call) → DoesAt s c call (s.sessions c) ((after_call s call).sessions c)
      → RemembersAt s c call (s.sessions c).watched ((after_call s call).sessions c).watched
  remembers_at s c call (inl ends) =
      inl (record { forgets_all = grind (arith, ends.ends); watched = ap (is_watched key) ends.watched })
  remembers_at s c call (inr (inl opens)) = remembers s c call (s.sessions c).watched opens.ends (unwatches s c call (s.sessions c).watched) refl _ opens.watched
  remembers_at s c call (inr (inr goes)) = remembers s c call (s.sessions c).watched goes.ends (unwatches s c call (s.sessions c).watched) refl _ goes.watched

-- ---- a WATCH changes nothing, and makes nothing be forgotten

answers_nothing : (o : Bool) (x y : Reply) (s t : Session) (k : _) (reply : Reply)
    → changes_for k (cond {A = Step} o (record { admission = Answer x; session = s }) (record { admission = Answer y; session = t })).admission reply ≡ []
answers_nothing true x y s t k reply = refl
answers_nothing false x y s t k reply = refl

watch_only : (v : Verb) → is_watch v ≡ true → v ≡ verb.Watch
watch_only verb.Watch is = refl
watch_only _ is = cc

watch_changes_none : (s : State) (c : ℕ) (item : Item) (reply : Reply) → asks is_watch item ≡ true → changes_for s.keyspace (admission_of (s.sessions c) item) reply ≡ []
watch_changes_none s c (Fault fault) reply is = refl
watch_changes_none s c (Request words) reply is =
    ap (λ v. changes_for s.keyspace (step_of v words (s.sessions c)).admission reply) (watch_only (verb_of words) is)
    ∙ answers_nothing (s.sessions c).is_open _ _ _ _ s.keyspace reply

watch_forgets_none : (item : Item) (reply : Reply) → asks is_watch item ≡ true → forgets item reply ≡ false
watch_forgets_none (Fault fault) reply is = both is refl
watch_forgets_none (Request words) reply is =
    elim (closes (Request words)) as (λ b. closes (Request words) ≡ b → ((b || ends_of (verb_of words) reply) || (is_unwatch (verb_of words) && is_ok reply)) ≡ false) [
      | true ↦ λ shuts. both is (closing_only is_watch refl (λ misuse. refl) words shuts)
      | false ↦ λ stays. ap (λ v. ends_of v reply || (is_unwatch v && is_ok reply)) (watch_only (verb_of words) is)
    ] refl

module _ (key : List ℕ) (c : ℕ) where
  pub record IsWatch (call : Call) : Type 0 where
    pub own : is_by c call ≡ true
    pub asked : asks is_watch call.item ≡ true

  watch_of : (call : Call) → does_by (watches_it key) c call ≡ true → IsWatch call
  watch_of call is =
      let parts = and_parts (is_by c call) (watches_it key call.item call.reply) is in
      let asked = and_parts (asks is_watch call.item && is_ok call.reply) _ parts.1 in
      record { own = parts.0; asked = (and_parts (asks is_watch call.item) (is_ok call.reply) asked.0).0 }

  none_forgotten : (call : Call) → does_by (watches_it key) c call ≡ true → does_by forgets c call ≡ false
  none_forgotten call is = let it = watch_of call is in ap (λ b. b && forgets call.item call.reply) it.own ∙ watch_forgets_none call.item call.reply it.asked

  modifies_none : (s : State) (call : Call) → does_by (watches_it key) c call ≡ true → modifies s.keyspace (changes_of s call) key ≡ false
  modifies_none s call is = ap (λ changes. modifies s.keyspace changes key) (watch_changes_none s call.connection call.item call.reply (watch_of call is).asked)

  abbrev modifies_at : State → Call → Bool
  modifies_at s call = modifies s.keyspace (changes_of s call) key

  -- ---- calls that make nothing be forgotten

  -- one of them modifies the key: those before it, it, and those after it
  abbrev ModifiedIn : State → List Call → Type 0
  ModifiedIn s calls = (between : List Call) × (modifying : Call) × (since : List Call) × (between ++ modifying ∷ since ≡ calls) × (modifies_at (state_from s between) modifying ≡ true)

  -- as `ModifiedSinceWatched`, from a state on
  abbrev WatchedIn : State → List Call → Type 0
  WatchedIn s calls =
      (before : List Call) × (watch : Call) × (between : List Call) × (modifying : Call) × (since : List Call) × (before ++ watch ∷ (between ++ modifying ∷ since) ≡ calls)
      × (does_by (watches_it key) c watch ≡ true) × NoneDoes forgets c (between ++ modifying ∷ since) × (modifies_at (state_from s (before ++ watch ∷ between)) modifying ≡ true)

  abbrev watched_in : State → List Watch
  watched_in s = (s.sessions c).watched

  record Marked (s : State) (calls : List Call) : Type 0 where
    pub remembered : NoneDoes forgets c calls
    pub watched : is_watched key (watched_in s) ≡ true
    pub marked : (has_mark key (watched_in s) ≡ true) ⊎ ModifiedIn s calls

  -- the call watches the key, and it was modified later
  begins_here : (s : State) (call : Call) (calls : List Call) → does_by (watches_it key) c call ≡ true → NoneDoes forgets c calls → ModifiedIn (after_call s call) calls → WatchedIn s (call ∷ calls)
  begins_here s call calls watches none it = ([], call, it.0, it.1, it.2, ap (λ rest. call ∷ rest) it.3, watches, subst (NoneDoes forgets c) (sym it.3) none, it.4)

  module _ (s : State) (call : Call) (calls : List Call) (at : Remembers key s c call (watched_in s) (watched_in (after_call s call))) where
    was_marked : (has_mark key (watched_in s) || (is_watched key (watched_in (after_call s call)) && modifies_at s call)) ≡ true → NoneDoes forgets c calls
        → is_watched key (watched_in s) ≡ true → Marked s (call ∷ calls)
    was_marked is none watched =
        let marked : (has_mark key (watched_in s) ≡ true) ⊎ ModifiedIn s (call ∷ calls) =
        elim (or_cases (has_mark key (watched_in s)) _ is) [ inl h ↦ inl h | inr h ↦ inr ([], call, calls, refl, (and_parts (is_watched key (watched_in (after_call s call))) (modifies_at s call) h).1) ] in
        record { remembered = (at.forgets_none, none); watched = watched; marked = marked }

    no_watch : does_by (watches_it key) c call ≡ false → Marked (after_call s call) calls → Marked s (call ∷ calls)
    no_watch none it =
        let watched : is_watched key (watched_in s) ≡ true = sym (at.watched ∙ ap (λ b. is_watched key (watched_in s) || b) none ∙ or-false (is_watched key (watched_in s))) ∙ it.watched in
        elim it.marked [
          | inl h ↦ was_marked (sym at.mark ∙ h) it.remembered watched
          | inr h ↦ record { remembered = (at.forgets_none, it.remembered); watched = watched; marked = inr (call ∷ h.0, h.1, h.2, ap (λ rest. call ∷ rest) h.3, h.4) }
        ]

    a_watch : does_by (watches_it key) c call ≡ true → Marked (after_call s call) calls → WatchedIn s (call ∷ calls) ⊎ Marked s (call ∷ calls)
    a_watch watches it =
        elim it.marked [
          | inr h ↦ inl (begins_here s call calls watches it.remembered h)
          | inl h ↦
              elim (or_cases (has_mark key (watched_in s)) _ (sym at.mark ∙ h)) [
                | inl was ↦ inr (record { remembered = (at.forgets_none, it.remembered); watched = mark_watched key (watched_in s) was; marked = inl was })
                | inr now ↦ both (and_parts (is_watched key (watched_in (after_call s call))) (modifies_at s call) now).1 (modifies_none s call watches)
              ]
        ]

  one_earlier : (s : State) (call : Call) (calls : List Call) → RemembersAt key s c call (watched_in s) (watched_in (after_call s call))
      → Marked (after_call s call) calls → WatchedIn s (call ∷ calls) ⊎ Marked s (call ∷ calls)
  one_earlier s call calls (inl forgot) it = both it.watched forgot.watched
  one_earlier s call calls (inr at) it = elim (cases_Bool (does_by (watches_it key) c call)) [ inl watches ↦ a_watch s call calls at watches it | inr none ↦ inr (no_watch s call calls at none it) ]

  marked_or : (s : State) (calls : List Call) → IsLegalFrom s calls → has_mark key (watched_in (state_from s calls)) ≡ true → WatchedIn s calls ⊎ Marked s calls
  marked_or s [] legal is = inr (record { remembered = tt; watched = mark_watched key (watched_in s) is; marked = inl is })
  marked_or s (call ∷ calls) legal is =
      elim (marked_or (after_call s call) calls legal.1 is) [
        | inl it ↦ inl (call ∷ it.0, it.1, it.2, it.3, it.4, ap (λ rest. call ∷ rest) it.5, it.6, it.7, it.8)
        | inr it ↦ one_earlier s call calls (remembers_at key s c call (does_at s call c legal.0)) it
      ]

  pub modified_since : (calls : List Call) → IsLegal calls → has_mark key (session_now c calls).watched ≡ true → ModifiedSinceWatched c key calls
  modified_since calls legal is = elim (marked_or start_state calls legal is) [ inl it ↦ search it | inr it ↦ both it.watched refl ]

  -- ---- the other way

  pub record StaysWatched (old new : List Watch) : Type 0 where
    pub watched : is_watched key new ≡ true
    pub marked : has_mark key old ≡ true → has_mark key new ≡ true

  remembered_at : (s : State) (call : Call) → MayReply s call → does_by forgets c call ≡ false → Remembers key s c call (watched_in s) (watched_in (after_call s call))
  remembered_at s call may none = elim (remembers_at key s c call (does_at s call c may)) [ inl forgot ↦ both forgot.forgets_all none | inr at ↦ at ]

  module _ (s : State) (call : Call) (at : Remembers key s c call (watched_in s) (watched_in (after_call s call))) where
    stays_after : is_watched key (watched_in s) ≡ true → StaysWatched (watched_in s) (watched_in (after_call s call))
    stays_after is = record { watched = at.watched ∙ or_left (is_watched key (watched_in s)) _ is; marked = λ h. at.mark ∙ or_left (has_mark key (watched_in s)) _ h }

    marks_at : is_watched key (watched_in s) ≡ true → modifies_at s call ≡ true → has_mark key (watched_in (after_call s call)) ≡ true
    marks_at is modified =
        at.mark ∙ or_right (has_mark key (watched_in s)) _
        (and_from (is_watched key (watched_in (after_call s call))) (modifies_at s call) (at.watched ∙ or_left (is_watched key (watched_in s)) _ is) modified)

  stays_watched : (s : State) (calls : List Call) → IsLegalFrom s calls → NoneDoes forgets c calls → is_watched key (watched_in s) ≡ true
      → StaysWatched (watched_in s) (watched_in (state_from s calls))
  stays_watched s [] legal none is = record { watched = is; marked = λ h. h }
  stays_watched s (call ∷ calls) legal none is =
      let first = stays_after s call (remembered_at s call legal.0 none.0) is in
      let rest = stays_watched (after_call s call) calls legal.1 none.1 first.watched in
      record { watched = rest.watched; marked = λ h. rest.marked (first.marked h) }

  none_first : (xs ys : List Call) → NoneDoes forgets c (xs ++ ys) → NoneDoes forgets c xs
  none_first [] ys none = tt
  none_first (x ∷ xs) ys none = (none.0, none_first xs ys none.1)

  none_rest : (xs ys : List Call) → NoneDoes forgets c (xs ++ ys) → NoneDoes forgets c ys
  none_rest [] ys none = none
  none_rest (x ∷ xs) ys none = none_rest xs ys none.1

  -- from the WATCH on
  marked_from : (s : State) (watch : Call) (between : List Call) (modifying : Call) (since : List Call) → IsLegalFrom s (watch ∷ (between ++ modifying ∷ since))
      → does_by (watches_it key) c watch ≡ true → NoneDoes forgets c (between ++ modifying ∷ since) → modifies_at (state_from (after_call s watch) between) modifying ≡ true
      → has_mark key (watched_in (state_from (after_call s watch) (between ++ modifying ∷ since))) ≡ true
  marked_from s watch between modifying since legal watches none modified =
      let first = after_call s watch in
      let middle = state_from first between in
      let rest : IsLegalFrom middle (modifying ∷ since) = IsLegalFrom-rest first between (modifying ∷ since) legal.1 in
      let later = none_rest between (modifying ∷ since) none in
      let begun = (remembered_at s watch legal.0 (none_forgotten watch watches)).watched ∙ or_right (is_watched key (watched_in s)) _ watches in
      let there = stays_watched first between (IsLegalFrom-prefix first between (modifying ∷ since) legal.1) (none_first between (modifying ∷ since) none) begun in
      let at = remembered_at middle modifying rest.0 later.0 in
      let end = stays_watched (after_call middle modifying) since rest.1 later.1 (stays_after middle modifying at there.watched).watched in
      subst (λ (t : State). has_mark key (watched_in t) ≡ true) (sym (state_from-append first between (modifying ∷ since))) (end.marked (marks_at middle modifying at there.watched modified))

  pub since_modified : (calls : List Call) → IsLegal calls → ModifiedSinceWatched c key calls → has_mark key (session_now c calls).watched ≡ true
  since_modified calls legal it =
      let whole : List Call = it.watch ∷ (it.between ++ it.modifying ∷ it.since) in
      let rest : IsLegalFrom (state_after it.before) whole = IsLegalFrom-rest start_state it.before whole (subst IsLegal (sym it.joined) legal) in
      let modified : modifies_at (state_from (after_call (state_after it.before) it.watch) it.between) it.modifying ≡ true =
      subst (λ (t : State). modifies_at t it.modifying ≡ true) (state_from-append start_state it.before (it.watch ∷ it.between)) it.modified in
      subst (λ l. has_mark key (session_now c l).watched ≡ true) it.joined
      (subst (λ (t : State). has_mark key (watched_in t) ≡ true) (sym (state_from-append start_state it.before whole))
      (marked_from (state_after it.before) it.watch it.between it.modifying it.since rest it.watches it.watched_still modified))

-- ---- some key

some_marked : (watched : List Watch) → list_any (λ watch. watch.is_modified) watched ≡ true → (key : List ℕ) × (has_mark key watched ≡ true)
some_marked [] is = both is refl
some_marked (watch ∷ watched) is =
    elim (or_cases watch.is_modified _ is) [
      | inl m ↦ let own = key_itself watch.key in (watch.key, grind (arith, own))
      | inr later ↦ let it = some_marked watched later in (it.0, grind (arith, it.1))
    ]

marked_some : (key : List ℕ) (watched : List Watch) → has_mark key watched ≡ true → list_any (λ watch. watch.is_modified) watched ≡ true
marked_some key [] is = is
marked_some key (watch ∷ watched) is = let later = marked_some key watched in grind (arith, later)

pub some_modified : (c : ℕ) (calls : List Call) → IsLegal calls → has_modified (session_now c calls) ≡ true ↔ (key : List ℕ) × ModifiedSinceWatched c key calls
some_modified c calls legal = (
  λ is. let it = some_marked (session_now c calls).watched is in (it.0, modified_since it.0 c calls legal it.1),
  λ it. marked_some it.0 (session_now c calls).watched (since_modified it.0 c calls legal it.1),
)

-- ---- EXEC

record AnswersAt (is_open is_spoiled is_modified : Bool) (reply : Reply) : Type 0 where
  pub outside : is_open ≡ false → is_error (error_text ExecOutside) reply ≡ true
  pub spoiled : is_open ≡ true → is_spoiled ≡ true → is_aborted reply ≡ true
  pub modified : is_open ≡ true → is_spoiled ≡ false → is_modified ≡ true → is_null_array reply ≡ true
  pub runs : is_open ≡ true → is_spoiled ≡ false → is_modified ≡ false → is_array reply ≡ true

at_exec : (k : Keyspace) (o sp m : Bool) (session : Session) (queue : List (List (List ℕ))) (reply : Reply) → is_memory reply ≡ false
    → MayAnswer k (cond {A = Step} o (cond {A = Step} sp (refuses Aborted idle_session)
    (cond {A = Step} m (answers NullArray idle_session) (record { admission = RunAll queue; session = idle_session }))) (refuses ExecOutside session)).admission reply
    → AnswersAt o sp m reply
at_exec k false sp m session queue reply known may = search (never, ap (is_error (error_text ExecOutside)) (proper_only reply _ known may))
at_exec k true true m session queue reply known may =
    record { outside = λ h. cc; spoiled = λ h h'. ap is_aborted (proper_only reply (Error (error_text Aborted)) known may); modified = λ h h'. cc; runs = λ h h'. cc }
at_exec k true false true session queue reply known may =
    record { outside = λ h. cc; spoiled = λ h h'. cc; modified = λ h h' m. ap is_null_array (proper_only reply NullArray known may); runs = λ h h' m. cc }
at_exec k true false false session queue reply known (inl memory) = both (ap is_memory memory ∙ memory_is) known
at_exec k true false false session queue reply known (inr (replies, is, all)) =
    record { outside = λ h. cc; spoiled = λ h h'. cc; modified = λ h h' m. cc; runs = λ h h' m. ap is_array is }

exec_only : (v : Verb) → is_exec v ≡ true → v ≡ verb.Exec
exec_only verb.Exec is = refl
exec_only _ is = cc

at_item : (k : Keyspace) (session : Session) (item : Item) (reply : Reply) → asks is_exec item ≡ true → is_memory reply ≡ false → MayAnswer k (admission_of session item) reply
    → AnswersAt session.is_open session.is_spoiled (has_modified session) reply
at_item k session (Fault fault) reply is known may = both is refl
at_item k session (Request words) reply is known may =
    at_exec k session.is_open session.is_spoiled (has_modified session) session session.queue reply known
    (subst (λ v. MayAnswer k (step_of v words session).admission reply) (exec_only (verb_of words) is) may)

false_where_not : (b : Bool) → (b ≡ true → ⊥) → b ≡ false
false_where_not true none = absurd (none refl)
false_where_not false none = refl

pub exec_answers : (calls : List Call) (exec : Call) → IsLegal (calls ++ exec ∷ []) → asks is_exec exec.item ≡ true → is_memory exec.reply ≡ false → ExecAnswers calls exec
exec_answers calls exec legal is known =
    let s = state_after calls in
    let c = exec.connection in
    let before : IsLegal calls = IsLegalFrom-prefix start_state calls (exec ∷ []) legal in
    let may : MayReply s exec = (IsLegalFrom-rest start_state calls (exec ∷ []) legal).0 in
    let at = at_item s.keyspace (s.sessions c) exec.item exec.reply is known may in
    record {
      outside = λ none. at.outside (false_where_not (session_now c calls).is_open (λ open'. none (opened_where c calls before open')));
      spoiled = λ o spoils. let has = read_off c calls before o in at.spoiled has.is_open (has.spoiled ∙ spoils);
      modified = λ o spoils some. let has = read_off c calls before o in at.modified has.is_open (has.spoiled ∙ spoils) ((some_modified c calls before).1 some);
      runs = λ o spoils none. let has = read_off c calls before o in
          at.runs has.is_open (has.spoiled ∙ spoils) (false_where_not (has_modified (session_now c calls)) (λ some. none ((some_modified c calls before).0 some)));
    }
