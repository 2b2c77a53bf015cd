-- The committer's queue and what CloseGroup adds to it; the committer after each event.
use Rattle.std.proofs.Common.{◌≡◌, ℕ, ◌+◌, ◌≤◌, Bool, true, false, ◌&&◌, not, List, [], ◌∷◌, ◌++◌, length, refl, ap, ◌∙◌, arith, append-nil, inl, inr, ◌-◌, ◌<◌, sym, subst, length-append}
use Rattle.model.specs.Call.{is_nonempty}
use Rattle.machine.specs.Event.{Work, Commits, Frees, Committer, World, spans_of, from_group, with_committer, with_ended, Closes, Span, Stage, Ready, Shown, is_ready, is_shown, shown, closed_group}
use Rattle.machine.specs.Event.{closed_list, committed_first, new_committer}
use Rattle.machine.specs.declared.event.TheConstants.{PIPE_ITEMS, OPEN_CHANGES}
use Rattle.machine.specs.Sound.{IsChain, IsShownUpTo, SoundCommitter}
use Rattle.machine.proofs.GroupLemmas.{chain-push}

pub spans_of-append : (works more : List Work) → spans_of (works ++ more) ≡ spans_of works ++ spans_of more
spans_of-append [] more = refl
spans_of-append (Commits group ∷ works) more = ap (λ groups. group ∷ groups) (spans_of-append works more)
spans_of-append (Frees position ∷ works) more = spans_of-append works more

-- a free list is no group
pub spans_of-list : (works : List Work) (position : ℕ) → spans_of (works ++ Frees position ∷ []) ≡ spans_of works
spans_of-list works position = spans_of-append works (Frees position ∷ []) ∙ append-nil (spans_of works)

-- all groups wait from the first one on
pub spans_of-from_group : (works : List Work) → spans_of (from_group works) ≡ spans_of works
spans_of-from_group [] = refl
spans_of-from_group (Commits group ∷ works) = refl
spans_of-from_group (Frees position ∷ works) = spans_of-from_group works

pub length-from_group : (works : List Work) → length (from_group works) ≤ length works
length-from_group [] = omega arith
length-from_group (Commits group ∷ works) = omega arith
length-from_group (Frees position ∷ works) = let rest = length-from_group works in omega (arith, rest)

-- where there is no first group, there is none
pub spans_of-none : (works : List Work) → is_nonempty (from_group works) ≡ false → spans_of works ≡ []
spans_of-none [] none = refl
spans_of-none (Commits group ∷ works) none = cc
spans_of-none (Frees position ∷ works) none = spans_of-none works none

-- why the committer may not commit, where it is ready and the link has room
pub none-waits : (ready some room : Bool) → not (ready && some && room) ≡ true → ready ≡ true → room ≡ true → some ≡ false
none-waits ready some room e is_one has = grind arith

-- one more item waits, and groups were closed up to this position
abbrev pub queued : ℕ → Work → Committer → Committer
queued closed work committer = record committer { closed = closed; waiting = committer.waiting ++ work ∷ [] }

-- CloseGroup adds one item to the queue
pub record Queues (w new : World) : Type 0 where
  pub ended : ℕ
  pub newest : ℕ
  pub closed : ℕ
  pub work : Work
  pub now : new ≡ with_ended ended newest (with_committer (queued closed work w.primary.committer) w)

pub closes-queues : (w new : World) → Closes w new → Queues w new
closes-queues w new closes =
    elim closes [
      | inl group ↦ record { ended = _; newest = _; closed = _; work = _; now = group.1.now }
      | inr list ↦ record { ended = _; newest = _; closed = _; work = _; now = list.1 }
    ]

-- ---- the committer after each event

pub committer-new : (position : ℕ) → SoundCommitter position (new_committer position)
committer-new position = search arith

-- the list grows by at most one change, where fewer than 64 wait
pub committer-called : (position position' : ℕ) (committer : Committer) → position ≤ position' → position' ≤ position + 1 → position - committer.closed < OPEN_CHANGES → SoundCommitter position committer → SoundCommitter position' committer
committer-called position position' committer le more open_ones s = search arith

pub committer-closed_group : (position : ℕ) (committer : Committer) → 0 < position - committer.closed → length committer.waiting < PIPE_ITEMS → SoundCommitter position committer → SoundCommitter position (closed_group position committer)
committer-closed_group position committer some room s =
    let group : Span = record { before = committer.closed; after = position } in
    let chain = chain-push committer.position (spans_of committer.waiting) committer.closed group s.waiting refl (omega (arith, some)) in
    search (arith, length-append committer.waiting (Commits group ∷ []), rw (← spans_of-append committer.waiting (Commits group ∷ [])) at chain)

-- the queue has the same groups, whatever free lists are in it or aside
pub committer-listed : (position : ℕ) (committer : Committer) (waiting : List Work) (aside : List ℕ) → spans_of waiting ≡ spans_of committer.waiting → length waiting ≤ PIPE_ITEMS → SoundCommitter position committer
    → SoundCommitter position (record committer { waiting = waiting; aside = aside })
committer-listed position committer waiting aside same few s = search (subst (λ groups. IsChain committer.position groups committer.closed) (sym same) s.waiting)

pub committer-closed_list : (position newest : ℕ) (committer : Committer) → length committer.waiting < PIPE_ITEMS → SoundCommitter position committer → SoundCommitter position (closed_list newest committer)
committer-closed_list position newest committer room s =
    committer-listed position committer (committer.waiting ++ Frees newest ∷ []) committer.aside (spans_of-list committer.waiting newest) (omega (arith, length-append committer.waiting (Frees newest ∷ []))) s

-- with nothing in hand the mark is the position
pub shown-ready : (stage : Stage) (position local : ℕ) → is_ready stage ≡ true → IsShownUpTo stage position local → local ≡ position
shown-ready Ready position local e h = h
shown-ready _ position local e h = cc

pub shown-hand : (stage : Stage) (position local : ℕ) → is_shown stage ≡ true → IsShownUpTo stage position local → local ≡ position
shown-hand (Shown group) position local e h = h
shown-hand _ position local e h = cc

pub shown-raised : (stage : Stage) (position : ℕ) → IsShownUpTo (shown stage) position position
shown-raised Ready position = refl
shown-raised _ position = refl

pub committer-committed : (position : ℕ) (committer : Committer) → is_ready committer.stage ≡ true → SoundCommitter position committer → SoundCommitter position (committed_first (from_group committer.waiting) committer)
committer-committed position committer ready s =
    go (from_group committer.waiting) (subst (λ groups. IsChain committer.position groups committer.closed) (sym (spans_of-from_group committer.waiting)) s.waiting) (omega (arith, s.few, length-from_group committer.waiting))
  where
    go : (works : List Work) → IsChain committer.position (spans_of works) committer.closed → length works ≤ PIPE_ITEMS → SoundCommitter position (committed_first works committer)
    go [] chain few = s
    go (Frees newest ∷ works) chain few = s
    go (Commits group ∷ works) chain few =
        let local : committer.local ≡ committer.position = shown-ready committer.stage committer.position committer.local ready s.shown in
        search (arith, chain.2, local ∙ sym chain.0)
