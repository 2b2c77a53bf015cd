-- What a request that is run may be answered, and what it makes.
use Rattle.std.proofs.Common.{◌≡◌, ℕ, ◌+◌, ◌≤◌, inl, inr, List, codes, refl, sym, ap, subst, ◌∙◌, arith, add-zero}
use Rattle.kv_types.specs.declared.change.Change.{Change}
use Rattle.kv_types.specs.declared.refusal.Refusal.{Refusal}
use Rattle.kv_types.specs.declared.refusal.Refusal.TheVariants as refusal
use Rattle.kv_types.specs.declared.reply.Reply.{Reply, Error}
use Rattle.kv_types.specs.Change.{changes_size}
use Rattle.model.specs.declared.call.TheConstants.{MAX_CHANGE_TEXT_BYTES}
use Rattle.model.specs.Call.{MayStand, full_reply, memory_reply, too_large_reply, made}
use Rattle.model.specs.Command.{outcome_of}
use Rattle.model.proofs.RequestLemmas.{made-own}
use Rattle.mv_keyspace.specs.Table.{records}
use Rattle.placing.specs.Place.{HasRoomFor}
use Rattle.redis_core.specs.declared.running.Running.{Running}
use Rattle.redis_core.specs.Serving.{refusal_reply}
use Rattle.redis_core.specs.Stored.{Stored, IsSame, IsTooFull, Makes, RunsRequest}
use Rattle.redis_core.proofs.RefusalLemmas.{words_not_full, memory_not_full, large_not_full, writes_where_full}
use Rattle.redis_core.proofs.RunningLemmas.{makes-none}

module _ (old : Stored) (words : List (List ℕ)) (before : Running) where
  -- an error changed nothing
  runs_error : (text : List ℕ) (after : Running) → ((used : ℕ) → used + before.left ≡ MAX_CHANGE_TEXT_BYTES → MayStand used (outcome_of (records old.table) words) (Error text))
      → (Error text ≡ full_reply → ¬ HasRoomFor old.room (outcome_of (records old.table) words).changes) → IsSame before after → RunsRequest old words before (Error text) after old
  runs_error text after stands full_only same = record {
    stands = stands;
    left = add-zero after.left ∙ same.left;
    full_only = full_only;
    makes = makes-none old before.part after.part same.part;
  }

  runs_memory : (after : Running) → IsSame before after → RunsRequest old words before memory_reply after old
  runs_memory after same = runs_error (codes "ERR out of memory") after (λ used e. inl refl) (λ e. absurd (memory_not_full e)) same

  runs_full : (after : Running) → IsTooFull old words before.left → IsSame before after → RunsRequest old words before full_reply after old
  runs_full after full same =
      let changes = (outcome_of (records old.table) words).changes in
      runs_error (codes "ERR store is full") after (λ used e. inr (inr (inr (omega (arith, full.fits, e), writes_where_full old.room changes full.full, refl)))) (λ _. full.full) same

  -- the reply says why the request was refused
  pub runs-refused : (r : Refusal) (after : Running) → (r ≡ refusal.Full → IsTooFull old words before.left) → IsSame before after → RunsRequest old words before (refusal_reply r) after old
  runs-refused refusal.Full after full same = runs_full after (full refl) same
  runs-refused refusal.Fault after full same = runs_memory after same
  runs-refused refusal.BadMagic after full same = runs_memory after same
  runs-refused refusal.BadVersion after full same = runs_memory after same
  runs-refused refusal.WrongSize after full same = runs_memory after same
  runs-refused refusal.Exhausted after full same = runs_memory after same
  runs-refused refusal.Damaged after full same = runs_memory after same
  runs-refused refusal.SeatsFull after full same = runs_memory after same
  runs-refused refusal.PipeFull after full same = runs_memory after same
  runs-refused refusal.FrameFault after full same = runs_memory after same
  runs-refused refusal.WrongEpoch after full same = runs_memory after same
  runs-refused refusal.PositionGap after full same = runs_memory after same
  runs-refused refusal.StandbyAhead after full same = runs_memory after same
  runs-refused refusal.Memory after full same = runs_memory after same
  runs-refused refusal.NotFenced after full same = runs_memory after same
  runs-refused refusal.WrongRole after full same = runs_memory after same
  runs-refused refusal.NotCopied after full same = runs_memory after same
  runs-refused refusal.WrongPair after full same = runs_memory after same
  runs-refused refusal.WrongLink after full same = runs_memory after same

  pub runs-too_large : (changes : List Change) (reply : Reply) (after : Running) → changes ≡ (outcome_of (records old.table) words).changes → ¬ (changes_size changes ≤ before.left)
      → reply ≡ too_large_reply → IsSame before after → RunsRequest old words before reply after old
  runs-too_large changes reply after changes_are large is same =
      let text = codes "ERR change is too large" in
      let size = ap changes_size changes_are in
      subst (λ r. RunsRequest old words before r after old) (sym is)
      (runs_error text after (λ used e. inr (inl (omega (arith, large, size, e), refl))) (λ e. absurd (large_not_full e)) same)

  -- its own reply, where its changes were made
  pub runs-own : (changes : List Change) (reply : Reply) (after : Running) (new : Stored) → reply ≡ (outcome_of (records old.table) words).reply → changes ≡ (outcome_of (records old.table) words).changes
      → after.left + changes_size changes ≡ before.left → Makes old changes before.part after.part new → RunsRequest old words before reply after new
  runs-own changes reply after new reply_is changes_are left makes =
      let these : made (records old.table) words reply ≡ changes = ap (made (records old.table) words) reply_is ∙ made-own (records old.table) words ∙ sym changes_are in
      let size = ap changes_size changes_are in
      record {
        stands = λ used e. inr (inr (inl (omega (arith, left, size, e), reply_is)));
        left = ap (λ (cs : List Change). after.left + changes_size cs) these ∙ left;
        full_only = λ e. absurd (words_not_full (records old.table) words (sym reply_is ∙ e));
        makes = subst (λ (cs : List Change). Makes old cs before.part after.part new) (sym these) makes;
      }
