-- What is kept of a copy moves on.
use Rattle.std.proofs.Common.{[], ◌++◌, List, Option, refl, sym, subst, append-nil, le_refl}
use Rattle.model.specs.declared.group.Group.{Group}
use Rattle.model.specs.Standing.{Holder}
use Rattle.redis_core.specs.Copying.{CopyOf}
use Rattle.redis_core.specs.Sequencing.{MovesCopy, Sequencing}
use Rattle.redis_core.proofs.ExpectingLemmas.{Expects-copied}
use Rattle.redis_core.proofs.StandingLemmas.{IsAheadOf-copied}
use Rattle.primary.proofs.RecallLemmas.{remembers-on}
use Rattle.machine.specs.Event.{World}
use Rattle.connections.specs.Session.{StandsStill}
use Rattle.node_steps.specs.Acts.{Copied, IsAct}
use Rattle.node_steps.specs.GroupSpan.{AreGroupsOf}
use Rattle.node_steps.specs.Law.{with_answered}
use Rattle.node_steps.specs.Node.{Node, NodeRefines, past_of}
use Rattle.node_steps.proofs.StillLemmas.{freeing-still, leads-still}

-- to an engine the sequencer stands as it did
copied-still : (old : Sequencing) (copy : Option CopyOf) → StandsStill old (record old { copy = copy })
copied-still old copy = record {
  ended = refl;
  newest = refl;
  stands = IsAheadOf-copied old copy (record old { copy = copy }) refl;
  expects = λ contents entries extents stands. Expects-copied old copy (record old { copy = copy }) refl contents entries extents;
}

copied-stands : (holder : Holder) (old : Node) (copy : Option CopyOf) (handed : List Group) (w : World) → NodeRefines holder old handed w
    → NodeRefines holder (with_answered (record old.sequencer { copy = copy }) old) (handed ++ []) w
copied-stands holder old copy handed w stands =
    let calls = w.primary.calls in
    let s : Sequencing = record old.sequencer { copy = copy } in
    let still = copied-still old.sequencer copy in
    record {
      sound = stands.sound;
      running = stands.running;
      role = stands.role;
      epoch = stands.epoch;
      are_open = stands.are_open;
      are_apart = stands.are_apart;
      sequencer = record {
        table = stands.sequencer.table;
        position = stands.sequencer.position;
        before = stands.sequencer.before;
        waiting = stands.sequencer.waiting;
        count = stands.sequencer.count;
      };
      follow = record { by_call = stands.follow.by_call; session = stands.follow.session };
      committing = stands.committing;
      engine = stands.engine;
      leads = leads-still old.contents old.committing.waiting.items old.committing.aside old.sequencer s old.notices still stands.leads;
      freeing = freeing-still old.sequencer s old.notices old.contents w.primary w.primary still refl refl refl refl stands.freeing;
      remembers = remembers-on old.contents.current.floor old.contents.current.floor w.primary.committer.position (past_of calls) old.contents old.committing.waiting.items old.committing.aside old.sequencer s
          (le_refl old.contents.current.floor) refl refl stands.remembers;
      handed_are = subst (λ (gs : List Group). AreGroupsOf calls gs w.primary.link.waiting) (sym (append-nil handed)) stands.handed_are;
    }

pub copied-act : (old : Node) (copy : Option CopyOf) (s : Sequencing) → MovesCopy old.sequencer copy s → IsAct Copied old (with_answered s old)
copied-act old copy s moves = λ holder handed w stands rests. record {
  world = w;
  did = refl;
  stands = subst (λ (t : Sequencing). NodeRefines holder (with_answered t old) (handed ++ []) w) (sym moves) (copied-stands holder old copy handed w stands);
}
