-- What an opening answers is that of a world whose primary was just opened.
use Rattle.std.proofs.Common.{◌≡◌, ℕ, List, [], refl, sym, ap, subst, ◌∙◌, add-zero}
use Rattle.model.specs.declared.call.Call.{Call}
use Rattle.model.specs.declared.work.Work.{Work}
use Rattle.model.specs.Call.{cut_at, keyspace_after, position_of}
use Rattle.model.specs.Group.{AreEnded, Contents, entries_of}
use Rattle.model.specs.Standing.{Holder}
use Rattle.model.proofs.CallsLemmas.{IsKeyspace-keyspace_after, keyspace_after-cut_at-position}
use Rattle.model.proofs.MapLemmas.{IsMapOf-unique}
use Rattle.mv_keyspace.specs.Table.{IsTable, Table, records}
use Rattle.mv_keyspace.proofs.PartTables.{map-from_table}
use Rattle.redis_core.specs.Sequencing.{Sequencing}
use Rattle.primary.specs.Leading.{Leads}
use Rattle.primary.specs.Recalling.{Remembers}
use Rattle.primary.specs.Resuming.{IsOver}
use Rattle.primary.proofs.RecallLemmas.{remembers-opened}
use Rattle.machine.specs.Event.{Committer, Span}
use Rattle.machine.specs.World as machine
use Rattle.connections.specs.Session.{SequencerRefines}
use Rattle.node_steps.specs.Committing.{AreContentsAt, CommittingRefines, EngineStands}
use Rattle.node_steps.specs.GroupSpan.{AreGroupsOf, AreWorkOf}
use Rattle.node_steps.specs.Law.{OpeningsStand, opened_node}
use Rattle.node_steps.specs.Node.{past_of}

-- the table of contents at a position is that of the keyspace there
table-there : (holder : Holder) (calls : List Call) (p : ℕ) (contents : Contents) (table : Table) → AreContentsAt holder calls p contents → IsTable contents.versions table
    → records table ≡ keyspace_after (cut_at calls p)
table-there holder calls p contents table are is =
    IsMapOf-unique (map-from_table contents.versions (entries_of contents) table are.consistent.beyond is) are.map is.keyspace (IsKeyspace-keyspace_after (cut_at calls p))

-- a sequencer that starts over the contents at the end of the list
sequencer-starts : (holder : Holder) (calls : List Call) (contents : Contents) (s : Sequencing) → AreContentsAt holder calls (position_of calls) contents → IsOver contents s
    → SequencerRefines calls (position_of calls) s
sequencer-starts holder calls contents s are over =
    subst (SequencerRefines calls (position_of calls)) (sym over.starts_so) (record {
      table = table-there holder calls (position_of calls) contents over.table are over.table_is ∙ keyspace_after-cut_at-position calls;
      position = are.at;
      before = are.at;
      waiting = tt;
      count = add-zero (position_of calls);
    })

leads-starts : (contents : Contents) (s : Sequencing) → IsOver contents s → Leads contents [] [] s []
leads-starts contents s over = record {
  work_is = tt;
  epochs = tt;
  stands = over.ahead;
  expects = over.expects;
  aside_ended = tt;
  listed = subst (AreEnded contents) (sym (ap (λ (s : Sequencing). s.ended) over.starts_so)) over.listed;
}

pub openings-stand : OpeningsStand
openings-stand holder w s waiting device contents is_faulted opened role epoch engine over none recalls =
    let calls = w.primary.calls in
    let p = position_of calls in
    let newest : s.newest ≡ contents.current.position = ap (λ (s : Sequencing). s.newest) over.starts_so in
    let new : CommittingRefines calls (opened_node s waiting device contents is_faulted).committing (record { closed = p; waiting = []; aside = []; stage = machine.Ready; position = p; local = p }) =
    record {
      work = subst (λ (items : List Work). AreWorkOf calls items []) (sym none) tt;
      aside = refl;
      stage_is = tt;
      local_is = engine.contents_at.at;
    } in
    record {
      sound = opened.sound;
      running = opened.running;
      role = role;
      epoch = epoch;
      are_open = λ c seat has. cc;
      are_apart = λ c d seat has has'. cc;
      sequencer = subst (λ (k : Committer). SequencerRefines calls k.closed s) (sym opened.committer) (sequencer-starts holder calls contents s engine.contents_at over);
      follow = record { by_call = λ c seat has shut. cc; session = λ c seat has. cc };
      committing = subst (CommittingRefines calls (opened_node s waiting device contents is_faulted).committing) (sym opened.committer) new;
      engine = subst (λ (k : Committer). EngineStands holder calls k.position device contents is_faulted) (sym opened.committer) engine;
      leads = subst (λ (items : List Work). Leads contents items [] s []) (sym none) (leads-starts contents s over);
      freeing = record { ended = sym opened.ended_are; newest = newest ∙ engine.contents_at.at ∙ sym opened.newest; notices_are = sym opened.none_told; gaps = sym opened.gaps_are };
      remembers = subst (λ (k : Committer). Remembers contents.current.floor k.position (past_of calls) contents waiting.items [] s) (sym opened.committer)
          (subst (λ (items : List Work). Remembers contents.current.floor p (past_of calls) contents items [] s) (sym none)
          (remembers-opened contents.current.floor p (past_of calls) contents s (newest ∙ engine.contents_at.at) recalls));
      handed_are = subst (λ (spans : List Span). AreGroupsOf calls [] spans) (sym opened.waiting) tt;
    }
