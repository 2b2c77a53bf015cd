-- The worked cases, world by world.
use Rattle.std.proofs.Common.{◌≡◌, ℕ, true, false, [], ◌∷◌, take, refl, arith, inl, inr}
use Rattle.std.proofs.lemmas.List.Elements.{All-from_recursion}
use Rattle.kv_types.specs.Reading.{items_at}
use Rattle.cmd_table.specs.Request.{outcome_of_words, closes}
use Rattle.kv_types.specs.CommandName.{is_named}
use Rattle.multi_watch.specs.Verb.{verb_of}
use Rattle.machine.specs.declared.event.Event.TheVariants.{Commit, OpenLink, Apply, Hold, Crash, Reopen, Promote}
use Rattle.machine.specs.declared.event.Node.TheVariants as nodes
use Rattle.machine.specs.declared.event.Cut.TheVariants as cut
use Rattle.std.specs.Prelude.{Vec}
use Rattle.std.specs.Global.{Global}
use Rattle.model.specs.declared.record.TheConstants.{FIRST_EPOCH}
use Rattle.machine.specs.Event.{Changes, Frame, World, all_allowed, At, AsPrimary, Happens, Crashes, Turns, Closes, Applies, start, start_with, last_world, entered, moved_to, without_first, told}
use Rattle.machine.specs.Promise.{released_in}
use Rattle.machine.specs.Worked.{worked_events, worked_done, FirstCaseIsARun, failover_events, failover_done, FailoverIsARun}
use Rattle.machine.proofs.RunWorlds.{call, worlds_from, Steps, runs, never, may_reply}

-- ---- the steps

-- a world of the run, by the number of events before it
abbrev world : ℕ → World
world n = last_world start (take n (worlds_from start worked_events worked_done))

turns : Turns (world 3) 0 (world 4)
unfolding items_at outcome_of_words verb_of closes is_named
turns = record { call = call; connection = refl; first = refl; reply = may_reply; now = refl }

-- a key that was not there is set: no version ends
closes_one : Closes (world 9) (world 10)
unfolding items_at outcome_of_words verb_of closes is_named
closes_one = inl (refl, record { ends = 0; newest = 0; none = λ e. refl; some = λ lt. absurd (omega (arith, lt)); now = refl })

applies : Applies (world 19) (world 20)
unfolding items_at outcome_of_words verb_of closes is_named
applies =
    let frame : Frame = record { epoch = FIRST_EPOCH; told = Changes (record { before = 0; after = 1 }) } in
    record { frame = frame; first = refl; standby = moved_to 1 (without_first (world 19).standby); told = _; takes = inr (refl, inr (inl (omega arith, refl, refl, refl))); now = refl }

commits : Happens (world 10) Commit (world 11)
unfolding items_at outcome_of_words verb_of closes is_named
commits = inl refl

applied : Happens (world 19) Apply (world 20)
unfolding items_at outcome_of_words verb_of closes is_named
applied = inl applies

steps : Steps start worked_events worked_done
unfolding items_at outcome_of_words verb_of closes is_named
steps = assumption (turns, closes_one, commits, applied)

pub worked : FirstCaseIsARun
unfolding items_at outcome_of_words verb_of closes is_named
worked =
    let worlds = worlds_from start worked_events worked_done in
    let none = All-from_recursion (λ w. released_in w 0 ≡ []) (start ∷ take 24 worlds) assumption in
    record { worlds = worlds; run = runs start worked_events worked_done steps; nothing_before = none; local = refl; remote = refl; reply = refl; seats = refl }

-- ---- failover

module _ (picks : Vec ℕ Global) where
  -- a world of the second run, by the number of events before it
  abbrev second : ℕ → World
  second n = last_world (start_with all_allowed) (take n (worlds_from (start_with all_allowed) (failover_events picks) failover_done))

  turns_too : Turns (second 3) 0 (second 4)
  unfolding items_at outcome_of_words verb_of closes is_named
  turns_too = record { call = call; connection = refl; first = refl; reply = may_reply; now = refl }

  closes_too : Closes (second 4) (second 5)
  unfolding items_at outcome_of_words verb_of closes is_named
  closes_too = inl (refl, record { ends = 0; newest = 0; none = λ e. refl; some = λ lt. absurd (omega (arith, lt)); now = refl })

  commits_too : Happens (second 5) Commit (second 6)
  unfolding items_at outcome_of_words verb_of closes is_named
  commits_too = inl refl

  fails_once : Happens (second 14) Promote (second 15)
  unfolding items_at outcome_of_words verb_of closes is_named
  fails_once = inr (record { asked = refl; now = refl })

  leaves_standby : Crashes (second 16) nodes.Standby cut.Between (second 17)
  unfolding items_at outcome_of_words verb_of closes is_named
  leaves_standby = record { remain = At 0; one = (0, omega arith, refl); now = refl }

  opens_standby : Happens (second 17) (Reopen nodes.Standby) (second 18)
  unfolding items_at outcome_of_words verb_of closes is_named
  opens_standby = inl refl

  leaves_primary : Crashes (second 18) nodes.Standby cut.Promote (second 19)
  unfolding items_at outcome_of_words verb_of closes is_named
  leaves_primary = record { remain = AsPrimary; one = (1, omega arith, refl); now = refl }

  leaves_opening : Crashes (second 19) nodes.Primary cut.Reopen (second 20)
  unfolding items_at outcome_of_words verb_of closes is_named
  leaves_opening = record { remain = At 0; one = (0, omega arith, refl); now = refl }

  opens_primary : Happens (second 20) (Reopen nodes.Primary) (second 21)
  unfolding items_at outcome_of_words verb_of closes is_named
  opens_primary = inl (record { ended = 0; gaps = 1; some = omega arith; few = omega arith; now = refl })

  unfenced : false ≡ true → Happens (second 9) Promote (second 10)
  unfenced = never (Happens (second 9) Promote (second 10))

  uncut : false ≡ true → Happens (second 13) (Crash nodes.Primary cut.Between 0 picks) (second 14)
  uncut = never (Happens (second 13) (Crash nodes.Primary cut.Between 0 picks) (second 14))

  held_back : false ≡ true → Happens (second 12) (Hold 0) (second 13)
  held_back = never (Happens (second 12) (Hold 0) (second 13))

  unlinked : false ≡ true → Happens (second 23) OpenLink (second 24)
  unlinked = never (Happens (second 23) OpenLink (second 24))

  stopped_stays : false ≡ true → Happens (second 15) Promote (second 16)
  stopped_stays = never (Happens (second 15) Promote (second 16))

  alone : false ≡ true → Happens (second 22) Promote (second 23)
  alone = never (Happens (second 22) Promote (second 23))

  steps_too : Steps (start_with all_allowed) (failover_events picks) failover_done
  unfolding items_at outcome_of_words verb_of closes is_named
  steps_too = assumption (turns_too, closes_too, commits_too, unfenced, held_back, uncut, stopped_stays, alone, unlinked, fails_once, leaves_standby, opens_standby, leaves_primary, leaves_opening, opens_primary)

  pub failed_over : FailoverIsARun picks
  unfolding items_at outcome_of_words verb_of closes is_named
  failed_over =
      let events = failover_events picks in
      let worlds = worlds_from (start_with all_allowed) events failover_done in
      record {
        worlds = worlds;
        run = runs (start_with all_allowed) events failover_done steps_too;
        before = refl;
        calls = refl;
        epoch = refl;
        disk = refl;
        released = refl;
        over = refl;
        entered = refl;
      }
