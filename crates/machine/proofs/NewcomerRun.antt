-- A new standby by a copy, world by world.
use Rattle.std.proofs.Common.{◌≡◌, ℕ, Bool, true, false, List, [], ◌∷◌, ◌++◌, take, drop, refl, arith, inl, inr, Some}
use Rattle.kv_types.specs.Reading.{items_at}
use Rattle.cmd_table.specs.Request.{outcome_of_words, closes}
use Rattle.kv_types.specs.CommandName.{is_named}
use Rattle.multi_watch.specs.Verb.{verb_of}
use Rattle.model.specs.declared.record.TheConstants.{FIRST_EPOCH}
use Rattle.machine.specs.declared.event.Event.{Event}
use Rattle.machine.specs.declared.event.Event.TheVariants.{Commit, Send, Deliver, Apply, PinCopy, SendCopy, Promote}
use Rattle.machine.specs.Event.{Frame, World, Part, End, Half, allowed_with, Run, Happens, Turns, Closes, Applies, start_with, last_world, acknowledgement_of, completed, told, with_acknowledged, with_half, with_standby, without_first}
use Rattle.machine.proofs.RunLemmas.{run-append, step-does}
use Rattle.machine.specs.Worked.{newcomer_events, newcomer_done, NewcomerIsARun}
use Rattle.machine.proofs.RunWorlds.{call, after, worlds_from, Steps, runs, never, may_reply}

-- ---- up to the first Apply

abbrev begin : World
begin = start_with (allowed_with 1)

abbrev first_events : List Event
first_events = take 19 newcomer_events

abbrev first_done : List Bool
first_done = take 19 newcomer_done

abbrev world : ℕ → World
world n = last_world begin (take n (worlds_from begin first_events first_done))

turns : Turns (world 3) 0 (world 4)
unfolding items_at outcome_of_words verb_of closes is_named
turns = record { call = call; connection = refl; first = refl; reply = may_reply; now = refl }

closes_one : Closes (world 4) (world 5)
unfolding items_at outcome_of_words verb_of closes is_named
closes_one = inl (refl, record { ends = 0; newest = 0; none = λ e. refl; some = λ lt. absurd (omega (arith, lt)); now = refl })

commits : Happens (world 5) Commit (world 6)
unfolding items_at outcome_of_words verb_of closes is_named
commits = inl refl

no_send : false ≡ true → Happens (world 11) Send (world 12)
no_send = never (Happens (world 11) Send (world 12))

pins : Happens (world 12) PinCopy (world 13)
unfolding items_at outcome_of_words verb_of closes is_named
pins = record { parts = 1; now = refl }

no_pin : false ≡ true → Happens (world 13) PinCopy (world 14)
no_pin = never (Happens (world 13) PinCopy (world 14))

no_copy : false ≡ true → Happens (world 16) SendCopy (world 17)
no_copy = never (Happens (world 16) SendCopy (world 17))

no_promotion : false ≡ true → Happens (world 17) Promote (world 18)
no_promotion = never (Happens (world 17) Promote (world 18))

steps : Steps begin first_events first_done
unfolding items_at outcome_of_words verb_of closes is_named
steps = assumption (turns, closes_one, commits, no_send, pins, no_pin, no_copy, no_promotion)

-- ---- the three Applies, with a delivery after each of the first two

abbrev refused : World
refused = with_acknowledged [] (with_standby (without_first (world 19).standby) (world 19))

refuses : Applies (world 19) refused
unfolding items_at outcome_of_words verb_of closes is_named
refuses =
    let frame : Frame = record { epoch = FIRST_EPOCH; told = End 1 1 } in
    record { frame = frame; first = refl; standby = without_first (world 19).standby; told = []; takes = inr (refl, inr (inl (refl, refl))); now = refl }

abbrev sent_part : World
sent_part = after refused (Deliver 0 0)

abbrev half : Half
half = record { position = 1; parts = 1 }

abbrev taken : World
taken = with_acknowledged [] (with_standby (with_half (Some half) (without_first sent_part.standby)) sent_part)

takes_part : Applies sent_part taken
unfolding items_at outcome_of_words verb_of closes is_named
takes_part =
    let frame : Frame = record { epoch = FIRST_EPOCH; told = Part 1 0 } in
    record { frame = frame; first = refl; standby = with_half (Some half) (without_first sent_part.standby); told = []; takes = inr (refl, (Some half, inl (refl, inl refl), refl, refl)); now = refl }

abbrev sent_end : World
sent_end = after taken (Deliver 1 0)

abbrev whole : World
whole = let standby = completed 1 (without_first sent_end.standby) in with_acknowledged (acknowledgement_of standby ∷ []) (with_standby standby sent_end)

completes : Applies sent_end whole
unfolding items_at outcome_of_words verb_of closes is_named
completes =
    let frame : Frame = record { epoch = FIRST_EPOCH; told = End 1 1 } in
    record { frame = frame; first = refl; standby = completed 1 (without_first sent_end.standby); told = _; takes = inr (refl, inl (refl, refl, refl)); now = refl }

middle : Run (world 19) (Apply ∷ Deliver 0 0 ∷ Apply ∷ Deliver 1 0 ∷ Apply ∷ []) (true ∷ true ∷ true ∷ true ∷ true ∷ []) (refused ∷ sent_part ∷ taken ∷ sent_end ∷ whole ∷ [])
unfolding items_at outcome_of_words verb_of closes is_named
middle = (step-does refl (inl refuses), (step-does refl refl, (step-does refl (inl takes_part), (step-does refl refl, (step-does refl (inl completes), tt)))))

-- ---- the rest

abbrev rest_events : List Event
rest_events = drop 24 newcomer_events

abbrev rest_done : List Bool
rest_done = drop 24 newcomer_done

rest_steps : Steps whole rest_events rest_done
unfolding items_at outcome_of_words verb_of closes is_named
rest_steps = assumption

pub newcomer_run : NewcomerIsARun
unfolding items_at outcome_of_words verb_of closes is_named
newcomer_run =
    let first = worlds_from begin first_events first_done in
    let between : List World = refused ∷ sent_part ∷ taken ∷ sent_end ∷ whole ∷ [] in
    let last = worlds_from whole rest_events rest_done in
    record {
      worlds = first ++ (between ++ last);
      run = run-append begin first_events (drop 19 newcomer_events) first_done (drop 19 newcomer_done) first (between ++ last) (runs begin first_events first_done steps)
          (run-append (world 19) (Apply ∷ Deliver 0 0 ∷ Apply ∷ Deliver 1 0 ∷ Apply ∷ []) rest_events (true ∷ true ∷ true ∷ true ∷ true ∷ []) rest_done between last middle (runs whole rest_events rest_done rest_steps));
      position = refl;
      disk = refl;
      remote = refl;
      nothing_kept = refl;
      reply = refl;
    }
