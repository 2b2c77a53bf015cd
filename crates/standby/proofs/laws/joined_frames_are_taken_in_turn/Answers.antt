use Rattle.standby.proofs.JoiningLemmas.{whole-due, whole-in_turn, whole-plays}
use Rattle.standby.proofs.laws.joined_frames_are_taken_in_turn.Goals as goal

pub returns : goal.returns
returns c = record { due = whole-due; plays = whole-plays; in_turn = whole-in_turn }
