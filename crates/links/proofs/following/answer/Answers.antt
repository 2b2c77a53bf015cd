use Rattle.std.proofs.Common.{◌≡◌, [], ◌∷◌, ap, refl, sym}
use Rattle.stream_codec.specs.Message.{Sent, sent_of, sent_of_frame}
use Rattle.links.specs.Serving.{keeps}
use Rattle.links.proofs.Copies.{ack_is_no_copy, is_of_copy}
use Rattle.links.proofs.Says.{IsLeft-refl, says-none, says-of}
use Rattle.links.proofs.Serving.{OnErr-into, OnOk-into}
use Rattle.links.proofs.following.answer.Goals as goal

pub returns-in-Group-clause-answered : goal.returns-in-Group-clause-answered
returns-in-Group-clause-answered g c =
    OnOk-into c.answer_frame.result
    (λ told. (told.0, record { frame = c.in-Group.frame; is_frame = ap sent_of c.in-Group.is; acknowledges = told.1 }, told.2)) c.answer_frame.ensures.answered

pub returns-in-Group-clause-says : goal.returns-in-Group-clause-says
returns-in-Group-clause-says g c =
    let came : sent_of_frame c.in-Group.frame ∷ [] ≡ sent_of c.args.message ∷ [] = ap (λ (sent : Sent). sent ∷ []) (sym (ap sent_of c.in-Group.is)) in
    OnErr-into c.answer_frame.result (λ says. (says.0, says-of _ _ _ _ _ _ _ came says.1, says.2)) c.answer_frame.ensures.says

pub returns-in-Ack-clause-says : goal.returns-in-Ack-clause-says
returns-in-Ack-clause-says g c = ([], says-none _ _ _ _ (keeps _ _ _ (IsLeft-refl _)), λ _. refl)

pub returns : goal.returns
returns g c = record {
  stands = λ _. c.requires.stands;
  answered = tt;
  emptied = tt;
  says = ([], says-none _ _ _ _ (keeps _ _ _ (IsLeft-refl _)), λ _. refl);
  misplaced = λ ack is. absurd (ack_is_no_copy c.args.message ack is (is_of_copy c.args.message c.in-CopyWanted.is));
  of_copy = λ _. (refl, refl, refl);
}
