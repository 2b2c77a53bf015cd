use Rattle.std.proofs.Common.{length}
use Rattle.model.specs.Call.{up_to_closing}
use Rattle.resp_codec.specs.Parsing.{ahead}
use Rattle.resp_codec.specs.ReplyParsing.{replies_ahead}
use Rattle.server.specs.Served.{EachHasReply}
use Rattle.server.proofs.answering.answers_rest.Given as goal

abbrev pub invariant-loop-item : goal.invariant-loop-item
invariant-loop-item l = EachHasReply (up_to_closing (ahead l.asking)) (replies_ahead l.answering)
    → EachHasReply (up_to_closing (ahead l.initial.asking)) (replies_ahead l.initial.answering)

abbrev pub decreases-loop-item : goal.decreases-loop-item
decreases-loop-item l = length (ahead l.asking)
