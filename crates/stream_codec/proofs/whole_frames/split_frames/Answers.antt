use Rattle.std.proofs.Common.{Some, None, ap, sym, ◌∙◌}
use Rattle.std.specs.Prelude.{option_map}
use Rattle.stream_codec.specs.Message.{sent_of}
use Rattle.stream_codec.specs.Reading.{message_at}
use Rattle.stream_codec.proofs.Messages.{message_shorter}
use Rattle.stream_codec.proofs.Streams.{stream_at-short, stream_at-broken}
use Rattle.stream_codec.proofs.Skipping.{IsEnd-then, skipped_ok, at_start, some_is, is_some_of, given_more, given_all}
use Rattle.stream_codec.proofs.whole_frames.split_frames.Goals as goal

pub unwrap-message-requires : goal.unwrap-message-requires
unwrap-message-requires c =
    let k = skipped_ok (message_at c.loop-after.rest.now) c.in-Whole.after.now c.in-Whole.ensures.0 in
    is_some_of c.in_ok-read_frame-in-Whole.field-0 k.0 (c.in_ok-read_frame-in-Whole.ensures k.0 c.in-Whole.after.now k.1)

pub loop-after-smaller : goal.loop-after-smaller
loop-after-smaller c =
    let k = skipped_ok (message_at c.loop-after.rest.now) c.in-Whole.after.now c.in-Whole.ensures.0 in
    message_shorter c.loop-after.rest.now k.0 c.in-Whole.after.now k.1

pub loop-after-preserved : goal.loop-after-preserved
loop-after-preserved c =
    let bytes = c.args.bytes.now in
    let rest = c.loop-after.rest.now in
    let after = c.in-Whole.after.now in
    let k = skipped_ok (message_at rest) after c.in-Whole.ensures.0 in
    let found = c.in_ok-read_frame-in-Whole.ensures k.0 after k.1 in
    let message = c.unwrap-message.result in
    let is = some_is message k.0 (ap (option_map sent_of) (sym c.unwrap-message.ensures) ∙ found) in
    record {
      stream = given_more bytes rest after c.loop-after.messages.items c.push.new.self.items message k.0 c.loop-after.invariant.stream k.1 is c.in_ok-push-in-Whole.ensures.items;
      end = IsEnd-then bytes rest after c.loop-after.invariant.end c.in-Whole.ensures.1;
      at = at_start after;
    }

pub returns-in-Begun : goal.returns-in-Begun
returns-in-Begun c =
    let rest = c.loop-after.rest.now in
    record {
      stream = given_all c.args.bytes.now rest c.loop-after.messages.items (Some rest) c.loop-after.invariant.stream (stream_at-short rest c.in-Begun.ensures.0);
      end = c.loop-after.invariant.end;
      at = c.in-Begun.ensures.1;
    }

pub returns-in-Broken : goal.returns-in-Broken
returns-in-Broken c =
    let rest = c.loop-after.rest.now in
    record {
      stream = given_all c.args.bytes.now rest c.loop-after.messages.items None c.loop-after.invariant.stream (stream_at-broken rest c.in-Broken.ensures);
      end = c.loop-after.invariant.end;
      at = tt;
    }
