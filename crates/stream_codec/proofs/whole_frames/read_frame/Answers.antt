use Rattle.std.proofs.Common.{◌≡◌, map, Ok}
use Rattle.stream_codec.specs.declared.head.Head.TheVariants as head
use Rattle.stream_codec.specs.Message.{put_of}
use Rattle.stream_codec.specs.Reading.{head_at}
use Rattle.stream_codec.proofs.Skipping.{found_group, found_ack, found_wanted, found_part, found_end, found_none}
use Rattle.stream_codec.proofs.whole_frames.read_frame.Goals as goal

pub returns-in_ok-changes-in-Ok-Group-default : goal.returns-in_ok-changes-in-Ok-Group-default
returns-in_ok-changes-in-Ok-Group-default c =
    let d = c.in-Ok-Group-default in
    let e : head_at c.args.bytes.now ≡ Ok (head.Group d.epoch d.before d.after d.size, d.rest.now) = cc d.ensures in
    λ message rest read. found_group c.args.bytes.now d.epoch d.before d.after d.size d.rest.now c.in_ok-changes-in-Ok-Group-default.changes.items e c.in_ok-changes-in-Ok-Group-default.ensures message rest read

pub returns-in-Ok-Ack-default : goal.returns-in-Ok-Ack-default
returns-in-Ok-Ack-default c =
    let d = c.in-Ok-Ack-default in
    let e : head_at c.args.bytes.now ≡ Ok (head.Ack d.ack, d.field-0-1.now) = cc d.ensures in
    λ message rest read. found_ack c.args.bytes.now d.ack d.field-0-1.now e message rest read

pub returns-in-Ok-Wanted-default : goal.returns-in-Ok-Wanted-default
returns-in-Ok-Wanted-default c =
    let d = c.in-Ok-Wanted-default in
    let e : head_at c.args.bytes.now ≡ Ok (head.Wanted d.epoch, d.field-0-1.now) = cc d.ensures in
    λ message rest read. found_wanted c.args.bytes.now d.epoch d.field-0-1.now e message rest read

pub returns-in_ok-puts-in-Ok-Part-default : goal.returns-in_ok-puts-in-Ok-Part-default
returns-in_ok-puts-in-Ok-Part-default c =
    let d = c.in-Ok-Part-default in
    let e : head_at c.args.bytes.now ≡ Ok (head.Part d.epoch d.position d.number d.size, d.rest.now) = cc d.ensures in
    λ message rest read. found_part c.args.bytes.now d.epoch d.position d.number d.size d.rest.now (map put_of c.in_ok-puts-in-Ok-Part-default.puts.items) e c.in_ok-puts-in-Ok-Part-default.ensures message rest read

pub returns-in-Ok-End-default : goal.returns-in-Ok-End-default
returns-in-Ok-End-default c =
    let d = c.in-Ok-End-default in
    let e : head_at c.args.bytes.now ≡ Ok (head.End d.epoch d.position d.parts, d.field-0-1.now) = cc d.ensures in
    λ message rest read. found_end c.args.bytes.now d.epoch d.position d.parts d.field-0-1.now e message rest read

pub returns-in-Err : goal.returns-in-Err
returns-in-Err c = λ message rest read. absurd (found_none c.args.bytes.now c.in-Err.field-0 c.in-Err.ensures message rest read)
