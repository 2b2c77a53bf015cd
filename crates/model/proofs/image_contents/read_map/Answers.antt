use Rattle.std.proofs.Common.{arith}
use Rattle.model.specs.Image.{version_at}
use Rattle.model.specs.ReadImage.{image_of, line_count}
use Rattle.model.proofs.ReadMapLemmas.{IsMapOf-added, no_map}
use Rattle.model.proofs.image_contents.read_map.Goals as goal

pub returns-then-not-branch : goal.returns-then-not-branch
returns-then-not-branch c =
    no_map (line_count c.args.words.now) c.args.current.now (image_of c.args.words.now) c.loop-i.i c.loop-i.keyspace (omega arith) c.loop-i.invariant (rw c.if-not-branch.true at c.in_ok-add_entry.ensures)

pub loop-i-preserved : goal.loop-i-preserved
loop-i-preserved c =
    IsMapOf-added (version_at c.args.current.now (image_of c.args.words.now)) c.loop-i.i c.loop-i.keyspace c.add_entry.new.keyspace (rw c.if-not-branch.false at c.in_ok-add_entry.ensures) c.loop-i.invariant
