use Rattle.std.proofs.Common.{inl, inr, arith}
use Rattle.stream_codec.specs.Bytes.{IsBytes}
use Rattle.stream_codec.proofs.Waiting.{waits_epoch, waits_before, waits_numbers, waits_part_epoch, waits_part_position, waits_part_number, waits_changes}
use Rattle.stream_codec.proofs.scan.missing_of.Goals as goal

pub returns-in-Epoch : goal.returns-in-Epoch
returns-in-Epoch c =
    let are : IsBytes c.args.bytes.now = λ k. omega (arith, c.type_inv.bytes k) in
    elim c.in-Epoch.is [
      | inl is ↦ waits_epoch c.args.next c.args.bytes.now c.saturating_sub.result is are (omega (arith, c.saturating_sub.ensures))
      | inr is ↦ waits_part_position c.args.next c.args.bytes.now c.saturating_sub.result is are (omega (arith, c.saturating_sub.ensures))
    ]

pub returns-in-Before : goal.returns-in-Before
returns-in-Before c =
    let are : IsBytes c.args.bytes.now = λ k. omega (arith, c.type_inv.bytes k) in
    elim c.in-Before.is [
      | inl is ↦ waits_before c.args.next c.args.bytes.now c.saturating_sub-in-Before.result is are (omega (arith, c.saturating_sub-in-Before.ensures))
      | inr is ↦ waits_part_number c.args.next c.args.bytes.now c.saturating_sub-in-Before.result is are (omega (arith, c.saturating_sub-in-Before.ensures))
    ]

pub returns-in-PartEpoch : goal.returns-in-PartEpoch
returns-in-PartEpoch c =
    let are : IsBytes c.args.bytes.now = λ k. omega (arith, c.type_inv.bytes k) in
    waits_part_epoch c.args.next c.args.bytes.now c.saturating_sub-in-PartEpoch.result c.in-PartEpoch.is are (omega (arith, c.saturating_sub-in-PartEpoch.ensures))

pub returns-in-Numbers : goal.returns-in-Numbers
returns-in-Numbers c =
    let are : IsBytes c.args.bytes.now = λ k. omega (arith, c.type_inv.bytes k) in
    waits_numbers c.args.next c.in-Numbers.left c.saturating_mul.result c.args.bytes.now c.saturating_sub-in-Numbers.result c.in-Numbers.is are (omega (arith, c.saturating_mul.ensures)) (omega (arith, c.saturating_sub-in-Numbers.ensures))

pub returns-in-Changes : goal.returns-in-Changes
returns-in-Changes c =
    waits_changes c.args.next c.in-Changes.body c.in-Changes.left c.args.bytes.now c.missing_of_change.result c.in-Changes.is c.requires c.missing_of_change.ensures
