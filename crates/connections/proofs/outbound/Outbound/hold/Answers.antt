use Rattle.std.proofs.Common.{◌≡◌, ◌<◌, ◌≤◌, List, length, take, drop, sym, ap, subst, ◌∙◌, arith}
use Rattle.std.proofs.lemmas.Option.{get_or_from_slice_get, slice_get_within}
use Rattle.kv_types.specs.declared.reply.Held.{Held}
use Rattle.model.specs.declared.call.Call.{Call}
use Rattle.model.specs.Call.{is_nonempty}
use Rattle.connections.specs.declared.outbound.Made.{Made}
use Rattle.connections.specs.Outbound.{AreMade}
use Rattle.connections.proofs.OutboundLemmas.{Takes, takes-first, took-first, gate-holds}
use Rattle.connections.proofs.outbound.Outbound.hold.Goals as goal

pub returns-clause-stands : goal.returns-clause-stands
returns-clause-stands c = λ machine stands.
    let calls = c.args.calls.now in
    let made = c.in-Some.made.now in
    let takes : Takes calls made c.take.new.self.items machine.made = takes-first calls made c.take.new.self.items machine.made (subst (λ (xs : List Made). AreMade calls xs machine.made)
    (took-first c.args.self.now.made c.take.new.self c.take.result made c.in-Some.ensures.0 c.take.ensures c.in-Some.ensures.1) stands.made) in
    let same : c.in-Some-get.call.now ≡ takes.is.call = c.in-Some-get.ensures.lookup.1 ∙ get_or_from_slice_get calls made.call takes.is.call c.in-Some-get.call.now takes.is.stands in
    record {
      done = sym (ap is_nonempty takes.all);
      held = λ did. record {
        made = subst (λ (xs : List Held). AreMade calls c.take.new.self.items (drop 1 xs)) (sym takes.all) takes.are;
        gate = gate-holds c.args.self.now.gate c.hold.new.self machine made c.in-Some-get.call.now takes.first stands.gate
            (takes.is.reply ∙ ap (λ (call : Call). call.reply) (sym same)) takes.is.position
            c.in_ok-hold.ensures.waiting c.in_ok-hold.ensures.replies c.in_ok-hold.ensures.pending (ap (take 1) takes.all);
        seen = stands.seen;
      };
      stays = λ did. cc;
    }

pub returns-in_default-get-clause-stands : goal.returns-in_default-get-clause-stands
returns-in_default-get-clause-stands c = λ machine stands.
    let calls = c.args.calls.now in
    let made = c.in-Some.made.now in
    let rest = c.in-Some.ensures.0 in
    let takes : Takes calls made rest machine.made = takes-first calls made rest machine.made (subst (λ (xs : List Made). AreMade calls xs machine.made) c.in-Some.ensures.1 stands.made) in
    let within : made.call < length calls = slice_get_within calls made.call takes.is.call takes.is.stands in
    let past : length calls ≤ made.call = c.in_default-get.ensures.lookup.3 in
    absurd (omega arith)
