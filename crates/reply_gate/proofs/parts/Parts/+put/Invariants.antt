use Rattle.std.proofs.Common.{◌≡◌, ◌++◌, drop}
use Rattle.std.specs.List.{flat_map}
use Rattle.kv_types.specs.Reply.{text_of}
use Rattle.reply_gate.specs.Parts.{all_bytes, Grows}
use Rattle.reply_gate.proofs.parts.Parts.+put.Given as goal

-- what was put and the texts that are left make up the whole
abbrev pub invariant-loop-element : goal.invariant-loop-element
invariant-loop-element l = record {
  whole : all_bytes l.self ++ flat_map text_of (drop l.element-index l.element-items) ≡ all_bytes l.fn.self ++ text_of l.reply;
  grew : Grows l.fn.self l.self;
}
