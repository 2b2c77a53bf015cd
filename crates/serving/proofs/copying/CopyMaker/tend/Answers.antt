use Rattle.serving.proofs.copying.CopyMaker.tend.Goals as goal

pub returns-then-is_busy-clause-made : goal.returns-then-is_busy-clause-made
returns-then-is_busy-clause-made g c = record {
  heard = c.hear-asked.new.self;
  at = c.hear-asked.new.front.sequencer;
  hears = c.hear-asked.ensures;
  told = c.pin-pinned.new.self;
  pinned = c.pin-pinned.new.front.sequencer;
  tells = c.pin-pinned.ensures;
  sends = c.send-sent.ensures.sends;
}

pub returns-else-is_busy-clause-made : goal.returns-else-is_busy-clause-made
returns-else-is_busy-clause-made g c = record {
  heard = c.hear-asked.new.self;
  at = c.hear-asked.new.front.sequencer;
  hears = c.hear-asked.ensures;
  told = c.pin-pinned.new.self;
  pinned = c.pin-pinned.new.front.sequencer;
  tells = c.pin-pinned.ensures;
  sends = c.send-sent.ensures.sends;
}
