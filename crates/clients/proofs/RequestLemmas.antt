-- What the requests of a connection owe, turn by turn.
use Rattle.std.proofs.Common.{◌≡◌, [], append-nil, refl, sym, ap, ◌∙◌}
use Rattle.pipes.specs.Ring.{offered_at}
use Rattle.clients.specs.declared.reading.RequestReader.{RequestReader}
use Rattle.clients.specs.declared.request_side.RequestSide.{RequestSide}
use Rattle.clients.specs.Reader.{owed}
use Rattle.clients.specs.RequestSide.{ReadsOn, StaysRead}

pub reads-same : (side side' : RequestSide) → side'.reader ≡ side.reader → side'.items ≡ side.items → ReadsOn side side'
reads-same side side' reader items = record {
  bytes = [];
  given = [];
  offers = ap offered_at items ∙ sym (append-nil (offered_at side.items));
  owes = λ more. ap (λ (same : RequestReader). owed same more) (sym reader);
}

pub stays_read-same : (side : RequestSide) → StaysRead side side
stays_read-same side = record {
  keeps = record { reader = refl; items = refl; was_open = λ is. is };
  stays = λ is. is;
  ready = λ is. is;
}

pub stays_read-join : (first second third : RequestSide) → StaysRead first second → StaysRead second third → StaysRead first third
stays_read-join first second third stays then = record {
  keeps = record {
    reader = then.keeps.reader ∙ stays.keeps.reader;
    items = then.keeps.items ∙ stays.keeps.items;
    was_open = λ is. stays.keeps.was_open (then.keeps.was_open is);
  };
  stays = λ is. then.stays (stays.stays is);
  ready = λ is. then.ready (stays.ready is);
}
