use Rattle.std.proofs.Common.{◌≡◌, ℕ, List, [], ◌++◌, Option, Result, Ok, Err, OnOk, refl, sym, ap, subst, ◌∙◌, append_assoc, append-nil}
use Rattle.std.proofs.Common.{◌≡◌, ℕ, List, [], ◌++◌, Option, refl, sym, ap, subst, ◌∙◌, append_assoc, append-nil}
use Rattle.std.proofs.KnownBytes.{Consumes-nil, Consumes-trans}
use Rattle.std.specs.Io.KnownBytes.{Consumes}
use Rattle.std.specs.Prelude.{option_to_list}
use Rattle.kv_types.specs.declared.item.Item.{Item}
use Rattle.inbound.specs.declared.inbound.Inbound.{Inbound}
use Rattle.inbound.specs.ToCome.{with_piece, to_come}
use Rattle.inbound.proofs.Giving.{with-joined}
use Rattle.clients.specs.declared.reading.RequestReader.{RequestReader}
use Rattle.clients.specs.Reader.{owed, Offers, OffersFor, Reads}

-- what is owed goes by what is held and what was fed
owes-same : (old new : RequestReader) → new.held ≡ old.held → new.inbound ≡ old.inbound → (more : List ℕ) → owed old more ≡ owed new more
owes-same old new held same more =
    ap (λ (h : Option Item). option_to_list h ++ to_come (with_piece old.inbound more)) (sym held) ∙ ap (λ (i : Inbound). option_to_list new.held ++ to_come (with_piece i more)) (sym same)

-- nothing came, and nothing was offered
pub offers-none : (old new : RequestReader) (offered : List Item) → new.held ≡ old.held → new.inbound ≡ old.inbound → OffersFor old new offered offered
offers-none old new offered held same = record {
  bytes = [];
  given = [];
  offers = sym (append-nil offered);
  owes = owes-same old new held same;
}

-- nothing came, and items were offered
pub offers-owed : (old new : RequestReader) (offered offered' : List Item) → Offers old new offered offered' → OffersFor old new offered offered'
offers-owed old new offered offered' step = record { bytes = []; given = step.given; offers = step.offers; owes = step.owes }

-- a piece was fed, and then items were offered
pub offers-piece : (old fed new : RequestReader) (offered offered' : List Item) (piece : List ℕ) → fed.held ≡ old.held → fed.inbound ≡ with_piece old.inbound piece
    → Offers fed new offered offered' → OffersFor old new offered offered'
offers-piece old fed new offered offered' piece held feeds step = record {
  bytes = piece;
  given = step.given;
  offers = step.offers;
  owes = λ more.
      ap (λ (h : Option Item). option_to_list h ++ to_come (with_piece old.inbound (piece ++ more))) (sym held)
      ∙ ap (λ (i : Inbound). option_to_list fed.held ++ to_come i) (with-joined old.inbound piece more)
      ∙ ap (λ (i : Inbound). option_to_list fed.held ++ to_come (with_piece i more)) (sym feeds)
      ∙ step.owes more;
}

pub offers-join : (r0 r1 r2 : RequestReader) (o0 o1 o2 : List Item) → OffersFor r0 r1 o0 o1 → OffersFor r1 r2 o1 o2 → OffersFor r0 r2 o0 o2
offers-join r0 r1 r2 o0 o1 o2 one two = record {
  bytes = one.bytes ++ two.bytes;
  given = one.given ++ two.given;
  offers = two.offers ∙ ap (λ xs. xs ++ two.given) one.offers ∙ append_assoc o0 one.given two.given;
  owes = λ more.
      ap (λ xs. owed r0 xs) (append_assoc one.bytes two.bytes more) ∙ one.owes (two.bytes ++ more)
      ∙ ap (λ xs. one.given ++ xs) (two.owes more) ∙ sym (append_assoc one.given two.given (owed r2 more));
}

-- nothing was read, and nothing offered
pub reads-nothing : (source : Option (List ℕ)) (reader : RequestReader) (offered : List Item) → Reads source source reader reader offered offered
unfolding offers-none
reads-nothing source reader offered = record { part = offers-none reader reader offered refl refl; consumed = Consumes-nil source }

-- nothing was read, or none of it is left, and nothing was offered
pub reads-none : (source source' : Option (List ℕ)) (old new : RequestReader) (offered : List Item) (piece : List ℕ) → Consumes source source' piece → piece ≡ [] → new.held ≡ old.held → new.inbound ≡ old.inbound
    → Reads source source' old new offered offered
unfolding offers-none
reads-none source source' old new offered piece consumed empty held same = record {
  part = offers-none old new offered held same;
  consumed = subst (Consumes source source') empty consumed;
}

-- a piece was read, and fed, and then items were offered
pub reads-piece : (source source' : Option (List ℕ)) (old fed new : RequestReader) (offered offered' : List Item) (piece : List ℕ) → Consumes source source' piece
    → fed.held ≡ old.held → fed.inbound ≡ with_piece old.inbound piece → Offers fed new offered offered' → Reads source source' old new offered offered'
unfolding offers-piece
reads-piece source source' old fed new offered offered' piece consumed held feeds step = record {
  part = offers-piece old fed new offered offered' piece held feeds step;
  consumed = consumed;
}

pub reads-trans : (s0 s1 s2 : Option (List ℕ)) (r0 r1 r2 : RequestReader) (o0 o1 o2 : List Item) → Reads s0 s1 r0 r1 o0 o1 → Reads s1 s2 r1 r2 o1 o2 → Reads s0 s2 r0 r2 o0 o2
unfolding offers-join
reads-trans s0 s1 s2 r0 r1 r2 o0 o1 o2 one two = record {
  part = offers-join r0 r1 r2 o0 o1 o2 one.part two.part;
  consumed = Consumes-trans s0 s1 s2 one.part.bytes two.part.bytes one.consumed two.consumed;
}

-- items were offered, and then bytes were read, and items offered
pub reads-after : (source source' : Option (List ℕ)) (r0 r1 r2 : RequestReader) (o0 o1 o2 : List Item) → Offers r0 r1 o0 o1 → Reads source source' r1 r2 o1 o2 → Reads source source' r0 r2 o0 o2
unfolding offers-owed offers-join
reads-after source source' r0 r1 r2 o0 o1 o2 step reads = record {
  part = offers-join r0 r1 r2 o0 o1 o2 (offers-owed r0 r1 o0 o1 step) reads.part;
  consumed = reads.consumed;
}

-- what a reader owes is not changed by what else it notes
pub reads-noted : (source source' : Option (List ℕ)) (old new noted : RequestReader) (offered offered' : List Item) → noted.held ≡ new.held → noted.inbound ≡ new.inbound
    → Reads source source' old new offered offered' → Reads source source' old noted offered offered'
reads-noted source source' old new noted offered offered' held same reads = record {
  part = record {
    bytes = reads.part.bytes;
    given = reads.part.given;
    offers = reads.part.offers;
    owes = λ more. reads.part.owes more ∙ ap (λ xs. reads.part.given ++ xs) (owes-same new noted held same more);
  };
  consumed = reads.consumed;
}

-- nothing was read or offered, and what else a reader notes may have changed
pub reads-waited : (source : Option (List ℕ)) (old new : RequestReader) (offered offered' : List Item) → offered' ≡ offered → new.held ≡ old.held → new.inbound ≡ old.inbound
    → Reads source source old new offered offered'
reads-waited source old new offered offered' unchanged held same =
    subst (λ o. Reads source source old new offered o) (sym unchanged) (reads-none source source old new offered [] (Consumes-nil source) refl held same)

-- the same, before bytes were read and items offered
pub reads-join-waited : (source source' : Option (List ℕ)) (r0 r1 r2 : RequestReader) (o0 o1 o2 : List Item) → o1 ≡ o0 → r1.held ≡ r0.held → r1.inbound ≡ r0.inbound
    → Reads source source' r1 r2 o1 o2 → Reads source source' r0 r2 o0 o2
reads-join-waited source source' r0 r1 r2 o0 o1 o2 unchanged held same reads =
    reads-trans source source source' r0 r1 r2 o0 o1 o2 (reads-waited source r0 r1 o0 o1 unchanged held same) reads

-- what holds anyway holds where there is a value
pub waited-on-ok : {A E P : Type 0} (result : Result A E) → P → OnOk result P
waited-on-ok (Ok value) holds = holds
waited-on-ok (Err error) holds = tt
