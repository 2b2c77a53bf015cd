-- Lists that are what an image has are those of the contents that it shows.
use Rattle.std.proofs.Common.{◌≡◌, List, sym, subst₂}
use Rattle.kv_types.specs.declared.place.EntryNo.{EntryNo}
use Rattle.heap_layout.specs.declared.entry.Entry.{Entry}
use Rattle.heap_layout.specs.Versions.{counted_below, gapped_below}
use Rattle.model.specs.Group.{Contents, entries_of}
use Rattle.model.specs.Image.{Image}
use Rattle.placing.specs.Read.{AreOf, Shows}
use Rattle.placing.proofs.ReadLemmas.{read_is_of}

pub are_of_shown : (contents : Contents) (image : Image) (counted : List (EntryNo × Entry)) (gapped : List EntryNo) → Shows contents image
    → counted ≡ counted_below contents.current image (entries_of contents)
    → gapped ≡ gapped_below contents.current image (entries_of contents) → AreOf contents counted gapped
are_of_shown contents image counted gapped shows counted_is gapped_is = subst₂ (AreOf contents) (sym counted_is) (sym gapped_is) (read_is_of contents image shows)
