-- Contents that say the same, and images of which none of what had ended is freed.
use Rattle.std.proofs.Common.{◌≡◌, false, List, sym, arith}
use Rattle.std.proofs.lemmas.Bool.{true≢false}
use Rattle.kv_types.specs.declared.place.EntryNo.{EntryNo}
use Rattle.model.specs.Group.{Contents}
use Rattle.model.specs.Image.{Image}
use Rattle.wbl_engine.specs.Contents.{Keeps, Same}
use Rattle.wbl_engine.specs.Freeing.{KeepsWithoutSome}

-- contents that say the same of each entry are one
pub Same-is : (old new : Contents) → Same old new → new ≡ old
Same-is old new same = grind arith

-- none of the entries is freed yet
pub KeepsWithoutSome-none : (ended : List EntryNo) (contents : Contents) (image : Image) → Keeps contents image → KeepsWithoutSome ended contents image
KeepsWithoutSome-none ended contents image keeps =
    (λ i. false, λ i gone. absurd (true≢false (sym gone)), record { superblock = keeps.superblock; has_record = keeps.has_record; versions = keeps.versions; entries = keeps.entries })
