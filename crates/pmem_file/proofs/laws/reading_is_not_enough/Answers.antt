use Rattle.std.proofs.Common.{true, false, [], ◌∷◌, refl}
use Rattle.pmem_file.specs.Call.{Wrote, Synced}
use Rattle.pmem_file.specs.PageCache.{Writes, Syncs}
use Rattle.pmem_file.proofs.laws.reading_is_not_enough.Goals as goal

pub returns : goal.returns
returns c =
    let one = 1 ∷ 0 ∷ 0 ∷ 0 ∷ 0 ∷ 0 ∷ 0 ∷ 0 ∷ [] in
    record {
      events = Syncs (λ _. false) (λ _. false) true ∷ Syncs (λ _. false) (λ _. true) false ∷ Writes 0 one (λ _. false) true ∷ [];
      earlier = Synced false ∷ Wrote 0 one true ∷ [];
      told = refl;
      synced = refl;
      cached = refl;
      disk = refl;
    }
