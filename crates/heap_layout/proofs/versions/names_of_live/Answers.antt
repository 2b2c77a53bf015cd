use Rattle.std.proofs.Common.{rules, tests}
use Rattle.std.specs.Prelude.{◌==◌}
use Rattle.std.proofs.lemmas.Iterator.{YieldsList-from_slice, YieldsList-from_map_by}
use Rattle.std.proofs.lemmas.Iterator.Consumers.{YieldsList-at, YieldsList-from_filter, map_from_collect}
use Rattle.kv_types.specs.declared.place.EntryNo.{EntryNo}
use Rattle.heap_layout.specs.declared.entry.Entry.{Entry}
use Rattle.heap_layout.specs.declared.tagged.Tagged.{Tagged}
use Rattle.heap_layout.proofs.versions.names_of_live.Goals as goal

pub returns : goal.returns
returns c =
    map_from_collect _ c.collect.ensures.ran
    (YieldsList-from_map_by _ (λ (tagged : Tagged). tagged.id.now) (λ (version : EntryNo × Entry). version.1.id)
    (YieldsList-at c.map.ensures.source
    (YieldsList-from_filter _ (λ (version : EntryNo × Entry). version.1.end == 0) (YieldsList-from_slice c.args.versions.now cc) c.filter.ensures.closure (λ x b q k. search (rules, tests))))
    c.map.ensures.closure (λ x r q k. search (rules, tests)))
