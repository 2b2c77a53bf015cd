use Rattle.images.proofs.PrintedLemmas.{tells-migration}
use Rattle.images.proofs.migrating.migrate_image.Goals as goal

pub returns-in-Ok-writeln-clause-told : goal.returns-in-Ok-writeln-clause-told
returns-in-Ok-writeln-clause-told g c =
    tells-migration c.in-Ok.ensures.ok c.in-Ok.ensures.line_count c.lines.ensures.count c.entries_of_lines-entries.ensures c.in-Ok-writeln.ensures.bytes
