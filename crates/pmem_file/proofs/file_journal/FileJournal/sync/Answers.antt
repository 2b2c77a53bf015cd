use Rattle.std.proofs.Common.{◌≡◌, ◌+◌, length, vec_len, refl, sym, ◌∙◌, arith}
use Rattle.std.proofs.lemmas.Bool.{eqb-true}
use Rattle.journal.specs.File.{part_at}
use Rattle.pmem_file.specs.declared.file_journal.FileJournal.{FileJournal}
use Rattle.pmem_file.specs.Call.{calls_of}
use Rattle.pmem_file.proofs.ReplayedLemmas.{none-of}
use Rattle.pmem_file.proofs.JournalLemmas.{SealedAt, Syncs-from, Syncs-none, Stops-sync}
use Rattle.pmem_file.proofs.file_journal.FileJournal.sync.Goals as goal

abbrev sealed-at : (journal : FileJournal) → SealedAt journal
sealed-at journal =
    record {
      first = part_at journal.head.shape journal.head.generation + journal.used;
      is = refl;
      fits = omega (arith, journal.fits, journal.sealed.ok.0);
    }

pub returns-then-is_empty-clause-clear : goal.returns-then-is_empty-clause-clear
returns-then-is_empty-clause-clear c e = none-of c.args.self.now.sealed.items (sym c.args.self.now.sealed.ok.0 ∙ eqb-true (vec_len c.args.self.now.sealed) 0 (sym c.is_empty.ensures ∙ c.if-is_empty.true))

pub returns-then-is_empty-clause-durable : goal.returns-then-is_empty-clause-durable
returns-then-is_empty-clause-durable c e =
    Syncs-none c.args.self.now (calls_of c.args.file.now.calls)
    (none-of c.args.self.now.sealed.items (sym c.args.self.now.sealed.ok.0 ∙ eqb-true (vec_len c.args.self.now.sealed) 0 (sym c.is_empty.ensures ∙ c.if-is_empty.true)))

pub returns-then-not-write_sealed-clause-stopped : goal.returns-then-not-write_sealed-clause-stopped
returns-then-not-write_sealed-clause-stopped c words fine e =
    Stops-sync c.args.self.now (calls_of c.args.file.now.calls) (calls_of c.write_sealed.new.file.calls) words (sealed-at c.args.self.now)
    c.write_sealed.ensures.within

pub returns-clause-durable : goal.returns-clause-durable
returns-clause-durable c e =
    let old = c.args.self.now in
    let more : old.used + c.len.result ≡ old.used + length old.sealed.items = omega (arith, c.len.ensures, old.sealed.ok.0) in
    Syncs-from old _ (calls_of c.args.file.now.calls) (calls_of c.write_sealed.new.file.calls) (sealed-at old) refl more c.clear.ensures.items (λ line. refl)
    (c.write_sealed.ensures.done c.if-not-write_sealed.false)
