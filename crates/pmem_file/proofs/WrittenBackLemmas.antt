-- What the blocks that were written back make of a file.
use Rattle.std.proofs.Common.{◌≡◌, ◌⊎◌, ℕ, ◌+◌, ◌*◌, ◌<◌, ◌≤◌, zero, suc, true, false, not, ◌&&◌, ◌==◌, nat_le, nat_lt, List, [], ◌∷◌, ◌++◌, length, take, drop, get_or, refl, inl, inr, sym, subst, ap, ◌∙◌, arith}
use Rattle.std.proofs.lemmas.Bool.{or_left, or_right, and_from, cond_both, cond-true, eqb-true, le-leb, lt-ltb}
use Rattle.std.proofs.lemmas.List.{length-take, length-drop}
use Rattle.std.proofs.Math.Bool.{or-false}
use Rattle.std.specs.Int.{div_ceil}
use Rattle.std.proofs.lemmas.Grind.{div_ceil_times}
use Rattle.pmem_file.specs.declared.run.TheConstants.{LINES_A_WRITE}
use Rattle.pmem_file.specs.Call.{Call, Synced, has_failed, reaches, brought, written, may_hold}
use Rattle.pmem_file.specs.Line.{run_bytes}
use Rattle.pmem_file.specs.Opening.{Step, Made, Opened, Locked, Resized, FileSynced, FolderSynced, Found, ReadAt, WroteBack, DataSynced, IsBegun, AreReads, with_blocks}
use Rattle.pmem_file.specs.declared.device.FilePmem.{FilePmem}
use Rattle.pmem_file.specs.Device.{read_by, opening_by, lines_in_file, IsReadAfter, IsOpened, IsCreated}
use Rattle.pmem_file.specs.PageCache.{Pages, Event, pages_after, tells, calls_in, changes_in, HasOnly, Allows}
use Rattle.pmem_file.proofs.CallsLemmas.{reaches-run, brought-run}
use Rattle.pmem_file.proofs.WritesLemmas.{Fit}
use Rattle.pmem_file.proofs.PageCacheLemmas.{is_known, may_have, after, may_have-settled}

-- the write of a block reaches each word of it
reaches-block : (words : List ℕ) (first count word : ℕ) → Fit words → 8 * first ≤ word → word < 8 * first + 8 * count → word < length words
    → reaches (64 * first) (run_bytes words (first, count)) word ≡ true
reaches-block words first count word fit low high inside =
    reaches-run words first count word fit
    ∙ and_from (nat_le (8 * first) word) (nat_lt word (8 * first + length (take (8 * count) (drop (8 * first) words))))
    (le-leb (8 * first) word low)
    (lt-ltb word (8 * first + length (take (8 * count) (drop (8 * first) words)))
    (omega (arith, low, high, inside, length-take (8 * count) (drop (8 * first) words), length-drop (8 * first) words)))

-- none of these writes failed
unfailed : (words : List ℕ) (blocks : ℕ) (before : List Step) → has_failed (changes_in before) ≡ false
    → has_failed (changes_in (with_blocks true words blocks before)) ≡ false
unfailed words zero before fine = fine
unfailed words (suc blocks) before fine = or-false (has_failed (changes_in (with_blocks true words blocks before))) ∙ unfailed words blocks before fine

-- a word of the last block, or one of the earlier ones
last_or_earlier : (word blocks : ℕ) → word < 8 * (LINES_A_WRITE * suc blocks)
    → ((8 * (LINES_A_WRITE * blocks) ≤ word) × (word < 8 * (LINES_A_WRITE * blocks) + 8 * LINES_A_WRITE)) ⊎ (word < 8 * (LINES_A_WRITE * blocks))
last_or_earlier word blocks below = grind (arith, below)

-- each word of these blocks was written
known : (words : List ℕ) (blocks : ℕ) (before : List Step) (word : ℕ) → Fit words → word < length words → word < 8 * (LINES_A_WRITE * blocks)
    → is_known false (changes_in (with_blocks true words blocks before)) word ≡ true
known words zero before word fit inside below = absurd (omega (arith, below))
known words (suc blocks) before word fit inside below =
    let first = LINES_A_WRITE * blocks in
    let here = reaches (64 * first) (run_bytes words (first, LINES_A_WRITE)) word in
    let earlier = is_known false (changes_in (with_blocks true words blocks before)) word in
    elim (last_or_earlier word blocks below) [
      | inl last ↦ or_left here earlier (reaches-block words first LINES_A_WRITE word fit last.0 last.1 inside)
      | inr less ↦ or_right here earlier (known words blocks before word fit inside less)
    ]

-- and it was its own value that was written last
last_written : (read words : List ℕ) (blocks : ℕ) (before : List Step) (word : ℕ) → Fit words → word < length words → word < 8 * (LINES_A_WRITE * blocks)
    → written read (changes_in (with_blocks true words blocks before)) word ≡ get_or words word 0
last_written read words zero before word fit inside below = absurd (omega (arith, below))
last_written read words (suc blocks) before word fit inside below =
    let first = LINES_A_WRITE * blocks in
    let bytes = run_bytes words (first, LINES_A_WRITE) in
    let earlier = written read (changes_in (with_blocks true words blocks before)) word in
    elim (last_or_earlier word blocks below) [
      | inl last ↦
          let there = reaches-block words first LINES_A_WRITE word fit last.0 last.1 inside in
          cond-true (reaches (64 * first) bytes word) (brought (64 * first) bytes word) earlier there ∙ brought-run words first LINES_A_WRITE word fit there
      | inr less ↦
          cond_both (reaches (64 * first) bytes word) (brought (64 * first) bytes word) earlier (λ x. x ≡ get_or words word 0)
          (brought-run words first LINES_A_WRITE word fit) (λ _. last_written read words blocks before word fit inside less)
    ]

-- after a sync that succeeded a word may have its own value alone
only : (words : List ℕ) (blocks : ℕ) (before : List Step) (word x : ℕ) → Fit words → has_failed (changes_in before) ≡ false
    → word < length words → word < 8 * (LINES_A_WRITE * blocks)
    → may_have false words (Synced true ∷ changes_in (with_blocks true words blocks before)) word x ≡ true → x ≡ get_or words word 0
only words blocks before word x fit fine inside below may =
    let calls = changes_in (with_blocks true words blocks before) in
    let sure : ((true && not (has_failed calls)) && is_known false calls word) ≡ true =
    and_from (not (has_failed calls)) (is_known false calls word) (ap not (unfailed words blocks before fine)) (known words blocks before word fit inside below) in
    eqb-true x (written words calls word)
    (sym (cond-true ((true && not (has_failed calls)) && is_known false calls word) (x == written words calls word) (may_have false words calls word x) sure)
    ∙ may)
    ∙ last_written words words blocks before word fit inside below

within_blocks : (lines word : ℕ) → word < 8 * lines → word < 8 * (LINES_A_WRITE * div_ceil lines LINES_A_WRITE)
within_blocks lines word below = omega (arith, below, (div_ceil_times lines LINES_A_WRITE (omega arith)).0)

-- the disk has what was read, and so has the cache
pub settles : (words : List ℕ) (lines : ℕ) (before steps : List Step) (start : Pages) (events : List Event) → Fit words → length words ≡ 8 * lines
    → has_failed (changes_in before) ≡ false → changes_in steps ≡ Synced true ∷ changes_in (with_blocks true words (div_ceil lines LINES_A_WRITE) before)
    → tells events ≡ true → calls_in events ≡ changes_in steps → HasOnly words (pages_after events start)
settles words lines before steps start events fit long fine are told asked word inside =
    let blocks = div_ceil lines LINES_A_WRITE in
    let pages = pages_after events start in
    let below : word < 8 * (LINES_A_WRITE * blocks) = within_blocks lines word (omega (arith, inside, long)) in
    let calls : calls_in events ≡ Synced true ∷ changes_in (with_blocks true words blocks before) = asked ∙ are in
    let so = after false words events start word told (λ e. absurd (let h : false ≡ true = e in cc)) in (
      only words blocks before word (pages.disk word) fit fine inside below
          (subst (λ (cs : List Call). may_have false words cs word (pages.disk word) ≡ true) calls so.on_disk),
      only words blocks before word (pages.cached word) fit fine inside below
          (subst (λ (cs : List Call). may_have false words cs word (pages.cached word) ≡ true) calls so.in_cache),
    )

-- and from there on what was asked since says what may be there
pub allows : (read : List ℕ) (start : Pages) (since : List Event) (calls : List Call) → HasOnly read start → tells since ≡ true → calls_in since ≡ calls
    → Allows read calls (pages_after since start)
allows read start since calls has told asked word inside =
    let pages = pages_after since start in
    let so = after true read since start word told (λ _. has word inside) in
    subst (λ (cs : List Call). (may_hold read cs word (pages.disk word) ≡ true) × (may_hold read cs word (pages.cached word) ≡ true)) asked (
      sym (may_have-settled read (calls_in since) word (pages.disk word)) ∙ so.on_disk,
      sym (may_have-settled read (calls_in since) word (pages.cached word)) ∙ so.in_cache,
    )

-- reads change nothing
changes-looks : (looks before : List Step) → AreReads looks → changes_in (looks ++ before) ≡ changes_in before
changes-looks [] before are = refl
changes-looks (ReadAt offset bytes true ∷ looks) before are = changes-looks looks before are
changes-looks (ReadAt offset bytes false ∷ looks) before are = absurd are
changes-looks (Made done ∷ looks) before are = absurd are
changes-looks (Opened done ∷ looks) before are = absurd are
changes-looks (Locked done ∷ looks) before are = absurd are
changes-looks (Resized bytes done ∷ looks) before are = absurd are
changes-looks (FileSynced done ∷ looks) before are = absurd are
changes-looks (FolderSynced done ∷ looks) before are = absurd are
changes-looks (Found bytes ∷ looks) before are = absurd are
changes-looks (WroteBack offset bytes done ∷ looks) before are = absurd are
changes-looks (DataSynced done ∷ looks) before are = absurd are

-- after these steps, none of which failed, the device has what the disk has
reads_back : (device : FilePmem) (lines : ℕ) (before : List Step) → IsReadAfter device lines before → has_failed (changes_in before) ≡ false
    → (start : Pages) (events : List Event) → tells events ≡ true → calls_in events ≡ changes_in (opening_by device)
    → HasOnly (read_by device) (pages_after events start)
reads_back device lines before is fine start events told asked =
    settles (read_by device) lines (is.looks ++ before) (opening_by device) start events is.fit is.words
    (ap has_failed (changes-looks is.looks before is.looked) ∙ fine) (ap changes_in is.calls) told asked

begun_unfailed : (bytes : ℕ) (begun : List Step) → IsBegun bytes begun → has_failed (changes_in begun) ≡ false
begun_unfailed bytes begun (inl made) = ap (λ (steps : List Step). has_failed (changes_in steps)) made
begun_unfailed bytes begun (inr there) = ap (λ (steps : List Step). has_failed (changes_in steps)) there

-- however it was opened
pub begins : (device : FilePmem) → IsOpened device ⊎ IsCreated device → (start : Pages) (events : List Event) → tells events ≡ true
    → calls_in events ≡ changes_in (opening_by device) → HasOnly (read_by device) (pages_after events start)
begins device (inl opened) = reads_back device (lines_in_file device) _ opened refl
begins device (inr created) =
    reads_back device created.lines _ created.read
    (or-false (has_failed (changes_in created.begun)) ∙ begun_unfailed (64 * created.lines) created.begun created.begins)
