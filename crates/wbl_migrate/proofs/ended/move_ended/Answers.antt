use Rattle.std.proofs.Common.{inl, arith, ◌∙◌}
use Rattle.std.proofs.lemmas.Result.{on_ok_weaker, on_err_weaker}
use Rattle.model.specs.Image.{entry_line, entry_word}
use Rattle.wbl_record.proofs.Results.{on_both, on_err_from}
use Rattle.wbl_migrate.proofs.EndedEntries.{stored_one}
use Rattle.wbl_migrate.proofs.EndedImages.{begun_durable, moved_durable}
use Rattle.wbl_migrate.proofs.EndedMoments.{first_moments, may_copy, moving_holds, second_moments, stamps_kept, third_moments}
use Rattle.wbl_migrate.proofs.EndedMaps.{apart}
use Rattle.wbl_migrate.proofs.ended.move_ended.Goals as goal

pub copy_version-requires : goal.copy_version-requires
copy_version-requires g c = may_copy c.requires.2

pub begin_copy-requires-clause-within : goal.begin_copy-requires-clause-within
begin_copy-requires-clause-within g c =
    let may = may_copy c.requires.2 in
    omega (arith, may.from_within, may.above, may.within, c.in_ok-copy_version.ensures.ok.stays.lines)

pub begin_copy-requires-clause-to_within : goal.begin_copy-requires-clause-to_within
begin_copy-requires-clause-to_within g c =
    let may = may_copy c.requires.2 in
    omega (arith, may.to_within, may.above, may.within, c.in_ok-copy_version.ensures.ok.stays.lines)

pub erase_begin-requires : goal.erase_begin-requires
erase_begin-requires g c =
    let may = may_copy c.requires.2 in
    omega (arith, may.from_within, may.above, may.within, c.in_ok-copy_version.ensures.ok.stays.lines, c.in_ok-begin_copy.ensures.ok.stays.lines)

-- ---- the copy is not durable

pub returns-in_err-copy_version-clause-left : goal.returns-in_err-copy_version-clause-left
returns-in_err-copy_version-clause-left g c =
    on_err_from c.from_residual.result
    (λ contents version moving image is. (first_moments moving.movable moving.durable c.in_err-copy_version.ensures.err.moments).each image (inl is))

pub returns-in_err-copy_version-clause-moments : goal.returns-in_err-copy_version-clause-moments
returns-in_err-copy_version-clause-moments g c contents version moving = first_moments moving.movable moving.durable c.in_err-copy_version.ensures.err.moments

pub returns-in_err-copy_version-clause-map : goal.returns-in_err-copy_version-clause-map
returns-in_err-copy_version-clause-map g c contents version s moving map =
    moving_holds moving.current_is moving.movable s map (returns-in_err-copy_version-clause-moments g c contents version moving)

-- ---- its begin is not

pub returns-in_err-begin_copy-clause-left : goal.returns-in_err-begin_copy-clause-left
returns-in_err-begin_copy-clause-left g c =
    on_err_from c.from_residual-in_err-begin_copy.result
    (λ contents version moving image is.
    (second_moments moving.movable moving.durable c.in_ok-copy_version.ensures.ok c.in_err-begin_copy.ensures.err.moments).each image (inl is))

pub returns-in_err-begin_copy-clause-moments : goal.returns-in_err-begin_copy-clause-moments
returns-in_err-begin_copy-clause-moments g c contents version moving =
    second_moments moving.movable moving.durable c.in_ok-copy_version.ensures.ok c.in_err-begin_copy.ensures.err.moments

pub returns-in_err-begin_copy-clause-map : goal.returns-in_err-begin_copy-clause-map
returns-in_err-begin_copy-clause-map g c contents version s moving map =
    moving_holds moving.current_is moving.movable s map (returns-in_err-begin_copy-clause-moments g c contents version moving)

-- ---- the end

pub returns-clause-moved : goal.returns-clause-moved
returns-clause-moved g c =
    on_ok_weaker c.erase_begin.result
    (λ erased contents version moving.
    moved_durable moving.movable _ (begun_durable moving.movable _ moving.durable c.in_ok-copy_version.ensures.ok c.in_ok-begin_copy.ensures.ok) erased)
    c.erase_begin.ensures.ok

pub returns-clause-freed : goal.returns-clause-freed
returns-clause-freed g c =
    on_ok_weaker c.erase_begin.result
    (λ erased image is. stored_one (entry_word c.args.from.0 0) 0 (entry_line c.args.from.0) (omega arith) erased image is) c.erase_begin.ensures.ok

pub returns-clause-stamps : goal.returns-clause-stamps
returns-clause-stamps g c =
    on_ok_weaker c.erase_begin.result
    (λ erased. stamps_kept (may_copy c.requires.2) (apart c.requires.2.movable) c.in_ok-copy_version.ensures.ok c.in_ok-begin_copy.ensures.ok erased)
    c.erase_begin.ensures.ok

pub returns-clause-line_count : goal.returns-clause-line_count
returns-clause-line_count g c =
    on_both c.erase_begin.result (on_ok_weaker c.erase_begin.result (λ erased. erased.stays.lines) c.erase_begin.ensures.ok)
    (on_err_weaker c.erase_begin.result (λ failed. failed.stays.lines) c.erase_begin.ensures.err)
    ∙ c.in_ok-begin_copy.ensures.ok.stays.lines ∙ c.in_ok-copy_version.ensures.ok.stays.lines

pub returns-clause-asked_moment : goal.returns-clause-asked_moment
returns-clause-asked_moment g c =
    on_both c.erase_begin.result (on_ok_weaker c.erase_begin.result (λ erased. erased.stays.kept) c.erase_begin.ensures.ok)
    (on_err_weaker c.erase_begin.result (λ failed. failed.stays.kept) c.erase_begin.ensures.err)
    ∙ c.in_ok-begin_copy.ensures.ok.stays.kept ∙ c.in_ok-copy_version.ensures.ok.stays.kept

pub returns-clause-moments : goal.returns-clause-moments
returns-clause-moments g c contents version moving =
    third_moments moving.movable moving.durable c.in_ok-copy_version.ensures.ok c.in_ok-begin_copy.ensures.ok
    (on_both c.erase_begin.result (on_ok_weaker c.erase_begin.result (λ erased. erased.moments) c.erase_begin.ensures.ok)
    (on_err_weaker c.erase_begin.result (λ failed. failed.moments) c.erase_begin.ensures.err))

pub returns-clause-left : goal.returns-clause-left
returns-clause-left g c =
    on_err_weaker c.erase_begin.result (λ failed contents version moving image is. (returns-clause-moments g c contents version moving).each image (inl is))
    c.erase_begin.ensures.err

pub returns-clause-map : goal.returns-clause-map
returns-clause-map g c contents version s moving map =
    moving_holds moving.current_is moving.movable s map (returns-clause-moments g c contents version moving)
