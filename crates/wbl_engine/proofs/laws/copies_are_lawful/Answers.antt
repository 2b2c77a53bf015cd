use Rattle.wbl_engine.proofs.CopyLaws.{copy_consistent, copy_lawful, more_copy, none_copy}
use Rattle.wbl_engine.proofs.laws.copies_are_lawful.Goals as goal

pub returns-clause-begins : goal.returns-clause-begins
returns-clause-begins c = none_copy

pub returns-clause-goes_on : goal.returns-clause-goes_on
returns-clause-goes_on c contents staged new puts position copy asked are = more_copy position copy asked new are

pub returns-clause-lawful : goal.returns-clause-lawful
returns-clause-lawful c = copy_lawful

pub returns-clause-consistent : goal.returns-clause-consistent
returns-clause-consistent c = copy_consistent
