use Rattle.machine.proofs.TransactionLemmas.{opened_where, read_off}
use Rattle.machine.proofs.WatchedLemmas.{some_modified, exec_answers}
use Rattle.machine.proofs.laws.transactions_are_read_off_the_list.Goals as goal

pub returns-clause-read : goal.returns-clause-read
returns-clause-read c =
    λ calls legal d.
    record {
      open_where = (opened_where d calls legal, λ o. (read_off d calls legal o).is_open);
      queue = λ o. (read_off d calls legal o).queue;
      spoiled = λ o. (read_off d calls legal o).spoiled;
      modified_where = some_modified d calls legal;
    }

pub returns-clause-exec : goal.returns-clause-exec
returns-clause-exec c = exec_answers
