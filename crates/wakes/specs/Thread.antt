-- What a contract sees of a waker, and of where a thread sleeps: whose they are.
use Rattle.atomic_table.specs.Seated.{TableId}

-- Each thread that sleeps has a word of its own, where it is woken. That word stands for the thread.
abbrev pub Thread : Type 0
Thread = TableId
