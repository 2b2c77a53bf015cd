-- What the list of those who called answered, each time that it was asked, and what the entrance did.
use Rattle.std.specs.Prelude.{ℕ, List, [], ◌∷◌, ◌++◌, Option, Some, None}
use Rattle.clients.specs.declared.queues.ReplyQueue.{ReplyQueue}
use Rattle.clients.specs.declared.queues.RequestQueue.{RequestQueue}
use Rattle.lobby.specs.declared.arrival.Arrival.{Arrival}
use Rattle.wakes.specs.declared.seat_number.SeatNumber.{SeatNumber}
use Rattle.serving.specs.declared.callers.Answers.{Answers}
use Rattle.serving.specs.declared.callers.Answers.TheVariants.{Nothing, Seat', Nobody'}

-- the number of a seat, or that nobody had called
abbrev pub answer_of : Option SeatNumber → Option ℕ
answer_of (Some seat) = Some seat.number
answer_of None = None

-- the seat of a connection that waited at the entrance, or that none did
abbrev pub seat_of : Option (Arrival RequestQueue ReplyQueue) → Option ℕ
seat_of (Some arrival) = Some arrival.seat
seat_of None = None

-- all answers, in order
abbrev pub answers_of : Answers → List (Option ℕ)
answers_of Nothing = []
answers_of (Seat' seat mark before) = answers_of before ++ Some seat.number ∷ []
answers_of (Nobody' mark before) = answers_of before ++ None ∷ []
