-- The number of each refusal and its text, as programs print them (this project's profile).
use Rattle.std.specs.Prelude.{ℕ, List, codes}
use Rattle.kv_types.specs.declared.refusal.Refusal.{Refusal}
use Rattle.kv_types.specs.declared.refusal.Refusal.TheVariants.{Fault, BadMagic, BadVersion, WrongSize, Full, Exhausted, Damaged, SeatsFull, PipeFull, FrameFault, WrongEpoch, PositionGap, StandbyAhead, Memory, NotFenced, WrongRole, NotCopied, WrongPair, WrongLink}

abbrev pub refusal_number : Refusal → ℕ
refusal_number Fault = 1
refusal_number BadMagic = 2
refusal_number BadVersion = 3
refusal_number WrongSize = 4
refusal_number Full = 5
refusal_number Exhausted = 6
refusal_number Damaged = 7
refusal_number SeatsFull = 8
refusal_number PipeFull = 9
refusal_number FrameFault = 10
refusal_number WrongEpoch = 11
refusal_number PositionGap = 12
refusal_number StandbyAhead = 13
refusal_number Memory = 14
refusal_number NotFenced = 15
refusal_number WrongRole = 16
refusal_number NotCopied = 17
refusal_number WrongPair = 18
refusal_number WrongLink = 19

abbrev pub refusal_text : Refusal → List ℕ
refusal_text Fault = codes "device fault"
refusal_text BadMagic = codes "bad magic"
refusal_text BadVersion = codes "bad version"
refusal_text WrongSize = codes "wrong size"
refusal_text Full = codes "full"
refusal_text Exhausted = codes "stamps exhausted"
refusal_text Damaged = codes "damaged image"
refusal_text SeatsFull = codes "seats full"
refusal_text PipeFull = codes "pipe full"
refusal_text FrameFault = codes "frame fault"
refusal_text WrongEpoch = codes "wrong epoch"
refusal_text PositionGap = codes "position gap"
refusal_text StandbyAhead = codes "standby ahead"
refusal_text Memory = codes "out of memory"
refusal_text NotFenced = codes "not fenced"
refusal_text WrongRole = codes "wrong role"
refusal_text NotCopied = codes "not copied"
refusal_text WrongPair = codes "wrong pair"
refusal_text WrongLink = codes "wrong link version"
