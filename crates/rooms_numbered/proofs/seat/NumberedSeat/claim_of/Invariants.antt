use Rattle.rooms_numbered.specs.FunctionOf.{function_of}
use Rattle.rooms_numbered.proofs.seat.NumberedSeat.claim_of.Given as goal

-- the rooms of the seat
abbrev pub ghosts-claim_for : goal.ghosts-claim_for
ghosts-claim_for g a = record { room = function_of a.seat.now }
