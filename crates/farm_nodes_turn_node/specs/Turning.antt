-- What a turn of a node leaves and tells: of the node before it and behind it.
use Rattle.std.specs.Prelude.{◌≡◌, ◌≢◌, ℕ, None, slice_get}
use Rattle.std.specs.Arc.{arc_value}
use Rattle.durable_model.specs.declared.disk.Disk as disks
use Rattle.acceptor_log_form.specs.declared.errors.LogError.TheVariants as journal
use Rattle.farm_nodes_turn_function.specs.Function.{FunctionData}
use Rattle.rooms_hall.specs.declared.hall.Naming as naming
use Rattle.farm_nodes_turn_function.specs.Fault.TheVariants as faults
use Rattle.farm_nodes_turn_function.specs.Fours.{four_of, fours_of, Four}
use Rattle.farm_nodes_turn_function.specs.Numbers.{function_of, pass_of}
use Rattle.farm_nodes_turn_function.specs.Offers.{ConstantsOffer, ExpressionsOffer, AllocationOffer, OrderOffer}
use Rattle.farm_nodes_turn_function.specs.Turned.{DrawsIn, IsTooLargeFor, LeavesSeats, StandsAfter}
use Rattle.farm_nodes_turn_function.specs.Turns.{AtPlace, OfFunction}
use Rattle.farm_nodes_turn_node.specs.declared.farm_node.FarmNode.{FarmNode}
use Rattle.farm_nodes_turn_node.specs.declared.turn.Turn.{Turn}
use Rattle.farm_nodes_turn_node.specs.declared.turn.Turn.TheVariants as turn
use Rattle.farm_nodes_turn_node.specs.Held.{fault_in, pending_in}
use Rattle.farm_nodes_turn_node.specs.Stood.{IsToldOfTurn, Stops, TurnsInto}
use Rattle.farm_nodes_turn_node.specs.Told.{failure_of}

-- what is said of the seats in the rooms of a function, before and behind
abbrev pub OfSeats : Type 1
OfSeats = Four ConstantsOffer ExpressionsOffer AllocationOffer OrderOffer → Four ConstantsOffer ExpressionsOffer AllocationOffer OrderOffer → Type 0

module _ {D O H : Type 0} {h : naming.Ghosts H} where
  -- so it is of the seats of the room's function
  abbrev pub AtRoom : ℕ → OfSeats → FarmNode D O H h → FarmNode D O H h → Type 0
  AtRoom room P old new = AtPlace four_of P (function_of room) old.seats.items new.seats.items

  -- so it is of that function of the program and its seats
  abbrev pub WithFunction : ℕ → (FunctionData → OfSeats) → FarmNode D O H h → FarmNode D O H h → Type 0
  WithFunction room P old new =
      OfFunction (arc_value old.program).functions (function_of room) (λ function. AtRoom room (P function) old new)

  -- it answers 405, and is as it was
  abbrev pub DoesNothing : FarmNode D O H h → FarmNode D O H h → Turn → Type 0
  DoesNothing old new told = (told ≡ turn.Failed (faults.Journal journal.Stopped)) × (new ≡ old)

  -- the program, and the seats of other functions, are as they were
  pub record StaysElsewhere (room : ℕ) (old new : FarmNode D O H h) : Type 0 where
    pub seats : (f : ℕ) → f ≢ function_of room → slice_get new.seats.items f ≡ slice_get old.seats.items f
    pub program : new.program ≡ old.program

  -- Of the room's function other seats are as they were and all rooms keep their number, and an offer that the node makes has the input that
  -- is asked for. Where the node goes on, it has offered if it knew the input, and nothing is left to promise, to accept or to propose. What
  -- its generator has drawn is said of any turn that it takes.
  pub record LeavesRoom (room : ℕ) (old new : FarmNode D O H h) : Type 0 where
    pub function : old.halted ≡ None → WithFunction room (λ function. LeavesSeats function (pass_of room)) old new
    pub after : new.halted ≡ None → AtRoom room (StandsAfter (pass_of room) old.draws new.draws) old new
    pub draws : old.halted ≡ None → AtRoom room (DrawsIn (pass_of room) old.draws new.draws) old new

  module _ (disk : disks.Ghosts D) where
    -- why the turn failed, where it did
    abbrev pub FailsFor : ℕ → FarmNode D O H h → FarmNode D O H h → Turn → FunctionData → OfSeats
    FailsFor room old new told function =
        Stops disk (IsTooLargeFor function (pass_of room)) old.log new.log
        (pending_in (fours_of new.seats.items) new.halted) (failure_of told)

    -- A node that was not stopped tells the fault that stops it, and there is a cause for that; where it goes on it tells the value that it
    -- learned in the turn, or whether its journal has more records.
    pub record TellsTurn (room : ℕ) (old new : FarmNode D O H h) (told : Turn) : Type 0 where
      pub fault : old.halted ≡ None → failure_of told ≡ fault_in new.halted
      pub cause : old.halted ≡ None → WithFunction room (FailsFor room old new told) old new
      pub value : disk.is_honest old.log.disk → new.halted ≡ None → AtRoom room (IsToldOfTurn disk.seen old.log new.log (pass_of room) told) old new

    -- its journal stands for what it keeps now, and a crash within the turn leaves a beginning of its records
    abbrev pub JournalTurns : FarmNode D O H h → FarmNode D O H h → Type 0
    JournalTurns old new =
        TurnsInto disk old.log new.log (fours_of new.seats.items) new.halted
