-- What three nodes have agreed on for an LTL function.
use Rattle.std.specs.Prelude.{◌≡◌, ℕ, List}
use Rattle.lang_base.specs.Keeps.{Keeps}
use Rattle.lang_base.specs.declared.program.Global.{Global}
use Rattle.offers.specs.OneFunction.{program_of_one}
use Rattle.offers.specs.declared.parts.Parts.{Parts}
use Rattle.ltl.specs.Function as ltl
use Rattle.ltl.specs.Meaning as ltl_meaning
use Rattle.linear_language.specs.Function as linear
use Rattle.linear_language.specs.Meaning as linear_meaning
use Rattle.linear_language.specs.Spelling as linear_spelling
use Rattle.linearize_check_proof.specs.Rules.{IsLaidOut}
use Rattle.rooms.specs.SeatValue.{SeatValue}
use Rattle.cfarm_settle_nodes.specs.Agreed.{HaveAgreed}

-- a node's seat of a room of pass 4
abbrev pub SeatOfLayouts : Type 0
SeatOfLayouts = SeatValue (Parts ltl.FunctionData linear.FunctionData (List ℕ))

-- the seats of three nodes of such a room
abbrev pub Seats : Type 0
Seats = SeatOfLayouts × SeatOfLayouts × SeatOfLayouts

-- The nodes of these seats have agreed on the code for the LTL function: it is that of the offer of a node whose number all three have
-- learned in a run of the protocol, the Linear function that the LTL function is laid out as in the offer's order. A program of it
-- alone keeps the meaning of the LTL function's.
pub record AgreeOn (seats : Seats) (function : ltl.FunctionData) (code : List ℕ) : Type 0 where
  pub offer : Parts ltl.FunctionData linear.FunctionData (List ℕ)
  pub node : ℕ
  pub input : offer.input ≡ function
  pub laid_out : IsLaidOut offer.input offer.output offer.certificate
  pub agreed : HaveAgreed node offer seats.0 seats.1 seats.2
  pub keeps : (globals : List Global) (name : List ℕ) →
      Keeps (ltl_meaning.run (program_of_one globals name offer.input)) (linear_meaning.run (program_of_one globals name offer.output))
  pub spelled : code ≡ linear_spelling.spelling offer.output
