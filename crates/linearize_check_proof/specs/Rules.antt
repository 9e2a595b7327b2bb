-- What the pass accepts.
use Rattle.std.specs.Prelude.{◌≡◌, ℕ, List}
use Rattle.ltl.specs.Function as ltl
use Rattle.linear_language.specs.Function as linear
use Rattle.linearize_check_proof.specs.Layout.{order_code}
use Rattle.linearize_check_proof.specs.Orders.{IsOrder}

-- the same parameters and slots
pub record HasFrame (input : ltl.FunctionData) (output : linear.FunctionData) : Type 0 where
  pub parameters : output.parameters ≡ input.parameters
  pub slots : output.slots ≡ input.slots

-- The output is the input's blocks laid out in an order that is allowed, in the same frame.
pub record IsLaidOut (input : ltl.FunctionData) (output : linear.FunctionData) (order : List ℕ) : Type 0 where
  pub allowed : IsOrder input order
  pub frame : HasFrame input output
  pub code : output.code ≡ order_code input.blocks order

-- the output that is laid out by an order
abbrev pub laid_out : ltl.FunctionData → List ℕ → linear.FunctionData
laid_out input order = record { parameters = input.parameters; slots = input.slots; code = order_code input.blocks order }
