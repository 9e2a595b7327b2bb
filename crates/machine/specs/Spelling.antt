-- The bytes of the parts that LTL and Linear share.
use Rattle.std.specs.Prelude.{ℕ, List, [], ◌∷◌, ◌++◌}
use Rattle.std.specs.Int.{w16, w32, to_be_bytes}
use Rattle.ints.specs.Codes.{code_of}
use Rattle.ints.specs.Conditions.{cond_code_of}
use Rattle.locations.specs.Spelling.{value_text}
use Rattle.machine.specs.declared.arguments.Arguments.{Arguments}
use Rattle.machine.specs.declared.arguments.Arguments.TheVariants.{One, Two}
use Rattle.machine.specs.declared.act.Act.{Act}
use Rattle.machine.specs.declared.act.Act.TheVariants.{Constant, Operate, Load, Store, Put}
use Rattle.machine.specs.declared.test.Test.{Test}
pub use Rattle.locations.specs.Spelling.{byte_text, value_text, location_code, location_body, location_text, locations_text, target_text, move_text, moves_text, call_text, frame_text}

abbrev pub arguments_text : Arguments → List ℕ
arguments_text (One a) = a ∷ []
arguments_text (Two a b) = a ∷ b ∷ []

abbrev pub test_text : Test → List ℕ
test_text test = cond_code_of test.condition ∷ arguments_text test.arguments

-- a plain instruction: its code, and what follows that
abbrev pub act_code : Act → ℕ
act_code (Constant target word) = 1
act_code (Operate op target arguments) = 3
act_code (Load target global index) = 4
act_code (Store global index source) = 5
act_code (Put source target) = 7

abbrev pub act_body : Act → List ℕ
act_body (Constant target word) = target ∷ to_be_bytes w32 word
act_body (Operate op target arguments) = code_of op ∷ target ∷ arguments_text arguments
act_body (Load target global index) = target ∷ (to_be_bytes w16 global ++ index ∷ [])
act_body (Store global index source) = to_be_bytes w16 global ++ index ∷ source ∷ []
act_body (Put source target) = source ∷ value_text target
