-- The bytes of the parts of a function.
use Rattle.std.specs.Prelude.{ℕ, List, [], ◌∷◌, ◌++◌, Option}
use Rattle.std.specs.Int.{w16, w32, to_be_bytes}
use Rattle.lang_base.specs.Texts.{optional_text, counted_text}
use Rattle.ints.specs.Codes.{code_of}
use Rattle.ints.specs.Conditions.{cond_code_of}
use Rattle.rtl_acts.specs.declared.arguments.Arguments.{Arguments}
use Rattle.rtl_acts.specs.declared.arguments.Arguments.TheVariants.{One, Two}
use Rattle.rtl_acts.specs.declared.act.Act.{Act}
use Rattle.rtl_acts.specs.declared.act.Act.TheVariants.{Nop, Constant, Move, Operate, Load, Store, Put}
use Rattle.rtl_acts.specs.declared.test.Test.{Test}

-- a count takes a byte
abbrev pub byte_text : ℕ → List ℕ
byte_text n = n ∷ []

-- a register, a global and a node take two
abbrev pub register_text : ℕ → List ℕ
register_text r = to_be_bytes w16 r

-- three of them
abbrev pub three_text : ℕ → ℕ → ℕ → List ℕ
three_text first second third = register_text first ++ (register_text second ++ register_text third)

-- the number of registers, and the registers
abbrev pub registers_text : List ℕ → List ℕ
registers_text rs = counted_text byte_text register_text rs

-- a register, or none
abbrev pub target_text : Option ℕ → List ℕ
target_text target = optional_text register_text target

abbrev pub arguments_text : Arguments → List ℕ
arguments_text (One a) = register_text a
arguments_text (Two a b) = register_text a ++ register_text b

abbrev pub test_text : Test → List ℕ
test_text test = cond_code_of test.condition ∷ arguments_text test.arguments

-- a plain instruction: its code, and what follows that
abbrev pub act_code : Act → ℕ
act_code Nop = 0
act_code (Constant target word) = 1
act_code (Move target source) = 2
act_code (Operate op target arguments) = 3
act_code (Load target global index) = 4
act_code (Store global index source) = 5
act_code (Put source target) = 7

abbrev pub act_body : Act → List ℕ
act_body Nop = []
act_body (Constant target word) = register_text target ++ to_be_bytes w32 word
act_body (Move target source) = register_text target ++ register_text source
act_body (Operate op target arguments) = code_of op ∷ (register_text target ++ arguments_text arguments)
act_body (Load target global index) = register_text target ++ (to_be_bytes w16 global ++ register_text index)
act_body (Store global index source) = to_be_bytes w16 global ++ (register_text index ++ register_text source)
act_body (Put source target) = register_text source ++ target_text target

-- the registers of the parameters of a function, and the number of its registers
abbrev pub frame_text : List ℕ × ℕ → List ℕ
frame_text frame = registers_text frame.0 ++ to_be_bytes w16 frame.1
