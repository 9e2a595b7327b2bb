-- The bytes of a function of LTL.
use Rattle.std.specs.Prelude.{ℕ, List, [], ◌∷◌, ◌++◌, Option, Some, None}
use Rattle.std.specs.Int.{w16, to_be_bytes}
use Rattle.lang_base.specs.Texts.{counted_text}
use Rattle.machine.specs.declared.act.Act.{Act}
use Rattle.machine.specs.Move.{Move}
use Rattle.machine.specs.Spelling.{act_code, act_body, call_text, moves_text, test_text, value_text, frame_text}
use Rattle.ltl.specs.declared.block.Block.{Block}
use Rattle.ltl.specs.declared.block.Body.{Body}
use Rattle.ltl.specs.declared.block.Body.TheVariants.{Go, Call, Branch, Return}
use Rattle.ltl.specs.Function.{FunctionData}

-- an act, or nothing to do: its code, and what follows that
abbrev pub any_code : Option Act → ℕ
any_code None = 0
any_code (Some act) = act_code act

abbrev pub any_body : Option Act → List ℕ
any_body None = []
any_body (Some act) = act_body act

-- the successor, and the moves behind the instruction
abbrev pub going_text : ℕ × List Move → List ℕ
going_text p = to_be_bytes w16 p.0 ++ moves_text p.1

-- a body: its code, and what follows that
abbrev pub body_code : Body → ℕ
body_code (Go act after successor) = any_code act
body_code (Call function arguments target after successor) = 6
body_code (Branch test taken other) = 8
body_code (Return value) = 9

abbrev pub body_body : Body → List ℕ
body_body (Go act after successor) = any_body act ++ going_text (successor, after)
body_body (Call function arguments target after successor) = call_text (function, (arguments, target)) ++ going_text (successor, after)
body_body (Branch test taken other) = test_text test ++ (to_be_bytes w16 taken ++ to_be_bytes w16 other)
body_body (Return value) = value_text value

abbrev pub body_text : Body → List ℕ
body_text b = body_code b ∷ body_body b

-- the first moves, and the body
abbrev pub block_text : Block → List ℕ
block_text b = moves_text b.before ++ body_text b.body

-- the entry, the number of blocks, and the blocks
abbrev pub graph_text : ℕ × List Block → List ℕ
graph_text g = to_be_bytes w16 g.0 ++ counted_text (to_be_bytes w16) block_text g.1

-- the first byte of a function of LTL
abbrev pub tag : ℕ
tag = 3

-- the tag, the parameters and slots, and the graph
abbrev pub spelling : FunctionData → List ℕ
spelling f = tag ∷ frame_text (f.parameters, f.slots) ++ graph_text (f.entry, f.blocks)
