-- The code of a function's blocks in an order (Leroy 2009, section 10: linearization, with the branches' labels in it).
use Rattle.std.specs.Prelude.{ℕ, List, [], ◌∷◌, Option, Some, None, Bool, false, nat_eq, slice_get, if◌then◌else◌}
use Rattle.linear_language.specs.Move.{Move}
use Rattle.linear_language.specs.Act.{Act}
use Rattle.ltl.specs.declared.block.Block.{Block}
use Rattle.ltl.specs.declared.block.Body.{Body}
use Rattle.ltl.specs.declared.block.Body.TheVariants as body
use Rattle.linear_language.specs.declared.instruction.Instruction.{Instruction}
use Rattle.linear_language.specs.declared.instruction.Instruction.TheVariants.{Do, Copy, Call, Branch, Return, Label, Goto}

-- moves, each an instruction, in front of the rest
abbrev pub copies : List Move → List Instruction → List Instruction
copies [] rest = rest
copies (m ∷ ms) rest = Copy m ∷ copies ms rest

-- an act, if there is one, in front of the rest
abbrev pub act_code : Option Act → List Instruction → List Instruction
act_code None rest = rest
act_code (Some act) rest = Do act ∷ rest

-- whether a node is listed next
abbrev pub is_next : ℕ → List ℕ → Bool
is_next s [] = false
is_next s (n ∷ ns) = nat_eq s n

-- a jump to a node, unless it is listed next
abbrev pub jump : ℕ → List ℕ → List Instruction → List Instruction
jump s behind rest = if is_next s behind then rest else Goto s ∷ rest

-- a body, where these nodes are listed behind it and this is their code
abbrev pub body_code : Body → List ℕ → List Instruction → List Instruction
body_code (body.Go act after successor) behind rest = act_code act (copies after (jump successor behind rest))
body_code (body.Call function arguments target after successor) behind rest = Call function arguments target ∷ copies after (jump successor behind rest)
body_code (body.Branch test taken other) behind rest = Branch test taken ∷ jump other behind rest
body_code (body.Return value) behind rest = Return value ∷ rest

-- a node's stretch of the code: its label, its first moves and its body
abbrev pub stretch : ℕ → Option Block → List ℕ → List Instruction → List Instruction
stretch n None behind rest = rest
stretch n (Some b) behind rest = Label n ∷ copies b.before (body_code b.body behind rest)

-- the stretches of the listed nodes, in order
abbrev pub order_code : List Block → List ℕ → List Instruction
order_code blocks [] = []
order_code blocks (n ∷ ns) = stretch n (slice_get blocks n) ns (order_code blocks ns)

-- where a body goes on
abbrev pub successors : Body → List ℕ
successors (body.Go act after successor) = successor ∷ []
successors (body.Call function arguments target after successor) = successor ∷ []
successors (body.Branch test taken other) = taken ∷ other ∷ []
successors (body.Return value) = []

-- where a block goes on
abbrev pub successors_of : Option Block → List ℕ
successors_of None = []
successors_of (Some b) = successors b.body
