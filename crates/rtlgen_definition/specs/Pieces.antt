-- Nodes in the making (Leroy 2009, section 3.2: control-flow graphs). A piece of code is made from its end: the node where
-- it goes on is known, and so is how many nodes stand already; what it adds has the numbers behind those.
use Rattle.std.specs.Prelude.{ℕ, suc, ◌+◌, List, [], ◌∷◌, ◌++◌, length}
use Rattle.ints.specs.declared.conditions.Cond.TheVariants.{Nz}
use Rattle.rtl_acts.specs.declared.arguments.Arguments.TheVariants.{One}
use Rattle.rtl_acts.specs.declared.act.Act.TheVariants.{Nop}
use Rattle.rtl_language.specs.declared.instruction.Instruction.{Instruction}
use Rattle.rtl_language.specs.declared.instruction.Instruction.TheVariants.{Do, Branch}

-- the nodes that are added, in order, and the node where the code begins
pub record Made : Type 0 where
  pub nodes : List Instruction
  pub entry : ℕ

-- code that goes on at the first number's node, where the second number of nodes stand already
abbrev pub Piece : Type 0
Piece = ℕ → ℕ → Made

-- nothing is to be done
abbrev pub nothing : Piece
nothing next count = record { nodes = []; entry = next }

-- one node, which may name where it goes on
abbrev pub one : (ℕ → Instruction) → Piece
one node next count = record { nodes = node next ∷ []; entry = count }

-- what is made last stands before what was made already
abbrev pub in_front : Piece → ℕ → Made → Made
in_front first count last =
    let front = first last.entry (count + length last.nodes) in
    record { nodes = last.nodes ++ front.nodes; entry = front.entry }

-- one after the other: the second is made first
abbrev pub both : Piece → Piece → Piece
both first second next count = in_front first count (second next count)

-- a branch to what was made for a register that is not 0, or to what was made before that
abbrev pub branched : ℕ → ℕ → Made → Made → Made
branched r count taken other = record {
  nodes = other.nodes ++ (taken.nodes ++ Branch (record { condition = Nz; arguments = One r }) taken.entry other.entry ∷ []);
  entry = count + length other.nodes + length taken.nodes;
}

-- the first where the register is not 0, else the second, which is made first
abbrev pub either : ℕ → Piece → Piece → Piece
either r taken other next count =
    let last = other next count in
    branched r count (taken next (count + length last.nodes)) last

-- again and again: the head stands first, goes on to the body, and is where the body goes on
abbrev pub again : Piece → Piece
again body next count =
    let turn = body count (suc count) in
    record { nodes = Do Nop turn.entry ∷ turn.nodes; entry = count }
