-- The edges of a function's graph.
use Rattle.std.specs.Prelude.{ℕ, suc, List, [], ◌∷◌, ◌++◌, nat_eq, if◌then◌else◌}
use Rattle.rtl_passes.specs.Instruction.{Instruction}
use Rattle.rtl_passes.specs.Instruction.TheVariants.{Do, Call, Branch, Return}

-- where an edge of an instruction leads, whether or not it can be taken: the two arms of a branch are two edges
abbrev pub edges_of : Instruction → List ℕ
edges_of (Do act successor) = successor ∷ []
edges_of (Call function arguments target successor) = successor ∷ []
edges_of (Branch test taken other) = taken ∷ other ∷ []
edges_of (Return value) = []

-- this node, once for each of the edges that leads to s
abbrev pub each_to : ℕ → List ℕ → ℕ → List ℕ
each_to n [] s = []
each_to n (t ∷ ts) s = if nat_eq t s then n ∷ each_to n ts s else each_to n ts s

-- the nodes from which an edge comes to s, each once for each edge; the first of the nodes has this number
abbrev pub sources_from : ℕ → List Instruction → ℕ → List ℕ
sources_from n [] s = []
sources_from n (i ∷ is) s = each_to n (edges_of i) s ++ sources_from (suc n) is s

abbrev pub sources : List Instruction → ℕ → List ℕ
sources nodes s = sources_from 0 nodes s
