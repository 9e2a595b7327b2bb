-- Where nodes stand in a graph.
use Rattle.std.proofs.Common.{◌≡◌, ℕ, suc, ◌+◌, List, [], ◌∷◌, ◌++◌, length, Some, refl, subst, arith}
use Rattle.std.specs.Prelude.{slice_get}
use Rattle.rtl_language.specs.declared.instruction.Instruction.{Instruction}

-- these nodes are the graph's from a number on
abbrev pub Stands : List Instruction → ℕ → List Instruction → Type 0
Stands graph count [] = Unit {0}
Stands graph count (i ∷ nodes) = (slice_get graph count ≡ Some i) × Stands graph (suc count) nodes

pub stands_front : (graph xs ys : List Instruction) (count : ℕ) → Stands graph count (xs ++ ys) → Stands graph count xs
stands_front graph [] ys count h = tt
stands_front graph (x ∷ xs) ys count h = (h.0, stands_front graph xs ys (suc count) h.1)

pub stands_behind : (graph xs ys : List Instruction) (count : ℕ) → Stands graph count (xs ++ ys) → Stands graph (count + length xs) ys
stands_behind graph [] ys count h =
    let e : count ≡ count + 0 = omega arith in
    subst (λ n. Stands graph n ys) e h
stands_behind graph (x ∷ xs) ys count h =
    let e : suc count + length xs ≡ count + suc (length xs) = omega arith in
    subst (λ n. Stands graph n ys) e (stands_behind graph xs ys (suc count) h.1)

stands_shifted : (x : Instruction) (graph nodes : List Instruction) (count : ℕ) → Stands graph count nodes → Stands (x ∷ graph) (suc count) nodes
stands_shifted x graph [] count h = tt
stands_shifted x graph (i ∷ nodes) count h = (h.0, stands_shifted x graph nodes (suc count) h.1)

-- a graph's nodes are its own
pub stands_whole : (graph : List Instruction) → Stands graph 0 graph
stands_whole [] = tt
stands_whole (i ∷ graph) = (refl, stands_shifted i graph graph 0 (stands_whole graph))
