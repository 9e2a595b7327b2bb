-- Where an instruction can go on, as a list.
use Rattle.std.specs.Prelude.{ℕ, List, [], ◌∷◌}
use Rattle.rtl_passes_facts.specs.declared.edges.Edges.{Edges}
use Rattle.rtl_passes_facts.specs.declared.edges.Edges.TheVariants.{NoNode, OneNode, TwoNodes}

abbrev pub nodes_of : Edges → List ℕ
nodes_of NoNode = []
nodes_of (OneNode first) = first ∷ []
nodes_of (TwoNodes first second) = first ∷ second ∷ []
