-- The generators of a farm's nodes.
use Rattle.std.specs.Prelude.{ℕ, zero, suc, List, [], ◌∷◌, ◌++◌}
use Rattle.rand_pcg.specs.Lcg.{Lcg, increment_of, started}
use Rattle.rand_pcg.specs.Pcg.{multiplier_64}

-- the generator of a node: that of the seed, on the stream of the node's number
abbrev pub generator_of : ℕ → ℕ → Lcg
generator_of seed node = started 64 multiplier_64 seed (increment_of 64 node)

-- those of the first nodes, in their order
abbrev pub generators : ℕ → ℕ → List Lcg
generators seed zero = []
generators seed (suc node) = generators seed node ++ generator_of seed node ∷ []
