-- How many nodes a farm has, and of how many of them its two quorums consist.
use Rattle.std.specs.Prelude.{ℕ, ◌+◌, ◌/◌, ◌≤◌, List, ◌++◌, Option, Some, None, codes}
use Rattle.std.specs.Fmt.{decimal}
use Rattle.cfarm_options.specs.declared.options.AskedSizes.{AskedSizes}
use Rattle.cfarm_options.specs.declared.options.BuildOptions.{BuildOptions}
use Rattle.cfarm_options.specs.declared.options.Nodes.{Nodes}
use Rattle.cfarm_options.specs.declared.options.Nodes.TheVariants.{Two, Three, Four, Five, Six, Seven}

abbrev pub count_of : Nodes → ℕ
count_of Two = 2
count_of Three = 3
count_of Four = 4
count_of Five = 5
count_of Six = 6
count_of Seven = 7

-- so many nodes a farm can have
abbrev pub AreOfNodes : ℕ → Type 0
AreOfNodes n = (2 ≤ n) × (n ≤ 7)

-- a quorum's size, which is more than half of the nodes where none is said
abbrev pub size_of : ℕ → Option ℕ → ℕ
size_of nodes None = nodes / 2 + 1
size_of nodes (Some size) = size

abbrev pub sizes_of : BuildOptions → AskedSizes
sizes_of o = record {
  nodes = count_of o.nodes;
  promise = size_of (count_of o.nodes) o.promise;
  accept = size_of (count_of o.nodes) o.accept;
}

-- the line for sizes that do not meet
abbrev pub sizes_line : AskedSizes → List ℕ
sizes_line s = codes "quorums " ++ (decimal s.nodes ++ (codes " " ++ (decimal s.promise ++ (codes " " ++ decimal s.accept))))
