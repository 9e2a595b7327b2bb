-- The quorums that are asked for, whether they meet or not.
use Rattle.paxos_core_world.specs.Quorum.{Sizes, sizes}
use Rattle.cfarm_options.specs.Sizes.{sizes_of}
use Rattle.cfarm_options.specs.declared.options.AskedSizes.{AskedSizes}
use Rattle.cfarm_options.specs.declared.options.BuildOptions.{BuildOptions}

abbrev pub asked_quorums : AskedSizes → Sizes
asked_quorums asked = sizes asked.nodes asked.promise asked.accept

-- those of a build
abbrev pub quorums_of : BuildOptions → Sizes
quorums_of options = asked_quorums (sizes_of options)
