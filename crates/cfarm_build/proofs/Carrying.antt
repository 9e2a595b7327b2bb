-- What a farm builds of a text carries the proof of it.
use Rattle.std.proofs.Common.{ℕ, List, Option, None, Some, subst}
use Rattle.std.specs.Prelude.{IfSome}
use Rattle.durable_model.specs.declared.disk.Disk as disks
use Rattle.durable_pair.specs.declared.pair.Pair as pairs
use Rattle.rooms_hall.specs.declared.hall.Naming as naming
use Rattle.paxos_core_world.specs.Quorum.{Sizes}
use Rattle.cfarm_build_linking.proofs.Carrying.{carried}
use Rattle.cfarm_build_linking.specs.Carried.{bundle_of}
use Rattle.cfarm_build.specs.Built.{Built, IsBuiltBack, nodes_seen}
use Rattle.sha2.specs.Sha256.{sha256}
use Rattle.c_checker_rules.specs.Checked.{program_tree}
use Rattle.farm_nodes_source.specs.declared.source.Source.{Source}
use Rattle.cfarm_build_linking.specs.Carried.{Carries}
use Rattle.cfarm_build_folder.specs.Prepared.{IsSourceOf}
use Rattle.cfarm_build.specs.Carried.{CarriesProof}

pub carried_of : (text : List ℕ) (source : Source) → IsSourceOf text source → (program : List ℕ) (bundle : Option (List ℕ))
    → IfSome bundle (λ b. Carries (program_tree source.program) source.digest program b) → IfSome bundle (λ b. CarriesProof text program b)
carried_of text source is program None none = tt
carried_of text source is program (Some b) carries = record {
  tree = is.tree;
  accepted = is.accepted;
  carries = subst (λ t. Carries t (sha256 text) program b) is.program
      (subst (λ d. Carries (program_tree source.program) d program b) is.digest carries);
}

-- so does what nodes build whose disks are given back
pub carried_back : {D : Type 0} (disk : disks.Ghosts D) (pair : pairs.Ghosts D) {H : Type 0} (h : naming.Ghosts H) (q : Sizes) (seed turns : ℕ) (source : Source)
    (given back : List D) (built : Built) → IsBuiltBack disk pair h q seed turns source given back built
    → IfSome (bundle_of built) (λ b. Carries (program_tree source.program) source.digest built.program.items b)
carried_back disk pair h q seed turns source given back built is = carried source (nodes_seen is.nodes) built is.are.makes
