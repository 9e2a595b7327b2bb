-- A bundle that carries the proof of a text's program, for whoever trusts no node.
use Rattle.std.specs.Prelude.{ℕ, List}
use Rattle.sha2.specs.Sha256.{sha256}
use Rattle.c_syntax.specs.Trees.{UnitTree}
use Rattle.c_texts.specs.Accepted.{IsAccepted}
use Rattle.c_checker_rules.specs.Units.{program_of}
use Rattle.cfarm_build_linking.specs.Carried.{Carries}

-- The text is accepted, and the bundle is one of this very text: its offers come to the program with these bytes, which keeps the text's
-- meaning. So `verify` says yes of the three.
pub record CarriesProof (text program bundle : List ℕ) : Type 0 where
  pub tree : UnitTree
  pub accepted : IsAccepted text tree
  pub carries : Carries (program_of tree) (sha256 text) program bundle
