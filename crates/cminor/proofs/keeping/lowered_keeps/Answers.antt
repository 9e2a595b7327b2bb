use Rattle.std.proofs.Common.{subst, sym}
use Rattle.lang_base.specs.Keeps.{Keeps}
use Rattle.c_program.specs.Meaning.{crun}
use Rattle.cminor_syntax.specs.Meaning.{run}
use Rattle.cminor_lowering.specs.Programs.{low}
use Rattle.cminor_lowering.proofs.Programs.{lowered_keeps}
use Rattle.c_checker_rules.specs.Units.{program_of}
use Rattle.cminor.proofs.Mains.{program_has_main}
use Rattle.cminor.proofs.keeping.lowered_keeps.Goals as goal

pub returns : goal.returns
returns c =
    let k = c.known.ensures in
    subst (λ p. Keeps (crun p) (run (low p))) (sym k.3) (lowered_keeps (program_of k.0) (program_has_main k.0 k.2))
