-- Refusals that say that memory is out.
use Rattle.std.proofs.Common.{◌≡◌, ◌≢◌, refl, sym, subst}
use Rattle.lang_base.specs.declared.program.Program.{Program}
use Rattle.lang_base.specs.declared.errors.PassError.{PassError}
use Rattle.lang_base.specs.declared.errors.PassError.TheVariants.{NoMemory, TooManyRegisters}
use Rattle.cminor_syntax.specs.Trees.{FunctionTree}
use Rattle.chains.specs.Refused.{HasNoTranslation}
use Rattle.chains_made.specs.declared.errors.CompileError.{CompileError}
use Rattle.chains_made.specs.declared.errors.CompileError.TheVariants.{Link, Pass}
use Rattle.chains_made.specs.Refused.{IsNoMemory, IsRefused}

-- where nothing else can be refused, it was memory
pub only_memory : (e : PassError) → (e ≢ NoMemory → ⊥) → e ≡ NoMemory
only_memory NoMemory never = refl
only_memory TooManyRegisters never = absurd (never (λ e. absurd (cc e)))

-- out of memory may be told of any program
pub memory_refused : (program : Program FunctionTree) (e : CompileError) → IsNoMemory e → IsRefused program e
memory_refused program (Link fault) told = subst (λ g. HasNoTranslation program g) (sym told) tt
memory_refused program (Pass fault) told = told
