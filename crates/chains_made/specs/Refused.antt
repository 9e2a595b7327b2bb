-- Why a checked program is not compiled.
use Rattle.std.specs.Prelude.{◌≡◌}
use Rattle.lang_base.specs.declared.program.Program.{Program}
use Rattle.lang_base.specs.declared.errors.PassError.TheVariants as pass
use Rattle.cminor_syntax.specs.Trees.{FunctionTree}
use Rattle.chains.specs.LinkError.{LinkError}
use Rattle.chains.specs.LinkError.TheVariants as link
use Rattle.chains.specs.Refused.{HasNoTranslation}
use Rattle.chains_made.specs.declared.errors.CompileError.{CompileError}
use Rattle.chains_made.specs.declared.errors.CompileError.TheVariants.{Link, Pass}

-- memory was refused
abbrev pub IsNoMemory : CompileError → Type 0
IsNoMemory (Link fault) = fault ≡ link.NoMemory
IsNoMemory (Pass fault) = fault ≡ pass.NoMemory

-- memory was refused, or this is the first function that needs too many nodes; nothing else is told
abbrev pub IsRefused : Program FunctionTree → CompileError → Type 0
IsRefused program (Link fault) = HasNoTranslation program fault
IsRefused program (Pass fault) = fault ≡ pass.NoMemory
