-- A function and its name.
use Rattle.lang_base.specs.declared.program.Named.{Named}
use Rattle.lang_base.specs.declared.program.Program.{Program}
use Rattle.linear_language.specs.Function.{FunctionData}
use Rattle.x86_syntax.specs.declared.function.Function.{Function}
use Rattle.native_lowering_definition.specs.Lowering.{function_of}

-- the native function of the same name
abbrev pub named_of : Program FunctionData → Named FunctionData → Named Function
named_of p f = record { name = f.name; function = function_of p f.function }
