-- What parameters and a body declare stands before what was declared, so that its end is found by the number of names.
use Rattle.std.proofs.Common.{◌≡◌, ℕ, ◌-◌, ◌≤◌, List, [], ◌∷◌, ◌++◌, length, drop, Option, Some, None, refl, sym, ap, ◌∙◌, append_assoc}
use Rattle.c_syntax.specs.declared.constant.IntegerType.{IntegerType}
use Rattle.c_syntax.specs.declared.identifier.Identifier.{Identifier}
use Rattle.c_syntax.specs.declared.declaration.OpenParameter.{OpenParameter}
use Rattle.c_syntax.specs.Trees.{StatementsTree}
use Rattle.c_checker_rules.specs.Names.{Scope}
use Rattle.c_checker_rules.specs.Locals.{Here}
use Rattle.c_checker_rules.specs.Statements.{after_all}
use Rattle.c_checker_rules.specs.Functions.{with_parameter, with_parameters}
use Rattle.c_checker_declarations.specs.Parameters.{from_none}
use Rattle.c_checker_rules.proofs.Scopes.{Ends, further, after_all_ends, is_longer, shortened}

parameter_ends : (h : Here) (t : IntegerType) (x : Option Identifier) (at : ℕ) → Ends (with_parameter h (record { kind = t; name = x; offset = at })).scope h.scope
parameter_ends h t None at = ([], refl)
parameter_ends h t (Some x) at = (_ ∷ [], refl)

parameters_ends : (h : Here) (ps : List OpenParameter) → Ends (with_parameters h ps).scope h.scope
parameters_ends h [] = ([], refl)
parameters_ends h (p ∷ ps) = further h.scope (with_parameter h p).scope (with_parameters (with_parameter h p) ps).scope (parameters_ends (with_parameter h p) ps) (parameter_ends h p.kind p.name p.offset)

function_ends : (h : Here) (ps : List OpenParameter) (s : StatementsTree) → Ends (after_all 1 (with_parameters h ps) s).scope h.scope
function_ends h ps s = further h.scope (with_parameters h ps).scope (after_all 1 (with_parameters h ps) s).scope (after_all_ends 1 (with_parameters h ps) s) (parameters_ends h ps)

pub function_longer : (scope : Scope) (ps : List OpenParameter) (s : StatementsTree) → length scope ≤ length (after_all 1 (with_parameters (from_none scope) ps) s).scope
function_longer scope ps s = is_longer (after_all 1 (with_parameters (from_none scope) ps) s).scope scope (function_ends (from_none scope) ps s)

pub function_shortened : (scope : Scope) (ps : List OpenParameter) (s : StatementsTree) → drop (length (after_all 1 (with_parameters (from_none scope) ps) s).scope - length scope) (after_all 1 (with_parameters (from_none scope) ps) s).scope ≡ scope
function_shortened scope ps s = shortened (after_all 1 (with_parameters (from_none scope) ps) s).scope scope (function_ends (from_none scope) ps s)

pub prototype_longer : (scope : Scope) (ps : List OpenParameter) → length scope ≤ length (with_parameters (from_none scope) ps).scope
prototype_longer scope ps = is_longer (with_parameters (from_none scope) ps).scope scope (parameters_ends (from_none scope) ps)

pub prototype_shortened : (scope : Scope) (ps : List OpenParameter) → drop (length (with_parameters (from_none scope) ps).scope - length scope) (with_parameters (from_none scope) ps).scope ≡ scope
prototype_shortened scope ps = shortened (with_parameters (from_none scope) ps).scope scope (parameters_ends (from_none scope) ps)
