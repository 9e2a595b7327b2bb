-- Which tokens stand behind those of a declaration, by the grammar.
use Rattle.std.specs.Prelude.{List, [], ◌∷◌, Option, Some, None}
use Rattle.c_syntax.specs.declared.constant.Constant.{Constant}
use Rattle.c_syntax.specs.declared.identifier.Identifier.{Identifier}
use Rattle.c_syntax.specs.declared.declaration.ReturnType.{ReturnType}
use Rattle.c_syntax.specs.declared.declaration.ReturnType.TheVariants as R
use Rattle.c_syntax.specs.declared.declaration.Parameter.{Parameter}
use Rattle.c_syntax.specs.declared.declaration.OpenParameter.{OpenParameter}
use Rattle.c_syntax.specs.declared.token.Token.{Token}
use Rattle.c_syntax.specs.Trees.{InitialTree, InitializerTree, FunctionTree, DeclarationTree}
use Rattle.c_syntax.specs.Trees as T
use Rattle.c_faults_tokens.specs.Tokens.{next, behind_type, behind_expression, behind_statements}

abbrev pub behind_result : ReturnType → List Token → List Token
behind_result R.Void ts = next ts
behind_result (R.Value k) ts = behind_type k ts

-- parameters, each behind a comma
abbrev pub behind_others : List Parameter → List Token → List Token
behind_others [] ts = ts
behind_others (p ∷ ps) ts = behind_others ps (next (behind_type p.kind (next ts)))

-- parameters with a comma between each two; none are written `void`
abbrev pub behind_parameters : List Parameter → List Token → List Token
behind_parameters [] ts = next ts
behind_parameters (p ∷ ps) ts = behind_others ps (next (behind_type p.kind ts))

abbrev pub behind_name : Option Identifier → List Token → List Token
behind_name None ts = ts
behind_name (Some x) ts = next ts

-- the same of parameters that may have no name
abbrev pub behind_more_open : List OpenParameter → List Token → List Token
behind_more_open [] ts = ts
behind_more_open (p ∷ ps) ts = behind_more_open ps (behind_name p.name (behind_type p.kind (next ts)))

abbrev pub behind_open : List OpenParameter → List Token → List Token
behind_open [] ts = next ts
behind_open (p ∷ ps) ts = behind_more_open ps (behind_name p.name (behind_type p.kind ts))

abbrev pub behind_more_initials : List InitialTree → List Token → List Token
behind_more_initials [] ts = ts
behind_more_initials (i ∷ is) ts = behind_more_initials is (behind_expression i.value (next ts))

abbrev pub behind_initials : List InitialTree → List Token → List Token
behind_initials [] ts = ts
behind_initials (i ∷ is) ts = behind_more_initials is (behind_expression i.value ts)

abbrev pub behind_initializer : Option InitializerTree → List Token → List Token
behind_initializer None ts = ts
behind_initializer (Some (T.Single i)) ts = behind_expression i.value (next ts)
behind_initializer (Some (T.Braced is)) ts = next (behind_initials is (next (next ts)))

abbrev pub behind_size : Option Constant → List Token → List Token
behind_size None ts = ts
behind_size (Some c) ts = next (next (next ts))

-- the tokens of a function's body, behind its brace
abbrev pub body_tokens : FunctionTree → List Token → List Token
body_tokens f ts = next (next (behind_parameters f.parameters (next (next (behind_result f.result ts)))))

abbrev pub behind_declaration : DeclarationTree → List Token → List Token
behind_declaration (T.Global g) ts = next (behind_initializer g.initializer (behind_size g.size (next (behind_type g.kind ts))))
behind_declaration (T.Function f) ts = next (behind_statements f.body (body_tokens f ts))
behind_declaration (T.Prototype' p) ts = next (next (behind_open p.parameters (next (next (behind_result p.result ts)))))
