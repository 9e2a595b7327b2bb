-- How declarations are read. The number is the fuel: an initial expression or a function that is higher is not read.
use Rattle.std.specs.Prelude.{ℕ, Bool, true, false, List, [], ◌∷◌, Option, Some, None, Result, Ok, Err, ◌||◌}
use Rattle.c_syntax.specs.declared.constant.Constant.{Constant}
use Rattle.c_syntax.specs.declared.constant.IntegerType.{IntegerType}
use Rattle.c_syntax.specs.declared.keyword.Keyword.TheVariants as K
use Rattle.c_syntax.specs.declared.punctuator.Punctuator.TheVariants.{LeftParenthesis, RightParenthesis, LeftBracket, RightBracket, LeftBrace, RightBrace, Semicolon, Assign}
use Rattle.c_syntax.specs.declared.token.Token.{Token}
use Rattle.c_syntax.specs.declared.declaration.ReturnType.{ReturnType}
use Rattle.c_syntax.specs.declared.declaration.ReturnType.TheVariants as R
use Rattle.c_syntax.specs.declared.declaration.Parameter.{Parameter}
use Rattle.c_syntax.specs.declared.declaration.OpenParameter.{OpenParameter}
use Rattle.c_syntax.specs.declared.declaration.Prototype.{Prototype}
use Rattle.c_syntax.specs.Trees.{StatementsTree, InitialTree, InitializerTree, GlobalTree, FunctionTree, DeclarationTree}
use Rattle.c_syntax.specs.Trees as T
use Rattle.c_reader_tokens.specs.declared.fault.Fault.{Fault}
use Rattle.c_reader_tokens.specs.Reading.{Reading, ◌>>=◌, misfit}
use Rattle.c_reader_tokens.specs.Peeking.{is_sign_next, is_word_next, is_name_next, is_call_next}
use Rattle.c_reader_tokens.specs.Tokens.{sign, word, placed_name, constant, integer_type}
use Rattle.c_reader_expression_laws.specs.Reading.{expression_at}
use Rattle.c_reader_productions.specs.Combining.{◌▷◌, ◌◁◌, ◌&◌, made, either, missing, there, each, commas}
use Rattle.c_reader_productions.specs.Parts.{under}
use Rattle.c_reader_statement_laws.specs.Reading.{block_in, statement_at}
use Rattle.c_reader_declaration_laws.specs.Parameters.{all_named}

-- where the next token begins, which is left
abbrev pub here : Reading ℕ
here [] = misfit []
here (t ∷ ts) = Ok (t.start, t ∷ ts)

unfoldable pub initial : ℕ → Reading InitialTree
initial fuel ts = made (λ v. record { value = v.1; offset = v.0 }) (here & expression_at fuel 0) ts

unfoldable pub initializer : ℕ → Reading InitializerTree
initializer fuel ts = either (is_sign_next LeftBrace)
    (made (λ is. T.Braced is) (sign LeftBrace ▷ commas (initial fuel) ◁ sign RightBrace))
    (made (λ i. T.Single i) (initial fuel)) ts

unfoldable pub size : Reading (Option Constant)
size ts = either (is_sign_next LeftBracket) (there (sign LeftBracket ▷ constant ◁ sign RightBracket)) missing ts

-- what a global begins with
unfoldable pub beginning : ℕ → Reading (Option InitializerTree)
beginning fuel ts = either (is_sign_next Assign) (there (sign Assign ▷ initializer fuel)) missing ts

unfoldable pub global : ℕ → Reading GlobalTree
global fuel ts = made (λ v. record { kind = v.0; name = v.1.0; size = v.1.1.0; initializer = v.1.1.1 })
    (integer_type & placed_name & size & beginning fuel ◁ sign Semicolon) ts

unfoldable pub open_parameter : Reading OpenParameter
open_parameter ts = made (λ v. record { kind = v.1.0; name = v.1.1; offset = v.0 })
    (here & integer_type & either is_name_next (there placed_name) missing) ts

-- no parameters are written `void`
unfoldable pub open_parameters : Reading (List OpenParameter)
open_parameters ts = either (is_word_next K.Void) (word K.Void ▷ (λ rest. Ok ([], rest))) (commas open_parameter) ts

unfoldable pub return_type : Reading ReturnType
return_type ts = either (is_word_next K.Void) (word K.Void ▷ (λ rest. Ok (R.Void, rest))) (made (λ t. R.Value t) integer_type) ts

-- what a function and its prototype begin with alike
unfoldable pub heading : Reading Prototype
heading ts = made (λ v. record { result = v.0; name = v.1.0; parameters = v.1.1 })
    (return_type & placed_name & sign LeftParenthesis ▷ open_parameters ◁ sign RightParenthesis) ts

-- A body is as high as the block that it is.
unfoldable pub body : ℕ → Reading StatementsTree
body fuel ts = under (λ r. block_in (statement_at r)) fuel ts

-- A function's parameters have names: behind others no body fits.
abbrev pub function : ℕ → Prototype → Option (List Parameter) → Reading DeclarationTree
function fuel p None ts = misfit ts
function fuel p (Some named) ts =
    made (λ s. T.Function (record { result = p.result; name = p.name; parameters = named; body = s })) (body fuel) ts

-- a function where a body is next, else a prototype
unfoldable pub headed : ℕ → Prototype → Reading DeclarationTree
headed fuel p ts = either (is_sign_next LeftBrace) (function fuel p (all_named p.parameters))
    (sign Semicolon ▷ (λ rest. Ok (T.Prototype' p, rest))) ts

unfoldable pub callable : ℕ → Reading DeclarationTree
callable fuel ts = do
  h ← heading ts
  headed fuel h.0 h.1

-- `(` behind a type and a name
abbrev pub is_call_behind : Result (IntegerType × List Token) Fault → Bool
is_call_behind (Err e) = false
is_call_behind (Ok t) = is_call_next t.1

-- A function or a prototype begins with `void`, or with a type, a name and `(`.
unfoldable pub is_callable_next : List Token → Bool
is_callable_next ts = is_word_next K.Void ts || is_call_behind (integer_type ts)

unfoldable pub declaration : ℕ → Reading DeclarationTree
declaration fuel ts = either is_callable_next (callable fuel) (made (λ g. T.Global g) (global fuel)) ts

abbrev pub is_next_there : List Token → Bool
is_next_there [] = false
is_next_there (t ∷ ts) = true

-- declarations up to the end
unfoldable pub declarations : ℕ → Reading (List DeclarationTree)
declarations fuel ts = each is_next_there (declaration fuel) ts
