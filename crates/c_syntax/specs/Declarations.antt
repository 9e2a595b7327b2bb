-- Which tokens spell a text (C99 6.7 and 6.9):
--   unit      = { global | function | prototype }
--   global    = type name [ "[" const "]" ] [ "=" init ] ";"
--   init      = expr | "{" expr { "," expr } "}"
--   function  = rtype name "(" ( "void" | type name { "," type name } ) ")" block
--   prototype = rtype name "(" ( "void" | type [name] { "," type [name] } ) ")" ";"
--   rtype     = type | "void"
use Rattle.std.specs.Prelude.{◌≡◌, ℕ, List, [], ◌∷◌}
use Rattle.c_syntax.specs.declared.constant.Constant.{Constant}
use Rattle.c_syntax.specs.declared.keyword.Keyword.TheVariants as K
use Rattle.c_syntax.specs.declared.punctuator.Punctuator.TheVariants.{LeftParenthesis, RightParenthesis, LeftBracket, RightBracket, LeftBrace, RightBrace, Semicolon, Assign}
use Rattle.c_syntax.specs.declared.token.Token.{Token}
use Rattle.c_syntax.specs.Trees.{InitialTree, InitializerTree, DeclarationTree, UnitTree}
use Rattle.c_syntax.specs.Trees as T
use Rattle.c_syntax.specs.Parts.{Sign, Word, IsConstant, IsName, IsType, ◌⨾◌, PlacedAt, Nothing, Perhaps, Commas}
use Rattle.c_syntax.specs.Expressions.{IsExpression}
use Rattle.c_syntax.specs.Statements.{AreStatements}
use Rattle.c_syntax.specs.declared.declaration.ReturnType.{ReturnType}
use Rattle.c_syntax.specs.declared.declaration.ReturnType.TheVariants as R
use Rattle.c_syntax.specs.declared.declaration.Parameter.{Parameter}
use Rattle.c_syntax.specs.declared.declaration.OpenParameter.{OpenParameter}

abbrev pub IsReturnType : ReturnType → List Token → Type 0
IsReturnType R.Void = Word K.Void
IsReturnType (R.Value t) = IsType t

abbrev pub IsInitial : InitialTree → List Token → Type 0
IsInitial i = PlacedAt i.offset (IsExpression i.value)

-- Braces hold at least one expression.
abbrev pub IsInitializer : InitializerTree → List Token → Type 0
IsInitializer (T.Single i) ts = IsInitial i ts
IsInitializer (T.Braced []) ts = ⊥
IsInitializer (T.Braced (i ∷ is)) ts = (Sign LeftBrace ⨾ Commas IsInitial (i ∷ is) ⨾ Sign RightBrace) ts

abbrev pub IsSize : Constant → List Token → Type 0
IsSize c = Sign LeftBracket ⨾ IsConstant c ⨾ Sign RightBracket

abbrev pub IsBeginning : InitializerTree → List Token → Type 0
IsBeginning i = Sign Assign ⨾ IsInitializer i

abbrev pub IsParameter : Parameter → List Token → Type 0
IsParameter p = PlacedAt p.offset (IsType p.kind ⨾ IsName p.name)

abbrev pub IsOpenParameter : OpenParameter → List Token → Type 0
IsOpenParameter p = PlacedAt p.offset (IsType p.kind ⨾ Perhaps IsName p.name)

-- no parameters are written `void`
abbrev pub AreParameters : {A : Type 0} → (A → List Token → Type 0) → List A → List Token → Type 0
AreParameters P [] = Word K.Void
AreParameters P (p ∷ ps) = Commas P (p ∷ ps)

abbrev pub IsDeclaration : DeclarationTree → List Token → Type 0
IsDeclaration (T.Global g) =
    IsType g.kind ⨾ IsName g.name ⨾ Perhaps IsSize g.size ⨾ Perhaps IsBeginning g.initializer ⨾ Sign Semicolon
IsDeclaration (T.Function f) =
    IsReturnType f.result ⨾ IsName f.name ⨾ Sign LeftParenthesis ⨾ AreParameters IsParameter f.parameters ⨾ Sign RightParenthesis
    ⨾ Sign LeftBrace ⨾ AreStatements f.body ⨾ Sign RightBrace
IsDeclaration (T.Prototype' p) =
    IsReturnType p.result ⨾ IsName p.name ⨾ Sign LeftParenthesis ⨾ AreParameters IsOpenParameter p.parameters ⨾ Sign RightParenthesis
    ⨾ Sign Semicolon

abbrev pub AreDeclarations : List DeclarationTree → List Token → Type 0
AreDeclarations [] = Nothing
AreDeclarations (d ∷ ds) = IsDeclaration d ⨾ AreDeclarations ds

-- where the last token ends, 0 where there is none
abbrev pub end_of : List Token → ℕ
end_of [] = 0
end_of (t ∷ []) = t.end
end_of (t ∷ u ∷ ts) = end_of (u ∷ ts)

-- The tokens spell the tree.
abbrev pub IsUnit : UnitTree → List Token → Type 0
IsUnit u ts = AreDeclarations u.declarations ts × (u.end ≡ end_of ts)
