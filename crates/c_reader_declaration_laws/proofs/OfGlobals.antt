-- What globals are read from, and whatever spells one is read.
use Rattle.std.proofs.Common.{◌≡◌, ℕ, ◌≤◌, true, false, List, [], ◌∷◌, ◌++◌, Option, Some, None, Ok, refl, sym, ap, subst, ◌∙◌}
use Rattle.std.specs.List.{AllByRecursion}
use Rattle.c_syntax.specs.declared.constant.Constant.{Constant}
use Rattle.c_syntax.specs.declared.constant.IntegerType.{IntegerType}
use Rattle.c_syntax.specs.declared.keyword.Keyword.TheVariants as K
use Rattle.c_syntax.specs.declared.punctuator.Punctuator.TheVariants.{LeftBracket, RightBracket, LeftBrace, RightBrace, Semicolon, Assign, Comma}
use Rattle.c_syntax.specs.declared.token.Token.{Token}
use Rattle.c_syntax.specs.declared.identifier.Identifier.{Identifier}
use Rattle.c_syntax.specs.Trees.{ExpressionTree, InitialTree, InitializerTree, GlobalTree}
use Rattle.c_syntax.specs.Trees as T
use Rattle.c_syntax.specs.Heights.{expression_height, IfThere}
use Rattle.c_syntax.specs.Parts.{Sign, IsName, IsType, ◌⨾◌, Perhaps}
use Rattle.c_syntax.specs.Declarations.{IsInitial, IsInitializer, IsSize, IsBeginning}
use Rattle.c_reader_tokens.specs.Reading.{Reading}
use Rattle.c_reader_tokens.specs.Peeking.{is_sign_next, is_word_next}
use Rattle.c_reader_tokens.specs.Tokens.{sign, integer_type, placed_name}
use Rattle.c_reader_tokens.proofs.Tokens.{is_sign_next-again}
use Rattle.c_reader_expression_laws.specs.Operators.{Ends}
use Rattle.c_reader_expression_laws.proofs.Continuing.{ends_behind}
use Rattle.c_reader_expression_laws.proofs.Laws.{expression_stays}
use Rattle.c_reader_productions.specs.Combining.{◌▷◌, ◌◁◌, made, missing, commas}
use Rattle.c_reader_productions.proofs.Combining.{IsReader, after, before, both, made_takes, made_again, only}
use Rattle.c_reader_productions.proofs.Laws.{Any, Whatever, EndsOption, either_takes, either_first, either_second, Keeps, keeps_same, keeps_after, keeps_before, keeps_both, keeps_made, keeps_either}
use Rattle.c_reader_declaration_laws.specs.Reading.{here, initial, initializer, size, beginning, global}
use Rattle.c_reader_declaration_laws.proofs.Repeating.{placed}
use Rattle.c_reader_declaration_laws.proofs.Listing.{Listed, Lists, listed, keeps_commas}
use Rattle.c_reader_productions.proofs.Readers.{sign_mark, constant_law, name_law, type_law, expression_law, begun, expression_filled, other_sign, name_no_word, expression_no_brace}

-- a part that is made into a value from which it is had back
module _ {A B : Type 0} (make : A → B) (back : B → A) (same : (y : B) → make (back y) ≡ y) {part : Reading A} {F : A → Type 0} {P L E : A → List Token → Type 0} (p : IsReader part F P L E) (G : B → Type 0) (Q D : B → List Token → Type 0) (fits : (x : A) → F x → G (make x)) (spells : (x : A) (xs : List Token) → P x xs → Q (make x) xs) (fit : (y : B) → G y → F (back y)) (spell : (y : B) (xs : List Token) → Q y xs → P (back y) xs) (end : (y : B) (rest : List Token) → D y rest → E (back y) rest) where
  pub made_law : IsReader (made make part) G Q Any D
  made_law = record {
    takes = made_takes make p {G = G} {Q = Q} {M = Any} fits spells (λ x rest l. tt);
    again = λ y xs rest g q d. made_again make p (back y) xs rest (fit y g) (spell y xs q) (end y rest d) ∙ ap (λ (z : B). Ok (z, rest)) (same y);
  }

-- an initial expression of at most this height
abbrev pub FitsInitial : ℕ → InitialTree → Type 0
FitsInitial fuel i = expression_height i.value ≤ fuel

abbrev pub FitsInitializer : ℕ → InitializerTree → Type 0
FitsInitializer fuel (T.Single i) = FitsInitial fuel i
FitsInitializer fuel (T.Braced is) = AllByRecursion (FitsInitial fuel) is

abbrev EndsInitial : InitialTree → List Token → Type 0
EndsInitial i rest = Ends 0 rest

pub initial_law : (fuel : ℕ) → IsReader (initial fuel) (FitsInitial fuel) IsInitial Any EndsInitial
unfolding initial
initial_law fuel =
    made_law (λ (v : ℕ × ExpressionTree). record { value = v.1; offset = v.0 }) (λ i. (i.offset, i.value)) (λ i. refl)
    (placed (expression_law fuel) (λ t. expression_filled t 0)) (FitsInitial fuel) IsInitial EndsInitial
    (λ v f. f) (λ v xs s. s) (λ i f. f) (λ i xs s. s) (λ i rest d. d)

abbrev IsBraceNext : List Token → Type 0
IsBraceNext rest = is_sign_next RightBrace rest ≡ true

-- behind the last one stands `}`
abbrev pub Closing : List Token → Type 0
Closing rest = Ends 0 rest × (is_sign_next Comma rest ≡ false)

initial_lists : (fuel : ℕ) → Lists (initial_law fuel) Closing
initial_lists fuel = record { follows = λ i xs rest s. ends_behind Comma refl refl refl 0 xs rest s; last = λ i rest end. end.0; stops = λ rest end. end.1 }

closing : (xs rest : List Token) → Sign RightBrace xs → Closing (xs ++ rest)
closing xs rest s = (ends_behind RightBrace refl refl refl 0 xs rest s, other_sign RightBrace Comma refl xs rest s)

abbrev Braces : List InitialTree → List Token → Type 0
Braces is = Sign LeftBrace ⨾ Listed IsInitial is ⨾ Sign RightBrace

braces_law : (fuel : ℕ) → IsReader (sign LeftBrace ▷ commas (initial fuel) ◁ sign RightBrace) (AllByRecursion (FitsInitial fuel)) Braces Any Any
braces_law fuel = after (sign_mark LeftBrace) (before (listed (initial_law fuel) (initial_lists fuel)) (sign_mark RightBrace) (λ is xs rest s. closing xs rest s))

braces_spelled : (is : List InitialTree) (xs : List Token) → Braces is xs → IsInitializer (T.Braced is) xs
braces_spelled [] xs s = absurd s.3.2
braces_spelled (i ∷ is) xs s = s

abbrev pub EndsInitializer : InitializerTree → List Token → Type 0
EndsInitializer i rest = Ends 0 rest

initializer_again : (fuel : ℕ) (i : InitializerTree) (xs rest : List Token) → FitsInitializer fuel i → IsInitializer i xs → Ends 0 rest → initializer fuel (xs ++ rest) ≡ Ok (i, rest)
unfolding initializer
initializer_again fuel (T.Single i) xs rest fits s end =
    either_second (is_sign_next LeftBrace) (made (λ is. T.Braced is) (sign LeftBrace ▷ commas (initial fuel) ◁ sign RightBrace)) (made (λ i. T.Single i) (initial fuel)) (xs ++ rest) (expression_no_brace i.value 0 xs rest s.0)
    ∙ made_again (λ i. T.Single i) (initial_law fuel) i xs rest fits s end
initializer_again fuel (T.Braced []) xs rest fits s end = absurd s
initializer_again fuel (T.Braced (i ∷ is)) xs rest fits s end =
    either_first (is_sign_next LeftBrace) (made (λ is. T.Braced is) (sign LeftBrace ▷ commas (initial fuel) ◁ sign RightBrace)) (made (λ i. T.Single i) (initial fuel)) (xs ++ rest) (begun (λ l. is_sign_next LeftBrace l ≡ true) (is_sign_next-again LeftBrace) xs rest s)
    ∙ made_again (λ is. T.Braced is) (braces_law fuel) (i ∷ is) xs rest fits s tt

pub initializer_law : (fuel : ℕ) → IsReader (initializer fuel) (FitsInitializer fuel) IsInitializer Any EndsInitializer
unfolding initializer
initializer_law fuel = record {
  takes = either_takes (is_sign_next LeftBrace) (made (λ is. T.Braced is) (sign LeftBrace ▷ commas (initial fuel) ◁ sign RightBrace)) (made (λ i. T.Single i) (initial fuel))
      (λ ts x rest h. made_takes (λ is. T.Braced is) (braces_law fuel) {G = FitsInitializer fuel} {Q = IsInitializer} {M = Any} (λ is f. f) braces_spelled (λ is rest l. tt) ts x rest)
      (λ ts x rest h. made_takes (λ i. T.Single i) (initial_law fuel) {G = FitsInitializer fuel} {Q = IsInitializer} {M = Any} (λ i f. f) (λ i xs s. s) (λ i rest l. tt) ts x rest);
  again = initializer_again fuel;
}

abbrev pub EndsSize : Option Constant → List Token → Type 0
EndsSize = EndsOption (λ rest. is_sign_next LeftBracket rest ≡ false) Any

pub size_law : IsReader size (IfThere Whatever) (Perhaps IsSize) Any EndsSize
unfolding size
size_law = only (is_sign_next LeftBracket) (after (sign_mark LeftBracket) (before constant_law (sign_mark RightBracket) (λ c xs rest s. tt)))
    (λ c xs rest s. begun (λ l. is_sign_next LeftBracket l ≡ true) (is_sign_next-again LeftBracket) xs rest s)

abbrev pub EndsBeginning : Option InitializerTree → List Token → Type 0
EndsBeginning = EndsOption (λ rest. is_sign_next Assign rest ≡ false) EndsInitializer

pub beginning_law : (fuel : ℕ) → IsReader (beginning fuel) (IfThere (FitsInitializer fuel)) (Perhaps IsBeginning) Any EndsBeginning
unfolding beginning
beginning_law fuel = only (is_sign_next Assign) (after (sign_mark Assign) (initializer_law fuel))
    (λ i xs rest s. begun (λ l. is_sign_next Assign l ≡ true) (is_sign_next-again Assign) xs rest s)

ended : (i : Option InitializerTree) (xs rest : List Token) → Sign Semicolon xs → EndsBeginning i (xs ++ rest)
ended None xs rest s = other_sign Semicolon Assign refl xs rest s
ended (Some i) xs rest s = ends_behind Semicolon refl refl refl 0 xs rest s

abbrev Behind : Option InitializerTree → List Token → Type 0
Behind i = Perhaps IsBeginning i ⨾ Sign Semicolon

abbrev NoBracket : List Token → Type 0
NoBracket rest = is_sign_next LeftBracket rest ≡ false

no_bracket : (i : Option InitializerTree) (xs rest : List Token) → Behind i xs → NoBracket (xs ++ rest)
no_bracket None xs rest s =
    subst (λ (l : List Token). NoBracket (l ++ rest)) (sym (s.4 ∙ ap (λ (l : List Token). l ++ s.1) s.2)) (other_sign Semicolon LeftBracket refl s.1 rest s.3)
no_bracket (Some i) xs rest s =
    begun NoBracket (λ us more b. begun NoBracket (other_sign Assign LeftBracket refl) us more b) xs rest s

sized : (c : Option Constant) (i : Option InitializerTree) (xs rest : List Token) → Behind i xs → EndsSize c (xs ++ rest)
sized None i xs rest s = no_bracket i xs rest s
sized (Some c) i xs rest s = tt

abbrev Parts : Type 0
Parts = IntegerType × (Identifier × (Option Constant × Option InitializerTree))

abbrev pub FitsGlobal : ℕ → GlobalTree → Type 0
FitsGlobal fuel g = IfThere (FitsInitializer fuel) g.initializer

abbrev pub IsGlobal : GlobalTree → List Token → Type 0
IsGlobal g = IsType g.kind ⨾ IsName g.name ⨾ Perhaps IsSize g.size ⨾ Perhaps IsBeginning g.initializer ⨾ Sign Semicolon

no_size_fits : (c : Option Constant) → IfThere Whatever c
no_size_fits None = tt
no_size_fits (Some c) = tt

pub global_law : (fuel : ℕ) → IsReader (global fuel) (FitsGlobal fuel) IsGlobal Any Any
unfolding global
global_law fuel =
    made_law (λ (v : Parts). record { kind = v.0; name = v.1.0; size = v.1.1.0; initializer = v.1.1.1 }) (λ g. (g.kind, (g.name, (g.size, g.initializer)))) (λ g. refl)
    (both type_law
    (both name_law
    (both size_law (before (beginning_law fuel) (sign_mark Semicolon) ended) (λ c i xs rest s end. sized c i xs rest s))
    (λ x v xs rest s end. tt))
    (λ t v xs rest s end. begun (λ l. is_word_next K.Int l ≡ false) (name_no_word v.0 K.Int) xs rest s))
    (FitsGlobal fuel) IsGlobal Any
    (λ v f. f.1.1.1) (λ v xs s. s) (λ g f. (tt, (tt, (no_size_fits g.size, f)))) (λ g xs s. s) (λ g rest d. tt)

-- ---- with more fuel

pub initial_keeps : (fuel more : ℕ) → fuel ≤ more → Keeps (initial fuel) (initial more)
unfolding initial
initial_keeps fuel more le ts =
    keeps_made (λ v. record { value = v.1; offset = v.0 }) (keeps_both (keeps_same here) (λ rest. expression_stays fuel more 0 rest le)) ts

pub initializer_keeps : (fuel more : ℕ) → fuel ≤ more → Keeps (initializer fuel) (initializer more)
unfolding initializer
initializer_keeps fuel more le ts =
    keeps_either (is_sign_next LeftBrace)
    (keeps_made (λ is. T.Braced is) (keeps_after (sign LeftBrace) (keeps_before (sign RightBrace) (keeps_commas (initial_keeps fuel more le)))))
    (keeps_made (λ i. T.Single i) (initial_keeps fuel more le)) ts

pub beginning_keeps : (fuel more : ℕ) → fuel ≤ more → Keeps (beginning fuel) (beginning more)
unfolding beginning
beginning_keeps fuel more le ts =
    keeps_either (is_sign_next Assign) (keeps_made (λ i. Some i) (keeps_after (sign Assign) (initializer_keeps fuel more le))) (keeps_same missing) ts

pub global_keeps : (fuel more : ℕ) → fuel ≤ more → Keeps (global fuel) (global more)
unfolding global
global_keeps fuel more le ts =
    keeps_made (λ v. record { kind = v.0; name = v.1.0; size = v.1.1.0; initializer = v.1.1.1 })
    (keeps_both (keeps_same integer_type) (keeps_both (keeps_same placed_name) (keeps_both (keeps_same size) (keeps_before (sign Semicolon) (beginning_keeps fuel more le))))) ts
