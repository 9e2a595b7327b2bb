-- Declarations up to the end: what is read is spelled so, what is spelled so is read, and more fuel changes
-- nothing but what was too high. The laws of blocks are taken as given here.
use Rattle.std.proofs.Common.{◌≡◌, ℕ, ◌≤◌, true, List, [], ◌∷◌, ◌++◌, length, Option, Some, None, Ok, inr, refl, sym, ap, subst, ◌∙◌, append_assoc, append-nil, arith}
use Rattle.std.specs.List.{AllByRecursion}
use Rattle.c_syntax.specs.declared.keyword.Keyword.TheVariants as K
use Rattle.c_syntax.specs.declared.token.Token.{Token}
use Rattle.c_syntax.specs.declared.declaration.ReturnType.{ReturnType}
use Rattle.c_syntax.specs.declared.declaration.ReturnType.TheVariants as R
use Rattle.c_syntax.specs.declared.declaration.Prototype.{Prototype}
use Rattle.c_syntax.specs.Trees.{StatementsTree, DeclarationTree, InitializerTree}
use Rattle.c_syntax.specs.Trees as T
use Rattle.c_syntax.specs.Heights.{highest, IsLow, IsLowInitializer, IfThere}
use Rattle.c_syntax.specs.Parts.{◌⨾◌}
use Rattle.c_syntax.specs.Declarations.{IsReturnType, IsDeclaration, AreDeclarations}
use Rattle.c_syntax.specs.declared.punctuator.Punctuator.TheVariants.{LeftBrace}
use Rattle.c_reader_tokens.specs.Reading.{IsSameOrTooDeep}
use Rattle.c_reader_tokens.specs.Peeking.{is_sign_next}
use Rattle.c_reader_productions.specs.Combining.{made, repeated}
use Rattle.c_reader_statement_laws.specs.Reading.{block_in, statement_at}
use Rattle.c_reader_productions.proofs.Combining.{IsReader, made_again}
use Rattle.c_reader_productions.proofs.Laws.{Any, either_first, either_second, Keeps, keeps_same, keeps_made, keeps_either, keeps_under, stays_bind}
use Rattle.c_reader_declaration_laws.specs.Reading.{heading, body, function, headed, callable, is_callable_next, global, declaration, is_next_there, declarations}
use Rattle.c_reader_declaration_laws.specs.Parameters.{all_named}
use Rattle.c_reader_declaration_laws.proofs.Repeating.{Many, Repeats, repeated_takes, repeated_again, keeps_each, repeated_whole}
use Rattle.c_reader_productions.proofs.Readers.{left_filled, type_filled, word_filled}
use Rattle.c_reader_declaration_laws.proofs.OfGlobals.{FitsInitializer, global_law, global_keeps}
use Rattle.c_reader_declaration_laws.proofs.Functions.{IsHeading}
use Rattle.c_reader_declaration_laws.proofs.Declaring.{IsBody, IsBehind, FitsBlock, FitsDeclaration, function_heading, function_split, prototype_split, heading_next, global_next, open_prototype, split_again, declaration_takes}

return_filled : (r : ReturnType) → IsReturnType r [] → ⊥
return_filled R.Void s = word_filled K.Void s
return_filled (R.Value t) s = type_filled t s

pub declaration_filled : (d : DeclarationTree) → IsDeclaration d [] → ⊥
declaration_filled (T.Global g) s = left_filled (type_filled g.kind) s
declaration_filled (T.Function f) s = left_filled (return_filled f.result) s
declaration_filled (T.Prototype' p) s = left_filled (return_filled p.result) s

to_many : (ds : List DeclarationTree) (ts : List Token) → AreDeclarations ds ts → Many IsDeclaration ds ts
to_many [] ts s = s
to_many (d ∷ ds) ts s = (s.0, s.1, s.2, to_many ds s.1 s.3, s.4)

from_many : (ds : List DeclarationTree) (ts : List Token) → Many IsDeclaration ds ts → AreDeclarations ds ts
from_many [] ts s = s
from_many (d ∷ ds) ts s = (s.0, s.1, s.2, from_many ds s.1 s.3, s.4)

some_there : (d : DeclarationTree) (xs rest : List Token) → IsDeclaration d xs → is_next_there (xs ++ rest) ≡ true
some_there d [] rest s = absurd (declaration_filled d s)
some_there d (x ∷ xs) rest s = refl

abbrev AtEnd : List Token → Type 0
AtEnd rest = rest ≡ []

abbrev pub Never : {A : Type 0} → A → List Token → Type 0
Never x rest = ⊥

module _ {E : StatementsTree → List Token → Type 0} (block_law : (r : ℕ) → IsReader (block_in (statement_at r)) (FitsBlock r) IsBody Any E) where
  declaration_sound : (fuel : ℕ) → IsReader (declaration fuel) (FitsDeclaration fuel) IsDeclaration Any Never
  declaration_sound fuel = record { takes = declaration_takes block_law fuel; again = λ d xs rest fits s end. absurd end }

  -- What is read is spelled so, up to the end, and fits the fuel.
  pub declarations_takes : (fuel : ℕ) (ts : List Token) (ds : List DeclarationTree) (rest : List Token) → declarations fuel ts ≡ Ok (ds, rest) → AreDeclarations ds ts × AllByRecursion (FitsDeclaration fuel) ds × (rest ≡ [])
  unfolding declarations
  declarations_takes fuel ts ds rest e =
      let t = repeated_takes is_next_there (declaration_sound fuel) (length ts) ts ds rest e in
      let end = repeated_whole (declaration_sound fuel) declaration_filled (length ts) ts ds rest (omega arith) e in
      let same : ts ≡ t.front = t.parts ∙ ap (λ (l : List Token). t.front ++ l) end ∙ append-nil t.front in
      (subst (λ (l : List Token). AreDeclarations ds l) (sym same) (from_many ds t.front t.spelled), t.fits, end)

module _ (block_law : (r : ℕ) → IsReader (block_in (statement_at r)) (FitsBlock r) IsBody Any Any) where
  callable_again : (fuel : ℕ) (p : Prototype) (d : DeclarationTree) (xs rest : List Token) → FitsDeclaration fuel d → (IsHeading p ⨾ IsBehind p d) xs → declaration fuel (xs ++ rest) ≡ Ok (d, rest)
  unfolding declaration
  callable_again fuel p d xs rest fits s =
      let e : xs ++ rest ≡ s.0 ++ (s.1 ++ rest) = ap (λ (l : List Token). l ++ rest) s.4 ∙ append_assoc s.0 s.1 rest in
      either_first is_callable_next (callable fuel) (made (λ g. T.Global g) (global fuel)) (xs ++ rest) (ap is_callable_next e ∙ heading_next p p.result s.0 (s.1 ++ rest) refl s.2)
      ∙ split_again block_law fuel p d xs rest fits s

  declaration_again : (fuel : ℕ) (d : DeclarationTree) (xs rest : List Token) → FitsDeclaration fuel d → IsDeclaration d xs → declaration fuel (xs ++ rest) ≡ Ok (d, rest)
  unfolding declaration
  declaration_again fuel (T.Global g) xs rest fits s =
      either_second is_callable_next (callable fuel) (made (λ g. T.Global g) (global fuel)) (xs ++ rest) (global_next g xs rest s)
      ∙ made_again (λ g. T.Global g) (global_law fuel) g xs rest fits s tt
  declaration_again fuel (T.Function f) xs rest fits s = callable_again fuel (function_heading f) (T.Function f) xs rest fits (function_split f xs s)
  declaration_again fuel (T.Prototype' p) xs rest fits s = callable_again fuel p (T.Prototype' p) xs rest fits (prototype_split p xs s)

  pub declaration_law : (fuel : ℕ) → IsReader (declaration fuel) (FitsDeclaration fuel) IsDeclaration Any Any
  declaration_law fuel = record { takes = declaration_takes block_law fuel; again = λ d xs rest fits s end. declaration_again fuel d xs rest fits s }

  declarations_repeat : (fuel : ℕ) → Repeats is_next_there (declaration_law fuel) AtEnd
  declarations_repeat fuel = record {
    filled = declaration_filled;
    begins = some_there;
    follows = λ x y ys rest s. tt;
    last = λ x rest end. tt;
    stops = λ rest end. ap is_next_there end;
  }

  -- What is spelled so, and fits the fuel, is read.
  pub declarations_again : (fuel : ℕ) (ts : List Token) (ds : List DeclarationTree) → AreDeclarations ds ts → AllByRecursion (FitsDeclaration fuel) ds → declarations fuel ts ≡ Ok (ds, [])
  unfolding declarations
  declarations_again fuel ts ds s fits =
      let r = repeated_again is_next_there (declaration_law fuel) (declarations_repeat fuel) (length ts) ds ts [] fits (to_many ds ts s) (omega arith) refl in
      ap (λ (l : List Token). repeated is_next_there (declaration fuel) (length ts) l) (sym (append-nil ts)) ∙ r

module _ (block_keeps : (r s : ℕ) → r ≤ s → Keeps (block_in (statement_at r)) (block_in (statement_at s))) where
  body_keeps : (fuel more : ℕ) → fuel ≤ more → Keeps (body fuel) (body more)
  unfolding body
  body_keeps fuel more le ts = keeps_under (λ r. block_in (statement_at r)) block_keeps fuel more le ts

  function_keeps : (fuel more : ℕ) → fuel ≤ more → (p : Prototype) (o : Option _) → Keeps (function fuel p o) (function more p o)
  function_keeps fuel more le p None ts = inr refl
  function_keeps fuel more le p (Some named) ts =
      keeps_made (λ s. T.Function (record { result = p.result; name = p.name; parameters = named; body = s })) (body_keeps fuel more le) ts

  headed_keeps : (fuel more : ℕ) → fuel ≤ more → (p : Prototype) → Keeps (headed fuel p) (headed more p)
  unfolding headed
  headed_keeps fuel more le p ts =
      keeps_either (is_sign_next LeftBrace) (function_keeps fuel more le p (all_named p.parameters)) (keeps_same (open_prototype p)) ts

  callable_keeps : (fuel more : ℕ) → fuel ≤ more → Keeps (callable fuel) (callable more)
  unfolding callable
  callable_keeps fuel more le ts =
      stays_bind (heading ts) (heading ts) (λ h. headed fuel h.0 h.1) (λ h. headed more h.0 h.1) (inr refl) (λ h. headed_keeps fuel more le h.0 h.1)

  declaration_keeps : (fuel more : ℕ) → fuel ≤ more → Keeps (declaration fuel) (declaration more)
  unfolding declaration
  declaration_keeps fuel more le ts =
      keeps_either is_callable_next (callable_keeps fuel more le) (keeps_made (λ g. T.Global g) (global_keeps fuel more le)) ts

  -- With more fuel the same is read, unless there was too little.
  pub declarations_stays : (fuel more : ℕ) (ts : List Token) → fuel ≤ more → IsSameOrTooDeep (declarations fuel ts) (declarations more ts)
  unfolding declarations
  declarations_stays fuel more ts le = keeps_each is_next_there (declaration_keeps fuel more le) ts

-- ---- what is low

low_initializer : (i : InitializerTree) → FitsInitializer highest i → IsLowInitializer i
low_initializer (T.Single i) f = f
low_initializer (T.Braced is) f = f

initializer_low : (i : InitializerTree) → IsLowInitializer i → FitsInitializer highest i
initializer_low (T.Single i) f = f
initializer_low (T.Braced is) f = f

low_beginning : (i : Option InitializerTree) → IfThere (FitsInitializer highest) i → IfThere IsLowInitializer i
low_beginning None f = tt
low_beginning (Some i) f = low_initializer i f

beginning_low : (i : Option InitializerTree) → IfThere IsLowInitializer i → IfThere (FitsInitializer highest) i
beginning_low None f = tt
beginning_low (Some i) f = initializer_low i f

declaration_is_low : (d : DeclarationTree) → FitsDeclaration highest d → IsLow d
declaration_is_low (T.Global g) f = low_beginning g.initializer f
declaration_is_low (T.Function f) l = l
declaration_is_low (T.Prototype' p) f = tt

low_declaration : (d : DeclarationTree) → IsLow d → FitsDeclaration highest d
low_declaration (T.Global g) f = beginning_low g.initializer f
low_declaration (T.Function f) l = l
low_declaration (T.Prototype' p) f = tt

pub declarations_low : (ds : List DeclarationTree) → AllByRecursion (FitsDeclaration highest) ds → AllByRecursion IsLow ds
declarations_low [] f = tt
declarations_low (d ∷ ds) f = (declaration_is_low d f.0, declarations_low ds f.1)

pub low_declarations : (ds : List DeclarationTree) → AllByRecursion IsLow ds → AllByRecursion (FitsDeclaration highest) ds
low_declarations [] f = tt
low_declarations (d ∷ ds) f = (low_declaration d f.0, low_declarations ds f.1)
