-- What declarations are read from, and whatever spells some is read; and what more fuel changes.
use Rattle.std.proofs.Common.{◌≡◌, ℕ, suc, ◌≤◌, true, false, List, [], ◌∷◌, ◌++◌, map, Option, Some, None, Ok, refl, sym, ap, subst, ◌∙◌, append_assoc, arith}
use Rattle.c_syntax.specs.declared.keyword.Keyword.TheVariants as K
use Rattle.c_syntax.specs.declared.punctuator.Punctuator.TheVariants.{LeftParenthesis, RightParenthesis, LeftBrace, RightBrace, LeftBracket, Semicolon, Assign}
use Rattle.c_syntax.specs.declared.token.Token.{Token}
use Rattle.c_syntax.specs.declared.declaration.ReturnType.{ReturnType}
use Rattle.c_syntax.specs.declared.declaration.ReturnType.TheVariants as R
use Rattle.c_syntax.specs.declared.declaration.Parameter.{Parameter}
use Rattle.c_syntax.specs.declared.declaration.Prototype.{Prototype}
use Rattle.c_syntax.specs.Trees.{StatementsTree, GlobalTree, FunctionTree, DeclarationTree}
use Rattle.c_syntax.specs.Trees as T
use Rattle.c_syntax.specs.Heights.{statements_height}
use Rattle.c_syntax.specs.Parts.{Sign, IsName, ◌⨾◌, Nothing, Perhaps}
use Rattle.c_syntax.specs.Statements.{AreStatements}
use Rattle.c_syntax.specs.Declarations.{IsReturnType, IsOpenParameter, AreParameters, IsSize, IsBeginning, IsDeclaration}
use Rattle.c_reader_tokens.specs.Reading.{Reading, misfit}
use Rattle.c_reader_tokens.specs.Peeking.{is_sign_next, is_word_next, is_call_next}
use Rattle.c_reader_tokens.specs.Tokens.{sign, integer_type}
use Rattle.c_reader_tokens.proofs.Tokens.{is_sign_next-again, is_word_next-again, integer_type_again}
use Rattle.c_reader_productions.specs.Combining.{◌▷◌, made}
use Rattle.c_reader_statement_laws.specs.Reading.{block_in, statement_at}
use Rattle.c_reader_productions.proofs.Combining.{IsReader, after, made_takes, made_again, under_law}
use Rattle.c_reader_tokens.proofs.Laws.{bind_ok}
use Rattle.c_reader_productions.proofs.Laws.{IsTaken, Any, either_takes, either_first, either_second, bind_is}
use Rattle.c_reader_declaration_laws.specs.Parameters.{all_named}
use Rattle.c_reader_declaration_laws.specs.Reading.{heading, body, function, headed, callable, is_callable_next, global, declaration}
use Rattle.c_reader_productions.proofs.Readers.{sign_mark, begun, other_sign, name_no_word, type_no_void}
use Rattle.c_reader_declaration_laws.proofs.OfGlobals.{FitsGlobal, IsGlobal, global_law}
use Rattle.c_reader_declaration_laws.proofs.Functions.{IsHeading, heading_law, nothing_law, alone, with_nothing, opened, opened_named, named_parameters, open_parameters_spelled}

-- ---- parts behind one another, grouped otherwise

extend : {A B Y : List Token → Type 0} (vs : List Token) → ((us : List Token) → B us → Y (us ++ vs)) → (us : List Token) → (A ⨾ B) us → (A ⨾ Y) (us ++ vs)
extend vs f us s = (s.0, s.1 ++ vs, s.2, f s.1 s.3, ap (λ (l : List Token). l ++ vs) s.4 ∙ append_assoc s.0 s.1 vs)

pull : {A B X Y : List Token → Type 0} → ((us : List Token) → Y us → (B ⨾ X) us) → (ts : List Token) → (A ⨾ Y) ts → ((A ⨾ B) ⨾ X) ts
pull f ts s =
    let q = f s.1 s.3 in
    (s.0 ++ q.0, q.1, (s.0, q.0, s.2, q.2, refl), q.3, s.4 ∙ ap (λ (l : List Token). s.0 ++ l) q.4 ∙ sym (append_assoc s.0 q.0 q.1))

instead : {A A' B : List Token → Type 0} → ((us : List Token) → A us → A' us) → (ts : List Token) → (A ⨾ B) ts → (A' ⨾ B) ts
instead f ts s = (s.0, s.1, f s.0 s.2, s.3, s.4)

-- ---- a body

abbrev pub IsBody : StatementsTree → List Token → Type 0
IsBody s = Sign LeftBrace ⨾ AreStatements s ⨾ Sign RightBrace

abbrev pub FitsBody : ℕ → StatementsTree → Type 0
FitsBody fuel s = suc (statements_height s) ≤ fuel

abbrev pub FitsBlock : ℕ → StatementsTree → Type 0
FitsBlock fuel s = statements_height s ≤ fuel

abbrev pub FitsDeclaration : ℕ → DeclarationTree → Type 0
FitsDeclaration fuel (T.Global g) = FitsGlobal fuel g
FitsDeclaration fuel (T.Function f) = FitsBody fuel f.body
FitsDeclaration fuel (T.Prototype' p) = Unit {0}

-- what stands behind a heading
abbrev pub IsBehind : Prototype → DeclarationTree → List Token → Type 0
IsBehind p (T.Global g) xs = ⊥
IsBehind p (T.Function f) xs = (p.result ≡ f.result) × (p.name ≡ f.name) × (all_named p.parameters ≡ Some f.parameters) × IsBody f.body xs
IsBehind p (T.Prototype' q) xs = (p ≡ q) × Sign Semicolon xs

no_value : (ts : List Token) (d : DeclarationTree) (rest : List Token) → misfit {A = DeclarationTree × List Token} ts ≡ Ok (d, rest) → ⊥
no_value [] d rest e = cc
no_value (t ∷ ts) d rest e = cc

abbrev pub open_prototype : Prototype → Reading DeclarationTree
open_prototype p = sign Semicolon ▷ (λ rest. Ok (T.Prototype' p, rest))

-- what may follow a block is not asked where only what was read counts
module _ {E : StatementsTree → List Token → Type 0} (block_law : (r : ℕ) → IsReader (block_in (statement_at r)) (FitsBlock r) IsBody Any E) where
  pub body_law : (fuel : ℕ) → IsReader (body fuel) (FitsBody fuel) IsBody Any E
  unfolding body
  body_law fuel = under_law FitsBody block_law (λ r s f. omega arith) (λ r s f. omega arith) (λ s f. omega arith) fuel

  function_takes : (fuel : ℕ) (p : Prototype) (o : Option (List Parameter)) → all_named p.parameters ≡ o → (ts : List Token) (d : DeclarationTree) (rest : List Token) → function fuel p o ts ≡ Ok (d, rest) → IsTaken (FitsDeclaration fuel) (IsBehind p) Any ts d rest
  function_takes fuel p None n ts d rest e = absurd (no_value ts d rest e)
  function_takes fuel p (Some named) n ts d rest e =
      made_takes (λ s. T.Function (record { result = p.result; name = p.name; parameters = named; body = s })) (body_law fuel) {G = FitsDeclaration fuel} {Q = IsBehind p} {M = Any} (λ s f. f) (λ s xs b. (refl, refl, n, b)) (λ s rest l. tt) ts d rest e

  behind_prototype : (p : Prototype) (d : DeclarationTree) (xs : List Token) → d ≡ T.Prototype' p → (Sign Semicolon ⨾ Nothing) xs → IsBehind p d xs
  behind_prototype p d xs e s = subst (λ z. IsBehind p z xs) (sym e) (refl, alone xs s)

  fits_prototype : (fuel : ℕ) (p : Prototype) (d : DeclarationTree) → d ≡ T.Prototype' p → FitsDeclaration fuel d
  fits_prototype fuel p d e = subst (λ z. FitsDeclaration fuel z) (sym e) tt

  prototype_takes : (fuel : ℕ) (p : Prototype) (ts : List Token) (d : DeclarationTree) (rest : List Token) → open_prototype p ts ≡ Ok (d, rest) → IsTaken (FitsDeclaration fuel) (IsBehind p) Any ts d rest
  prototype_takes fuel p ts d rest e =
      let t = (after (sign_mark Semicolon) (nothing_law (T.Prototype' p))).takes ts d rest e in
      record { fits = fits_prototype fuel p d t.fits; leaves = tt; front = t.front; spelled = behind_prototype p d t.front t.fits t.spelled; parts = t.parts }

  headed_takes : (fuel : ℕ) (p : Prototype) (ts : List Token) (d : DeclarationTree) (rest : List Token) → headed fuel p ts ≡ Ok (d, rest) → IsTaken (FitsDeclaration fuel) (IsBehind p) Any ts d rest
  unfolding headed
  headed_takes fuel p =
      either_takes (is_sign_next LeftBrace) (function fuel p (all_named p.parameters)) (open_prototype p)
      (λ ts d rest h e. function_takes fuel p (all_named p.parameters) refl ts d rest e)
      (λ ts d rest h e. prototype_takes fuel p ts d rest e)

  -- a heading and what stands behind it
  whole : (p : Prototype) (d : DeclarationTree) (us vs : List Token) → IsHeading p us → IsBehind p d vs → IsDeclaration d (us ++ vs)
  whole p (T.Global g) us vs h b = absurd b
  whole p (T.Function f) us vs h b =
      let first = subst (λ (r : ReturnType). (IsReturnType r ⨾ IsName p.name ⨾ Sign LeftParenthesis ⨾ AreParameters IsOpenParameter p.parameters ⨾ Sign RightParenthesis) us) b.0 h in
      let second = subst (λ x. (IsReturnType f.result ⨾ IsName x ⨾ Sign LeftParenthesis ⨾ AreParameters IsOpenParameter p.parameters ⨾ Sign RightParenthesis) us) b.1 first in
      extend vs (extend vs (extend vs (λ ws s. extend vs (λ zs e. (zs, vs, e, b.3, refl)) ws (instead (λ zs s. named_parameters p.parameters f.parameters zs b.2 s) ws s)))) us second
  whole p (T.Prototype' q) us vs h b =
      subst (λ (z : Prototype). IsDeclaration (T.Prototype' z) (us ++ vs)) b.0
      (extend vs (extend vs (extend vs (extend vs (λ zs e. (zs, vs, e, b.1, refl))))) us h)

  callable_takes : (fuel : ℕ) (ts : List Token) (d : DeclarationTree) (rest : List Token) → callable fuel ts ≡ Ok (d, rest) → IsTaken (FitsDeclaration fuel) IsDeclaration Any ts d rest
  unfolding callable
  callable_takes fuel ts d rest e =
      let b = bind_ok (heading ts) (λ h. headed fuel h.0 h.1) (d, rest) e in
      let t = heading_law.takes ts b.0.0 b.0.1 b.1 in
      let u = headed_takes fuel b.0.0 b.0.1 d rest b.2 in
      record {
        fits = u.fits;
        leaves = tt;
        front = t.front ++ u.front;
        spelled = whole b.0.0 d t.front u.front t.spelled u.spelled;
        parts = t.parts ∙ ap (λ (l : List Token). t.front ++ l) u.parts ∙ sym (append_assoc t.front u.front rest);
      }

  pub declaration_takes : (fuel : ℕ) (ts : List Token) (d : DeclarationTree) (rest : List Token) → declaration fuel ts ≡ Ok (d, rest) → IsTaken (FitsDeclaration fuel) IsDeclaration Any ts d rest
  unfolding declaration
  declaration_takes fuel =
      either_takes is_callable_next (callable fuel) (made (λ g. T.Global g) (global fuel))
      (λ ts d rest h e. callable_takes fuel ts d rest e)
      (λ ts d rest h e. made_takes (λ g. T.Global g) (global_law fuel) {G = FitsDeclaration fuel} {Q = IsDeclaration} {M = Any} (λ g f. f) (λ g xs s. s) (λ g rest l. tt) ts d rest e)

-- ---- whatever is spelled is read

module _ (block_law : (r : ℕ) → IsReader (block_in (statement_at r)) (FitsBlock r) IsBody Any Any) where
  function_again : (fuel : ℕ) (p : Prototype) (f : FunctionTree) (xs rest : List Token) → FitsBody fuel f.body → IsBehind p (T.Function f) xs → function fuel p (all_named p.parameters) (xs ++ rest) ≡ Ok (T.Function f, rest)
  function_again fuel p f xs rest fits b =
      ap (λ o. function fuel p o (xs ++ rest)) b.2
      ∙ made_again (λ s. T.Function (record { result = p.result; name = p.name; parameters = f.parameters; body = s })) (body_law block_law fuel) f.body xs rest fits b.3 tt
      ∙ ap (λ r. Ok (T.Function (record { result = r; name = p.name; parameters = f.parameters; body = f.body }), rest)) b.0
      ∙ ap (λ x. Ok (T.Function (record { result = f.result; name = x; parameters = f.parameters; body = f.body }), rest)) b.1

  headed_again : (fuel : ℕ) (p : Prototype) (d : DeclarationTree) (xs rest : List Token) → FitsDeclaration fuel d → IsBehind p d xs → headed fuel p (xs ++ rest) ≡ Ok (d, rest)
  unfolding headed
  headed_again fuel p (T.Global g) xs rest fits b = absurd b
  headed_again fuel p (T.Function f) xs rest fits b =
      either_first (is_sign_next LeftBrace) (function fuel p (all_named p.parameters)) (open_prototype p) (xs ++ rest) (begun (λ l. is_sign_next LeftBrace l ≡ true) (is_sign_next-again LeftBrace) xs rest b.3)
      ∙ function_again fuel p f xs rest fits b
  headed_again fuel p (T.Prototype' q) xs rest fits b =
      either_second (is_sign_next LeftBrace) (function fuel p (all_named p.parameters)) (open_prototype p) (xs ++ rest) (other_sign Semicolon LeftBrace refl xs rest b.1)
      ∙ (after (sign_mark Semicolon) (nothing_law (T.Prototype' p))).again (T.Prototype' p) xs rest refl (with_nothing xs b.1) tt
      ∙ ap (λ z. Ok (T.Prototype' z, rest)) b.0

  pub split_again : (fuel : ℕ) (p : Prototype) (d : DeclarationTree) (xs rest : List Token) → FitsDeclaration fuel d → (IsHeading p ⨾ IsBehind p d) xs → callable fuel (xs ++ rest) ≡ Ok (d, rest)
  unfolding callable
  split_again fuel p d xs rest fits s =
      let e : xs ++ rest ≡ s.0 ++ (s.1 ++ rest) = ap (λ (l : List Token). l ++ rest) s.4 ∙ append_assoc s.0 s.1 rest in
      ap (callable fuel) e
      ∙ bind_is (heading (s.0 ++ (s.1 ++ rest))) (λ h. headed fuel h.0 h.1) (p, s.1 ++ rest) (heading_law.again p s.0 (s.1 ++ rest) tt s.2 tt)
      ∙ headed_again fuel p d s.1 rest fits s.3

-- the heading of a function, with names that it could do without
abbrev pub function_heading : FunctionTree → Prototype
function_heading f = record { result = f.result; name = f.name; parameters = map opened f.parameters }

pub function_split : (f : FunctionTree) (xs : List Token) → IsDeclaration (T.Function f) xs → (IsHeading (function_heading f) ⨾ IsBehind (function_heading f) (T.Function f)) xs
function_split f xs s =
    let q = pull (pull (pull (λ us r. pull (λ vs w. w) us (instead (λ zs n. open_parameters_spelled f.parameters zs n) us r)))) xs s in
    (q.0, q.1, q.2, (refl, refl, opened_named f.parameters, q.3), q.4)

pub prototype_split : (p : Prototype) (xs : List Token) → IsDeclaration (T.Prototype' p) xs → (IsHeading p ⨾ IsBehind p (T.Prototype' p)) xs
prototype_split p xs s =
    let q = pull (pull (pull (pull (λ vs w. w)))) xs s in
    (q.0, q.1, q.2, (refl, q.3), q.4)

-- ---- which is next

abbrev Callable : List Token → Type 0
Callable l = is_callable_next l ≡ true

call_next : (x : _) {Q : List Token → Type 0} (xs rest : List Token) → (IsName x ⨾ Sign LeftParenthesis ⨾ Q) xs → is_call_next (xs ++ rest) ≡ true
call_next x xs rest s =
    let n = s.2 in
    let e : xs ++ rest ≡ n.0 ∷ (s.1 ++ rest) = ap (λ (l : List Token). l ++ rest) (s.4 ∙ ap (λ (l : List Token). l ++ s.1) n.3) in
    let p : is_sign_next LeftParenthesis (s.1 ++ rest) ≡ true = begun (λ l. is_sign_next LeftParenthesis l ≡ true) (is_sign_next-again LeftParenthesis) s.1 rest s.3 in
    rw (e, n.1, p) refl

pub heading_next : (p : Prototype) (r : ReturnType) (us rest : List Token) → p.result ≡ r → IsHeading p us → is_callable_next (us ++ rest) ≡ true
unfolding is_callable_next
heading_next p R.Void us rest e h =
    let s = subst (λ (r : ReturnType). (IsReturnType r ⨾ IsName p.name ⨾ Sign LeftParenthesis ⨾ AreParameters IsOpenParameter p.parameters ⨾ Sign RightParenthesis) us) e h in
    let v : is_word_next K.Void (us ++ rest) ≡ true = begun (λ l. is_word_next K.Void l ≡ true) (is_word_next-again K.Void) us rest s in
    rw v refl
heading_next p (R.Value t) us rest e h =
    let s = subst (λ (r : ReturnType). (IsReturnType r ⨾ IsName p.name ⨾ Sign LeftParenthesis ⨾ AreParameters IsOpenParameter p.parameters ⨾ Sign RightParenthesis) us) e h in
    let split : us ++ rest ≡ s.0 ++ (s.1 ++ rest) = ap (λ (l : List Token). l ++ rest) s.4 ∙ append_assoc s.0 s.1 rest in
    let no_int : is_word_next K.Int (s.1 ++ rest) ≡ false = begun (λ l. is_word_next K.Int l ≡ false) (name_no_word p.name K.Int) s.1 rest s.3 in
    let read : integer_type (s.0 ++ (s.1 ++ rest)) ≡ Ok (t, s.1 ++ rest) = integer_type_again t s.0 (s.1 ++ rest) s.2 no_int in
    let no_void : is_word_next K.Void (s.0 ++ (s.1 ++ rest)) ≡ false = type_no_void t s.0 (s.1 ++ rest) s.2 in
    let call : is_call_next (s.1 ++ rest) ≡ true = call_next p.name s.1 rest s.3 in
    rw (split, no_void, read, call) refl

abbrev NoParenthesis : List Token → Type 0
NoParenthesis l = is_sign_next LeftParenthesis l ≡ false

no_parenthesis_begin : (i : Option _) (xs rest : List Token) → (Perhaps IsBeginning i ⨾ Sign Semicolon) xs → NoParenthesis (xs ++ rest)
no_parenthesis_begin None xs rest s =
    subst (λ (l : List Token). NoParenthesis (l ++ rest)) (sym (s.4 ∙ ap (λ (l : List Token). l ++ s.1) s.2)) (other_sign Semicolon LeftParenthesis refl s.1 rest s.3)
no_parenthesis_begin (Some i) xs rest s = begun NoParenthesis (λ us more b. begun NoParenthesis (other_sign Assign LeftParenthesis refl) us more b) xs rest s

no_parenthesis : (c : Option _) (i : Option _) (xs rest : List Token) → (Perhaps IsSize c ⨾ Perhaps IsBeginning i ⨾ Sign Semicolon) xs → NoParenthesis (xs ++ rest)
no_parenthesis None i xs rest s =
    subst (λ (l : List Token). NoParenthesis (l ++ rest)) (sym (s.4 ∙ ap (λ (l : List Token). l ++ s.1) s.2)) (no_parenthesis_begin i s.1 rest s.3)
no_parenthesis (Some c) i xs rest s = begun NoParenthesis (λ us more b. begun NoParenthesis (other_sign LeftBracket LeftParenthesis refl) us more b) xs rest s

pub global_next : (g : GlobalTree) (us rest : List Token) → IsGlobal g us → is_callable_next (us ++ rest) ≡ false
unfolding is_callable_next
global_next g us rest s =
    let n = s.3 in
    let x = n.2 in
    let split : us ++ rest ≡ s.0 ++ (s.1 ++ rest) = ap (λ (l : List Token). l ++ rest) s.4 ∙ append_assoc s.0 s.1 rest in
    let no_int : is_word_next K.Int (s.1 ++ rest) ≡ false = begun (λ l. is_word_next K.Int l ≡ false) (name_no_word g.name K.Int) s.1 rest n in
    let read : integer_type (s.0 ++ (s.1 ++ rest)) ≡ Ok (g.kind, s.1 ++ rest) = integer_type_again g.kind s.0 (s.1 ++ rest) s.2 no_int in
    let no_void : is_word_next K.Void (s.0 ++ (s.1 ++ rest)) ≡ false = type_no_void g.kind s.0 (s.1 ++ rest) s.2 in
    let e : s.1 ++ rest ≡ x.0 ∷ (n.1 ++ rest) = ap (λ (l : List Token). l ++ rest) (n.4 ∙ ap (λ (l : List Token). l ++ n.1) x.3) in
    let none : is_sign_next LeftParenthesis (n.1 ++ rest) ≡ false = no_parenthesis g.size g.initializer n.1 rest n.3 in
    let call : is_call_next (s.1 ++ rest) ≡ false = rw (e, x.1, none) refl in
    rw (split, no_void, read, call) refl
