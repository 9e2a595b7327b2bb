-- What functions and prototypes are read from, and whatever spells one is read.
use Rattle.std.proofs.Common.{◌≡◌, ℕ, false, List, [], ◌∷◌, ◌++◌, map, Option, Some, None, Ok, refl, sym, ap, subst, ◌∙◌, append-nil}
use Rattle.std.specs.List.{AllByRecursion}
use Rattle.c_syntax.specs.declared.constant.IntegerType.{IntegerType}
use Rattle.c_syntax.specs.declared.keyword.Keyword.TheVariants as K
use Rattle.c_syntax.specs.declared.punctuator.Punctuator.TheVariants.{LeftParenthesis, RightParenthesis, Comma}
use Rattle.c_syntax.specs.declared.token.Token.{Token}
use Rattle.c_syntax.specs.declared.identifier.Identifier.{Identifier}
use Rattle.c_syntax.specs.declared.declaration.ReturnType.{ReturnType}
use Rattle.c_syntax.specs.declared.declaration.ReturnType.TheVariants as R
use Rattle.c_syntax.specs.declared.declaration.Parameter.{Parameter}
use Rattle.c_syntax.specs.declared.declaration.OpenParameter.{OpenParameter}
use Rattle.c_syntax.specs.declared.declaration.Prototype.{Prototype}
use Rattle.c_syntax.specs.Heights.{IfThere}
use Rattle.c_syntax.specs.Parts.{Sign, Word, IsName, IsType, ◌⨾◌, PlacedAt, Nothing, Perhaps, Commas}
use Rattle.c_syntax.specs.Declarations.{IsReturnType, IsParameter, IsOpenParameter, AreParameters}
use Rattle.c_reader_tokens.specs.Reading.{Reading}
use Rattle.c_reader_tokens.specs.Peeking.{is_sign_next, is_word_next, is_name_next}
use Rattle.c_reader_tokens.specs.Tokens.{word, integer_type, placed_name}
use Rattle.c_reader_tokens.proofs.Tokens.{is_word_next-again}
use Rattle.c_reader_productions.specs.Combining.{◌▷◌, ◌&◌, made, either, missing, there, commas}
use Rattle.c_reader_productions.proofs.Combining.{IsReader, after, before, both, made_takes, made_again, only}
use Rattle.c_reader_tokens.proofs.Laws.{ok_is}
use Rattle.c_reader_productions.proofs.Laws.{IsTaken, Any, Whatever, either_takes, either_first, either_second}
use Rattle.c_reader_declaration_laws.specs.Parameters.{named_by, named, joined, all_named}
use Rattle.c_reader_declaration_laws.specs.Reading.{open_parameter, open_parameters, return_type, heading}
use Rattle.c_reader_declaration_laws.proofs.Repeating.{placed}
use Rattle.c_reader_declaration_laws.proofs.Listing.{Listed, Lists, listed}
use Rattle.c_reader_declaration_laws.proofs.OfGlobals.{made_law}
use Rattle.c_reader_productions.proofs.Readers.{sign_mark, word_mark, name_law, type_law, begun, left_filled, type_filled, other_sign, sign_no_word, sign_no_name, name_no_word, name_next, type_no_void}

-- ---- one parameter

-- what follows an open parameter is neither its name nor its type's end
abbrev pub Free : List Token → Type 0
Free rest = (is_name_next rest ≡ false) × (is_word_next K.Int rest ≡ false)

abbrev FreeName : Option Identifier → List Token → Type 0
FreeName x rest = Free rest

open_name_again : (x : Option Identifier) (xs rest : List Token) → IfThere Whatever x → Perhaps IsName x xs → Free rest → either is_name_next (there placed_name) missing (xs ++ rest) ≡ Ok (x, rest)
open_name_again None xs rest fits s end = (only is_name_next name_law name_next).again None xs rest fits s end.0
open_name_again (Some x) xs rest fits s end = (only is_name_next name_law name_next).again (Some x) xs rest fits s tt

open_name_law : IsReader (either is_name_next (there placed_name) missing) (IfThere Whatever) (Perhaps IsName) Any FreeName
open_name_law = record { takes = (only is_name_next name_law name_next).takes; again = open_name_again }

no_int : (x : Option Identifier) (xs rest : List Token) → Perhaps IsName x xs → Free rest → is_word_next K.Int (xs ++ rest) ≡ false
no_int None xs rest s end = subst (λ (l : List Token). is_word_next K.Int (l ++ rest) ≡ false) (sym s) end.1
no_int (Some x) xs rest s end = name_no_word x K.Int xs rest s

abbrev Typed : Type 0
Typed = IntegerType × Option Identifier

typed_law : IsReader (integer_type & either is_name_next (there placed_name) missing) (λ (w : Typed). Whatever w.0 × IfThere Whatever w.1) (λ w. IsType w.0 ⨾ Perhaps IsName w.1) (λ w. Any w.1) (λ w. Free)
typed_law = both type_law open_name_law (λ t x xs rest s end. no_int x xs rest s end)

typed_filled : (w : Typed) → (IsType w.0 ⨾ Perhaps IsName w.1) [] → ⊥
typed_filled w s = left_filled (type_filled w.0) s

any_name : (x : Option Identifier) → IfThere Whatever x
any_name None = tt
any_name (Some x) = tt

abbrev FreeParameter : OpenParameter → List Token → Type 0
FreeParameter p rest = Free rest

open_parameter_law : IsReader open_parameter Whatever IsOpenParameter Any FreeParameter
unfolding open_parameter
open_parameter_law =
    made_law (λ (v : ℕ × Typed). record { kind = v.1.0; name = v.1.1; offset = v.0 }) (λ p. (p.offset, (p.kind, p.name))) (λ p. refl)
    (placed typed_law typed_filled) Whatever IsOpenParameter FreeParameter
    (λ v f. tt) (λ v xs s. s) (λ p f. (tt, any_name p.name)) (λ p xs s. s) (λ p rest d. d)

-- ---- parameters

abbrev Closing : List Token → Type 0
Closing rest = Free rest × (is_sign_next Comma rest ≡ false)

open_lists : Lists open_parameter_law Closing
open_lists = record {
  follows = λ p xs rest s. (sign_no_name Comma xs rest s, sign_no_word Comma K.Int xs rest s);
  last = λ p rest end. end.0;
  stops = λ rest end. end.1;
}

list_law : IsReader (commas open_parameter) (AllByRecursion Whatever) (Listed IsOpenParameter) Any (λ ps rest. Closing rest)
list_law = listed open_parameter_law open_lists

abbrev ClosingList : List OpenParameter → List Token → Type 0
ClosingList ps rest = Closing rest

all_fit : (ps : List OpenParameter) → AllByRecursion Whatever ps
all_fit [] = tt
all_fit (p ∷ ps) = (tt, all_fit ps)

abbrev none : Reading (List OpenParameter)
none = word K.Void ▷ (λ rest. Ok ([], rest))

pub nothing_law : {A : Type 0} (x : A) → IsReader (λ rest. Ok (x, rest)) (λ y. y ≡ x) (λ y. Nothing) Any Any
nothing_law {A} x = record {
  takes = λ ts y rest e.
      let same = ok_is (x, ts) (y, rest) e in
      subst (λ (z : A × List Token). IsTaken (λ y. y ≡ x) (λ y. Nothing) Any ts z.0 z.1) same (record { fits = refl; leaves = tt; front = []; spelled = refl; parts = refl });
  again = λ y xs rest fits s end. ap (λ (l : List Token). Ok (x, l ++ rest)) s ∙ ap (λ (z : A). Ok (z, rest)) (sym fits);
}

pub alone : {P : List Token → Type 0} (xs : List Token) → (P ⨾ Nothing) xs → P xs
alone {P} xs s = subst P (sym (s.4 ∙ ap (λ (l : List Token). s.0 ++ l) s.3 ∙ append-nil s.0)) s.2

pub with_nothing : {P : List Token → Type 0} (xs : List Token) → P xs → (P ⨾ Nothing) xs
with_nothing xs s = (xs, [], s, refl, sym (append-nil xs))

parameters_none : (ps : List OpenParameter) (xs : List Token) → ps ≡ [] → (Word K.Void ⨾ Nothing) xs → AreParameters IsOpenParameter ps xs
parameters_none [] xs e s = alone xs s
parameters_none (p ∷ ps) xs e s = absurd cc

parameters_some : (ps : List OpenParameter) (xs : List Token) → Listed IsOpenParameter ps xs → AreParameters IsOpenParameter ps xs
parameters_some [] xs s = absurd s
parameters_some (p ∷ ps) xs s = s

first_no_void : (p : OpenParameter) (ps : List OpenParameter) (xs rest : List Token) → Commas IsOpenParameter (p ∷ ps) xs → is_word_next K.Void (xs ++ rest) ≡ false
first_no_void p [] xs rest s = begun (λ l. is_word_next K.Void l ≡ false) (type_no_void p.kind) xs rest s.0
first_no_void p (q ∷ qs) xs rest s =
    begun (λ l. is_word_next K.Void l ≡ false) (λ us more o. begun (λ l. is_word_next K.Void l ≡ false) (type_no_void p.kind) us more o.0) xs rest s

open_parameters_again : (ps : List OpenParameter) (xs rest : List Token) → Whatever ps → AreParameters IsOpenParameter ps xs → Closing rest → open_parameters (xs ++ rest) ≡ Ok (ps, rest)
unfolding open_parameters
open_parameters_again [] xs rest fits s end =
    either_first (is_word_next K.Void) none (commas open_parameter) (xs ++ rest) (is_word_next-again K.Void xs rest s)
    ∙ (after (word_mark K.Void) (nothing_law [])).again [] xs rest refl (with_nothing xs s) tt
open_parameters_again (p ∷ ps) xs rest fits s end =
    either_second (is_word_next K.Void) none (commas open_parameter) (xs ++ rest) (first_no_void p ps xs rest s)
    ∙ list_law.again (p ∷ ps) xs rest (all_fit (p ∷ ps)) s end

-- what was taken, said otherwise
taken_as : {A : Type 0} {F G : A → Type 0} {P Q L : A → List Token → Type 0} (ts : List Token) (x : A) (rest : List Token) → (F x → G x) → ((xs : List Token) → F x → P x xs → Q x xs) → IsTaken F P L ts x rest → IsTaken G Q Any ts x rest
taken_as ts x rest f q t = record { fits = f t.fits; leaves = tt; front = t.front; spelled = q t.front t.fits t.spelled; parts = t.parts }

open_parameters_law : IsReader open_parameters Whatever (AreParameters IsOpenParameter) Any ClosingList
unfolding open_parameters
open_parameters_law = record {
  takes = either_takes (is_word_next K.Void) none (commas open_parameter)
      (λ ts ps rest h e. taken_as ts ps rest (λ f. tt) (λ xs f s. parameters_none ps xs f s) ((after (word_mark K.Void) (nothing_law [])).takes ts ps rest e))
      (λ ts ps rest h e. taken_as ts ps rest (λ f. tt) (λ xs f s. parameters_some ps xs s) (list_law.takes ts ps rest e));
  again = open_parameters_again;
}

-- ---- what a function and its prototype begin with

abbrev returned_void : Reading ReturnType
returned_void = word K.Void ▷ (λ rest. Ok (R.Void, rest))

abbrev NoInt : ReturnType → List Token → Type 0
NoInt r rest = is_word_next K.Int rest ≡ false

return_again : (r : ReturnType) (xs rest : List Token) → Whatever r → IsReturnType r xs → is_word_next K.Int rest ≡ false → return_type (xs ++ rest) ≡ Ok (r, rest)
unfolding return_type
return_again R.Void xs rest fits s end =
    either_first (is_word_next K.Void) returned_void (made (λ t. R.Value t) integer_type) (xs ++ rest) (is_word_next-again K.Void xs rest s)
    ∙ (after (word_mark K.Void) (nothing_law R.Void)).again R.Void xs rest refl (with_nothing xs s) tt
return_again (R.Value t) xs rest fits s end =
    either_second (is_word_next K.Void) returned_void (made (λ t. R.Value t) integer_type) (xs ++ rest) (type_no_void t xs rest s)
    ∙ made_again (λ t. R.Value t) type_law t xs rest tt s end

return_void : (r : ReturnType) (xs : List Token) → r ≡ R.Void → (Word K.Void ⨾ Nothing) xs → IsReturnType r xs
return_void r xs e s = subst (λ z. IsReturnType z xs) (sym e) (alone xs s)

return_law : IsReader return_type Whatever IsReturnType Any NoInt
unfolding return_type
return_law = record {
  takes = either_takes (is_word_next K.Void) returned_void (made (λ t. R.Value t) integer_type)
      (λ ts r rest h e. taken_as ts r rest (λ f. tt) (λ xs f s. return_void r xs f s) ((after (word_mark K.Void) (nothing_law R.Void)).takes ts r rest e))
      (λ ts r rest h e. made_takes (λ t. R.Value t) type_law {G = Whatever} {Q = IsReturnType} {M = Any} (λ t f. f) (λ t xs s. s) (λ t rest l. tt) ts r rest e);
  again = return_again;
}

abbrev pub IsHeading : Prototype → List Token → Type 0
IsHeading p = IsReturnType p.result ⨾ IsName p.name ⨾ Sign LeftParenthesis ⨾ AreParameters IsOpenParameter p.parameters ⨾ Sign RightParenthesis

closed : (ps : List OpenParameter) (xs rest : List Token) → Sign RightParenthesis xs → ClosingList ps (xs ++ rest)
closed ps xs rest s = ((sign_no_name RightParenthesis xs rest s, sign_no_word RightParenthesis K.Int xs rest s), other_sign RightParenthesis Comma refl xs rest s)

abbrev Head : Type 0
Head = ReturnType × (Identifier × List OpenParameter)

pub heading_law : IsReader heading Whatever IsHeading Any Any
unfolding heading
heading_law =
    made_law (λ (v : Head). record { result = v.0; name = v.1.0; parameters = v.1.1 }) (λ p. (p.result, (p.name, p.parameters))) (λ p. refl)
    (both return_law
    (both name_law (after (sign_mark LeftParenthesis) (before open_parameters_law (sign_mark RightParenthesis) closed)) (λ x ps xs rest s end. tt))
    (λ r v xs rest s end. begun (λ l. is_word_next K.Int l ≡ false) (name_no_word v.0 K.Int) xs rest s))
    Whatever IsHeading Any
    (λ v f. tt) (λ v xs s. s) (λ p f. (tt, (tt, tt))) (λ p xs s. s) (λ p rest d. tt)

-- ---- names

abbrev pub opened : Parameter → OpenParameter
opened p = record { kind = p.kind; name = Some p.name; offset = p.offset }

pub opened_named : (ps : List Parameter) → all_named (map opened ps) ≡ Some ps
opened_named [] = refl
opened_named (p ∷ ps) = ap (λ o. joined (Some p) o) (opened_named ps)

named_spelled : (o : OpenParameter) (p : Parameter) (x : Option Identifier) (xs : List Token) → o.name ≡ x → named_by o x ≡ Some p → IsOpenParameter o xs → IsParameter p xs
named_spelled o p None xs n e s = absurd cc
named_spelled o p (Some x) xs n e s =
    let same : record { kind = o.kind; name = x; offset = o.offset } ≡ p = cc in
    subst (λ (q : Parameter). IsParameter q xs) same (subst (λ (y : Option Identifier). PlacedAt o.offset (IsType o.kind ⨾ Perhaps IsName y) xs) n s)

split_joined : (x : Option Parameter) (y : Option (List Parameter)) (ps : List Parameter) → joined x y ≡ Some ps → (p : Parameter) × (qs : List Parameter) × (x ≡ Some p) × (y ≡ Some qs) × (ps ≡ p ∷ qs)
split_joined None y ps e = absurd cc
split_joined (Some p) None ps e = absurd cc
split_joined (Some p) (Some qs) ps e = (p, qs, refl, refl, let same : p ∷ qs ≡ ps = cc in sym same)

named_commas : (o : OpenParameter) (os : List OpenParameter) (p : Parameter) (ps : List Parameter) (xs : List Token) → named o ≡ Some p → all_named os ≡ Some ps → Commas IsOpenParameter (o ∷ os) xs → Commas IsParameter (p ∷ ps) xs
named_commas o [] p [] xs n e s = named_spelled o p o.name xs refl n s
named_commas o [] p (q ∷ qs) xs n e s = absurd cc
named_commas o (o' ∷ os) p ps xs n e s =
    let j = split_joined (named o') (all_named os) ps e in
    subst (λ (l : List Parameter). Commas IsParameter (p ∷ l) xs) (sym j.4)
    (s.0, s.1, named_spelled o p o.name s.0 refl n s.2, (s.3.0, s.3.1, s.3.2, named_commas o' os j.0 j.1 s.3.1 j.2 j.3 s.3.3, s.3.4), s.4)

pub named_parameters : (os : List OpenParameter) (ps : List Parameter) (xs : List Token) → all_named os ≡ Some ps → AreParameters IsOpenParameter os xs → AreParameters IsParameter ps xs
named_parameters [] [] xs e s = s
named_parameters [] (p ∷ ps) xs e s = absurd cc
named_parameters (o ∷ os) ps xs e s =
    let j = split_joined (named o) (all_named os) ps e in
    subst (λ (l : List Parameter). AreParameters IsParameter l xs) (sym j.4) (named_commas o os j.0 j.1 xs j.2 j.3 s)

open_commas : (p : Parameter) (ps : List Parameter) (xs : List Token) → Commas IsParameter (p ∷ ps) xs → Commas IsOpenParameter (opened p ∷ map opened ps) xs
open_commas p [] xs s = s
open_commas p (q ∷ qs) xs s = (s.0, s.1, s.2, (s.3.0, s.3.1, s.3.2, open_commas q qs s.3.1 s.3.3, s.3.4), s.4)

pub open_parameters_spelled : (ps : List Parameter) (xs : List Token) → AreParameters IsParameter ps xs → AreParameters IsOpenParameter (map opened ps) xs
open_parameters_spelled [] xs s = s
open_parameters_spelled (p ∷ ps) xs s = open_commas p ps xs s
