-- The reading of expressions is a form: each text is read again, and nothing else is read.
use Rattle.std.proofs.Common.{◌≡◌, ℕ, zero, suc, ◌<◌, ◌≤◌, ◌^◌, List, [], ◌∷◌, ◌++◌, Ok, inl, inr, refl, sym, ap, subst, ◌∙◌, arith}
use Rattle.std.specs.Prelude.{◌⊎◌}
use Rattle.std.specs.Int.{w16, w32, to_be_bytes}
use Rattle.lang_base.specs.Reading.{Reading, byte, decoded, both, follow, unknown}
use Rattle.lang_base.proofs.Forms.{IsForm}
use Rattle.lang_base.proofs.Parts.{byte_form, number16_form, number32_form, made_takes, made_again, made_form, decoded_form, fits_form, below_form, both_form}
use Rattle.lang_base.proofs.Lists.{HasCode, TakesBehind, unknown_takes, follow_form, coded_form}
use Rattle.lang_helpers.specs.Limits.{global}
use Rattle.lang_helpers.proofs.Limits.{global_form}
use Rattle.ints.specs.declared.operators.Op.{Op}
use Rattle.ints.specs.Codes.{code_of, op_of_code, argument_count_of}
use Rattle.ints.proofs.Codes.{codes_lead_back}
use Rattle.machine.proofs.Operators.{argument_count_range, code_small}
use Rattle.machine.specs.Spelling.{byte_text}
use Rattle.cminor_syntax.specs.Trees.{ExpressionTree, Number, Variable, Load, Unary, Binary, Choice}
use Rattle.cminor_syntax.specs.Fits.{ExpressionFits, expression_height, global_limit}
use Rattle.cminor_form.specs.Spelling.{expression_text}
use Rattle.cminor_form.specs.Reading.{too_high, variable, load, Operands, One, Two, operands, applied, operation, choice, expressions, expression_by_code, expression}

-- the same form, by equal texts
pub text_form : {A : Type 0} {part : Reading A} {text text' : A → List ℕ} {Fits : A → Type 0} → IsForm part text Fits → ((x : A) → text x ≡ text' x) → IsForm part text' Fits
text_form {part = part} form same = record {
  takes = λ bytes x rest are e. let t = form.takes bytes x rest are e in record { parts = t.parts ∙ ap (λ (l : List ℕ). l ++ rest) (same x); fits = t.fits };
  again = λ x rest fits. ap (λ (l : List ℕ). part (l ++ rest)) (sym (same x)) ∙ form.again x rest fits;
}

-- nothing is read without fuel
pub no_fuel : {A : Type 0} (bytes : List ℕ) (x : A) (rest : List ℕ) → too_high bytes ≡ Ok (x, rest) → ⊥
unfolding too_high
no_fuel [] x rest e = absurd cc
no_fuel (b ∷ bytes) x rest e = absurd cc

pub no_fuel_form : {A : Type 0} (text : A → List ℕ) (Fits : A → Type 0) → ((x : A) → Fits x → ⊥) → IsForm too_high text Fits
no_fuel_form text Fits none = record {
  takes = λ bytes x rest are e. absurd (no_fuel bytes x rest e);
  again = λ x rest fits. absurd (none x fits);
}

-- ---- numbers

pub variable_form : (variables : ℕ) → variables ≤ 2 ^ 16 → IsForm (variable variables) (to_be_bytes w16) (λ v. v < variables)
unfolding variable
variable_form variables few = below_form variables number16_form (λ n lt. omega arith)

-- ---- an expression's code, and what follows it

abbrev code_of_expression : ExpressionTree → ℕ
code_of_expression (Number w) = 0
code_of_expression (Variable v) = 1
code_of_expression (Load g i) = 2
code_of_expression (Unary o e) = 3
code_of_expression (Binary o a b) = 3
code_of_expression (Choice c a b) = 4

abbrev body_of : ExpressionTree → List ℕ
body_of (Number w) = to_be_bytes w32 w
body_of (Variable v) = to_be_bytes w16 v
body_of (Load g i) = to_be_bytes w16 g ++ expression_text i
body_of (Unary o e) = code_of o ∷ expression_text e
body_of (Binary o a b) = code_of o ∷ (expression_text a ++ expression_text b)
body_of (Choice c a b) = expression_text c ++ (expression_text a ++ expression_text b)

text_is : (e : ExpressionTree) → code_of_expression e ∷ body_of e ≡ expression_text e
text_is (Number w) = refl
text_is (Variable v) = refl
text_is (Load g i) = refl
text_is (Unary o e) = refl
text_is (Binary o a b) = refl
text_is (Choice c a b) = refl

-- an expression whose parts fit
abbrev PartsFitIn : ℕ → (ExpressionTree → Type 0) → ExpressionTree → Type 0
PartsFitIn variables Fits (Number w) = w < 2 ^ 32
PartsFitIn variables Fits (Variable v) = v < variables
PartsFitIn variables Fits (Load g i) = (g < global_limit) × Fits i
PartsFitIn variables Fits (Unary o e) = (argument_count_of o ≡ 1) × Fits e
PartsFitIn variables Fits (Binary o a b) = (argument_count_of o ≡ 2) × (Fits a × Fits b)
PartsFitIn variables Fits (Choice c a b) = Fits c × (Fits a × Fits b)

module _ (variables : ℕ) (few : variables ≤ 2 ^ 16) (part : Reading ExpressionTree) (Fits : ExpressionTree → Type 0) (part_form : IsForm part expression_text Fits) where
  abbrev PartsFit : ExpressionTree → Type 0
  PartsFit = PartsFitIn variables Fits

  two_parts : IsForm (both part (λ a. part)) (λ p. expression_text p.0 ++ expression_text p.1) (λ p. Fits p.0 × Fits p.1)
  two_parts = both_form part expression_text Fits part_form (λ a. part) (λ a. expression_text) (λ a. Fits) (λ a fits. part_form)

  load_parts : IsForm (both global (λ g. part)) (λ p. to_be_bytes w16 p.0 ++ expression_text p.1) (λ p. (p.0 < global_limit) × Fits p.1)
  load_parts = both_form global (to_be_bytes w16) (λ g. g < global_limit) global_form (λ g. part) (λ g. expression_text) (λ g. Fits) (λ g fits. part_form)

  load_takes : TakesBehind code_of_expression body_of PartsFit 2 (load part)
  unfolding load
  load_takes = made_takes (λ (p : ℕ × ExpressionTree). Load p.0 p.1) load_parts body_of (HasCode code_of_expression body_of PartsFit 2) (λ p fits. (refl, (fits, refl)))

  choice_parts : IsForm (both part (λ c. both part (λ a. part))) (λ p. expression_text p.0 ++ (expression_text p.1.0 ++ expression_text p.1.1)) (λ p. Fits p.0 × (Fits p.1.0 × Fits p.1.1))
  choice_parts =
      both_form part expression_text Fits part_form (λ c. both part (λ a. part)) (λ c p. expression_text p.0 ++ expression_text p.1) (λ c p. Fits p.0 × Fits p.1) (λ c fits. two_parts)

  choice_takes : TakesBehind code_of_expression body_of PartsFit 4 (choice part)
  unfolding choice
  choice_takes =
      made_takes (λ (p : ExpressionTree × (ExpressionTree × ExpressionTree)). Choice p.0 p.1.0 p.1.1) choice_parts body_of (HasCode code_of_expression body_of PartsFit 4) (λ p fits. (refl, (fits, refl)))

  -- ---- operators

  abbrev operands_text : Operands → List ℕ
  operands_text (One e) = expression_text e
  operands_text (Two a b) = expression_text a ++ expression_text b

  abbrev OperandsFit : ℕ → Operands → Type 0
  OperandsFit count (One e) = (count ≡ 1) × Fits e
  OperandsFit count (Two a b) = (count ≡ 2) × (Fits a × Fits b)

  one_back : (y : Operands) → OperandsFit 1 y → (x : ExpressionTree) × Fits x × (One x ≡ y)
  one_back (One e) fits = (e, fits.1, refl)
  one_back (Two a b) fits = absurd (omega (arith, fits.0))

  two_back : (y : Operands) → OperandsFit 2 y → (x : ExpressionTree × ExpressionTree) × (Fits x.0 × Fits x.1) × (Two x.0 x.1 ≡ y)
  two_back (One e) fits = absurd (omega (arith, fits.0))
  two_back (Two a b) fits = ((a, b), (fits.1.0, fits.1.1), refl)

  one_form : IsForm (operands 1 part) operands_text (OperandsFit 1)
  one_form = made_form (λ e. One e) part_form operands_text (OperandsFit 1) (λ e fits. (refl, (refl, fits))) one_back

  two_form : IsForm (operands 2 part) operands_text (OperandsFit 2)
  two_form = made_form (λ (p : ExpressionTree × ExpressionTree). Two p.0 p.1) two_parts operands_text (OperandsFit 2) (λ p fits. (refl, (refl, fits))) two_back

  operands_form : (count : ℕ) → (count ≡ 1) ⊎ (count ≡ 2) → IsForm (operands count part) operands_text (OperandsFit count)
  operands_form count (inl one) = subst (λ n. IsForm (operands n part) operands_text (OperandsFit n)) (sym one) one_form
  operands_form count (inr two) = subst (λ n. IsForm (operands n part) operands_text (OperandsFit n)) (sym two) two_form

  operation_parts : IsForm (both (decoded op_of_code byte) (λ o. operands (argument_count_of o) part)) (λ p. byte_text (code_of p.0) ++ operands_text p.1) (λ p. (code_of p.0 < 256) × OperandsFit (argument_count_of p.0) p.1)
  operation_parts =
      both_form (decoded op_of_code byte) (λ o. byte_text (code_of o)) (λ o. code_of o < 256) (decoded_form op_of_code code_of byte_form codes_lead_back.known codes_lead_back.only)
      (λ o. operands (argument_count_of o) part) (λ o. operands_text) (λ o. OperandsFit (argument_count_of o)) (λ o small. operands_form (argument_count_of o) (argument_count_range o))

  applied_is : (o : Op) (x : Operands) → OperandsFit (argument_count_of o) x → (body_of (applied o x) ≡ byte_text (code_of o) ++ operands_text x) × HasCode code_of_expression body_of PartsFit 3 (applied o x)
  applied_is o (One e) fits = (refl, (fits, refl))
  applied_is o (Two a b) fits = (refl, (fits, refl))

  operation_takes : TakesBehind code_of_expression body_of PartsFit 3 (operation part)
  unfolding operation
  operation_takes =
      made_takes (λ (p : Op × Operands). applied p.0 p.1) operation_parts body_of (HasCode code_of_expression body_of PartsFit 3) (λ p fits. applied_is p.0 p.1 fits.1)

  -- ---- all of them

  by_code_again : (e : ExpressionTree) (rest : List ℕ) → PartsFit e → follow (expressions variables part) unknown (code_of_expression e) (body_of e ++ rest) ≡ Ok (e, rest)
  unfolding load operation choice
  by_code_again (Number w) rest fits = made_again (λ n. Number n) number32_form w rest fits
  by_code_again (Variable v) rest fits = made_again (λ n. Variable n) (variable_form variables few) v rest fits
  by_code_again (Load g i) rest fits = made_again (λ (p : ℕ × ExpressionTree). Load p.0 p.1) load_parts (g, i) rest fits
  by_code_again (Unary o e) rest fits = made_again (λ (p : Op × Operands). applied p.0 p.1) operation_parts (o, One e) rest (code_small o, fits)
  by_code_again (Binary o a b) rest fits = made_again (λ (p : Op × Operands). applied p.0 p.1) operation_parts (o, Two a b) rest (code_small o, fits)
  by_code_again (Choice c a b) rest fits = made_again (λ (p : ExpressionTree × (ExpressionTree × ExpressionTree)). Choice p.0 p.1.0 p.1.1) choice_parts (c, (a, b)) rest fits

  pub by_code_form : IsForm (expression_by_code variables part) expression_text PartsFit
  unfolding expression_by_code
  by_code_form =
      text_form
      (coded_form code_of_expression body_of PartsFit (follow (expressions variables part) unknown)
      (follow_form code_of_expression body_of PartsFit (expressions variables part) unknown (
        made_takes (λ n. Number n) number32_form body_of (HasCode code_of_expression body_of PartsFit 0) (λ n fits. (refl, (fits, refl))),
        (
          made_takes (λ n. Variable n) (variable_form variables few) body_of (HasCode code_of_expression body_of PartsFit 1) (λ n fits. (refl, (fits, refl))),
          (load_takes, (operation_takes, (choice_takes, tt))),
        ),
      )
      (unknown_takes code_of_expression body_of PartsFit)
      by_code_again))
      text_is

-- ---- expressions of some height

-- in range, and at most so high
abbrev pub ExpressionFitsAt : ℕ → ℕ → ExpressionTree → Type 0
ExpressionFitsAt variables fuel e = ExpressionFits variables e × (expression_height e ≤ fuel)

never_so_low : (variables : ℕ) (e : ExpressionTree) → ExpressionFitsAt variables 0 e → ⊥
never_so_low variables (Number w) fits = absurd (omega (arith, fits.1))
never_so_low variables (Variable v) fits = absurd (omega (arith, fits.1))
never_so_low variables (Load g i) fits = absurd (omega (arith, fits.1))
never_so_low variables (Unary o e) fits = absurd (omega (arith, fits.1))
never_so_low variables (Binary o a b) fits = absurd (omega (arith, fits.1))
never_so_low variables (Choice c a b) fits = absurd (omega (arith, fits.1))

higher : (variables fuel : ℕ) (e : ExpressionTree) → PartsFitIn variables (ExpressionFitsAt variables fuel) e → ExpressionFitsAt variables (suc fuel) e
higher variables fuel (Number w) fits = (fits, omega arith)
higher variables fuel (Variable v) fits = (fits, omega arith)
higher variables fuel (Load g i) fits = ((fits.0, fits.1.0), omega (arith, fits.1.1))
higher variables fuel (Unary o e) fits = ((fits.0, fits.1.0), omega (arith, fits.1.1))
higher variables fuel (Binary o a b) fits = ((fits.0, (fits.1.0.0, fits.1.1.0)), omega (arith, fits.1.0.1, fits.1.1.1))
higher variables fuel (Choice c a b) fits = ((fits.0.0, (fits.1.0.0, fits.1.1.0)), omega (arith, fits.0.1, fits.1.0.1, fits.1.1.1))

lower : (variables fuel : ℕ) (e : ExpressionTree) → ExpressionFitsAt variables (suc fuel) e → PartsFitIn variables (ExpressionFitsAt variables fuel) e
lower variables fuel (Number w) fits = fits.0
lower variables fuel (Variable v) fits = fits.0
lower variables fuel (Load g i) fits = (fits.0.0, (fits.0.1, omega (arith, fits.1)))
lower variables fuel (Unary o e) fits = (fits.0.0, (fits.0.1, omega (arith, fits.1)))
lower variables fuel (Binary o a b) fits = (fits.0.0, ((fits.0.1.0, omega (arith, fits.1)), (fits.0.1.1, omega (arith, fits.1))))
lower variables fuel (Choice c a b) fits = ((fits.0.0, omega (arith, fits.1)), ((fits.0.1.0, omega (arith, fits.1)), (fits.0.1.1, omega (arith, fits.1))))

pub expression_form : (fuel variables : ℕ) → variables ≤ 2 ^ 16 → IsForm (expression fuel variables) expression_text (ExpressionFitsAt variables fuel)
unfolding expression
expression_form zero variables few = no_fuel_form expression_text (ExpressionFitsAt variables 0) (never_so_low variables)
expression_form (suc fuel) variables few =
    fits_form (by_code_form variables few (expression fuel variables) (ExpressionFitsAt variables fuel) (expression_form fuel variables few)) (higher variables fuel) (lower variables fuel)
