-- The reading of statements is a form, and so is that of whole functions.
use Rattle.std.proofs.Common.{◌≡◌, ℕ, zero, suc, ◌<◌, ◌≤◌, ◌^◌, Bool, true, false, cond, eqb, List, [], ◌∷◌, ◌++◌, length, Option, Some, None, Ok, refl, sym, ap, subst, ◌∙◌, arith}
use Rattle.std.specs.Prelude.{IfSome, nat_le}
use Rattle.std.specs.Int.{w16, w32, to_be_bytes}
use Rattle.std.specs.List.{flat_map, AllByRecursion}
use Rattle.std.proofs.lemmas.Bool.{eqb-true, leb-true, le-leb}
use Rattle.lang_base.specs.declared.errors.FormError.TheVariants.{NotCanonical, TooLarge}
use Rattle.lang_base.specs.Reading.{Reading, byte, number, up_to, both, counted, optional, Table, follow, unknown}
use Rattle.lang_base.specs.Texts.{optional_text, counted_text, EachFits}
use Rattle.lang_base.proofs.Forms.{AreBytes, Takes, IsForm, ok_is}
use Rattle.lang_base.proofs.Parts.{byte_form, number16_form, number32_form, made_takes, made_again, made_form, tested_form, fits_form, up_to_form, both_form}
use Rattle.lang_base.proofs.Lists.{counted_form, each_fits, fits_each, HasCode, TakesBehind, unknown_takes, follow_form, coded_form, optional_form, tagged_form}
use Rattle.machine.specs.Fits.{parameter_limit}
use Rattle.machine.specs.Spelling.{byte_text}
use Rattle.lang_helpers.specs.Limits.{global, function_number}
use Rattle.lang_helpers.proofs.Limits.{global_form, function_number_form}
use Rattle.cminor_syntax.specs.Trees.{ExpressionTree, StatementTree, StatementsTree, FunctionTree, Skip, Assign, Store, Call, Put, Sequence, If, Loop, Block, Exit, Return, Done, First}
use Rattle.cminor_syntax.specs.Fits.{ExpressionFits, MaybeFits, TargetFits, statement_count, StatementFits, StatementsFit, arguments_height, maybe_height, statement_height, statements_height, global_limit, function_limit, variable_limit, height_limit, IsFunction}
use Rattle.cminor_form.specs.Spelling.{expression_text, target_text, arguments_text, statement_text, statements_text, frame_text, spelling}
use Rattle.cminor_form.specs.Reading.{variable, target, skip, assign, store, arguments, call, put, read_result, plain_statements, plain_statement, sequence_of, sequence, branch, statements, statement_by_code, expression, statement, frame, parts, function}
use Rattle.cminor_form.proofs.ExpressionForms.{text_form, no_fuel_form, variable_form, ExpressionFitsAt, expression_form}

-- ---- what follows a code in a table

module _ {A : Type 0} (code_of : A → ℕ) (text : A → List ℕ) (Fits : A → Type 0) where
  row_takes : (b : Bool) (row : ℕ × Reading A) (other : Reading A) (code : ℕ) → TakesBehind code_of text Fits row.0 row.1 → TakesBehind code_of text Fits code other → eqb row.0 code ≡ b → (bytes : List ℕ) (x : A) (rest : List ℕ) → AreBytes bytes → cond b (row.1 bytes) (other bytes) ≡ Ok (x, rest) → Takes text (HasCode code_of text Fits code) bytes x rest
  row_takes true row other code here there is bytes x rest are e = subst (λ k. Takes text (HasCode code_of text Fits k) bytes x rest) (eqb-true row.0 code is) (here bytes x rest are e)
  row_takes false row other code here there is bytes x rest are e = there bytes x rest are e

  rows_take : (table : Table A) → AllByRecursion (λ (row : ℕ × Reading A). TakesBehind code_of text Fits row.0 row.1) table → (code : ℕ) → TakesBehind code_of text Fits code (follow table unknown code)
  rows_take [] rows code bytes x rest are e = unknown_takes code_of text Fits code bytes x rest are e
  rows_take (row ∷ table) rows code bytes x rest are e = row_takes (eqb row.0 code) row (follow table unknown code) code rows.0 (rows_take table rows.1 code) refl bytes x rest are e

-- ---- parts that may be missing

maybe_fits : {A : Type 0} (Fits : A → Type 0) (o : Option A) → IfSome o Fits → MaybeFits Fits o
maybe_fits Fits None fits = tt
maybe_fits Fits (Some x) fits = fits

fits_maybe : {A : Type 0} (Fits : A → Type 0) (o : Option A) → MaybeFits Fits o → IfSome o Fits
fits_maybe Fits None fits = tt
fits_maybe Fits (Some x) fits = fits

maybe_form : {A : Type 0} {part : Reading A} {text : A → List ℕ} (Fits : A → Type 0) → IsForm part text Fits → IsForm (optional part) (optional_text text) (MaybeFits Fits)
maybe_form Fits form = fits_form (optional_form form) (maybe_fits Fits) (fits_maybe Fits)

target_form : (variables : ℕ) → variables ≤ 2 ^ 16 → IsForm (target variables) target_text (TargetFits variables)
unfolding target
target_form variables few = maybe_form (λ v. v < variables) (variable_form variables few)

-- ---- a sequence's statements, as a list

abbrev listed : StatementsTree → List StatementTree
listed Done = []
listed (First s rest) = s ∷ listed rest

listed_back : (ss : StatementsTree) → sequence_of (listed ss) ≡ ss
listed_back Done = refl
listed_back (First s rest) = ap (First s) (listed_back rest)

count_is : (ss : List StatementTree) → statement_count (sequence_of ss) ≡ length ss
count_is [] = refl
count_is (s ∷ ss) = ap suc (count_is ss)

length_is : (ss : StatementsTree) → length (listed ss) ≡ statement_count ss
length_is Done = refl
length_is (First s rest) = ap suc (length_is rest)

texts_are : (ss : List StatementTree) → statements_text (sequence_of ss) ≡ flat_map statement_text ss
texts_are [] = refl
texts_are (s ∷ ss) = ap (λ l. statement_text s ++ l) (texts_are ss)

-- each statement fits
abbrev EachOf : (StatementTree → Type 0) → StatementsTree → Type 0
EachOf Fits Done = Unit {0}
EachOf Fits (First s rest) = Fits s × EachOf Fits rest

all_each : (Fits : StatementTree → Type 0) (ss : List StatementTree) → AllByRecursion Fits ss → EachOf Fits (sequence_of ss)
all_each Fits [] fits = tt
all_each Fits (s ∷ ss) fits = (fits.0, all_each Fits ss fits.1)

each_all : (Fits : StatementTree → Type 0) (ss : StatementsTree) → EachOf Fits ss → AllByRecursion Fits (listed ss)
each_all Fits Done fits = tt
each_all Fits (First s rest) fits = (fits.0, each_all Fits rest fits.1)

-- ---- a statement's code, and what follows it

abbrev code_of_statement : StatementTree → ℕ
code_of_statement Skip = 0
code_of_statement (Assign v e) = 1
code_of_statement (Store g i e) = 2
code_of_statement (Call f t arguments) = 3
code_of_statement (Put t e) = 4
code_of_statement (Sequence ss) = 5
code_of_statement (If e s t) = 6
code_of_statement (Loop s) = 7
code_of_statement (Block s) = 8
code_of_statement (Exit n) = 9
code_of_statement (Return e) = 10

abbrev body_of : StatementTree → List ℕ
body_of Skip = []
body_of (Assign v e) = to_be_bytes w16 v ++ expression_text e
body_of (Store g i e) = to_be_bytes w16 g ++ (expression_text i ++ expression_text e)
body_of (Call f t arguments) = byte_text f ++ (target_text t ++ arguments_text arguments)
body_of (Put t e) = target_text t ++ expression_text e
body_of (Sequence ss) = to_be_bytes w32 (statement_count ss) ++ statements_text ss
body_of (If e s t) = expression_text e ++ (statement_text s ++ statement_text t)
body_of (Loop s) = statement_text s
body_of (Block s) = statement_text s
body_of (Exit n) = to_be_bytes w16 n
body_of (Return e) = optional_text expression_text e

text_is : (s : StatementTree) → code_of_statement s ∷ body_of s ≡ statement_text s
text_is Skip = refl
text_is (Assign v e) = refl
text_is (Store g i e) = refl
text_is (Call f t arguments) = refl
text_is (Put t e) = refl
text_is (Sequence ss) = refl
text_is (If e s t) = refl
text_is (Loop s) = refl
text_is (Block s) = refl
text_is (Exit n) = refl
text_is (Return e) = refl

-- a statement whose expressions and statements fit
abbrev PartsFitIn : ℕ → (ExpressionTree → Type 0) → (StatementTree → Type 0) → StatementTree → Type 0
PartsFitIn variables Fits Inner Skip = Unit {0}
PartsFitIn variables Fits Inner (Assign v e) = (v < variables) × Fits e
PartsFitIn variables Fits Inner (Store g i e) = (g < global_limit) × (Fits i × Fits e)
PartsFitIn variables Fits Inner (Call f t arguments) = (f < function_limit) × (TargetFits variables t × ((length arguments < 256) × AllByRecursion Fits arguments))
PartsFitIn variables Fits Inner (Put t e) = TargetFits variables t × Fits e
PartsFitIn variables Fits Inner (Sequence ss) = (statement_count ss < 2 ^ 32) × EachOf Inner ss
PartsFitIn variables Fits Inner (If e s t) = Fits e × (Inner s × Inner t)
PartsFitIn variables Fits Inner (Loop s) = Inner s
PartsFitIn variables Fits Inner (Block s) = Inner s
PartsFitIn variables Fits Inner (Exit n) = n < 2 ^ 16
PartsFitIn variables Fits Inner (Return e) = MaybeFits Fits e

module _ (variables : ℕ) (few : variables ≤ 2 ^ 16) (part : Reading ExpressionTree) (Fits : ExpressionTree → Type 0) (part_form : IsForm part expression_text Fits) (inner : Reading StatementTree) (Inner : StatementTree → Type 0) (inner_form : IsForm inner statement_text Inner) where
  abbrev PartsFit : StatementTree → Type 0
  PartsFit = PartsFitIn variables Fits Inner

  abbrev Behind : ℕ → StatementTree → Type 0
  Behind = HasCode code_of_statement body_of PartsFit

  abbrev Reads : ℕ → Reading StatementTree → Type 0
  Reads = TakesBehind code_of_statement body_of PartsFit

  two_parts : IsForm (both part (λ i. part)) (λ p. expression_text p.0 ++ expression_text p.1) (λ p. Fits p.0 × Fits p.1)
  two_parts = both_form part expression_text Fits part_form (λ i. part) (λ i. expression_text) (λ i. Fits) (λ i fits. part_form)

  skip_takes : Reads 0 skip
  skip_takes bytes x rest are e =
      subst (λ (z : StatementTree × List ℕ). Takes body_of (Behind 0) bytes z.0 z.1) (ok_is (Skip, bytes) (x, rest) e) (record { parts = refl; fits = (tt, refl) })

  assign_parts : IsForm (both (variable variables) (λ v. part)) (λ p. to_be_bytes w16 p.0 ++ expression_text p.1) (λ p. (p.0 < variables) × Fits p.1)
  assign_parts = both_form (variable variables) (to_be_bytes w16) (λ v. v < variables) (variable_form variables few) (λ v. part) (λ v. expression_text) (λ v. Fits) (λ v fits. part_form)

  assign_takes : Reads 1 (assign variables part)
  unfolding assign
  assign_takes = made_takes (λ (p : ℕ × ExpressionTree). Assign p.0 p.1) assign_parts body_of (Behind 1) (λ p fits. (refl, (fits, refl)))

  store_parts : IsForm (both global (λ g. both part (λ i. part))) (λ p. to_be_bytes w16 p.0 ++ (expression_text p.1.0 ++ expression_text p.1.1)) (λ p. (p.0 < global_limit) × (Fits p.1.0 × Fits p.1.1))
  store_parts = both_form global (to_be_bytes w16) (λ g. g < global_limit) global_form (λ g. both part (λ i. part)) (λ g p. expression_text p.0 ++ expression_text p.1) (λ g p. Fits p.0 × Fits p.1) (λ g fits. two_parts)

  store_takes : Reads 2 (store part)
  unfolding store
  store_takes = made_takes (λ (p : ℕ × (ExpressionTree × ExpressionTree)). Store p.0 p.1.0 p.1.1) store_parts body_of (Behind 2) (λ p fits. (refl, (fits, refl)))

  abbrev ArgumentsFit : List ExpressionTree → Type 0
  ArgumentsFit es = (length es < 256) × AllByRecursion Fits es

  arguments_form : IsForm (arguments part) arguments_text ArgumentsFit
  unfolding arguments
  arguments_form =
      fits_form (counted_form (λ before. part) expression_text (λ before. Fits) (λ before. part_form) byte byte_text (λ n. n < 256) byte_form)
      (λ es fits. (fits.0, each_fits Fits [] es fits.1))
      (λ es fits. (fits.0, fits_each Fits [] es fits.1))

  abbrev CallParts : Type 0
  CallParts = ℕ × (Option ℕ × List ExpressionTree)

  abbrev CallFits : CallParts → Type 0
  CallFits p = (p.0 < function_limit) × (TargetFits variables p.1.0 × ArgumentsFit p.1.1)

  call_parts : IsForm (both function_number (λ f. both (target variables) (λ t. arguments part))) (λ p. byte_text p.0 ++ (target_text p.1.0 ++ arguments_text p.1.1)) CallFits
  call_parts =
      both_form function_number byte_text (λ f. f < function_limit) function_number_form (λ f. both (target variables) (λ t. arguments part)) (λ f p. target_text p.0 ++ arguments_text p.1) (λ f p. TargetFits variables p.0 × ArgumentsFit p.1)
      (λ f fits. both_form (target variables) target_text (TargetFits variables) (target_form variables few) (λ t. arguments part) (λ t. arguments_text) (λ t. ArgumentsFit) (λ t fits. arguments_form))

  call_takes : Reads 3 (call variables part)
  unfolding call
  call_takes = made_takes (λ (p : CallParts). Call p.0 p.1.0 p.1.1) call_parts body_of (Behind 3) (λ p fits. (refl, (fits, refl)))

  put_parts : IsForm (both (target variables) (λ t. part)) (λ p. target_text p.0 ++ expression_text p.1) (λ p. TargetFits variables p.0 × Fits p.1)
  put_parts = both_form (target variables) target_text (TargetFits variables) (target_form variables few) (λ t. part) (λ t. expression_text) (λ t. Fits) (λ t fits. part_form)

  put_takes : Reads 4 (put variables part)
  unfolding put
  put_takes = made_takes (λ (p : Option ℕ × ExpressionTree). Put p.0 p.1) put_parts body_of (Behind 4) (λ p fits. (refl, (fits, refl)))

  returned_form : IsForm (read_result part) (optional_text expression_text) (MaybeFits Fits)
  unfolding read_result
  returned_form = maybe_form Fits part_form

  plain_takes : (code : ℕ) → Reads code (plain_statement variables part code)
  unfolding plain_statement
  plain_takes =
      rows_take code_of_statement body_of PartsFit (plain_statements variables part) (
        skip_takes,
        (
          assign_takes,
          (
            store_takes,
            (
              call_takes,
              (
                put_takes,
                (
                  made_takes (λ n. Exit n) number16_form body_of (Behind 9) (λ n fits. (refl, (fits, refl))),
                  (made_takes (λ e. Return e) returned_form body_of (Behind 10) (λ e fits. (refl, (fits, refl))), tt),
                ),
              ),
            ),
          ),
        ),
      )

  -- ---- statements with statements in them

  sequence_fits : (ss : List StatementTree) → ((length ss < 2 ^ 32) × EachFits (λ before. Inner) [] ss) → (body_of (Sequence (sequence_of ss)) ≡ counted_text (to_be_bytes w32) statement_text ss) × Behind 5 (Sequence (sequence_of ss))
  sequence_fits ss fits = (
    rw (count_is ss, texts_are ss) refl,
    ((subst (λ n. n < 2 ^ 32) (sym (count_is ss)) fits.0, all_each Inner ss (each_fits Inner [] ss fits.1)), refl),
  )

  sequence_parts : IsForm (counted (number w32) (λ before. inner)) (counted_text (to_be_bytes w32) statement_text) (λ ss. (length ss < 2 ^ 32) × EachFits (λ before. Inner) [] ss)
  sequence_parts = counted_form (λ before. inner) statement_text (λ before. Inner) (λ before. inner_form) (number w32) (to_be_bytes w32) (λ n. n < 2 ^ 32) number32_form

  sequence_takes : Reads 5 (sequence inner)
  unfolding sequence
  sequence_takes = made_takes (λ (ss : List StatementTree). Sequence (sequence_of ss)) sequence_parts body_of (Behind 5) sequence_fits

  sequence_again : (ss : StatementsTree) (rest : List ℕ) → PartsFit (Sequence ss) → sequence inner (body_of (Sequence ss) ++ rest) ≡ Ok (Sequence ss, rest)
  unfolding sequence
  sequence_again ss rest fits =
      let short : length (listed ss) < 2 ^ 32 = subst (λ n. n < 2 ^ 32) (sym (length_is ss)) fits.0 in
      let each : EachFits (λ before. Inner) [] (listed ss) = fits_each Inner [] (listed ss) (each_all Inner ss fits.1) in
      let one = made_again (λ (l : List StatementTree). Sequence (sequence_of l)) sequence_parts (listed ss) rest (short, each) in
      let same : body_of (Sequence ss) ≡ counted_text (to_be_bytes w32) statement_text (listed ss) =
      sym (ap (λ l. body_of (Sequence l)) (listed_back ss)) ∙ (sequence_fits (listed ss) (short, each)).0 in
      ap (λ (l : List ℕ). sequence inner (l ++ rest)) same ∙ one ∙ ap (λ l. Ok (Sequence l, rest)) (listed_back ss)

  branch_parts : IsForm (both part (λ e. both inner (λ s. inner))) (λ p. expression_text p.0 ++ (statement_text p.1.0 ++ statement_text p.1.1)) (λ p. Fits p.0 × (Inner p.1.0 × Inner p.1.1))
  branch_parts =
      both_form part expression_text Fits part_form (λ e. both inner (λ s. inner)) (λ e p. statement_text p.0 ++ statement_text p.1) (λ e p. Inner p.0 × Inner p.1)
      (λ e fits. both_form inner statement_text Inner inner_form (λ s. inner) (λ s. statement_text) (λ s. Inner) (λ s fits. inner_form))

  branch_takes : Reads 6 (branch part inner)
  unfolding branch
  branch_takes = made_takes (λ (p : ExpressionTree × (StatementTree × StatementTree)). If p.0 p.1.0 p.1.1) branch_parts body_of (Behind 6) (λ p fits. (refl, (fits, refl)))

  -- ---- all of them

  by_code_again : (s : StatementTree) (rest : List ℕ) → PartsFit s → follow (statements part inner) (plain_statement variables part) (code_of_statement s) (body_of s ++ rest) ≡ Ok (s, rest)
  unfolding plain_statement assign store call put branch
  by_code_again Skip rest fits = refl
  by_code_again (Assign v e) rest fits = made_again (λ (p : ℕ × ExpressionTree). Assign p.0 p.1) assign_parts (v, e) rest fits
  by_code_again (Store g i e) rest fits = made_again (λ (p : ℕ × (ExpressionTree × ExpressionTree)). Store p.0 p.1.0 p.1.1) store_parts (g, (i, e)) rest fits
  by_code_again (Call f t es) rest fits = made_again (λ (p : CallParts). Call p.0 p.1.0 p.1.1) call_parts (f, (t, es)) rest fits
  by_code_again (Put t e) rest fits = made_again (λ (p : Option ℕ × ExpressionTree). Put p.0 p.1) put_parts (t, e) rest fits
  by_code_again (Sequence ss) rest fits = sequence_again ss rest fits
  by_code_again (If e s t) rest fits = made_again (λ (p : ExpressionTree × (StatementTree × StatementTree)). If p.0 p.1.0 p.1.1) branch_parts (e, (s, t)) rest fits
  by_code_again (Loop s) rest fits = made_again (λ t. Loop t) inner_form s rest fits
  by_code_again (Block s) rest fits = made_again (λ t. Block t) inner_form s rest fits
  by_code_again (Exit n) rest fits = made_again (λ m. Exit m) number16_form n rest fits
  by_code_again (Return e) rest fits = made_again (λ o. Return o) returned_form e rest fits

  pub by_code_form : IsForm (statement_by_code variables part inner) statement_text PartsFit
  unfolding statement_by_code
  by_code_form =
      text_form
      (coded_form code_of_statement body_of PartsFit (follow (statements part inner) (plain_statement variables part))
      (follow_form code_of_statement body_of PartsFit (statements part inner) (plain_statement variables part) (
        sequence_takes,
        (
          branch_takes,
          (
            made_takes (λ s. Loop s) inner_form body_of (Behind 7) (λ s fits. (refl, (fits, refl))),
            (made_takes (λ s. Block s) inner_form body_of (Behind 8) (λ s fits. (refl, (fits, refl))), tt),
          ),
        ),
      )
      plain_takes
      by_code_again))
      text_is

-- ---- statements of some height

-- in range, and at most so high
abbrev pub StatementFitsAt : ℕ → ℕ → StatementTree → Type 0
StatementFitsAt variables fuel s = StatementFits variables s × (statement_height s ≤ fuel)

never_so_low : (variables : ℕ) (s : StatementTree) → StatementFitsAt variables 0 s → ⊥
never_so_low variables Skip fits = absurd (omega (arith, fits.1))
never_so_low variables (Assign v e) fits = absurd (omega (arith, fits.1))
never_so_low variables (Store g i e) fits = absurd (omega (arith, fits.1))
never_so_low variables (Call f t arguments) fits = absurd (omega (arith, fits.1))
never_so_low variables (Put t e) fits = absurd (omega (arith, fits.1))
never_so_low variables (Sequence ss) fits = absurd (omega (arith, fits.1))
never_so_low variables (If e s t) fits = absurd (omega (arith, fits.1))
never_so_low variables (Loop s) fits = absurd (omega (arith, fits.1))
never_so_low variables (Block s) fits = absurd (omega (arith, fits.1))
never_so_low variables (Exit n) fits = absurd (omega (arith, fits.1))
never_so_low variables (Return e) fits = absurd (omega (arith, fits.1))

arguments_higher : (variables fuel : ℕ) (es : List ExpressionTree) → AllByRecursion (ExpressionFitsAt variables fuel) es → AllByRecursion (ExpressionFits variables) es × (arguments_height es ≤ fuel)
arguments_higher variables fuel [] fits = (tt, omega arith)
arguments_higher variables fuel (e ∷ es) fits =
    let rest = arguments_higher variables fuel es fits.1 in
    ((fits.0.0, rest.0), omega (arith, fits.0.1, rest.1))

arguments_lower : (variables fuel : ℕ) (es : List ExpressionTree) → AllByRecursion (ExpressionFits variables) es → arguments_height es ≤ fuel → AllByRecursion (ExpressionFitsAt variables fuel) es
arguments_lower variables fuel [] fits low = tt
arguments_lower variables fuel (e ∷ es) fits low = ((fits.0, omega arith), arguments_lower variables fuel es fits.1 (omega arith))

statements_higher : (variables fuel : ℕ) (ss : StatementsTree) → EachOf (StatementFitsAt variables fuel) ss → StatementsFit variables ss × (statements_height ss ≤ fuel)
statements_higher variables fuel Done fits = (tt, omega arith)
statements_higher variables fuel (First s rest) fits =
    let more = statements_higher variables fuel rest fits.1 in
    ((fits.0.0, more.0), omega (arith, fits.0.1, more.1))

statements_lower : (variables fuel : ℕ) (ss : StatementsTree) → StatementsFit variables ss → statements_height ss ≤ fuel → EachOf (StatementFitsAt variables fuel) ss
statements_lower variables fuel Done fits low = tt
statements_lower variables fuel (First s rest) fits low = ((fits.0, omega arith), statements_lower variables fuel rest fits.1 (omega arith))

maybe_higher : (variables fuel : ℕ) (e : Option ExpressionTree) → MaybeFits (ExpressionFitsAt variables fuel) e → MaybeFits (ExpressionFits variables) e × (maybe_height e ≤ fuel)
maybe_higher variables fuel None fits = (tt, omega arith)
maybe_higher variables fuel (Some e) fits = fits

maybe_lower : (variables fuel : ℕ) (e : Option ExpressionTree) → MaybeFits (ExpressionFits variables) e → maybe_height e ≤ fuel → MaybeFits (ExpressionFitsAt variables fuel) e
maybe_lower variables fuel None fits low = tt
maybe_lower variables fuel (Some e) fits low = (fits, low)

abbrev FitsBelow : ℕ → ℕ → StatementTree → Type 0
FitsBelow variables fuel = PartsFitIn variables (ExpressionFitsAt variables fuel) (StatementFitsAt variables fuel)

higher : (variables fuel : ℕ) (s : StatementTree) → FitsBelow variables fuel s → StatementFitsAt variables (suc fuel) s
higher variables fuel Skip fits = (tt, omega arith)
higher variables fuel (Assign v e) fits = ((fits.0, fits.1.0), omega (arith, fits.1.1))
higher variables fuel (Store g i e) fits = ((fits.0, (fits.1.0.0, fits.1.1.0)), omega (arith, fits.1.0.1, fits.1.1.1))
higher variables fuel (Call f t es) fits =
    let each = arguments_higher variables fuel es fits.1.1.1 in
    ((fits.0, (fits.1.0, (fits.1.1.0, each.0))), omega (arith, each.1))
higher variables fuel (Put t e) fits = ((fits.0, fits.1.0), omega (arith, fits.1.1))
higher variables fuel (Sequence ss) fits =
    let each = statements_higher variables fuel ss fits.1 in
    ((fits.0, each.0), omega (arith, each.1))
higher variables fuel (If e s t) fits = ((fits.0.0, (fits.1.0.0, fits.1.1.0)), omega (arith, fits.0.1, fits.1.0.1, fits.1.1.1))
higher variables fuel (Loop s) fits = (fits.0, omega (arith, fits.1))
higher variables fuel (Block s) fits = (fits.0, omega (arith, fits.1))
higher variables fuel (Exit n) fits = (fits, omega arith)
higher variables fuel (Return e) fits =
    let one = maybe_higher variables fuel e fits in
    (one.0, omega (arith, one.1))

lower : (variables fuel : ℕ) (s : StatementTree) → StatementFitsAt variables (suc fuel) s → FitsBelow variables fuel s
lower variables fuel Skip fits = tt
lower variables fuel (Assign v e) fits = (fits.0.0, (fits.0.1, omega (arith, fits.1)))
lower variables fuel (Store g i e) fits = (fits.0.0, ((fits.0.1.0, omega (arith, fits.1)), (fits.0.1.1, omega (arith, fits.1))))
lower variables fuel (Call f t es) fits = (fits.0.0, (fits.0.1.0, (fits.0.1.1.0, arguments_lower variables fuel es fits.0.1.1.1 (omega (arith, fits.1)))))
lower variables fuel (Put t e) fits = (fits.0.0, (fits.0.1, omega (arith, fits.1)))
lower variables fuel (Sequence ss) fits = (fits.0.0, statements_lower variables fuel ss fits.0.1 (omega (arith, fits.1)))
lower variables fuel (If e s t) fits = ((fits.0.0, omega (arith, fits.1)), ((fits.0.1.0, omega (arith, fits.1)), (fits.0.1.1, omega (arith, fits.1))))
lower variables fuel (Loop s) fits = (fits.0, omega (arith, fits.1))
lower variables fuel (Block s) fits = (fits.0, omega (arith, fits.1))
lower variables fuel (Exit n) fits = fits.0
lower variables fuel (Return e) fits = maybe_lower variables fuel e fits.0 (omega (arith, fits.1))

pub statement_form : (fuel variables : ℕ) → variables ≤ 2 ^ 16 → IsForm (statement fuel variables) statement_text (StatementFitsAt variables fuel)
unfolding statement
statement_form zero variables few = no_fuel_form statement_text (StatementFitsAt variables 0) (never_so_low variables)
statement_form (suc fuel) variables few =
    fits_form
    (by_code_form variables few (expression fuel variables) (ExpressionFitsAt variables fuel) (expression_form fuel variables few) (statement fuel variables) (StatementFitsAt variables fuel) (statement_form fuel variables few))
    (higher variables fuel) (lower variables fuel)

-- ---- the function

abbrev pub FrameFits : ℕ × ℕ → Type 0
FrameFits f = ((f.0 ≤ parameter_limit) × (f.0 ≤ f.1)) × (f.1 ≤ variable_limit)

abbrev ReadFits : ℕ × ℕ → Type 0
ReadFits f = (f.0 ≤ parameter_limit) × (f.1 < 2 ^ 16)

abbrev WithinFits : ℕ × ℕ → Type 0
WithinFits f = ReadFits f × (f.0 ≤ f.1)

pub frame_form : IsForm frame frame_text FrameFits
unfolding frame
frame_form =
    let numbers = both_form (up_to parameter_limit byte) byte_text (λ n. n ≤ parameter_limit) (up_to_form parameter_limit byte_form (λ n le. omega arith)) (λ p. number w16) (λ p. to_be_bytes w16) (λ p n. n < 2 ^ 16) (λ p fits. number16_form) in
    tested_form (λ (f : ℕ × ℕ). nat_le f.1 variable_limit) TooLarge
    (tested_form (λ (f : ℕ × ℕ). nat_le f.0 f.1) NotCanonical numbers WithinFits (λ f fits within. (fits, leb-true f.0 f.1 within)) (λ f fits. (fits.0, le-leb f.0 f.1 fits.1)))
    FrameFits
    (λ f fits few. ((fits.0.0, fits.1), leb-true f.1 variable_limit few))
    (λ f fits. (((fits.0.0, omega (arith, fits.1)), fits.0.1), le-leb f.1 variable_limit fits.1))

abbrev pub Parts : Type 0
Parts = (ℕ × ℕ) × StatementTree

abbrev PartsFit' : Parts → Type 0
PartsFit' p = FrameFits p.0 × StatementFitsAt p.0.1 height_limit p.1

pub parts_form : IsForm parts (λ p. frame_text p.0 ++ statement_text p.1) PartsFit'
unfolding parts
parts_form = both_form frame frame_text FrameFits frame_form (λ f. statement height_limit f.1) (λ f. statement_text) (λ f. StatementFitsAt f.1 height_limit) (λ f fits. let few : f.1 ≤ 2 ^ 16 = omega (arith, fits.1) in statement_form height_limit f.1 few)

abbrev pub function_of : Parts → FunctionTree
function_of p = record { parameters = p.0.0; variables = p.0.1; body = p.1 }

pub parts_fit : (p : Parts) → PartsFit' p → IsFunction (function_of p)
parts_fit p fits = record { parameters = fits.0.0.0; within = fits.0.0.1; variables = fits.0.1; body = fits.1.0; low = fits.1.1 }

fit_parts : (f : FunctionTree) → IsFunction f → PartsFit' ((f.parameters, f.variables), f.body)
fit_parts f fits = (((fits.parameters, fits.within), fits.variables), (fits.body, fits.low))

pub function_form : IsForm function spelling IsFunction
unfolding function
function_form =
    tagged_form 1
    (made_form function_of parts_form (λ f. frame_text (f.parameters, f.variables) ++ statement_text f.body) IsFunction
    (λ p fits. (refl, parts_fit p fits))
    (λ f fits. (((f.parameters, f.variables), f.body), fit_parts f fits, refl)))
