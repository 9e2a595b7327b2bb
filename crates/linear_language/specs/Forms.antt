-- The reading of Linear is a form: each spelling is read again, and nothing else is read.
use Rattle.std.proofs.Common.{◌≡◌, ℕ, ◌<◌, ◌≤◌, ◌^◌, true, List, [], ◌∷◌, ◌++◌, length, Option, Some, None, Ok, refl, sym, ap, subst, ◌∙◌, arith}
use Rattle.std.specs.Prelude.{nat_eq}
use Rattle.std.specs.Int.{w16, w32, to_be_bytes}
use Rattle.std.specs.List.{AllByRecursion}
use Rattle.std.proofs.lemmas.Bool.{eqb-true, eq-eqb, not-true, not_from_false}
use Rattle.lang_base.specs.declared.errors.FormError.TheVariants.{NotCanonical}
use Rattle.lang_base.specs.Reading.{number, both, follow}
use Rattle.lang_base.specs.Texts.{counted_text}
use Rattle.lang_base.proofs.Forms.{IsForm}
use Rattle.lang_base.proofs.Parts.{number16_form, number32_form, made_takes, made_again, made_form, tested_form, fits_form, both_form}
use Rattle.lang_base.proofs.Lists.{counted_form, each_fits, fits_each, HasCode, TakesBehind, follow_form, coded_form, tagged_form}
use Rattle.locations.specs.declared.location.Location.{Location}
use Rattle.machine.specs.declared.act.Act.{Act}
use Rattle.machine.specs.declared.act.Act.TheVariants.{Constant, Operate, Load, Store, Put}
use Rattle.machine.specs.declared.test.Test.{Test}
use Rattle.machine.specs.Fits.{ActFits, TestFits, AreDistinct}
use Rattle.machine.specs.Spelling.{act_code, act_body, test_text, frame_text}
use Rattle.machine.specs.Reading.{asked, value, frame}
use Rattle.locations.proofs.Distinct.{each_both, both_each, none_same, same_none, key_before, keys_of, IsNewKey, each_distinct, distinct_each}
use Rattle.machine.proofs.Forms.{move_form, call_form, CallParts, test_form, value_form, act_form, FrameFits, frame_form}
use Rattle.linear_language.specs.declared.instruction.Instruction.{Instruction}
use Rattle.linear_language.specs.declared.instruction.Instruction.TheVariants.{Do, Copy, Call, Branch, Return, Label, Goto}
use Rattle.linear_language.specs.Function.{FunctionData, InstructionFits, IsFunction}
use Rattle.linear_language.specs.Labels.{label_of, label_before, labels_of}
use Rattle.linear_language.specs.Spelling.{instruction_code, instruction_body, instruction_text, tag, spelling}
use Rattle.linear_language.specs.Reading.{calling, instructions, plain, instruction, is_new, placed, code, parts, function}

-- ---- an instruction

abbrev BranchFits : Test × ℕ → Type 0
BranchFits p = TestFits p.0 × (p.1 < 2 ^ 16)

branch_parts : IsForm (both asked (λ t. number w16)) (λ p. test_text p.0 ++ to_be_bytes w16 p.1) BranchFits
branch_parts = both_form asked test_text TestFits test_form (λ t. number w16) (λ t. to_be_bytes w16) (λ t label. label < 2 ^ 16) (λ t fits. number16_form)

plain_takes : (slots code : ℕ) → TakesBehind instruction_code instruction_body (InstructionFits slots) code (plain code)
plain_takes slots code = made_takes (λ a. Do a) (act_form code) instruction_body (HasCode instruction_code instruction_body (InstructionFits slots) code) (λ a fits. (refl, fits))

plain_again : (a : Act) (rest : List ℕ) → ActFits a → plain (act_code a) (act_body a ++ rest) ≡ Ok (Do a, rest)
plain_again a rest fits = made_again (λ a. Do a) (act_form (act_code a)) a rest (fits, refl)

calling_takes : (slots : ℕ) → slots ≤ 2 ^ 16 → TakesBehind instruction_code instruction_body (InstructionFits slots) 6 (calling slots)
unfolding calling
calling_takes slots few = made_takes (λ (p : CallParts). Call p.0 p.1.0 p.1.1) (call_form slots few) instruction_body (HasCode instruction_code instruction_body (InstructionFits slots) 6) (λ p fits. (refl, (fits, refl)))

instruction_again : (slots : ℕ) → slots ≤ 2 ^ 16 → (i : Instruction) (rest : List ℕ) → InstructionFits slots i → follow (instructions slots) plain (instruction_code i) (instruction_body i ++ rest) ≡ Ok (i, rest)
unfolding calling
instruction_again slots few (Do (Constant target word)) rest fits = plain_again (Constant target word) rest fits
instruction_again slots few (Do (Operate op target arguments)) rest fits = plain_again (Operate op target arguments) rest fits
instruction_again slots few (Do (Load target global index)) rest fits = plain_again (Load target global index) rest fits
instruction_again slots few (Do (Store global index source)) rest fits = plain_again (Store global index source) rest fits
instruction_again slots few (Do (Put source target)) rest fits = plain_again (Put source target) rest fits
instruction_again slots few (Copy step) rest fits = made_again (λ m. Copy m) (move_form slots few) step rest fits
instruction_again slots few (Call function arguments target) rest fits = made_again (λ (p : CallParts). Call p.0 p.1.0 p.1.1) (call_form slots few) (function, (arguments, target)) rest fits
instruction_again slots few (Branch test label) rest fits = made_again (λ (p : Test × ℕ). Branch p.0 p.1) branch_parts (test, label) rest fits
instruction_again slots few (Return value) rest fits = made_again (λ v. Return v) value_form value rest fits
instruction_again slots few (Label label) rest fits = made_again (λ l. Label l) number16_form label rest fits
instruction_again slots few (Goto label) rest fits = made_again (λ l. Goto l) number16_form label rest fits

pub instruction_form : (slots : ℕ) → slots ≤ 2 ^ 16 → IsForm (instruction slots) instruction_text (InstructionFits slots)
unfolding instruction
instruction_form slots few =
    let at = HasCode instruction_code instruction_body (InstructionFits slots) in
    coded_form instruction_code instruction_body (InstructionFits slots) (follow (instructions slots) plain)
    (follow_form instruction_code instruction_body (InstructionFits slots) (instructions slots) plain (
      made_takes (λ m. Copy m) (move_form slots few) instruction_body (at 2) (λ m fits. (refl, (fits, refl))),
      (
        calling_takes slots few,
        (
          made_takes (λ (p : Test × ℕ). Branch p.0 p.1) branch_parts instruction_body (at 8) (λ p fits. (refl, (fits, refl))),
          (
            made_takes (λ v. Return v) value_form instruction_body (at 9) (λ v fits. (refl, (fits, refl))),
            (
              made_takes (λ l. Label l) number16_form instruction_body (at 10) (λ l fits. (refl, (fits, refl))),
              (made_takes (λ l. Goto l) number16_form instruction_body (at 11) (λ l fits. (refl, (fits, refl))), tt),
            ),
          ),
        ),
      ),
    )
    (plain_takes slots)
    (instruction_again slots few))

-- ---- the code

before_is : (o : Option ℕ) (ls : List ℕ) → label_before o ls ≡ key_before o ls
before_is None ls = refl
before_is (Some l) ls = refl

labels_are : (is : List Instruction) → labels_of is ≡ keys_of label_of is
labels_are [] = refl
labels_are (i ∷ is) = before_is (label_of i) (labels_of is) ∙ ap (key_before (label_of i)) (labels_are is)

is_itself : (n : ℕ) → nat_eq n n ≡ true
is_itself n = eq-eqb n n refl

new_key : (o : Option ℕ) (ls : List ℕ) → is_new o ls ≡ true → IsNewKey ls o
new_key None ls e = tt
new_key (Some l) ls e = none_same nat_eq eqb-true is_itself l ls (not-true _ e)

key_new : (o : Option ℕ) (ls : List ℕ) → IsNewKey ls o → is_new o ls ≡ true
key_new None ls new = refl
key_new (Some l) ls new = not_from_false _ (same_none nat_eq eqb-true is_itself l ls new)

abbrev IsNewLabel : List Instruction → Instruction → Type 0
IsNewLabel before i = IsNewKey (keys_of label_of before) (label_of i)

abbrev PlacedFits : ℕ → List Instruction → Instruction → Type 0
PlacedFits slots before i = InstructionFits slots i × IsNewLabel before i

placed_form : (slots : ℕ) → slots ≤ 2 ^ 16 → (before : List Instruction) → IsForm (placed slots before) instruction_text (PlacedFits slots before)
unfolding placed
placed_form slots few before =
    tested_form (λ i. is_new (label_of i) (labels_of before)) NotCanonical (instruction_form slots few) (PlacedFits slots before)
    (λ i fits passes. (fits, subst (λ ls. IsNewKey ls (label_of i)) (labels_are before) (new_key (label_of i) (labels_of before) passes)))
    (λ i fits. (fits.0, key_new (label_of i) (labels_of before) (subst (λ ls. IsNewKey ls (label_of i)) (sym (labels_are before)) fits.1)))

-- so few instructions, each in range, and no label twice
pub record CodeFits (slots : ℕ) (is : List Instruction) : Type 0 where
  pub count : length is < 2 ^ 32
  pub each : AllByRecursion (InstructionFits slots) is
  pub labels : AreDistinct (labels_of is)

pub code_form : (slots : ℕ) → slots ≤ 2 ^ 16 → IsForm (code slots) (counted_text (to_be_bytes w32) instruction_text) (CodeFits slots)
unfolding code
code_form slots few =
    fits_form (counted_form (placed slots) instruction_text (PlacedFits slots) (placed_form slots few) (number w32) (to_be_bytes w32) (λ n. n < 2 ^ 32) number32_form)
    (λ is fits.
    let split = both_each (λ before. InstructionFits slots) IsNewLabel [] is fits.1 in
    record {
      count = fits.0;
      each = each_fits (InstructionFits slots) [] is split.0;
      labels = subst AreDistinct (sym (labels_are is)) (each_distinct label_of [] is tt split.1);
    })
    (λ is fits.
    let distinct = distinct_each label_of [] is (subst AreDistinct (labels_are is) fits.labels) in
    (fits.count, each_both (λ before. InstructionFits slots) IsNewLabel [] is (fits_each (InstructionFits slots) [] is fits.each) distinct))

-- ---- the function

abbrev Parts : Type 0
Parts = (List Location × ℕ) × List Instruction

abbrev pub function_of : Parts → FunctionData
function_of p = record { parameters = p.0.0; slots = p.0.1; code = p.1 }

abbrev PartsFit : Parts → Type 0
PartsFit p = FrameFits p.0 × CodeFits p.0.1 p.1

abbrev parts_text : Parts → List ℕ
parts_text p = frame_text p.0 ++ counted_text (to_be_bytes w32) instruction_text p.1

pub parts_form : IsForm parts parts_text PartsFit
unfolding parts
parts_form = both_form frame frame_text FrameFits frame_form (λ f. code f.1) (λ f. counted_text (to_be_bytes w32) instruction_text) (λ f. CodeFits f.1) (λ f fits. let few : f.1 ≤ 2 ^ 16 = omega (arith, fits.1) in code_form f.1 few)

pub parts_fit : (p : Parts) → PartsFit p → IsFunction (function_of p)
parts_fit p fits = record { parameters = fits.0.0; slots = fits.0.1; count = fits.1.count; each = fits.1.each; labels = fits.1.labels }

fit_parts : (f : FunctionData) → IsFunction f → PartsFit ((f.parameters, f.slots), f.code)
fit_parts f fits = ((fits.parameters, fits.slots), record { count = fits.count; each = fits.each; labels = fits.labels })

pub function_form : IsForm function spelling IsFunction
unfolding function
function_form =
    tagged_form tag
    (made_form function_of parts_form (λ f. frame_text (f.parameters, f.slots) ++ counted_text (to_be_bytes w32) instruction_text f.code) IsFunction
    (λ p fits. (refl, parts_fit p fits))
    (λ f fits. (((f.parameters, f.slots), f.code), fit_parts f fits, refl)))
