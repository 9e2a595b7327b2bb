-- The text of a file: that of the program, or of the offer, that the file is the written form of.
use Rattle.std.specs.Prelude.{◌≡◌, ◌≢◌, ℕ, List, Option, slice_index}
use Rattle.lang_base.specs.declared.program.Program.{Program}
use Rattle.lang_base.specs.declared.errors.FormError.{FormError}
use Rattle.lang_base.specs.declared.errors.FormError.TheVariants.{NoMemory}
use Rattle.std.specs.Io.KnownBytes.{Appends, Keeps}
use Rattle.lang.specs.Form.{IsProgram, program_text}
use Rattle.cfarm_output.specs.Begun.{IsBegun}
use Rattle.text_files.specs.declared.error.ShowError.{ShowError}
use Rattle.text_files.specs.declared.error.ShowError.TheVariants.{Form, Run}
use Rattle.cminor_syntax.specs.Trees.{FunctionTree}
use Rattle.cminor_syntax.specs.Fits as cminor
use Rattle.cminor_form.specs.Spelling as cminor_form
use Rattle.rtl_language.specs.Function as rtl
use Rattle.rtl_language.specs.Spelling as rtl_form
use Rattle.ltl.specs.Function as ltl
use Rattle.ltl.specs.Spelling as ltl_form
use Rattle.linear_language.specs.Function as linear
use Rattle.linear_language.specs.Spelling as linear_form
use Rattle.text_cminor.specs.Shown.{shown_cminor}
use Rattle.text_rtl.specs.Shown.{shown_rtl}
use Rattle.text_ltl.specs.Shown.{shown_ltl}
use Rattle.text_linear.specs.Shown.{shown_linear}
use Rattle.text_offers.specs.Files.{IsOfferTextOf}

-- all of the bytes are the written form of a program of a language
pub record IsFileOf {F : Type 0} (tag : ℕ) (spelling : F → List ℕ) (Fits : F → Type 0) (bytes : List ℕ) (p : Program F) : Type 0 where
  pub fits : IsProgram Fits p
  pub text : bytes ≡ program_text tag spelling p

abbrev pub IsCminor : List ℕ → Program FunctionTree → Type 0
IsCminor bytes p = IsFileOf 1 cminor_form.spelling cminor.IsFunction bytes p

abbrev pub IsRtl : List ℕ → Program rtl.FunctionData → Type 0
IsRtl bytes p = IsFileOf 2 rtl_form.spelling rtl.IsFunction bytes p

abbrev pub IsLtl : List ℕ → Program ltl.FunctionData → Type 0
IsLtl bytes p = IsFileOf 3 ltl_form.spelling ltl.IsFunction bytes p

abbrev pub IsLinear : List ℕ → Program linear.FunctionData → Type 0
IsLinear bytes p = IsFileOf 4 linear_form.spelling linear.IsFunction bytes p

-- the text of a file that is a program
pub data IsProgramTextOf (bytes text : List ℕ) : Type 0 where
  OfCminor : (p : Program FunctionTree) → IsCminor bytes p → text ≡ shown_cminor p → IsProgramTextOf bytes text
  OfRtl : (p : Program rtl.FunctionData) → IsRtl bytes p → text ≡ shown_rtl p → IsProgramTextOf bytes text
  OfLtl : (p : Program ltl.FunctionData) → IsLtl bytes p → text ≡ shown_ltl p → IsProgramTextOf bytes text
  OfLinear : (p : Program linear.FunctionData) → IsLinear bytes p → text ≡ shown_linear p → IsProgramTextOf bytes text

-- unless memory was refused, the file is no program
abbrev pub HasNoProgramText : List ℕ → FormError → Type 0
HasNoProgramText bytes fault = fault ≢ NoMemory → (text : List ℕ) → IsProgramTextOf bytes text → ⊥

-- the text of a file: of a program, or of a written offer
pub data IsShownText (bytes text : List ℕ) : Type 0 where
  OfProgram : IsProgramTextOf bytes text → IsShownText bytes text
  OfOffer : IsOfferTextOf bytes text → IsShownText bytes text

-- unless memory was refused, the file has no text
abbrev pub HasNoText : List ℕ → FormError → Type 0
HasNoText bytes fault = fault ≢ NoMemory → (text : List ℕ) → IsShownText bytes text → ⊥

-- the byte that tells the language, 0 where there is none
abbrev pub tag_of : List ℕ → ℕ
tag_of bytes = slice_index bytes 4

-- unless memory was refused, the bytes are the file of no program of a language
abbrev pub HasNone : {F : Type 0} → (List ℕ → Program F → Type 0) → List ℕ → FormError → Type 0
HasNone {F} Is bytes fault = fault ≢ NoMemory → (p : Program F) → Is bytes p → ⊥

-- what was printed: the text of the file
abbrev pub HasShown : List ℕ → Option (List ℕ) → Option (List ℕ) → Type 0
HasShown bytes before after = (text : List ℕ) × IsShownText bytes text × Appends before after text

-- where nothing is shown: a file without a text prints nothing; where the writer fails, a beginning of the text was printed
abbrev pub HasNotShown : List ℕ → ShowError → Option (List ℕ) → Option (List ℕ) → Type 0
HasNotShown bytes (Form fault) before after = HasNoText bytes fault × Keeps before after
HasNotShown bytes (Run fault) before after = (text : List ℕ) × IsShownText bytes text × IsBegun text before after
