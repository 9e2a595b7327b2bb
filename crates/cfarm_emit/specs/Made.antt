-- What is made of a checked program, in each form.
use Rattle.std.specs.Prelude.{◌≡◌, ◌≤◌, ℕ, List, [], ◌∷◌, All, length, Option, None}
use Rattle.lang_base.specs.Keeps.{Keeps}
use Rattle.lang_base.specs.declared.program.Named.{Named}
use Rattle.lang_base.specs.declared.program.Program.{Program}
use Rattle.lang.specs.Form.{IsProgram, program_text}
use Rattle.c_program.specs.Meaning.{crun}
use Rattle.c_program.specs.Trees.{ProgramTree}
use Rattle.cminor_lowering.specs.Programs.{low}
use Rattle.cminor_program_ranges.specs.Heads.{HasHeadOf}
use Rattle.cminor_program_ranges.specs.Names.{HaveNames}
use Rattle.cminor_form.specs.Spelling as cminor_spelling
use Rattle.cminor_syntax.specs.Meaning as cminor_meaning
use Rattle.rtlgen_definition.specs.Gen.{gen}
use Rattle.rtl_language.specs.Function as rtl
use Rattle.rtl_language.specs.Meaning as rtl_meaning
use Rattle.rtl_language.specs.Spelling as rtl_spelling
use Rattle.ltl.specs.Function as ltl
use Rattle.ltl.specs.Spelling as ltl_spelling
use Rattle.linear_language.specs.Meaning as linear_meaning
use Rattle.linear_language.specs.Spelling as linear_spelling
use Rattle.chains.specs.declared.offering.Offers.{Offers}
use Rattle.chains.specs.Accepted.{AreAccepted}
use Rattle.chains_made.specs.Baselines.{AreBaselines}
use Rattle.chains.specs.Offered.{AllGoOn, linked_offers}
use Rattle.bundle_reading.specs.Texts.{IsBundleOf}
use Rattle.cfarm_options.specs.declared.emitted.Emitted.{Emitted}
use Rattle.cfarm_options.specs.declared.emitted.Emitted.TheVariants as form

-- what a program is translated to, with which the first pass begins: its names are C names, and it has a spelling
pub record IsReady (p : ProgramTree) (begun : Program rtl.FunctionData) : Type 0 where
  pub names : HaveNames p
  pub head : HasHeadOf (low p) begun
  pub keeps : Keeps (crun p) (rtl_meaning.run begun)
  pub count : length begun.functions ≤ 64
  pub fits : IsProgram rtl.IsFunction begun

-- the output of its third offer, under each function's name
abbrev pub thirds_of : List (Named rtl.FunctionData) → List Offers → List (Named ltl.FunctionData)
thirds_of [] offers = []
thirds_of (f ∷ functions) [] = []
thirds_of (f ∷ functions) (o ∷ offers) = record { name = f.name; function = o.allocation.output } ∷ thirds_of functions offers

abbrev pub third_program : Program rtl.FunctionData → List Offers → Program ltl.FunctionData
third_program begun offers = record { globals = begun.globals; functions = thirds_of begun.functions offers }

-- its bytes
abbrev pub text_of_thirds : Program rtl.FunctionData → List Offers → List ℕ
text_of_thirds begun offers = program_text 3 ltl_spelling.spelling (third_program begun offers)

-- offers that chain from these functions, each accepted by its pass; with no seed they are the baselines
pub record AreMade (functions : List (Named rtl.FunctionData)) (seed : Option ℕ) (offers : List Offers) : Type 0 where
  pub chained : AllGoOn functions offers
  pub accepted : All AreAccepted offers
  pub baselines : seed ≡ None → All AreBaselines offers

-- ---- each form's bytes

-- what the program is lowered to
pub record IsCminorOf (p : ProgramTree) (bytes : List ℕ) : Type 0 where
  pub text : bytes ≡ program_text 1 cminor_spelling.spelling (low p)
  pub keeps : Keeps (crun p) (cminor_meaning.run (low p))

-- what it is translated to
pub record IsRtlOf (p : ProgramTree) (begun : Program rtl.FunctionData) (bytes : List ℕ) : Type 0 where
  pub text : bytes ≡ program_text 2 rtl_spelling.spelling begun
  pub keeps : Keeps (crun p) (rtl_meaning.run begun)

-- the outputs of the third offers
pub record IsLtlOf (begun : Program rtl.FunctionData) (seed : Option ℕ) (bytes : List ℕ) : Type 0 where
  pub offers : List Offers
  pub made : AreMade begun.functions seed offers
  pub text : bytes ≡ text_of_thirds begun offers

-- the program that these offers link, which keeps the meaning of the first one
pub record IsLinkedFrom (begun : Program rtl.FunctionData) (offers : List Offers) (bytes : List ℕ) : Type 0 where
  pub text : bytes ≡ program_text 4 linear_spelling.spelling (linked_offers begun offers)
  pub keeps : Keeps (rtl_meaning.run begun) (linear_meaning.run (linked_offers begun offers))

-- and that of the C program
pub record IsLinked (p : ProgramTree) (begun : Program rtl.FunctionData) (offers : List Offers) (bytes : List ℕ) : Type 0 where
  pub text : bytes ≡ program_text 4 linear_spelling.spelling (linked_offers begun offers)
  pub keeps : Keeps (crun p) (linear_meaning.run (linked_offers begun offers))

pub record IsLinearOf (p : ProgramTree) (begun : Program rtl.FunctionData) (seed : Option ℕ) (bytes : List ℕ) : Type 0 where
  pub offers : List Offers
  pub made : AreMade begun.functions seed offers
  pub linked : IsLinked p begun offers bytes

-- the bundle of the offers, of a text of this digest
pub record IsBundledOf (hash : List ℕ) (begun : Program rtl.FunctionData) (seed : Option ℕ) (bytes : List ℕ) : Type 0 where
  pub offers : List Offers
  pub made : AreMade begun.functions seed offers
  pub bundled : IsBundleOf bytes hash offers

-- the bytes of the form that is asked for, where the program is translated to this one
abbrev pub IsMadeFrom : List ℕ → ProgramTree → Program rtl.FunctionData → Emitted → Option ℕ → List ℕ → Type 0
IsMadeFrom hash p begun form.Cminor seed bytes = IsCminorOf p bytes
IsMadeFrom hash p begun form.Rtl seed bytes = IsRtlOf p begun bytes
IsMadeFrom hash p begun form.Ltl seed bytes = IsLtlOf begun seed bytes
IsMadeFrom hash p begun form.Linear seed bytes = IsLinearOf p begun seed bytes
IsMadeFrom hash p begun form.Bundle seed bytes = IsBundledOf hash begun seed bytes

abbrev pub IsMadeOf : List ℕ → ProgramTree → Emitted → Option ℕ → List ℕ → Type 0
IsMadeOf hash p of seed bytes = IsMadeFrom hash p (gen (low p)) of seed bytes
