-- Whether a bundle's offers come to a program, and what is told where they do not: the text's digest, the names and how many they
-- are, the offers by function and then by pass, and at last what they come to.
use Rattle.std.specs.Prelude.{◌≡◌, ◌≢◌, ℕ, List, length, slice_get, Some}
use Rattle.std.specs.String.{string_bytes}
use Rattle.lang_base.specs.declared.program.Named.{Named}
use Rattle.lang_base.specs.declared.program.Program.{Program}
use Rattle.rtl_language.specs.Function as rtl
use Rattle.linear_language.specs.Function as linear
use Rattle.linker.specs.Chains.{names_of}
use Rattle.chains.specs.declared.offering.Offers.{Offers}
use Rattle.chains.specs.Offered.{linked_offers}
use Rattle.bundle_offers.specs.Standing.{AllStand, IsFirstFault}
use Rattle.bundle_offers.specs.declared.fault.OfferFault.{OfferFault}
use Rattle.cfarm_verify_comparing.specs.Compared.{IsFirstOther}
use Rattle.cfarm_verify.specs.declared.error.VerifyError.{VerifyError}
use Rattle.cfarm_verify.specs.declared.error.VerifyError.TheVariants.{NoMemory, OtherSource, ProgramNames, BundleNames, Offer, OtherFunction, OtherGlobals}

-- the name of the function of this number
abbrev pub IsNameAt : List (List ℕ) → ℕ → List ℕ → Type 0
IsNameAt names i name = slice_get names i ≡ Some name

-- ---- what offers that stand come to

-- a function that differs is told by its name, unless memory was refused
abbrev pub IsNamedOther : List (List ℕ) → ℕ → VerifyError → Type 0
IsNamedOther names i NoMemory = Unit {0}
IsNamedOther names i (OtherFunction name) = IsNameAt names i (string_bytes name)
IsNamedOther names i other = ⊥

-- the first function that is not what its offers come to, or other globals
abbrev pub IsOther : Program rtl.FunctionData → Program linear.FunctionData → List Offers → VerifyError → Type 0
IsOther begun p offers NoMemory = Unit {0}
IsOther begun p offers (OtherFunction name) =
    (i : ℕ) × IsFirstOther (linked_offers begun offers).functions p.functions i × IsNameAt (names_of begun.functions) i (string_bytes name)
IsOther begun p offers OtherGlobals = (p.functions ≡ (linked_offers begun offers).functions) × (p.globals ≢ begun.globals)
IsOther begun p offers other = ⊥

-- ---- offers that do not stand

-- a function's fault is told by its name, unless memory was refused
abbrev pub IsNamedFault : List (List ℕ) → ℕ → OfferFault → VerifyError → Type 0
IsNamedFault names i fault NoMemory = Unit {0}
IsNamedFault names i fault (Offer told name) = (told ≡ fault) × IsNameAt names i (string_bytes name)
IsNamedFault names i fault other = ⊥

-- the first fault, by function and then by pass
abbrev pub IsFaulty : List (Named rtl.FunctionData) → List Offers → VerifyError → Type 0
IsFaulty functions offers NoMemory = Unit {0}
IsFaulty functions offers (Offer fault name) = (i : ℕ) × IsFirstFault functions offers i fault × IsNameAt (names_of functions) i (string_bytes name)
IsFaulty functions offers other = ⊥

-- ---- all of it

module _ (hash : List ℕ) (begun : Program rtl.FunctionData) (p : Program linear.FunctionData) (digest : List ℕ) (offers : List Offers) where
  -- the bundle is of the text, the names are the text's, and there are offers for as many functions
  pub record AreOfText : Type 0 where
    pub text : digest ≡ hash
    pub names : names_of p.functions ≡ names_of begun.functions
    pub many : length offers ≡ length begun.functions

  -- and the offers stand, and come to the program
  pub record AreChecked : Type 0 where
    pub of_text : AreOfText
    pub stand : AllStand begun.functions offers
    pub is : p ≡ linked_offers begun offers

  -- the first of these that holds
  abbrev pub IsUnchecked : VerifyError → Type 0
  IsUnchecked NoMemory = Unit {0}
  IsUnchecked OtherSource = digest ≢ hash
  IsUnchecked ProgramNames = (digest ≡ hash) × (names_of p.functions ≢ names_of begun.functions)
  IsUnchecked BundleNames = (digest ≡ hash) × (names_of p.functions ≡ names_of begun.functions) × (length offers ≢ length begun.functions)
  IsUnchecked (Offer fault name) = AreOfText × IsFaulty begun.functions offers (Offer fault name)
  IsUnchecked (OtherFunction name) = AreOfText × AllStand begun.functions offers × IsOther begun p offers (OtherFunction name)
  IsUnchecked OtherGlobals = AreOfText × AllStand begun.functions offers × IsOther begun p offers OtherGlobals
  IsUnchecked other = ⊥
