-- Scopes whose names stand for locals and globals that are there.
use Rattle.std.proofs.Common.{ℕ, ◌<◌, Bool, true, false, [], ◌∷◌, Option, Some, None, arith}
use Rattle.std.specs.Prelude.{if◌then◌else◌}
use Rattle.std.specs.List.{AllByRecursion}
use Rattle.std.specs.Option.{option_map}
use Rattle.std.specs.Str.{bytes_eq}
use Rattle.c_checker_scopes.specs.Bound.{found}
use Rattle.c_syntax.specs.declared.identifier.Identifier.{Identifier}
use Rattle.c_program.specs.declared.action.Target.{Target}
use Rattle.c_program.specs.declared.action.Target.TheVariants as G
use Rattle.c_checker_rules.specs.declared.meaning.Meaning.{Meaning}
use Rattle.c_checker_rules.specs.declared.meaning.Meaning.TheVariants as M
use Rattle.c_checker_rules.specs.Names.{Scope, meaning_of}
use Rattle.c_checker_rules.specs.Terms.{array_number}
use Rattle.c_checker_rules.specs.Actions.{target_of}
use Rattle.cminor_syntax.specs.Fits.{global_limit}

-- among so many locals
abbrev pub MeaningFits : ℕ → Meaning → Type 0
MeaningFits n (M.Local k t) = k < n
MeaningFits n (M.Variable k t) = k < global_limit
MeaningFits n (M.Array k t) = k < global_limit
MeaningFits n (M.Function k) = Unit {0}

abbrev pub ScopeFits : ℕ → Scope → Type 0
ScopeFits n scope = AllByRecursion (λ b. MeaningFits n b.value) scope

abbrev pub MeantFits : ℕ → Option Meaning → Type 0
MeantFits n None = Unit {0}
MeantFits n (Some m) = MeaningFits n m

pub meant_fits : (n : ℕ) (scope : Scope) (x : Identifier) → ScopeFits n scope → MeantFits n (meaning_of scope x)
meant_fits n [] x fits = tt
meant_fits n (b ∷ bs) x fits = at (meant_fits n bs x fits.1) (bytes_eq x.name b.name)
  where
    at : MeantFits n (meaning_of bs x) → (z : Bool) → MeantFits n (option_map (λ c. c.value) (if z then Some b else found x.name bs))
    at behind true = fits.0
    at behind false = behind

pub array_fits : (n : ℕ) (m : Option Meaning) → MeantFits n m → array_number m < global_limit
array_fits n None fits = omega arith
array_fits n (Some (M.Local k t)) fits = omega arith
array_fits n (Some (M.Variable k t)) fits = omega arith
array_fits n (Some (M.Array k t)) fits = fits
array_fits n (Some (M.Function k)) fits = omega arith

-- what a value goes to
abbrev pub TargetFits : ℕ → Target → Type 0
TargetFits n G.Nowhere = Unit {0}
TargetFits n (G.Local k) = k < n
TargetFits n (G.Global g) = g < global_limit
TargetFits n G.Caller = Unit {0}

pub target_fits : (n : ℕ) (m : Option Meaning) → MeantFits n m → TargetFits n (target_of m)
target_fits n None fits = tt
target_fits n (Some (M.Local k t)) fits = fits
target_fits n (Some (M.Variable k t)) fits = fits
target_fits n (Some (M.Array k t)) fits = tt
target_fits n (Some (M.Function k)) fits = tt
