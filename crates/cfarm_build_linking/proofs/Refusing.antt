-- What the refusals to link are of.
use Rattle.std.proofs.Common.{◌≡◌, ℕ, zero, suc, ◌<◌, List, [], ◌∷◌, length, map, Option, Some, ap, subst, ◌∙◌, arith}
use Rattle.std.proofs.lemmas.List.{length-map}
use Rattle.lang_base.specs.declared.program.Named.{Named}
use Rattle.c_checker_rules.specs.Checked.{Contents, program_tree}
use Rattle.c_program.specs.declared.function.Function.{Function}
use Rattle.c_program.specs.Views.{function_tree}
use Rattle.cminor_lowering.specs.Programs.{low, low_named}
use Rattle.rtl_language.specs.Function.{FunctionData}
use Rattle.rtlgen_definition.specs.Gen.{gen, gen_named}
use Rattle.cfarm_build_result.specs.Numbers.{function_of_link_error}
use Rattle.cfarm_build_result.specs.LinkError.{LinkError}
use Rattle.cfarm_build_result.specs.LinkError.TheVariants as links
use Rattle.rooms_hall.specs.declared.hall.Naming as naming
use Rattle.cfarm_build_result.specs.NumberedSeat.{NumberedSeat}
use Rattle.cfarm_build_result.specs.Source.{Source}
use Rattle.cfarm_build_result.specs.Learned.{FourOffers, learned_by}
use Rattle.cfarm_build_result.specs.Refused.{IsFirstBroken, IsUnlinkedTo}
use Rattle.cfarm_build_linking.specs.Refused.{IsToldOf, IsUnlinkedBy}
use Rattle.cfarm_build_faults.specs.declared.error.BuildError.{BuildError}
use Rattle.cfarm_build_faults.specs.declared.error.BuildError.TheVariants.{NoMemory, NoThread, Source as TextFault, Disks, Failed, Undecided, Unlinked, Names}

-- the first function whose offers do not go on is one of them
is_one : (fs : List (Named FunctionData)) (learned : List (Option FourOffers)) (i : ℕ) → IsFirstBroken fs learned i → i < length fs
is_one [] learned i broken = absurd broken
is_one (f ∷ fs) [] i broken = absurd broken
is_one (f ∷ fs) (o ∷ learned) zero broken = omega arith
is_one (f ∷ fs) (o ∷ learned) (suc i) broken = let below = is_one fs learned i broken.1 in omega (arith, below)

is_function : (fs : List Function) (learned : List (Option FourOffers)) (i : ℕ)
    → IsFirstBroken (map gen_named (map low_named (map function_tree fs))) learned i → i < length fs
is_function fs learned i broken =
    let below = is_one (map gen_named (map low_named (map function_tree fs))) learned i broken in
    omega (arith, below, length-map (map low_named (map function_tree fs)) gen_named, length-map (map function_tree fs) low_named, length-map fs function_tree)

-- a function is translated for each
pub as_many : (fs : List Function) → length (map gen_named (map low_named (map function_tree fs))) ≡ length fs
as_many fs = length-map (map low_named (map function_tree fs)) gen_named ∙ (length-map (map function_tree fs) low_named ∙ length-map fs function_tree)

-- The one refusal that is left, where memory is not refused: the offers of this function do not go on.
pub record IsOfFunction (p : Contents) (learned : List (Option FourOffers)) (fault : LinkError) (i : ℕ) : Type 0 where
  pub fault_is : fault ≡ links.Unchained i
  pub broken : IsFirstBroken (gen (low (program_tree p))).functions learned i
  pub within : i < length p.functions

module _ (p : Contents) (learned : List (Option FourOffers)) where
  pub of_function : (fault : LinkError) (i : ℕ) → IsUnlinkedTo (gen (low (program_tree p))) learned fault
      → function_of_link_error fault ≡ Some i → IsOfFunction p learned fault i
  of_function links.NoMemory i told e = absurd (cc e)
  of_function links.Names i told e = absurd told
  of_function (links.TooManyNodes n) i told e = absurd told
  of_function (links.Missing n) i told e = absurd told
  of_function (links.Unchained n) i told e =
      let same_number : n ≡ i = cc e in
      let broken = subst (λ j. IsFirstBroken (gen (low (program_tree p))).functions learned j) same_number told in
      record { fault_is = ap (λ j. links.Unchained j) same_number; broken = broken; within = is_function p.functions learned i broken }

  pub never_names : (fault : LinkError) → IsUnlinkedTo (gen (low (program_tree p))) learned fault → fault ≡ links.Names → ⊥
  never_names links.NoMemory told e = absurd (cc e)
  never_names links.Names told e = told
  never_names (links.TooManyNodes n) told e = told
  never_names (links.Missing n) told e = told
  never_names (links.Unchained n) told e = absurd (cc e)

-- a refusal as it is told
module _ {H : Type 0} {h : naming.Ghosts H} (source : Source) (seats : List (NumberedSeat H h)) (fault : LinkError)
    (told : IsUnlinkedTo (gen (low (program_tree source.program))) (learned_by seats) fault) where
  pub refused : (e : BuildError) → IsToldOf (map (λ f. f.name) source.program.functions) fault e → IsUnlinkedBy source seats e
  refused NoMemory is = tt
  refused NoThread is = is
  refused (TextFault f) is = is
  refused (Disks f) is = is
  refused (Failed n f) is = is
  refused Undecided is = is
  refused (Unlinked f function) is =
      let of = of_function source.program (learned_by seats) fault is.0 told is.2 in
      record { number = is.0; fault_is = is.1 ∙ of.fault_is; broken = of.broken; named = is.3 }
  refused Names is = never_names source.program (learned_by seats) fault told is
