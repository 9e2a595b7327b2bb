-- What entries are read back from, and that their words are in range.
use Rattle.std.proofs.Common.{◌≡◌, ℕ, ◌<◌, ◌≤◌, ◌^◌, List, [], ◌∷◌, refl, ap, arith}
use Rattle.std.specs.List.{AllByRecursion}
use Rattle.locations.specs.declared.location.Location.TheVariants.{InRegister, InSlot}
use Rattle.rtl_acts.specs.declared.arguments.Arguments.{Arguments}
use Rattle.rtl_acts.specs.declared.arguments.Arguments.TheVariants.{One, Two}
use Rattle.rtl_acts.specs.Fits.{ArgumentsFit}
use Rattle.constprop_check_rules.specs.declared.fact.Fact.{Fact}
use Rattle.constprop_check_rules.specs.Rules.{FactFits}
use Rattle.cse_check_rules.specs.declared.equation.Equation as cse
use Rattle.cse_check_rules.specs.declared.equation.RightSide.{RightSide}
use Rattle.cse_check_rules.specs.declared.equation.RightSide.TheVariants.{Operation, Cell, Copy}
use Rattle.cse_check_rules.specs.Rules as elimination
use Rattle.alloc_check_rules.specs.declared.equation.Equation as alloc
use Rattle.alloc_check_rules.specs.Rules as allocation
use Rattle.text_keys.specs.declared.key.Key.{Key}
use Rattle.text_keys.specs.declared.key.Key.TheVariants as key
use Rattle.text_keys.specs.declared.word.Word.{Word}
use Rattle.text_keys.specs.declared.word.Word.TheVariants.{Lettered, Number, Named}
use Rattle.text_keys.specs.Words.{WordFits}
use Rattle.text_keys.proofs.Reading.{first, others, at}
use Rattle.text_common.proofs.Read.{location_of, location_again, location_fits}
use Rattle.text_rtl.specs.Acts.{argument_words}
use Rattle.text_rtl.proofs.Parts.{arguments_of}
use Rattle.text_offers.specs.Entries.{fact_words, right_words, equation_words, place_words}
use Rattle.text_offers.proofs.Lines.{EntryFits}

-- what stands behind a register and "="
abbrev given : List Word → List Word
given ws = others (others ws)

-- ---- pass 1

pub read_fact : List Word → Fact
read_fact ws = record { register = at ws; word = at (others (given ws)) }

pub fact_again : (f : Fact) → read_fact (fact_words f) ≡ f
unfolding read_fact
fact_again f = refl

pub fact_fits : (registers : ℕ) → registers ≤ 2 ^ 16 → (f : Fact) → FactFits registers f → EntryFits fact_words f
fact_fits registers few f fits = (omega (arith, fits.0, few), (tt, (tt, (omega (arith, fits.1), tt))))

-- ---- pass 2

right_by : Key → List Word → RightSide
right_by (key.Operator o) ws = Operation o (arguments_of ws)
right_by key.Load ws = Cell (at ws) (at (others ws))
right_by _ ws = Copy (at ws)

right_of : List Word → RightSide
right_of (Named k ∷ ws) = right_by k ws
right_of ws = Copy 0

right_again : (r : RightSide) → right_of (right_words r) ≡ r
unfolding right_of right_by
right_again (Operation o (One a)) = refl
right_again (Operation o (Two a b)) = refl
right_again (Cell global index) = refl
right_again (Copy source) = refl

pub read_equation : List Word → cse.Equation
read_equation ws = record { register = at ws; right = right_of (given ws) }

pub equation_again : (e : cse.Equation) → read_equation (equation_words e) ≡ e
unfolding read_equation
equation_again e = ap (λ r. record { register = e.register; right = r }) (right_again e.right)

arguments_fit : (registers : ℕ) → registers ≤ 2 ^ 16 → (count : ℕ) (a : Arguments) → ArgumentsFit registers count a → AllByRecursion WordFits (argument_words a)
arguments_fit registers few count (One a) fits = (omega (arith, fits.1, few), tt)
arguments_fit registers few count (Two a b) fits = (omega (arith, fits.1, few), (omega (arith, fits.2, few), tt))

right_fits : (registers : ℕ) → registers ≤ 2 ^ 16 → (r : RightSide) → elimination.RightFits registers r → AllByRecursion WordFits (right_words r)
right_fits registers few (Operation o arguments) fits = (tt, arguments_fit registers few _ arguments fits)
right_fits registers few (Cell global index) fits = (tt, (omega (arith, fits.0), (omega (arith, fits.1, few), tt)))
right_fits registers few (Copy source) fits = (tt, (omega (arith, fits, few), tt))

pub equation_fits : (registers : ℕ) → registers ≤ 2 ^ 16 → (e : cse.Equation) → elimination.EquationFits registers e → EntryFits equation_words e
equation_fits registers few e fits = (omega (arith, fits.0, few), (tt, right_fits registers few e.right fits.1))

-- ---- pass 3

pub read_place : List Word → alloc.Equation
read_place ws = record { register = at ws; location = location_of (first (given ws)) }

pub place_again : (e : alloc.Equation) → read_place (place_words e) ≡ e
unfolding read_place
place_again e = ap (λ l. record { register = e.register; location = l }) (location_again e.location)

pub place_fits : (registers slots : ℕ) → registers ≤ 2 ^ 16 → slots ≤ 2 ^ 16 → (e : alloc.Equation) → allocation.EquationFits registers slots e → EntryFits place_words e
place_fits registers slots few low e fits = (omega (arith, fits.0, few), (tt, (location_fits slots low e.location fits.1, tt)))
