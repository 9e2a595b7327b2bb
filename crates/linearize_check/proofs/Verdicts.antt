-- Position by position right, and laid out by the order: the one is the other.
use Rattle.std.proofs.Common.{◌≡◌, ◌≢◌, ℕ, zero, suc, ◌<◌, List, [], ◌∷◌, length, get_or, take, Option, Some, None, Bool, true, not, refl, sym, ap, ◌∙◌, subst, arith}
use Rattle.std.specs.Prelude.{◌↔◌, is_some, slice_get, All, Contains}
use Rattle.std.specs.Option.{option_map}
use Rattle.std.proofs.lemmas.Bool.{both_ways, not-true, not-false}
use Rattle.std.proofs.lemmas.List.{get_or_default}
use Rattle.std.proofs.lemmas.List.Elements.{All-from_get_or, recursion_from_All, All-from_recursion}
use Rattle.linearize_check_layout.specs.Fits.{AreDistinct}
use Rattle.ltl.specs.declared.block.Block.{Block}
use Rattle.ltl.specs.Function as ltl
use Rattle.linear_language.specs.Function as linear
use Rattle.lang_base.specs.declared.fault.Fault.{Fault}
use Rattle.lang_base.specs.declared.fault.Fault.TheVariants.{Shape, Node}
use Rattle.linearize_check_proof.specs.Layout.{successors_of}
use Rattle.linearize_check_proof.specs.Orders.{ListsNodes, IsOrder}
use Rattle.linearize_check_proof.specs.Rules.{IsLaidOut, laid_out}
use Rattle.linearize_check_proof.proofs.Places.{Contains-later}
use Rattle.linearize_check.specs.Faults.{HasShape, IsFreshAt, IsClosedAt, IsOrderedAt, StandsAt, IsRightAt, TellsLowest, TellsMisplaced, lesser, TellsFault}
use Rattle.linearize_check.proofs.Lowest.{lowest-same, lowest-both}
use Rattle.linearize_check.proofs.Positions.{code-from_stands, code-stands}

-- ---- no node twice

pub distinct-from_fresh : (order : List ℕ) → ((i : ℕ) → i < length order → IsFreshAt order i) → AreDistinct order
distinct-from_fresh [] fresh = tt
distinct-from_fresh (x ∷ xs) fresh = (
  recursion_from_All (λ y. x ≢ y) xs (λ k d below same. fresh (suc k) (omega (arith, below)) (0, omega arith, same ∙ get_or_default xs k d 0 below)),
  distinct-from_fresh xs (λ i below h. fresh (suc i) (omega (arith, below)) (Contains-later x (take i xs) (get_or xs i 0) h)),
)

pub fresh-from_distinct : (order : List ℕ) → AreDistinct order → (i : ℕ) → i < length order → IsFreshAt order i
fresh-from_distinct [] distinct i below h = absurd (omega (arith, below))
fresh-from_distinct (x ∷ xs) distinct zero below h = absurd (omega (arith, h.1))
fresh-from_distinct (x ∷ xs) distinct (suc i) below (zero, within, same) = All-from_recursion (λ y. x ≢ y) xs distinct.0 i 0 (omega (arith, below)) same
fresh-from_distinct (x ∷ xs) distinct (suc i) below (suc k, within, same) = fresh-from_distinct xs distinct.1 i (omega (arith, below)) (k, omega (arith, within), same)

-- ---- each successor listed

abbrev ClosedNode : List Block → List ℕ → ℕ → Type 0
ClosedNode blocks order n = All (Contains order) (successors_of (slice_get blocks n))

pub all-from_closed : (blocks : List Block) (order : List ℕ) → ((i : ℕ) → i < length order → IsClosedAt blocks order i) → All (ClosedNode blocks order) order
all-from_closed blocks order closed = All-from_get_or (ClosedNode blocks order) order 0 closed

-- ---- an order that is allowed

pub order-exact : (f : ltl.FunctionData) (order : List ℕ) (lowest : Option ℕ) (answer : Bool) → is_some lowest ≡ not answer → ListsNodes f order → TellsLowest (IsOrderedAt f.blocks order) order (length order) lowest → (answer ≡ true) ↔ IsOrder f order
order-exact f order None answer e lists right = (
  λ _. record {
    lists = lists;
    distinct = distinct-from_fresh order (λ i below. (right i below).0);
    closed = all-from_closed f.blocks order (λ i below. (right i below).1);
  },
  λ h. not-false answer (sym e),
)
order-exact f order (Some n) answer e lists told = (
  λ is. absurd (both_ways answer (not-true answer (sym e)) is),
  λ h. absurd (told.wrong (fresh-from_distinct order h.distinct told.position told.within, h.closed told.position 0 told.within)),
)

-- what is laid out by an order that is allowed
pub laid_out-by_order : (f : ltl.FunctionData) (order : List ℕ) → IsOrder f order → IsLaidOut f (laid_out f order) order
laid_out-by_order f order h = record {
  allowed = h;
  frame = record { parameters = refl; slots = refl };
  code = refl;
}

-- ---- the whole

module _ (input : ltl.FunctionData) (output : linear.FunctionData) (order : List ℕ) where
  pub laid_out-from_right : HasShape input output order → ((i : ℕ) → i < length order → IsRightAt input.blocks output.code order i) → IsLaidOut input output order
  laid_out-from_right shape right = record {
    allowed = record {
      lists = shape.lists;
      distinct = distinct-from_fresh order (λ i below. (right i below).fresh);
      closed = all-from_closed input.blocks order (λ i below. (right i below).closed);
    };
    frame = shape.frame;
    code = code-from_stands input.blocks order output.code (λ i below. (right i below).stands) shape.no_more;
  }

  pub shape-from_laid_out : IsLaidOut input output order → HasShape input output order
  shape-from_laid_out laid = record {
    lists = laid.allowed.lists;
    frame = laid.frame;
    no_more = omega (arith, ap length laid.code);
  }

  pub right-from_laid_out : IsLaidOut input output order → (i : ℕ) → i < length order → IsRightAt input.blocks output.code order i
  right-from_laid_out laid i below = record {
    fresh = fresh-from_distinct order laid.allowed.distinct i below;
    closed = laid.allowed.closed i 0 below;
    stands = subst (λ code. StandsAt input.blocks code order i) (sym laid.code) (code-stands input.blocks order i below);
  }

  -- what is told of an order in form, by the lowest node of the three tests
  pub tells-lowest : (lowest : Option ℕ) → HasShape input output order → TellsLowest (IsRightAt input.blocks output.code order) order (length order) lowest → TellsFault input output order (option_map Node lowest)
  tells-lowest None shape right = laid_out-from_right shape right
  tells-lowest (Some n) shape wrong = (shape, wrong)

  -- where something is told, the output is not laid out by the order
  pub not_laid_out : (fault : Fault) → TellsFault input output order (Some fault) → ¬ IsLaidOut input output order
  not_laid_out Shape no_shape laid = no_shape (shape-from_laid_out laid)
  not_laid_out (Node n) told laid = told.1.wrong (right-from_laid_out laid told.1.position told.1.within)

  -- so nothing is told exactly where it is
  pub told-exact : (told : Option Fault) (answer : Bool) → is_some told ≡ not answer → TellsFault input output order told → (answer ≡ true) ↔ IsLaidOut input output order
  told-exact None answer e laid = (λ _. laid, λ h. not-false answer (sym e))
  told-exact (Some fault) answer e told = (λ is. absurd (both_ways answer (not-true answer (sym e)) is), λ laid. absurd (not_laid_out fault told laid))

  -- the three tests together
  pub right-from_tests : (a b : Option ℕ) → TellsLowest (IsOrderedAt input.blocks order) order (length order) a → TellsMisplaced input.blocks output.code order b → TellsLowest (IsRightAt input.blocks output.code order) order (length order) (lesser a b)
  right-from_tests a b listed placed =
      lowest-same _ (IsRightAt input.blocks output.code order) order (length order) (lesser a b)
      (λ i. (λ p. record { fresh = p.0.0; closed = p.0.1; stands = p.1 }, λ r. ((r.fresh, r.closed), r.stands)))
      (lowest-both (IsOrderedAt input.blocks order) (StandsAt input.blocks output.code order) order (length order) a b listed placed)
