-- The function in slots is in range.
use Rattle.std.proofs.Common.{◌≡◌, ◌≢◌, ℕ, ◌<◌, ◌≤◌, List, [], ◌∷◌, length, Option, Some, None, sym, ap, subst, arith}
use Rattle.std.specs.Prelude.{map}
use Rattle.std.specs.Option.{option_map}
use Rattle.std.specs.List.{AllByRecursion}
use Rattle.std.proofs.lemmas.List.{length-map}
use Rattle.ints.specs.Codes.{argument_count_of}
use Rattle.ints.specs.Conditions.{cond_argument_count_of}
use Rattle.locations.specs.declared.location.Location.{Location}
use Rattle.locations.specs.declared.location.Location.TheVariants.{InRegister, InSlot}
use Rattle.locations.specs.Fits as locations
use Rattle.machine.specs.Fits as machine
use Rattle.rtl_acts.specs.declared.arguments.Arguments.{Arguments}
use Rattle.rtl_acts.specs.declared.arguments.Arguments.TheVariants.{One, Two}
use Rattle.rtl_acts.specs.declared.act.Act.{Act}
use Rattle.rtl_acts.specs.declared.act.Act.TheVariants.{Nop, Constant, Move, Operate, Load, Store, Put}
use Rattle.rtl_acts.specs.Fits.{RegisterFits, TargetFits, ArgumentsFit, ActFits}
use Rattle.rtl_language.specs.declared.instruction.Instruction.{Instruction}
use Rattle.rtl_language.specs.declared.instruction.Instruction.TheVariants.{Do, Call, Branch, Return}
use Rattle.rtl_language.specs.Function.{FunctionData, IsFunction, InstructionFits}
use Rattle.ltl.specs.Function as ltl
use Rattle.alloc_check_rules.specs.Rules.{baseline_limit}
use Rattle.alloc_check.specs.Slots.{slot, fetch, keep, arguments_before, arguments_in, act_before, act_in, act_after, block_in, function_in}

pub slot_tells : (r q : ℕ) → slot r ≡ slot q → r ≡ q
slot_tells r q same = ap number same
  where
    number : Location → ℕ
    number (InRegister k) = k
    number (InSlot s) = s

each_slot : (slots : ℕ) (rs : List ℕ) → AllByRecursion (RegisterFits slots) rs → AllByRecursion (locations.LocationFits slots) (map slot rs)
each_slot slots [] fits = tt
each_slot slots (r ∷ rs) fits = (fits.0, each_slot slots rs fits.1)

none_slot : (r : ℕ) (rs : List ℕ) → AllByRecursion (λ q. r ≢ q) rs → AllByRecursion (λ l. slot r ≢ l) (map slot rs)
none_slot r [] other = tt
none_slot r (q ∷ rs) other = (λ same. other.0 (slot_tells r q same), none_slot r rs other.1)

distinct_slots : (rs : List ℕ) → locations.AreDistinct rs → locations.AreDistinct (map slot rs)
distinct_slots [] distinct = tt
distinct_slots (r ∷ rs) distinct = (none_slot r rs distinct.0, distinct_slots rs distinct.1)

module _ (slots : ℕ) where
  fetch_fits : (machine_register r : ℕ) → machine_register < 8 → r < slots → locations.MoveFits slots (fetch machine_register r)
  fetch_fits machine_register r small fits = record { target = small; source = fits; through = tt }

  keep_fits : (r : ℕ) → r < slots → locations.MoveFits slots (keep r)
  keep_fits r fits = record { target = fits; source = omega arith; through = tt }

  no_moves : locations.MovesFit slots []
  no_moves = record { few = omega arith; each = tt }

  one_fetch : (r : ℕ) → r < slots → locations.MovesFit slots (fetch 0 r ∷ [])
  one_fetch r fits = record { few = omega arith; each = (fetch_fits 0 r (omega arith) fits, tt) }

  two_fetches : (r q : ℕ) → r < slots → q < slots → locations.MovesFit slots (fetch 0 r ∷ (fetch 1 q ∷ []))
  two_fetches r q fits also = record { few = omega arith; each = (fetch_fits 0 r (omega arith) fits, (fetch_fits 1 q (omega arith) also, tt)) }

  one_keep : (r : ℕ) → r < slots → locations.MovesFit slots (keep r ∷ [])
  one_keep r fits = record { few = omega arith; each = (keep_fits r fits, tt) }

  before_fits : (count : ℕ) (names : Arguments) → ArgumentsFit slots count names → locations.MovesFit slots (arguments_before names)
  before_fits count (One a) fits = one_fetch a fits.1
  before_fits count (Two a b) fits = two_fetches a b fits.1 fits.2

  in_fits : (count : ℕ) (names : Arguments) → ArgumentsFit slots count names → machine.ArgumentsFit count (arguments_in names)
  in_fits count (One a) fits = (fits.0, omega arith)
  in_fits count (Two a b) fits = (fits.0, omega arith, omega arith)

  act_before_fits : (a : Act) → ActFits slots a → locations.MovesFit slots (act_before a)
  act_before_fits Nop fits = no_moves
  act_before_fits (Constant target word) fits = no_moves
  act_before_fits (Move target source) fits = one_fetch source fits.1
  act_before_fits (Operate op target names) fits = before_fits (argument_count_of op) names fits.1
  act_before_fits (Load target global index) fits = one_fetch index fits.2
  act_before_fits (Store global index source) fits = two_fetches index source fits.1 fits.2
  act_before_fits (Put source target) fits = one_fetch source fits.0

  act_in_fits : (a : Act) → ActFits slots a → ltl.MaybeActFits (act_in a)
  act_in_fits Nop fits = tt
  act_in_fits (Constant target word) fits = (omega arith, fits.1)
  act_in_fits (Move target source) fits = tt
  act_in_fits (Operate op target names) fits = (omega arith, in_fits (argument_count_of op) names fits.1)
  act_in_fits (Load target global index) fits = (omega arith, fits.1, omega arith)
  act_in_fits (Store global index source) fits = (fits.0, omega arith, omega arith)
  act_in_fits (Put source None) fits = (omega arith, tt)
  act_in_fits (Put source (Some target)) fits = (omega arith, omega arith)

  act_after_fits : (a : Act) → ActFits slots a → locations.MovesFit slots (act_after a)
  act_after_fits Nop fits = no_moves
  act_after_fits (Constant target word) fits = one_keep target fits.0
  act_after_fits (Move target source) fits = one_keep target fits.0
  act_after_fits (Operate op target names) fits = one_keep target fits.0
  act_after_fits (Load target global index) fits = one_keep target fits.0
  act_after_fits (Store global index source) fits = no_moves
  act_after_fits (Put source None) fits = no_moves
  act_after_fits (Put source (Some target)) fits = one_keep target fits.1

  target_fits : (target : Option ℕ) → TargetFits slots target → locations.TargetFits slots (option_map slot target)
  target_fits None fits = tt
  target_fits (Some r) fits = fits

  block_fits : (nodes : ℕ) (i : Instruction) → InstructionFits slots nodes i → ltl.BlockFits slots nodes (block_in i)
  block_fits nodes (Do a successor) fits = record { before = act_before_fits a fits.0; body = (act_in_fits a fits.0, act_after_fits a fits.0, fits.1) }
  block_fits nodes (Call function names target successor) fits = record {
    before = no_moves;
    body = (
      record {
        function = fits.0.function;
        few = omega (arith, fits.0.few, length-map names slot);
        arguments = each_slot slots names fits.0.arguments;
        target = target_fits target fits.0.target;
      },
      no_moves,
      fits.1,
    );
  }
  block_fits nodes (Branch test taken other) fits = record {
    before = before_fits (cond_argument_count_of test.condition) test.arguments fits.0;
    body = (in_fits (cond_argument_count_of test.condition) test.arguments fits.0, fits.1, fits.2);
  }
  block_fits nodes (Return None) fits = record { before = no_moves; body = tt }
  block_fits nodes (Return (Some value)) fits = record { before = one_fetch value fits; body = omega arith }

  blocks_fit : (nodes : ℕ) (is : List Instruction) → AllByRecursion (InstructionFits slots nodes) is → AllByRecursion (ltl.BlockFits slots nodes) (map block_in is)
  blocks_fit nodes [] fits = tt
  blocks_fit nodes (i ∷ is) fits = (block_fits nodes i fits.0, blocks_fit nodes is fits.1)

pub function_fits : (f : FunctionData) → IsFunction f → f.registers ≤ baseline_limit → ltl.IsFunction (function_in f)
function_fits f fits few =
    let same : length (map block_in f.nodes) ≡ length f.nodes = length-map f.nodes block_in in
    record {
      parameters = record {
        few = omega (arith, fits.parameters.few, length-map f.parameters slot);
        each = each_slot f.registers f.parameters fits.parameters.each;
        distinct = distinct_slots f.parameters fits.parameters.distinct;
      };
      slots = few;
      entry = omega (arith, fits.entry, same);
      nodes = omega (arith, fits.nodes, same);
      each = subst (λ n. AllByRecursion (ltl.BlockFits f.registers n) (map block_in f.nodes)) (sym same) (blocks_fit f.registers (length f.nodes) f.nodes fits.each);
    }
