-- A block is as many steps as it has instructions.
use Rattle.std.proofs.Common.{◌≡◌, ℕ, ◌+◌, List, [], ◌∷◌, ◌++◌, length, Option, Some, refl, ap, ◌∙◌}
use Rattle.std.specs.Prelude.{slice_get}
use Rattle.lang_base.specs.declared.program.Named.{Named}
use Rattle.lang_base.specs.declared.program.Program.{Program}
use Rattle.linear_language.specs.declared.instruction.Instruction.{Instruction}
use Rattle.linear_language.specs.Function.{FunctionData}
use Rattle.x86_syntax.specs.declared.function.Function.{Function}
use Rattle.x86_syntax.specs.declared.instruction.Instruction.{Instruction as NativeInstruction}
use Rattle.x86_state.specs.State.{State as Native, Step, Goes, Ends, Stops, Fills, Stuck}
use Rattle.native_lowering_definition.specs.Blocks.{block}
use Rattle.native_lowering_definition.specs.Layout.{facts_in, place_in}
use Rattle.native_lowering_definition.specs.Lowering.{around_of, code_of, function_of, lowered}
use Rattle.native_lowering_definition.specs.Operating.{Block}
use Rattle.native_lowering_layout.proofs.Blocks.{stands_in}
use Rattle.native_lowering_walks.specs.Walks.{then, steps, walks, StandAt, GoesBelow, GoStraight}
use Rattle.native_lowering_walks.proofs.Walking.{walks_on}
use Rattle.native_lowering_runs.proofs.Lists.{get_map}

module _ (p : Program FunctionData) (named : Named FunctionData) where
  abbrev pub lowered_function : Named Function
  lowered_function = record { name = named.name; function = function_of p named.function }

  pub lowered_there : (k : ℕ) → slice_get p.functions k ≡ Some named → slice_get (lowered p).functions k ≡ Some lowered_function
  lowered_there k there = get_map (λ (f : Named FunctionData). record { name = f.name; function = function_of p f.function }) p.functions k named there

  -- a block of an instruction, from its beginning
  pub block_runs : (room : Option ℕ) (n : ℕ) (i : Instruction) (b : Block) (t : Native) (x : Step) → slice_get p.functions t.function ≡ Some named
      → slice_get named.function.code n ≡ Some i → t.place ≡ place_in p named.function n → block (around_of p named.function) (facts_in named.function n) i ≡ b
      → GoStraight b → walks (lowered p).functions room (code_of p named.function) b t ≡ x → steps (lowered p).functions room (length b) t ≡ x
  block_runs room n i b t x there at place is_it straight walk =
      let stand : StandAt b t.place (code_of p named.function) =
      λ j k inside. stands_in p named.function n j (t.place + j) i k at
      (ap (λ (c : Block). slice_get c j) is_it ∙ inside) (ap (λ m. m + j) place) in
      walks_on (lowered p).functions room lowered_function b t (lowered_there t.function there) stand straight ∙ walk

-- ---- blocks one behind the other

-- each instruction goes on below
abbrev pub AllBelow : List NativeInstruction → Type 0
AllBelow [] = Unit {0}
AllBelow (i ∷ is) = GoesBelow i × AllBelow is

pub below_then : (xs ys : List NativeInstruction) → AllBelow xs → GoStraight ys → GoStraight (xs ++ ys)
below_then [] ys below straight = straight
below_then (x ∷ []) [] below straight = tt
below_then (x ∷ []) (y ∷ ys) below straight = (below.0, straight)
below_then (x ∷ z ∷ xs) ys below straight = (below.0, below_then (z ∷ xs) ys below.1 straight)

pub below_both : (xs ys : List NativeInstruction) → AllBelow xs → AllBelow ys → AllBelow (xs ++ ys)
below_both [] ys first second = second
below_both (x ∷ xs) ys first second = (first.0, below_both xs ys first.1 second)

pub all_straight : (xs : List NativeInstruction) → AllBelow xs → GoStraight xs
all_straight [] below = tt
all_straight (x ∷ []) below = tt
all_straight (x ∷ y ∷ xs) below = (below.0, all_straight (y ∷ xs) below.1)

module _ (functions : List (Named Function)) (room : Option ℕ) (code : List NativeInstruction) where
  then_then : (x : Step) (f g h : Native → Step) → ((s : Native) → f s ≡ then (g s) h) → then x f ≡ then (then x g) h
  then_then (Goes s) f g h same = same s
  then_then (Ends w) f g h same = refl
  then_then Stops f g h same = refl
  then_then Fills f g h same = refl
  then_then Stuck f g h same = refl

  pub walks_both : (xs ys : List NativeInstruction) (s : Native) → walks functions room code (xs ++ ys) s ≡ then (walks functions room code xs s) (walks functions room code ys)
  walks_both [] ys s = refl
  walks_both (x ∷ xs) ys s = then_then _ _ _ _ (walks_both xs ys)

  pub walks_then : (xs ys : List NativeInstruction) (s t : Native) (x : Step) → walks functions room code xs s ≡ Goes t → walks functions room code ys t ≡ x
      → walks functions room code (xs ++ ys) s ≡ x
  walks_then xs ys s t x first second = walks_both xs ys s ∙ ap (λ y. then y (walks functions room code ys)) first ∙ second
