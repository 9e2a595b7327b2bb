-- What a caller has over a call, and the words at its locations.
use Rattle.std.proofs.Common.{◌≡◌, ℕ, zero, suc, ◌-◌, ◌≤◌, List, [], ◌∷◌, length, map, drop, Option, Some, None, refl, ap, ◌∙◌, arith}
use Rattle.std.specs.Prelude.{slice_get, slice_set}
use Rattle.locations.specs.declared.location.Location.{Location}
use Rattle.locations.specs.declared.location.Location.TheVariants.{InRegister, InSlot}
use Rattle.machine.proofs.Words.{length-after_call}
use Rattle.machine.specs.Data.{Data, value_at}
use Rattle.machine.specs.Frames.{after_call}
use Rattle.linear_language.specs.declared.instruction.Instruction.{Instruction}
use Rattle.linear_language.specs.Function.{FunctionData, arguments_of}
use Rattle.native_lowering_definition.specs.Frames.{outs_of}
use Rattle.native_lowering_relation.specs.Agreeing.{Agrees, AgreeEach}
use Rattle.native_lowering_relation.specs.Standing.{Held, Holds}
use Rattle.native_lowering_relation.proofs.Agreeing.{agree_at}
use Rattle.native_lowering_passing.specs.Moved.{word_at_location}

agree_lost : (vs : List (Option ℕ)) (ws : List ℕ) (r : ℕ) → AgreeEach vs ws → AgreeEach (slice_set vs r None) ws
agree_lost [] ws zero agree = tt
agree_lost [] ws (suc r) agree = tt
agree_lost (v ∷ vs) [] r agree = absurd agree
agree_lost (v ∷ vs) (w ∷ ws) zero agree = (tt, agree.1)
agree_lost (v ∷ vs) (w ∷ ws) (suc r) agree = (agree.0, agree_lost vs ws r agree.1)

-- r0 to r3 are lost, and nothing is asked of them
pub holds_lost : (f : FunctionData) (registers slots : List (Option ℕ)) (words : List ℕ) (held : Held) → Holds f registers slots words held → Holds f (after_call registers) slots words held
holds_lost f registers slots words held holds = record {
  eight = length-after_call registers ∙ holds.eight;
  thirteen = holds.thirteen;
  agree = agree_lost _ words 3 (agree_lost _ words 2 (agree_lost _ words 1 (agree_lost registers words 0 holds.agree)));
  count = holds.count;
  agree_slots = holds.agree_slots;
  full = holds.full;
}

pub location_agrees : (f : FunctionData) (d : Data) (words : List ℕ) (held : Held) → Holds f d.registers d.slots words held → (l : Location) → Agrees (value_at l d) (word_at_location l words held)
location_agrees f d words held holds (InRegister r) = agree_at d.registers words r holds.agree
location_agrees f d words held holds (InSlot s) = agree_at d.slots held.slots s holds.agree_slots

-- a frame has cells for the arguments of each call
pub outs_enough : (code : List Instruction) (n : ℕ) (i : Instruction) → slice_get code n ≡ Some i → length (arguments_of i) - 4 ≤ outs_of code
outs_enough [] n i at = cc
outs_enough (j ∷ code) zero i at =
    let same : j ≡ i = cc in
    let count : length (arguments_of j) ≡ length (arguments_of i) = ap (λ k. length (arguments_of k)) same in
    omega (arith, count)
outs_enough (j ∷ code) (suc n) i at = let later = outs_enough code n i at in omega (arith, later)

pub map_drop : {A B : Type 0} (f : A → B) (n : ℕ) (xs : List A) → map f (drop n xs) ≡ drop n (map f xs)
map_drop f zero xs = refl
map_drop f (suc n) [] = refl
map_drop f (suc n) (x ∷ xs) = map_drop f n xs
