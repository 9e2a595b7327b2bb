-- What instructions do leaves the number of registers as it was.
use Rattle.std.proofs.Common.{◌≡◌, ℕ, List, [], ◌∷◌, length, set, Option, Some, None, Bool, true, false, cond, refl, ◌∙◌}
use Rattle.std.specs.Prelude.{option_and_then, slice_get, slice_set, nat_lt}
use Rattle.std.specs.Option.{option_map}
use Rattle.std.proofs.lemmas.List.{length-set}
use Rattle.rtl_language.specs.MachineTable.{machine_table}
use Rattle.rtl_language.specs.Act.{Act}
use Rattle.rtl_language.specs.Act.TheVariants.{Nop, Constant, Move, Operate, Load, Store, Put}
use Rattle.rtl_language.specs.Data.{Data, value_at}
use Rattle.rtl_language.specs.Acts.{words_of, given, with_result, word_in, changed, stored, printing, does, holds}
use Rattle.rtl_language.specs.declared.instruction.Instruction.{Instruction}
use Rattle.rtl_language.specs.declared.instruction.Instruction.TheVariants.{Do, Call, Branch, Return}
use Rattle.rtl_language.specs.Frames.{with_arguments}
use Rattle.rtl_passes.specs.Effects.{Effect, Onward, Calls, Back, Faults, onward, chooses, effect_of}

-- as many registers as before, where there is data
abbrev CountsAs : Data → Option Data → Type 0
CountsAs d None = Unit {0}
CountsAs d (Some e) = length e.registers ≡ length d.registers

given_counts : (target : ℕ) (d : Data) (w : Option ℕ) → CountsAs d (given target d w)
given_counts target d None = tt
given_counts target d (Some w) = length-set d.registers target (Some w)

pub count-with_result : (target : Option ℕ) (value : Option ℕ) (d : Data) → length (with_result target value d).registers ≡ length d.registers
count-with_result None value d = refl
count-with_result (Some r) value d = length-set d.registers r value

changed_counts : (d : Data) (global i w : ℕ) (cells : Option (List ℕ)) → CountsAs d (changed d global i w cells)
changed_counts d global i w None = tt
changed_counts d global i w (Some cells) =
    let at : (b : Bool) → CountsAs d (cond b (Some (record d { globals = slice_set d.globals global (slice_set cells i w) })) None) = λ b. elim b as (λ b. CountsAs d (cond b (Some (record d { globals = slice_set d.globals global (slice_set cells i w) })) None)) [ true ↦ refl | false ↦ tt ] in
    at (nat_lt i (length cells))

stored_counts : (d : Data) (global : ℕ) (i w : Option ℕ) → CountsAs d (stored d global i w)
stored_counts d global None w = tt
stored_counts d global (Some i) None = tt
stored_counts d global (Some i) (Some w) = changed_counts d global i w (slice_get d.globals global)

put_counts : (target : Option ℕ) (d : Data) (w : Option ℕ) → CountsAs d (option_map (printing target d) w)
put_counts target d None = tt
put_counts None d (Some w) = refl
put_counts (Some r) d (Some w) = length-set d.registers r _

does_counts : (act : Act) (d : Data) → CountsAs d (does act d)
does_counts Nop d = refl
does_counts (Constant target word) d = length-set d.registers target (Some word)
does_counts (Move target source) d = length-set d.registers target (value_at source d)
does_counts (Operate op target arguments) d = given_counts target d (option_and_then (machine_table op) (words_of arguments d))
does_counts (Load target global index) d = given_counts target d (option_and_then (word_in (slice_get d.globals global)) (value_at index d))
does_counts (Store global index source) d = stored_counts d global (value_at index d) (value_at source d)
does_counts (Put source target) d = put_counts target d (value_at source d)

-- as many registers as before, where the function goes on
abbrev pub GoesCounted : Data → Effect → Type 0
GoesCounted d (Onward place e) = length e.registers ≡ length d.registers
GoesCounted d (Calls function arguments target successor) = Unit {0}
GoesCounted d (Back value) = Unit {0}
GoesCounted d Faults = Unit {0}

onward_counts : (place : ℕ) (d : Data) (o : Option Data) → CountsAs d o → GoesCounted d (onward place o)
onward_counts place d None h = tt
onward_counts place d (Some e) h = h

chooses_counts : (taken other : ℕ) (d : Data) (o : Option Bool) → GoesCounted d (chooses taken other d o)
chooses_counts taken other d None = tt
chooses_counts taken other d (Some answer) = refl

pub effect_counts : (i : Instruction) (d : Data) → GoesCounted d (effect_of i d)
effect_counts (Do act successor) d = onward_counts successor d (does act d) (does_counts act d)
effect_counts (Call function arguments target successor) d = tt
effect_counts (Branch test taken other) d = chooses_counts taken other d (holds test d)
effect_counts (Return value) d = tt

-- a function that begins has its registers
pub count-with_arguments : (ps : List ℕ) (vs registers : List (Option ℕ)) → length (with_arguments ps vs registers) ≡ length registers
count-with_arguments [] vs registers = refl
count-with_arguments (p ∷ ps) [] registers = refl
count-with_arguments (p ∷ ps) (v ∷ vs) registers = count-with_arguments ps vs (set registers p v) ∙ length-set registers p v
