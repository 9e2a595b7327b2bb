-- An instruction is read back from its words, so its line tells it.
use Rattle.std.proofs.Common.{◌≡◌, ℕ, ◌≤◌, ◌^◌, List, [], ◌∷◌, ◌++◌, map, codes, Option, Some, None, refl, ap, arith}
use Rattle.std.specs.List.{AllByRecursion}
use Rattle.std.specs.Option.{option_map}
use Rattle.ints.specs.declared.conditions.Cond.{Cond}
use Rattle.locations.specs.declared.location.Location.{Location}
use Rattle.locations.specs.declared.location.Location.TheVariants.{InRegister, InSlot}
use Rattle.machine.specs.declared.arguments.Arguments.{Arguments}
use Rattle.machine.specs.declared.arguments.Arguments.TheVariants.{One, Two}
use Rattle.machine.specs.declared.act.Act.TheVariants as act
use Rattle.linear_language.specs.Function.{InstructionFits}
use Rattle.linear_language.specs.declared.instruction.Instruction.{Instruction}
use Rattle.linear_language.specs.declared.instruction.Instruction.TheVariants.{Do, Copy, Call, Branch, Return, Label, Goto}
use Rattle.text_keys.specs.declared.key.Key.{Key}
use Rattle.text_keys.specs.declared.key.Key.TheVariants as key
use Rattle.text_keys.specs.declared.word.Word.{Word}
use Rattle.text_keys.specs.declared.word.Word.TheVariants.{Named}
use Rattle.text_keys.specs.Words.{WordFits, target_words}
use Rattle.text_keys.proofs.Clear.{Clear}
use Rattle.text_keys.proofs.Lines.{line_clear}
use Rattle.text_keys.proofs.Reading.{number_of, condition_of, condition_again, condition_at, first, others, at, target_of, done, target_number}
use Rattle.text_common.specs.Acts.{location_word}
use Rattle.text_common.proofs.Read.{location_of, location_again, arguments_of, behind_arguments, value_of, location_fits, locations_fit, place_fits, value_fits, test_fits, act_left_fits, act_right_fits}
use Rattle.text_linear.specs.Shown.{left, right, behind, call_words, shown_instruction}

-- what is meant by a key, a target and the words behind the key
abbrev meant : Option Word → Key → List Word → Instruction
meant t (key.Operator o) ws = Do (act.Operate o (target_number t) (arguments_of ws))
meant t key.Constant ws = Do (act.Constant (target_number t) (at ws))
meant t key.Load ws = Do (act.Load (target_number t) (at ws) (at (others ws)))
meant t key.Store ws = Do (act.Store (at ws) (at (others ws)) (at (others (others ws))))
meant t key.Put ws = Do (act.Put (at ws) (option_map number_of t))
meant None key.Move ws = Goto 0
meant (Some t) key.Move ws = Copy (record { target = location_of t; source = location_of (first ws) })
meant t key.Call ws = Call (at ws) (map location_of (others ws)) (option_map location_of t)
meant t key.If ws = Branch (record { condition = condition_of (condition_at (first ws)); arguments = arguments_of (others ws) }) (at (others (behind_arguments (others ws))))
meant t key.Return ws = Return (value_of ws)
meant t key.Label ws = Label (at ws)
meant t key.Goto ws = Goto (at ws)
meant t _ ws = Goto 0

abbrev read_done : Option Word → List Word → Instruction
read_done t (Named k ∷ ws) = meant t k ws
read_done t _ = Goto 0

abbrev read : List Word → Instruction
read ws = read_done (target_of ws) (done ws)

same : (ls : List Location) → map location_of (map location_word ls ++ []) ≡ ls
same [] = refl
same (l ∷ ls) = λ i. location_again l i ∷ same ls i

copied : (t s : Location) → read (location_word t ∷ Named key.Is ∷ Named key.Move ∷ location_word s ∷ []) ≡ Copy (record { target = t; source = s })
copied (InRegister r) s = ap (λ l. Copy (record { target = InRegister r; source = l })) (location_again s)
copied (InSlot n) s = ap (λ l. Copy (record { target = InSlot n; source = l })) (location_again s)

called : (f : ℕ) (ls : List Location) (t : Option Location) → read (target_words location_word t ++ (call_words f ls ++ [])) ≡ Call f ls t
called f ls None = ap (λ xs. Call f xs None) (same ls)
called f ls (Some (InRegister r)) = ap (λ xs. Call f xs (Some (InRegister r))) (same ls)
called f ls (Some (InSlot n)) = ap (λ xs. Call f xs (Some (InSlot n))) (same ls)

branched : (c : Cond) (a : Arguments) (label : ℕ) → let b = Branch (record { condition = c; arguments = a }) label in read (left b ++ (right b ++ behind b)) ≡ b
branched c (One a) label = ap (λ k. Branch (record { condition = k; arguments = One a }) label) (condition_again c)
branched c (Two a b) label = ap (λ k. Branch (record { condition = k; arguments = Two a b }) label) (condition_again c)

again : (i : Instruction) → read (left i ++ (right i ++ behind i)) ≡ i
again (Do (act.Constant target word)) = refl
again (Do (act.Operate o target (One a))) = refl
again (Do (act.Operate o target (Two a b))) = refl
again (Do (act.Load target global index)) = refl
again (Do (act.Store global index source)) = refl
again (Do (act.Put source None)) = refl
again (Do (act.Put source (Some r))) = refl
again (Copy step) = copied step.target step.source
again (Call function arguments target) = called function arguments target
again (Branch test label) = branched test.condition test.arguments label
again (Return None) = refl
again (Return (Some r)) = refl
again (Label l) = refl
again (Goto l) = refl

-- ---- the words are in range

-- an instruction that fits in some function
pub record Fits (i : Instruction) : Type 0 where
  pub slots : ℕ
  pub few : slots ≤ 2 ^ 16
  pub is : InstructionFits slots i

left_fits : (i : Instruction) → Fits i → AllByRecursion WordFits (left i)
left_fits (Do a) fits = act_left_fits a fits.is
left_fits (Copy step) fits = (location_fits fits.slots fits.few step.target fits.is.target, (tt, tt))
left_fits (Call function arguments target) fits = place_fits fits.slots fits.few target fits.is.target
left_fits (Branch test label) fits = tt
left_fits (Return value) fits = tt
left_fits (Label label) fits = tt
left_fits (Goto label) fits = tt

right_fits : (i : Instruction) → Fits i → AllByRecursion WordFits (right i)
right_fits (Do a) fits = act_right_fits a fits.is
right_fits (Copy step) fits = (tt, (location_fits fits.slots fits.few step.source fits.is.source, tt))
right_fits (Call function arguments target) fits = (tt, (omega (arith, fits.is.function), locations_fit fits.slots fits.few arguments fits.is.arguments))
right_fits (Branch test label) fits = (tt, test_fits test fits.is.0)
right_fits (Return value) fits = (tt, value_fits value fits.is)
right_fits (Label label) fits = (tt, (omega (arith, fits.is), tt))
right_fits (Goto label) fits = (tt, (omega (arith, fits.is), tt))

behind_fits : (i : Instruction) → Fits i → AllByRecursion WordFits (behind i)
behind_fits (Do a) fits = tt
behind_fits (Copy step) fits = tt
behind_fits (Call function arguments target) fits = tt
behind_fits (Branch test label) fits = (tt, (omega (arith, fits.is.1), tt))
behind_fits (Return value) fits = tt
behind_fits (Label label) fits = tt
behind_fits (Goto label) fits = tt

pub instruction_clear : Clear shown_instruction Fits (λ _. Unit {0})
instruction_clear = line_clear left right behind Fits read again left_fits right_fits behind_fits (codes " ")
