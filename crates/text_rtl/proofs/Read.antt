-- A node is read back from its words, so its line tells it.
use Rattle.std.proofs.Common.{◌≡◌, ℕ, ◌<◌, ◌≤◌, ◌^◌, List, [], ◌∷◌, ◌++◌, map, codes, decimal, Option, Some, None, refl, ap, arith}
use Rattle.std.specs.List.{AllByRecursion}
use Rattle.std.specs.Option.{option_map}
use Rattle.ints.specs.declared.conditions.Cond.{Cond}
use Rattle.lang_helpers.specs.Limits.{node_limit}
use Rattle.rtl_acts.specs.declared.arguments.Arguments.{Arguments}
use Rattle.rtl_acts.specs.declared.arguments.Arguments.TheVariants.{One, Two}
use Rattle.rtl_acts.specs.declared.act.Act.TheVariants as act
use Rattle.rtl_language.specs.Function.{InstructionFits}
use Rattle.rtl_language.specs.declared.instruction.Instruction.{Instruction}
use Rattle.rtl_language.specs.declared.instruction.Instruction.TheVariants.{Do, Call, Branch, Return}
use Rattle.text_keys.specs.declared.key.Key.{Key}
use Rattle.text_keys.specs.declared.key.Key.TheVariants as key
use Rattle.text_keys.specs.declared.word.Word.{Word}
use Rattle.text_keys.specs.declared.word.Word.TheVariants.{Lettered, Number, Named}
use Rattle.text_keys.specs.Words.{WordFits, target_words}
use Rattle.text_keys.proofs.Clear.{Clear}
use Rattle.text_keys.proofs.Lines.{line_clear}
use Rattle.text_keys.proofs.Reading.{number_of, condition_of, condition_again, condition_at, first, others, at, target_of, done, target_number}
use Rattle.text_rtl.specs.Acts.{register_word}
use Rattle.text_rtl.specs.Shown.{left, right, behind, call_words, shown_node}
use Rattle.text_rtl.proofs.Parts.{arguments_of, registers_in, behind_registers, registers_fit, target_fits, value_fits, test_fits, act_left_fits, act_right_fits}

-- the node where it goes on: behind registers, and an arrow
abbrev successor_of : List Word → ℕ
successor_of ws = at (others (behind_registers ws))

abbrev value_of : List Word → Option ℕ
value_of (Lettered l n ∷ ws) = Some n
value_of ws = None

-- what is meant by a key, a target and the words behind the key
abbrev meant : Option Word → Key → List Word → Instruction
meant t key.Nothing ws = Do act.Nop (successor_of ws)
meant t (key.Operator o) ws = Do (act.Operate o (target_number t) (arguments_of ws)) (successor_of ws)
meant t key.Constant ws = Do (act.Constant (target_number t) (at ws)) (successor_of (others ws))
meant t key.Move ws = Do (act.Move (target_number t) (at ws)) (successor_of ws)
meant t key.Load ws = Do (act.Load (target_number t) (at ws) (at (others ws))) (successor_of ws)
meant t key.Store ws = Do (act.Store (at ws) (at (others ws)) (at (others (others ws)))) (successor_of ws)
meant t key.Put ws = Do (act.Put (at ws) (option_map number_of t)) (successor_of ws)
meant t key.Call ws = Call (at ws) (registers_in (others ws)) (option_map number_of t) (successor_of (others ws))
meant t key.If ws = Branch (record { condition = condition_of (condition_at (first ws)); arguments = arguments_of (others ws) }) (successor_of (others ws)) (at (others (others (behind_registers (others ws)))))
meant t key.Return ws = Return (value_of ws)
meant t _ ws = Return None

abbrev read_done : Option Word → List Word → Instruction
read_done t (Named k ∷ ws) = meant t k ws
read_done t _ = Return None

abbrev read : List Word → Instruction
read ws = read_done (target_of ws) (done ws)

arrow : (rs : List ℕ) (s : ℕ) → registers_in (map register_word rs ++ Named key.Then ∷ Number s ∷ []) ≡ rs
arrow [] s = refl
arrow (r ∷ rs) s = ap (λ t. r ∷ t) (arrow rs s)

behind_arrow : (rs : List ℕ) (s : ℕ) → successor_of (map register_word rs ++ Named key.Then ∷ Number s ∷ []) ≡ s
behind_arrow [] s = refl
behind_arrow (r ∷ rs) s = behind_arrow rs s

called : (f : ℕ) (rs : List ℕ) (t : Option ℕ) (s : ℕ) → read (target_words register_word t ++ (call_words f rs ++ Named key.Then ∷ Number s ∷ [])) ≡ Call f rs t s
called f rs None s = λ i. Call f (arrow rs s i) None (behind_arrow rs s i)
called f rs (Some r) s = λ i. Call f (arrow rs s i) (Some r) (behind_arrow rs s i)

branched : (c : Cond) (a : Arguments) (taken other : ℕ) → let b = Branch (record { condition = c; arguments = a }) taken other in read (left b ++ (right b ++ behind b)) ≡ b
branched c (One a) taken other = ap (λ k. Branch (record { condition = k; arguments = One a }) taken other) (condition_again c)
branched c (Two a b) taken other = ap (λ k. Branch (record { condition = k; arguments = Two a b }) taken other) (condition_again c)

again : (i : Instruction) → read (left i ++ (right i ++ behind i)) ≡ i
again (Do act.Nop s) = refl
again (Do (act.Constant target word) s) = refl
again (Do (act.Move target source) s) = refl
again (Do (act.Operate o target (One a)) s) = refl
again (Do (act.Operate o target (Two a b)) s) = refl
again (Do (act.Load target global index) s) = refl
again (Do (act.Store global index source) s) = refl
again (Do (act.Put source None) s) = refl
again (Do (act.Put source (Some r)) s) = refl
again (Call function arguments target s) = called function arguments target s
again (Branch test taken other) = branched test.condition test.arguments taken other
again (Return None) = refl
again (Return (Some r)) = refl

-- ---- the words are in range

-- a node that fits in some function
pub record Fits (i : Instruction) : Type 0 where
  pub registers : ℕ
  pub nodes : ℕ
  pub few : registers ≤ 2 ^ 16
  pub low : nodes ≤ node_limit
  pub is : InstructionFits registers nodes i

left_fits : (i : Instruction) → Fits i → AllByRecursion WordFits (left i)
left_fits (Do a s) fits = act_left_fits fits.registers fits.few a fits.is.0
left_fits (Call function arguments target s) fits = target_fits fits.registers fits.few target fits.is.0.target
left_fits (Branch test taken other) fits = tt
left_fits (Return value) fits = tt

right_fits : (i : Instruction) → Fits i → AllByRecursion WordFits (right i)
right_fits (Do a s) fits = act_right_fits fits.registers fits.few a fits.is.0
right_fits (Call function arguments target s) fits = (tt, (omega (arith, fits.is.0.function), registers_fit fits.registers fits.few arguments fits.is.0.arguments))
right_fits (Branch test taken other) fits = (tt, test_fits fits.registers fits.few test fits.is.0)
right_fits (Return value) fits = (tt, value_fits fits.registers fits.few value fits.is)

low_fits : (s nodes : ℕ) → s < nodes → nodes ≤ node_limit → s < 2 ^ 64
low_fits s nodes h low = omega (arith, h, low)

behind_fits : (i : Instruction) → Fits i → AllByRecursion WordFits (behind i)
behind_fits (Do a s) fits = (tt, (low_fits s fits.nodes fits.is.1 fits.low, tt))
behind_fits (Call function arguments target s) fits = (tt, (low_fits s fits.nodes fits.is.1 fits.low, tt))
behind_fits (Branch test taken other) fits = (tt, (low_fits taken fits.nodes fits.is.1 fits.low, (low_fits other fits.nodes fits.is.2 fits.low, tt)))
behind_fits (Return value) fits = tt

pub node_clear : (n : ℕ) → Clear (shown_node n) Fits (λ _. Unit {0})
node_clear n = line_clear left right behind Fits read again left_fits right_fits behind_fits (codes "  " ++ decimal n)
