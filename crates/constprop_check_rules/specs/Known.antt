-- What facts say, and what is known behind an instruction where they hold (Leroy 2009, section on constant propagation).
use Rattle.std.specs.Prelude.{ℕ, List, [], ◌∷◌, Option, Some, None, Bool, false, nat_eq, if◌then◌else◌, option_and_then}
use Rattle.std.specs.Option.{option_map}
use Rattle.ints.specs.MachineTable.{machine_table}
use Rattle.ints.specs.CondTable.{cond_table}
use Rattle.rtl_passes_filled.specs.Arguments.{Arguments}
use Rattle.rtl_passes_filled.specs.Arguments.TheVariants.{One, Two}
use Rattle.rtl_passes_filled.specs.Act.{Act}
use Rattle.rtl_passes_filled.specs.Act.TheVariants.{Nop, Constant, Move, Operate, Load, Store, Put}
use Rattle.rtl_passes_filled.specs.Test.{Test}
use Rattle.rtl_passes_filled.specs.Acts.{pair_of}
use Rattle.rtl_passes_filled.specs.Instruction.{Instruction}
use Rattle.rtl_passes_filled.specs.Instruction.TheVariants.{Do, Call, Branch, Return}
use Rattle.constprop_check_rules.specs.declared.fact.Fact.{Fact}

-- the word that a register has by these facts, if one speaks of it
abbrev pub fact_at : List Fact → ℕ → Option ℕ
fact_at [] r = None
fact_at (fact ∷ facts) r = if nat_eq fact.register r then Some fact.word else fact_at facts r

-- the words of arguments, where a fact speaks of each
abbrev pub known_words : Arguments → List Fact → Option (List ℕ)
known_words (One a) facts = option_map (λ x. x ∷ []) (fact_at facts a)
known_words (Two a b) facts = pair_of (fact_at facts a) (fact_at facts b)

-- the word that is known to be written
abbrev pub known_value : Act → List Fact → Option ℕ
known_value (Constant target word) facts = Some word
known_value (Move target source) facts = fact_at facts source
known_value (Operate op target arguments) facts = option_and_then (machine_table op) (known_words arguments facts)
known_value _ facts = None

-- the register that an act writes, if it writes one
abbrev pub target_of : Act → Option ℕ
target_of Nop = None
target_of (Constant target word) = Some target
target_of (Move target source) = Some target
target_of (Operate op target arguments) = Some target
target_of (Load target global index) = Some target
target_of (Store global index source) = None
target_of (Put source target) = target

abbrev pub written_by : Instruction → Option ℕ
written_by (Do act successor) = target_of act
written_by (Call function arguments target successor) = target
written_by (Branch test taken other) = None
written_by (Return value) = None

abbrev pub value_by : Instruction → List Fact → Option ℕ
value_by (Do act successor) facts = known_value act facts
value_by _ facts = None

abbrev pub names : Option ℕ → ℕ → Bool
names None r = false
names (Some target) r = nat_eq target r

-- the fact of the register that was written, if its word is known
abbrev pub known_fact : Option ℕ → Option ℕ → Option Fact
known_fact None value = None
known_fact (Some r) None = None
known_fact (Some r) (Some w) = Some (record { register = r; word = w })

-- the word of a register where this one was written, with that word if it is known
abbrev pub known_behind : Option ℕ → Option ℕ → List Fact → ℕ → Option ℕ
known_behind written value facts r = if names written r then value else fact_at facts r

-- the answer of a test whose arguments are known
abbrev pub decided : Test → List Fact → Option Bool
decided test facts = option_map (cond_table test.condition) (known_words test.arguments facts)

abbrev pub arms : ℕ → ℕ → Option Bool → List ℕ
arms taken other None = taken ∷ other ∷ []
arms taken other (Some answer) = (if answer then taken else other) ∷ []

-- where an instruction can go on
abbrev pub edges_of : Instruction → List Fact → List ℕ
edges_of (Do act successor) facts = successor ∷ []
edges_of (Call function arguments target successor) facts = successor ∷ []
edges_of (Branch test taken other) facts = arms taken other (decided test facts)
edges_of (Return value) facts = []

-- a move or an operator whose value is known, as a constant
abbrev pub folded_act : Act → List Fact → Option Act
folded_act (Move target source) facts = option_map (λ w. Constant target w) (known_value (Move target source) facts)
folded_act (Operate op target arguments) facts = option_map (λ w. Constant target w) (known_value (Operate op target arguments) facts)
folded_act _ facts = None

-- an instruction made simpler, where the facts allow it
abbrev pub folded : Instruction → List Fact → Option Instruction
folded (Do act successor) facts = option_map (λ constant. Do constant successor) (folded_act act facts)
folded (Branch test taken other) facts = option_map (λ answer. Do Nop (if answer then taken else other)) (decided test facts)
folded _ facts = None
