-- What the pass accepts: an output that differs by constants, and for marked nodes the facts that hold there.
use Rattle.std.specs.Prelude.{◌≡◌, ℕ, ◌<◌, ◌^◌, Bool, List, Option, Some, not}
use Rattle.rtl_passes_filled.specs.Instruction.{Instruction}
use Rattle.rtl_passes_filled.specs.Function.{FunctionData}
use Rattle.rtl_passes_filled.specs.Ranked.{RiseFrom}
use Rattle.rtl_passes_filled.specs.NodeRow.{NodeRow}
use Rattle.rtl_passes_filled.specs.Rules.{RulesOf}
use Rattle.rtl_passes_filled.specs.Accepted.{IsAccepted}
use Rattle.constprop_check_rules.specs.declared.fact.Fact.{Fact}
use Rattle.constprop_check_rules.specs.Known.{names, known_fact, known_behind, written_by, value_by, edges_of, folded}

-- facts stand in the order of their registers
abbrev pub rank : Fact → ℕ
rank fact = fact.register

-- one of so many registers, and a word
abbrev pub FactFits : ℕ → Fact → Type 0
FactFits registers fact = (fact.register < registers) × (fact.word < 2 ^ 32)

-- the fact is known where the register that the instruction writes was written, with that word if it is known
abbrev pub IsKnown : Instruction → List Fact → Fact → Type 0
IsKnown i before fact = known_behind (written_by i) (value_by i before) before fact.register ≡ Some fact.word

-- what an instruction is made where the facts allow that
abbrev pub IsFolded : List Fact → Instruction → Instruction → Type 0
IsFolded facts i o = folded i facts ≡ Some o

-- the fact of the register that an instruction writes, if its word is known
abbrev pub made_by : Instruction → List Fact → Option Fact
made_by i before = known_fact (written_by i) (value_by i before)

-- whether an instruction does not write the register that a fact speaks of
abbrev pub keeps_by : Instruction → Fact → Bool
keeps_by i fact = not (names (written_by i) fact.register)

abbrev pub propagation : RulesOf Fact
propagation = record {
  Fits = FactFits;
  Rise = RiseFrom rank 0;
  rank = rank;
  register = rank;
  edges = edges_of;
  made = made_by;
  keeps = keeps_by;
  IsKnown = IsKnown;
  Becomes = IsFolded;
}

-- What is accepted: the form is kept, and each node keeps the rules with the facts that are filled in.
abbrev pub IsPropagated : FunctionData → FunctionData → List (NodeRow Fact) → Type 0
IsPropagated input output rows = IsAccepted propagation input output rows
