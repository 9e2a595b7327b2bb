-- What an instruction does to facts.
use Rattle.std.specs.Prelude.{ℕ, List, Bool, Option, not, nat_eq}
use Rattle.std.specs.List.{filter}
use Rattle.rtl_passes_facts.specs.Instruction.{Instruction}
use Rattle.constprop_check_rules.specs.declared.fact.Fact.{Fact}
use Rattle.constprop_check_rules.specs.Known.{names, known_fact, written_by, value_by}
use Rattle.constprop_check.specs.declared.behind.Written.{Written}

abbrev pub change_of : Instruction → List Fact → Written
change_of i before = record { register = written_by i; word = value_by i before }

-- the fact of the register that is written, if its word is known
abbrev pub makes : Written → Option Fact
makes change = known_fact change.register change.word

-- whether another register is written than the fact's
abbrev pub keeps : Written → Fact → Bool
keeps change fact = not (names change.register fact.register)

-- the facts of other registers than this
abbrev pub others : ℕ → List Fact → List Fact
others register facts = filter (λ fact. not (nat_eq register fact.register)) facts
