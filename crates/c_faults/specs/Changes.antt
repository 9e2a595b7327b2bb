-- Which part of a change has no value: what is stored, and where it goes. The parts count in the order of the text.
use Rattle.std.specs.Prelude.{ℕ, List, Option, Some, None, option_and_then}
use Rattle.std.specs.Option.{option_or}
use Rattle.ints.specs.declared.operators.Op.{Op}
use Rattle.c_program.specs.declared.action.Target.{Target}
use Rattle.c_program.specs.declared.action.Target.TheVariants.{Nowhere, Local, Global, Caller}
use Rattle.c_program.specs.declared.function.Ending.{Ending}
use Rattle.c_program.specs.declared.function.Ending.TheVariants as E
use Rattle.c_program.specs.Trees.{TermTree}
use Rattle.c_program.specs.Values.{cell_of}
use Rattle.c_program.specs.State.{State, variables, word}
use Rattle.c_program.specs.Meaning.{Outcome, Falls, Breaks, Continues, Returns, RunsOut, Fails}
use Rattle.c_faults.specs.declared.cause.Cause.TheVariants.{NoReturn, Malformed}
use Rattle.c_faults.specs.declared.gap.Gap.{Gap}
use Rattle.c_faults.specs.Places.{own, others, behind}
use Rattle.c_faults.specs.Gaps.{cell_gap, two_gap, gap}

-- an expression in a state
abbrev pub gap_in : List ℕ → TermTree → State → Option Gap
gap_in ps e s = gap ps (variables s) e

-- a cell becomes a word: its index, the cell, and what is stored
abbrev pub store_gap : List ℕ → ℕ → TermTree → TermTree → State → Option Gap
store_gap ps g i e s =
    option_or (gap_in (others ps) i s) (option_or (cell_gap (own ps) s.globals g (word i s)) (gap_in (behind i (others ps)) e s))

-- what an update adds to: the word of the cell, where it is there
abbrev pub held : ℕ → TermTree → State → Option ℕ
held g i s = option_and_then (cell_of s.globals g) (word i s)

-- an update, whose second place is that of its operator
abbrev pub update_gap : List ℕ → ℕ → TermTree → Op → TermTree → State → Option Gap
update_gap ps g i o e s =
    let parts = others (others ps) in
    option_or (gap_in parts i s)
    (option_or (cell_gap (own ps) s.globals g (word i s))
    (option_or (gap_in (behind i parts) e s) (two_gap (own (others ps)) o (held g i s) (word e s))))

abbrev pub malformed : ℕ → Option Gap
malformed at = Some (record { cause = Malformed; place = at })

-- a word that goes to its target: a variable without size has a cell
abbrev pub arrival_gap : ℕ → Target → State → Option Gap
arrival_gap at Nowhere s = None
arrival_gap at (Local n) s = None
arrival_gap at (Global g) s = cell_gap at s.globals g (Some 0)
arrival_gap at Caller s = None

-- what a callee gave back, and that goes to a target
abbrev pub return_gap : ℕ → Target → Option ℕ → State → Option Gap
return_gap at Nowhere None s = None
return_gap at (Local n) None s = malformed at
return_gap at (Global g) None s = malformed at
return_gap at Caller None s = malformed at
return_gap at target (Some w) s = arrival_gap at target s

-- a callee's outcome: only a return leaves a function
abbrev pub back_gap : ℕ → Target → Outcome → Option Gap
back_gap at target (Falls s) = malformed at
back_gap at target (Breaks s) = malformed at
back_gap at target (Continues s) = malformed at
back_gap at target (Returns w s) = return_gap at target w s
back_gap at target (RunsOut printed) = None
back_gap at target (Fails printed) = None

-- the end of a body, where it is reached
abbrev pub reached_gap : ℕ → Ending → Option Gap
reached_gap at E.Returns = None
reached_gap at E.ReturnsZero = None
reached_gap at E.GoesWrong = Some (record { cause = NoReturn; place = at })

abbrev pub end_gap : ℕ → Ending → Outcome → Option Gap
end_gap at ending (Falls s) = reached_gap at ending
end_gap at ending (Breaks s) = malformed at
end_gap at ending (Continues s) = malformed at
end_gap at ending (Returns w s) = None
end_gap at ending (RunsOut printed) = None
end_gap at ending (Fails printed) = None

-- what `main` comes to, which is to return a word
abbrev pub main_gap : ℕ → Outcome → Option Gap
main_gap at (Falls s) = malformed at
main_gap at (Breaks s) = malformed at
main_gap at (Continues s) = malformed at
main_gap at (Returns None s) = malformed at
main_gap at (Returns (Some w) s) = None
main_gap at (RunsOut printed) = None
main_gap at (Fails printed) = None
