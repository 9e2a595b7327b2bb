-- The program of Cminor that a C program stands for (Leroy 2009, section 3.1).
use Rattle.std.specs.Prelude.{◌≡◌, ℕ, zero, suc, List, [], ◌∷◌, Some, map, max, Bool, true, false}
use Rattle.lang_base.specs.declared.program.Global.{Global}
use Rattle.lang_base.specs.declared.program.Named.{Named}
use Rattle.lang_base.specs.declared.program.Program.{Program}
use Rattle.cminor_syntax.specs.Frames.{main_number}
use Rattle.c_program.specs.declared.action.Target.TheVariants.{Caller}
use Rattle.c_program.specs.declared.function.Ending.{Ending}
use Rattle.c_program.specs.declared.function.Ending.TheVariants as E
use Rattle.c_program.specs.declared.function.GlobalVariable.{GlobalVariable}
use Rattle.c_program.specs.Trees.{ActionTree, ActionsTree, ProgramTree}
use Rattle.c_program.specs.Trees as C
use Rattle.cminor_syntax.specs.Trees.{StatementTree, StatementsTree, FunctionTree, Number, Return, Done, First}
use Rattle.cminor_lowering.specs.Sequences.{sequence}
use Rattle.cminor_lowering.specs.Actions.{low_actions}

-- `return` of a value
abbrev pub is_return : ActionTree → Bool
is_return (C.Give Caller v) = true
is_return _ = false

-- whether the last of them is a `return` of a value
abbrev pub ends_with_return : ActionsTree → Bool
ends_with_return C.Done = false
ends_with_return (C.First s C.Done) = is_return s
ends_with_return (C.First s (C.First t rest)) = ends_with_return (C.First t rest)

-- what is done where the end of a function's body is reached: `main` returns 0 there (C99 5.1.2.2.3)
abbrev pub low_ending : Ending → Bool → StatementsTree
low_ending E.ReturnsZero false = First (Return (Some (Number 0))) Done
low_ending E.ReturnsZero true = Done
low_ending E.Returns returned = Done
low_ending E.GoesWrong returned = Done

-- statements, and others behind them
abbrev pub followed_by : StatementsTree → StatementsTree → StatementsTree
followed_by Done last = last
followed_by (First s rest) last = First s (followed_by rest last)

-- the variable behind all locals
abbrev pub spare_of : C.FunctionTree → ℕ
spare_of f = max f.parameters f.locals

abbrev pub low_body : C.FunctionTree → StatementTree
low_body f = sequence (followed_by (low_actions (spare_of f) f.body) (low_ending f.ending (ends_with_return f.body)))

abbrev pub low_function : C.FunctionTree → FunctionTree
low_function f = record { parameters = f.parameters; variables = suc (spare_of f); body = low_body f }

abbrev pub low_named : C.FunctionTree → Named FunctionTree
low_named f = record { name = f.name; function = low_function f }

-- a word before others, unless it is a 0 behind which none follows
abbrev pub listed : ℕ → List ℕ → List ℕ
listed zero [] = []
listed zero (w ∷ ws) = zero ∷ w ∷ ws
listed (suc w) ws = suc w ∷ ws

-- the words without the zeros at their end
abbrev pub without_zeros : List ℕ → List ℕ
without_zeros [] = []
without_zeros (w ∷ ws) = listed w (without_zeros ws)

abbrev pub low_global : GlobalVariable → Global
low_global g = record { cells = g.cells; first_words = without_zeros g.first_words }

-- The Cminor program of a C program.
abbrev pub low : ProgramTree → Program FunctionTree
low p = record { globals = map low_global p.globals; functions = map low_named p.functions }

-- the function whose number is that of main is the first of that name
abbrev pub HasMain : ProgramTree → Type 0
HasMain p = main_number (λ f. true) (low p).functions ≡ p.main
