-- The definition, read on three small functions whose graphs were drawn by hand, and a run.
use Rattle.std.proofs.Common.{◌≡◌, [], ◌∷◌, Some, None, refl}
use Rattle.std.specs.Prelude.{codes}
use Rattle.ints.specs.declared.operators.Op.TheVariants.{SubS}
use Rattle.ints.specs.declared.conditions.Cond.TheVariants.{Nz}
use Rattle.lang_base.specs.declared.shown.Shown.TheVariants.{Ended}
use Rattle.lang_base.specs.declared.program.Program.{Program}
use Rattle.rtl_acts.specs.declared.arguments.Arguments.TheVariants.{One, Two}
use Rattle.rtl_acts.specs.declared.act.Act.TheVariants.{Nop, Constant, Operate}
use Rattle.rtl_language.specs.declared.instruction.Instruction.TheVariants.{Do, Call, Branch, Return}
use Rattle.rtl_language.specs.Meaning as R
use Rattle.cminor_syntax.specs.Trees.{FunctionTree}
use Rattle.cminor_syntax.specs.Trees as C
use Rattle.cminor_syntax.specs.Meaning as M
use Rattle.rtlgen_definition.specs.Gen.{gen_function, gen}

-- x = 5; return x;
abbrev five : FunctionTree
five = record { parameters = 0; variables = 2; body = C.Sequence (C.First (C.Assign 0 (C.Number 5)) (C.First (C.Return (Some (C.Variable 0))) C.Done)) }

pub five_is : gen_function five ≡ record { parameters = []; registers = 3; entry = 1; nodes = Return (Some 0) ∷ Do (Constant 0 5) 0 ∷ [] }
five_is = refl

-- while (n) n = n - 1;
abbrev down : FunctionTree
down = record {
  parameters = 1;
  variables = 2;
  body = C.Block (C.Loop (C.Sequence (C.First (C.If (C.Variable 0) C.Skip (C.Exit 0)) (C.First (C.Block (C.Assign 0 (C.Binary SubS (C.Variable 0) (C.Number 1)))) C.Done))));
}

pub down_is : gen_function down ≡ record {
  parameters = 0 ∷ [];
  registers = 4;
  entry = 1;
  nodes =
      Return None ∷
      Do Nop 4 ∷
      Do (Operate SubS 0 (Two 0 3)) 1 ∷
      Do (Constant 3 1) 2 ∷
      Branch (record { condition = Nz; arguments = One 0 }) 3 0 ∷ [];
}
down_is = refl

-- x = f(y, 7);
abbrev asks : FunctionTree
asks = record { parameters = 0; variables = 2; body = C.Call 1 (Some 0) (C.Variable 1 ∷ C.Number 7 ∷ []) }

pub asks_is : gen_function asks ≡ record { parameters = []; registers = 4; entry = 2; nodes = Return None ∷ Call 1 (1 ∷ 3 ∷ []) (Some 0) 0 ∷ Do (Constant 3 7) 1 ∷ [] }
asks_is = refl

-- ---- runs, as both languages define them

abbrev five_program : Program FunctionTree
five_program = record { globals = []; functions = record { name = codes "main"; function = five } ∷ [] }

pub five_runs : M.run five_program 0 ≡ record { shown = Ended 5; output = [] }
five_runs = refl

pub five_runs_on : R.run (gen five_program) 2 ≡ record { shown = Ended 5; output = [] }
five_runs_on = refl
