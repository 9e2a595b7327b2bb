-- The names of operators and conditions, and the words that lines are told by.
use Rattle.std.specs.Prelude.{ℕ, List, codes}
use Rattle.ints.specs.declared.operators.Op.{Op}
use Rattle.ints.specs.declared.operators.Op.TheVariants as op
use Rattle.ints.specs.declared.conditions.Cond.{Cond}
use Rattle.ints.specs.declared.conditions.Cond.TheVariants as cond
use Rattle.text_keys.specs.declared.key.Key.{Key}
use Rattle.text_keys.specs.declared.key.Key.TheVariants as key

abbrev pub operator_name : Op → List ℕ
operator_name op.NegS = codes "NegS"
operator_name op.NegU = codes "NegU"
operator_name op.Not = codes "Not"
operator_name op.IsZero = codes "IsZero"
operator_name op.AddS = codes "AddS"
operator_name op.AddU = codes "AddU"
operator_name op.SubS = codes "SubS"
operator_name op.SubU = codes "SubU"
operator_name op.MulS = codes "MulS"
operator_name op.MulU = codes "MulU"
operator_name op.DivS = codes "DivS"
operator_name op.DivU = codes "DivU"
operator_name op.ModS = codes "ModS"
operator_name op.ModU = codes "ModU"
operator_name op.And = codes "And"
operator_name op.Or = codes "Or"
operator_name op.Xor = codes "Xor"
operator_name op.ShlS = codes "ShlS"
operator_name op.ShlU = codes "ShlU"
operator_name op.ShrS = codes "ShrS"
operator_name op.ShrU = codes "ShrU"
operator_name op.Eq = codes "Eq"
operator_name op.Ne = codes "Ne"
operator_name op.LtS = codes "LtS"
operator_name op.LtU = codes "LtU"
operator_name op.LeS = codes "LeS"
operator_name op.LeU = codes "LeU"

abbrev pub key_text : Key → List ℕ
key_text (key.Operator o) = operator_name o
key_text key.Constant = codes "constant"
key_text key.Move = codes "move"
key_text key.Load = codes "load"
key_text key.Store = codes "store"
key_text key.Call = codes "call"
key_text key.Put = codes "put"
key_text key.If = codes "if"
key_text key.NonZero = codes "Nz"
key_text key.Return = codes "return"
key_text key.Label = codes "label"
key_text key.Goto = codes "goto"
key_text key.Nothing = codes "nothing"
key_text key.Slots = codes "slots"
key_text key.Registers = codes "registers"
key_text key.Variables = codes "variables"
key_text key.Entry = codes "entry"
key_text key.Is = codes "="
key_text key.Then = codes "->"
key_text key.Opens = codes "["
key_text key.Closes = codes "]"
key_text key.Choose = codes "choose"
key_text key.Skip = codes "skip"
key_text key.Loop = codes "loop"
key_text key.Block = codes "block"
key_text key.Exit = codes "exit"
key_text key.Sequence = codes "sequence"
key_text key.Row = codes "row"
key_text key.Start = codes "("
key_text key.Stop = codes ")"
key_text key.End = codes "end"

-- a condition has the name of the operator that it is, but for the one of one argument
abbrev pub condition_key : Cond → Key
condition_key cond.Nz = key.NonZero
condition_key cond.Eq = key.Operator op.Eq
condition_key cond.Ne = key.Operator op.Ne
condition_key cond.LtS = key.Operator op.LtS
condition_key cond.LtU = key.Operator op.LtU
condition_key cond.LeS = key.Operator op.LeS
condition_key cond.LeU = key.Operator op.LeU
