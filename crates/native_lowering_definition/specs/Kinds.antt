-- What each operator and each condition becomes.
use Rattle.std.specs.Prelude.{Bool, true, false}
use Rattle.ints.specs.declared.operators.Op.{Op}
use Rattle.ints.specs.declared.operators.Op.TheVariants.{NegS, NegU, Not, IsZero, AddS, AddU, SubS, SubU, MulS, MulU, DivS, DivU, ModS, ModU, And, Or, Xor, ShlS, ShlU, ShrS, ShrU, Eq, Ne, LtS, LtU, LeS, LeU}
use Rattle.ints.specs.declared.conditions.Cond.{Cond}
use Rattle.ints.specs.declared.conditions.Cond.TheVariants as c
use Rattle.x86_syntax.specs.declared.condition.Condition.{Condition}
use Rattle.x86_syntax.specs.declared.condition.Condition.TheVariants.{Equal, NotEqual, Less, LessOrEqual, Below, BelowOrEqual}
use Rattle.x86_syntax.specs.declared.operators.Operator.{Operator}
use Rattle.x86_syntax.specs.declared.operators.Operator.TheVariants as o
use Rattle.x86_syntax.specs.declared.operators.Turning.{Turning}
use Rattle.x86_syntax.specs.declared.operators.Turning.TheVariants as t
use Rattle.x86_syntax.specs.declared.operators.Shifting.{Shifting}
use Rattle.x86_syntax.specs.declared.operators.Shifting.TheVariants.{Shl, Shr, Sar}

-- An instruction that turns a word, makes one of two, or shifts one; a division, signed or not, of which the quotient or the rest is
-- wanted; a comparison of two words, or of one with 0.
pub data Kind : Type 0 where
  Turns : Turning → Kind
  Makes : Operator → Kind
  Shifts : Shifting → Kind
  Divides : Bool → Bool → Kind
  Compares : Condition → Kind
  AsksZero : Kind

abbrev pub kind_of : Op → Kind
kind_of NegS = Turns t.Neg
kind_of NegU = Turns t.Neg
kind_of Not = Turns t.Not
kind_of IsZero = AsksZero
kind_of AddS = Makes o.Add
kind_of AddU = Makes o.Add
kind_of SubS = Makes o.Sub
kind_of SubU = Makes o.Sub
kind_of MulS = Makes o.Mul
kind_of MulU = Makes o.Mul
kind_of DivS = Divides true true
kind_of DivU = Divides false true
kind_of ModS = Divides true false
kind_of ModU = Divides false false
kind_of And = Makes o.And
kind_of Or = Makes o.Or
kind_of Xor = Makes o.Xor
kind_of ShlS = Shifts Shl
kind_of ShlU = Shifts Shl
kind_of ShrS = Shifts Sar
kind_of ShrU = Shifts Shr
kind_of Eq = Compares Equal
kind_of Ne = Compares NotEqual
kind_of LtS = Compares Less
kind_of LtU = Compares Below
kind_of LeS = Compares LessOrEqual
kind_of LeU = Compares BelowOrEqual

-- a word that is not 0 is not equal to 0
abbrev pub condition_of : Cond → Condition
condition_of c.Nz = NotEqual
condition_of c.Eq = Equal
condition_of c.Ne = NotEqual
condition_of c.LtS = Less
condition_of c.LtU = Below
condition_of c.LeS = LessOrEqual
condition_of c.LeU = BelowOrEqual
