-- The kinds in memory.
use Rattle.native_lowering_definition.specs.Kinds.{Kind}
use Rattle.native_lowering_definition.specs.Kinds as k
use Rattle.native_lowering_code.specs.declared.kinds.Kind.{Kind as Held}
use Rattle.native_lowering_code.specs.declared.kinds.Kind.TheVariants.{Turns, Makes, Shifts, Divides, Compares, AsksZero}

-- what each stands for
abbrev pub kind_in : Held → Kind
kind_in (Turns op) = k.Turns op
kind_in (Makes op) = k.Makes op
kind_in (Shifts op) = k.Shifts op
kind_in (Divides signed quotient) = k.Divides signed quotient
kind_in (Compares condition) = k.Compares condition
kind_in AsksZero = k.AsksZero
