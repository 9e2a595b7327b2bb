-- An operator with another number of words than it takes goes wrong.
use Rattle.std.proofs.Common.{◌≡◌, ◌≢◌, ℕ, [], ◌∷◌, refl}
use Rattle.std.specs.Prelude.{Option, Some, None, option_and_then}
use Rattle.ints.specs.declared.operators.Op.{Op}
use Rattle.ints.specs.declared.operators.Op.TheVariants as O
use Rattle.ints.specs.Codes.{argument_count_of}
use Rattle.ints.specs.CTable.{c_table}
use Rattle.c_program.specs.Values.{computed, cell_of}

pub one_only : (o : Op) (x : ℕ) → argument_count_of o ≢ 1 → computed o (x ∷ []) ≡ None
unfolding argument_count_of c_table
one_only O.NegS x other = elim (other refl) [ ]
one_only O.NegU x other = elim (other refl) [ ]
one_only O.Not x other = elim (other refl) [ ]
one_only O.IsZero x other = elim (other refl) [ ]
one_only O.AddS x other = refl
one_only O.AddU x other = refl
one_only O.SubS x other = refl
one_only O.SubU x other = refl
one_only O.MulS x other = refl
one_only O.MulU x other = refl
one_only O.DivS x other = refl
one_only O.DivU x other = refl
one_only O.ModS x other = refl
one_only O.ModU x other = refl
one_only O.And x other = refl
one_only O.Or x other = refl
one_only O.Xor x other = refl
one_only O.ShlS x other = refl
one_only O.ShlU x other = refl
one_only O.ShrS x other = refl
one_only O.ShrU x other = refl
one_only O.Eq x other = refl
one_only O.Ne x other = refl
one_only O.LtS x other = refl
one_only O.LtU x other = refl
one_only O.LeS x other = refl
one_only O.LeU x other = refl

pub two_only : (o : Op) (x y : ℕ) → argument_count_of o ≢ 2 → computed o (x ∷ y ∷ []) ≡ None
unfolding argument_count_of c_table
two_only O.NegS x y other = refl
two_only O.NegU x y other = refl
two_only O.Not x y other = refl
two_only O.IsZero x y other = refl
two_only O.AddS x y other = elim (other refl) [ ]
two_only O.AddU x y other = elim (other refl) [ ]
two_only O.SubS x y other = elim (other refl) [ ]
two_only O.SubU x y other = elim (other refl) [ ]
two_only O.MulS x y other = elim (other refl) [ ]
two_only O.MulU x y other = elim (other refl) [ ]
two_only O.DivS x y other = elim (other refl) [ ]
two_only O.DivU x y other = elim (other refl) [ ]
two_only O.ModS x y other = elim (other refl) [ ]
two_only O.ModU x y other = elim (other refl) [ ]
two_only O.And x y other = elim (other refl) [ ]
two_only O.Or x y other = elim (other refl) [ ]
two_only O.Xor x y other = elim (other refl) [ ]
two_only O.ShlS x y other = elim (other refl) [ ]
two_only O.ShlU x y other = elim (other refl) [ ]
two_only O.ShrS x y other = elim (other refl) [ ]
two_only O.ShrU x y other = elim (other refl) [ ]
two_only O.Eq x y other = elim (other refl) [ ]
two_only O.Ne x y other = elim (other refl) [ ]
two_only O.LtS x y other = elim (other refl) [ ]
two_only O.LtU x y other = elim (other refl) [ ]
two_only O.LeS x y other = elim (other refl) [ ]
two_only O.LeU x y other = elim (other refl) [ ]

-- no cell is worth anything where nothing is declared
pub no_cells : (g : ℕ) (index : Option ℕ) → option_and_then (cell_of [] g) index ≡ None
no_cells g None = refl
no_cells g (Some i) = refl
