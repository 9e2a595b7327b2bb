-- What a term is worth (C99 6.5): none where it goes wrong.
use Rattle.std.specs.Prelude.{ℕ, zero, suc, List, [], ◌∷◌, Option, Some, None, Result, Ok, Err, slice_get, slice_index_or, option_and_then}
use Rattle.std.specs.Option.{option_map}
use Rattle.ints.specs.declared.operators.Op.{Op}
use Rattle.ints.specs.CTable.{c_table}
use Rattle.c_program.specs.Trees.{TermTree}
use Rattle.c_program.specs.Trees as T

-- the locals of the running function, each a word or indeterminate, and the cells of each global
pub record Variables : Type 0 where
  pub locals : List (Option ℕ)
  pub globals : List (List ℕ)

-- no variable at all
abbrev pub nothing_declared : Variables
nothing_declared = record { locals = []; globals = [] }

-- what C's table gives, if it does not go wrong
abbrev pub computed : Op → List ℕ → Option ℕ
computed o words = right (c_table o words)
  where
    right : {E : Type 0} → Result ℕ E → Option ℕ
    right (Ok w) = Some w
    right (Err e) = None

-- an index that is not below the array's size goes wrong
abbrev pub cell_of : List (List ℕ) → ℕ → ℕ → Option ℕ
cell_of globals global index = option_and_then (λ cells. slice_get cells index) (slice_get globals global)

abbrev pub on_one : Op → Option ℕ → Option ℕ
on_one o None = None
on_one o (Some x) = computed o (x ∷ [])

abbrev pub on_two : Op → Option ℕ → Option ℕ → Option ℕ
on_two o None y = None
on_two o (Some x) None = None
on_two o (Some x) (Some y) = computed o (x ∷ y ∷ [])

-- 1 for a word that is not 0
abbrev pub truth : ℕ → ℕ
truth zero = 0
truth (suc w) = 1

-- `a && b`: where a is 0 the rest is not evaluated
abbrev pub both : Option ℕ → Option ℕ → Option ℕ
both None b = None
both (Some zero) b = Some 0
both (Some (suc w)) b = option_map truth b

-- `a || b`: where a is not 0 the rest is not evaluated
abbrev pub either : Option ℕ → Option ℕ → Option ℕ
either None b = None
either (Some zero) b = option_map truth b
either (Some (suc w)) b = Some 1

-- `c ? a : b` evaluates one of the two
abbrev pub chosen : Option ℕ → Option ℕ → Option ℕ → Option ℕ
chosen None a b = None
chosen (Some zero) a b = b
chosen (Some (suc w)) a b = a

abbrev pub value : Variables → TermTree → Option ℕ
value v (T.Constant w) = Some w
value v (T.Local n) = slice_index_or v.locals n None
value v (T.Cell g i) = option_and_then (cell_of v.globals g) (value v i)
value v (T.Unary o a) = on_one o (value v a)
value v (T.Binary o a b) = on_two o (value v a) (value v b)
value v (T.Both a b) = both (value v a) (value v b)
value v (T.Either a b) = either (value v a) (value v b)
value v (T.Conditional c a b) = chosen (value v c) (value v a) (value v b)
