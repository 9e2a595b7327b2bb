-- The gaps of arguments, one after the other.
use Rattle.std.proofs.Common.{◌≡◌, ℕ, ◌+◌, ◌<◌, List, ◌∷◌, [], length, get_or, drop, map, Option, Some, None, sym, ap, ◌∙◌}
use Rattle.std.specs.Option.{option_or}
use Rattle.std.proofs.lemmas.List.{drop_more}
use Rattle.c_program.specs.declared.term.Term.{Term}
use Rattle.c_program.specs.Views.{term_tree}
use Rattle.c_program.specs.Values.{Variables}
use Rattle.c_faults.specs.declared.gap.Gap.{Gap}
use Rattle.c_faults.specs.Places.{behind}
use Rattle.c_faults.specs.Gaps.{gap, first_gap}

-- the first gap of those from a number on
abbrev pub rest_gap : List Term → ℕ → List ℕ → Variables → Option Gap
rest_gap arguments i ps v = first_gap ps v (map term_tree (drop i arguments))

one : (arguments : List Term) (i : ℕ) (x : Term) (ps : List ℕ) (v : Variables) → i < length arguments → x ≡ get_or arguments i x →
    rest_gap arguments i ps v ≡ option_or (gap ps v (term_tree x)) (rest_gap arguments (i + 1) (behind (term_tree x) ps) v)
one arguments i x ps v h e = ap (λ l. first_gap ps v (map term_tree l)) (drop_more arguments i x h ∙ ap (λ y. y ∷ drop (i + 1) arguments) (sym e))

pub gap_here : (arguments : List Term) (i : ℕ) (x : Term) (ps : List ℕ) (v : Variables) (g : Gap) → i < length arguments → x ≡ get_or arguments i x →
    gap ps v (term_tree x) ≡ Some g → rest_gap arguments i ps v ≡ Some g
gap_here arguments i x ps v g h e is =
    one arguments i x ps v h e ∙ ap (λ found. option_or found (rest_gap arguments (i + 1) (behind (term_tree x) ps) v)) is

pub gap_later : (arguments : List Term) (i : ℕ) (x : Term) (ps : List ℕ) (v : Variables) → i < length arguments → x ≡ get_or arguments i x →
    gap ps v (term_tree x) ≡ None → rest_gap arguments i ps v ≡ rest_gap arguments (i + 1) (behind (term_tree x) ps) v
gap_later arguments i x ps v h e is =
    one arguments i x ps v h e ∙ ap (λ found. option_or found (rest_gap arguments (i + 1) (behind (term_tree x) ps) v)) is
