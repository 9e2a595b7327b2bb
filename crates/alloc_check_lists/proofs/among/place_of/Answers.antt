-- Why `place_of` meets its clauses `absent` and `found`.
use Rattle.std.proofs.Common.{◌≡◌, ℕ, ◌<◌, ◌≤◌, length, get_or, false, true, arith}
use Rattle.std.proofs.lemmas.Bool.{iff_false}
use Rattle.alloc_check_fill.specs.Equation.{Equation}
use Rattle.alloc_check_fill.specs.Ranks.{rank}
use Rattle.alloc_check_lists.proofs.Searches.{none_there, only_first}
use Rattle.alloc_check_lists.proofs.among.place_of.Goals as goal

pub returns-then-first-equations-clause-absent : goal.returns-then-first-equations-clause-absent
returns-then-first-equations-clause-absent c = λ among.
    let equations = c.args.equations.now in
    let equation = c.args.equation.now in
    let first = c.first_from-first.result in
    let lower : (k : ℕ) (d : Equation) → k < first → rank (get_or equations k d) < rank equation = λ k d less. rw c.rank.ensures.rank at (c.first_from-first.ensures.lower k d less) in
    let no : false ≡ true = (none_there equations equation first lower c.if-first-equations.true).1 among in
    cc

pub returns-then-not-is_same-clause-absent : goal.returns-then-not-is_same-clause-absent
returns-then-not-is_same-clause-absent c = λ among.
    let equations = c.args.equations.now in
    let equation = c.args.equation.now in
    let first = c.first_from-first.result in
    let within : first < length equations = omega (arith, c.first_from-first.ensures.within, c.if-first-equations.false) in
    let lower : (k : ℕ) (d : Equation) → k < first → rank (get_or equations k d) < rank equation = λ k d less. rw c.rank.ensures.rank at (c.first_from-first.ensures.lower k d less) in
    let upper : (k : ℕ) (d : Equation) → first ≤ k → k < length equations → rank equation ≤ rank (get_or equations k d) = λ k d le below. rw c.rank.ensures.rank at (c.first_from-first.ensures.higher k d le below) in
    iff_false c.is_same.ensures c.if-not-is_same.true ((only_first equations equation first lower c.requires _ within upper).1 among)

pub returns-clause-found : goal.returns-clause-found
returns-clause-found c =
    let equations = c.args.equations.now in
    let equation = c.args.equation.now in
    let first = c.first_from-first.result in
    let within : first < length equations = omega (arith, c.first_from-first.ensures.within, c.if-first-equations.false) in
    let lower : (k : ℕ) (d : Equation) → k < first → rank (get_or equations k d) < rank equation = λ k d less. rw c.rank.ensures.rank at (c.first_from-first.ensures.lower k d less) in
    let upper : (k : ℕ) (d : Equation) → first ≤ k → k < length equations → rank equation ≤ rank (get_or equations k d) = λ k d le below. rw c.rank.ensures.rank at (c.first_from-first.ensures.higher k d le below) in
    (within, (only_first equations equation first lower c.requires _ within upper).0 (c.is_same.ensures.0 c.if-not-is_same.false))
