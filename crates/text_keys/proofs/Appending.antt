-- What is written behind a text.
use Rattle.std.proofs.Common.{◌≡◌, ℕ, List, ◌++◌, Result, Ok, Err, sym, ap, ◌∙◌}
use Rattle.std.proofs.lemmas.List.{append_assoc}
use Rattle.lang_base.specs.Texts.{Appends}
use Rattle.lang_base.proofs.Beginnings.{IsBeginningOf-trans}

pub appends_behind : {T E : Type 0} (r : Result T E) (first text old middle new : List ℕ) → middle ≡ old ++ first → Appends r text middle new → Appends r (first ++ text) old new
appends_behind (Ok x) first text old middle new e h = h ∙ ap (λ l. l ++ text) e ∙ append_assoc old first text
appends_behind (Err d) first text old middle new e h = IsBeginningOf-trans old middle new (first, sym e) h

-- the first line of a function, and what stands below it
pub function_written : {T E : Type 0} (r : Result T E) (head sizes ending below old first second third new : List ℕ) → first ≡ old ++ head → second ≡ first ++ sizes → third ≡ second ++ ending → Appends r below third new → Appends r (head ++ (sizes ++ (ending ++ below))) old new
function_written r head sizes ending below old first second third new e e' e'' h =
    appends_behind r head (sizes ++ (ending ++ below)) old first new e (appends_behind r sizes (ending ++ below) first second new e' (appends_behind r ending below second third new e'' h))
