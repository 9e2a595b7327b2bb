-- The first fault of parts that follow one another.
use Rattle.std.proofs.Common.{rules, ◌≡◌, List, [], ◌∷◌, ◌++◌, Some, ap, ◌∙◌}
use Rattle.c_checker_rules.specs.declared.errors.CheckError.{CheckError}
use Rattle.c_checker_rules.specs.Told.{first, Tells}

-- what is first in the front is first in the whole
pub first_front : (e : CheckError) (front rest : List CheckError) → first front ≡ Some e → first (front ++ rest) ≡ Some e
first_front e [] rest same = search (rules)
first_front e (f ∷ front) rest same = same

pub tells_front : (e : CheckError) (front rest : List CheckError) → Tells e front → Tells e (front ++ rest)
tells_front e front rest told memory = first_front e front rest (told memory)

-- behind a front without faults
pub tells_behind : (e : CheckError) (front rest : List CheckError) → front ≡ [] → Tells e rest → Tells e (front ++ rest)
tells_behind e front rest none told memory = ap (λ l. first (l ++ rest)) none ∙ told memory
