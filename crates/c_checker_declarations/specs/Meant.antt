-- Whether a name may be declared as a function, by what it means before (C99 6.2.7 and 6.7).
use Rattle.std.specs.Prelude.{List, Option, Some, None, Bool, true, false}
use Rattle.c_checker_rules.specs.declared.meaning.Meaning.{Meaning}
use Rattle.c_checker_rules.specs.declared.signature.Signature.{Signature}
use Rattle.c_checker_rules.specs.Calls.{called}
use Rattle.c_checker_rules.specs.Functions.{same_signature}

-- there is a function, and it is of this type
abbrev pub is_same : Option Signature → Signature → Bool
is_same None s = false
is_same (Some t) s = same_signature s t

abbrev pub may_mean : List Signature → Option Meaning → Signature → Bool
may_mean signatures None s = true
may_mean signatures (Some m) s = is_same (called signatures (Some m)) s
