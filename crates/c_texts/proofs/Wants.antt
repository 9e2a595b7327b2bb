-- A text that is accepted is refused only where memory is.
use Rattle.std.proofs.Common.{◌≡◌, refl, List, [], Some}
use Rattle.std.specs.List.{AllByRecursion}
use Rattle.c_syntax.specs.declared.token.Token.{Token}
use Rattle.c_syntax.specs.Trees.{UnitTree}
use Rattle.c_syntax.specs.Heights.{IsLow}
use Rattle.c_syntax.specs.Declarations.{IsUnit}
use Rattle.c_reader.specs.declared.errors.ReadError.{ReadError}
use Rattle.c_reader.specs.declared.errors.ReadError.TheVariants as R
use Rattle.c_reader.specs.Refusing.{Refuses}
use Rattle.c_checker_rules.specs.declared.errors.CheckError.{CheckError}
use Rattle.c_checker_rules.specs.declared.errors.CheckError.TheVariants as C
use Rattle.c_checker_rules.specs.Told.{first, Tells}

-- a reading that refuses tokens which spell a tree that is not too high
pub read_wants : (f : ReadError) (ts : List Token) (u : UnitTree) → Refuses f ts → IsUnit u ts → AllByRecursion IsLow u.declarations → f ≡ R.NoMemory
read_wants R.NoMemory ts u r s low = refl
read_wants (R.Syntax at) ts u r s low = absurd (r u s)
read_wants (R.TooDeep at) ts u r s low = absurd (r u s low)

untold : (f : CheckError) (faults : List CheckError) → faults ≡ [] → first faults ≡ Some f → ⊥
untold f faults none told = cc

-- a check that refuses where there is no fault
pub check_wants : (f : CheckError) (faults : List CheckError) → faults ≡ [] → Tells f faults → f ≡ C.NoMemory
check_wants C.NoMemory faults none told = refl
check_wants (C.Undeclared at) faults none told = absurd (untold (C.Undeclared at) faults none (told (λ e. cc)))
check_wants (C.Redeclared at) faults none told = absurd (untold (C.Redeclared at) faults none (told (λ e. cc)))
check_wants (C.WrongArity at) faults none told = absurd (untold (C.WrongArity at) faults none (told (λ e. cc)))
check_wants (C.VoidValue at) faults none told = absurd (untold (C.VoidValue at) faults none (told (λ e. cc)))
check_wants (C.NoMain at) faults none told = absurd (untold (C.NoMain at) faults none (told (λ e. cc)))
check_wants (C.BadMain at) faults none told = absurd (untold (C.BadMain at) faults none (told (λ e. cc)))
check_wants (C.NotConstant at) faults none told = absurd (untold (C.NotConstant at) faults none (told (λ e. cc)))
check_wants (C.NoBody at) faults none told = absurd (untold (C.NoBody at) faults none (told (λ e. cc)))
check_wants (C.Limit at) faults none told = absurd (untold (C.Limit at) faults none (told (λ e. cc)))
check_wants (C.StrayBreak at) faults none told = absurd (untold (C.StrayBreak at) faults none (told (λ e. cc)))
check_wants (C.ArrayUse at) faults none told = absurd (untold (C.ArrayUse at) faults none (told (λ e. cc)))
