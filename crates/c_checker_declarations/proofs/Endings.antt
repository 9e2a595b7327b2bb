-- What the end of a body means, for main and for the others.
use Rattle.std.proofs.Common.{◌≡◌, ℕ, List, true, false, refl}
use Rattle.c_syntax.specs.declared.declaration.ReturnType.{ReturnType}
use Rattle.c_syntax.specs.declared.declaration.ReturnType.TheVariants as R
use Rattle.c_program.specs.declared.function.Ending.TheVariants.{Returns, ReturnsZero}
use Rattle.c_checker_rules.specs.Globals.{is_main}
use Rattle.c_checker_rules.specs.Functions.{ending_of}

pub of_main : (name : List ℕ) (r : ReturnType) → is_main name ≡ true → ending_of name r ≡ ReturnsZero
of_main name R.Void e = rw e refl
of_main name (R.Value t) e = rw e refl

pub of_another : (name : List ℕ) (r : ReturnType) → is_main name ≡ false → ending_of name R.Void ≡ Returns
of_another name r e = rw e refl
