-- A list whose first part is not read.
use Rattle.std.proofs.Common.{◌≡◌, List, Err, refl}
use Rattle.c_syntax.specs.declared.token.Token.{Token}
use Rattle.c_reader_tokens.specs.declared.fault.Fault.{Fault}
use Rattle.c_reader_tokens.specs.Reading.{Reading}
use Rattle.c_reader_productions.specs.Combining.{commas}

pub commas_fail : {A : Type 0} (part : Reading A) (ts : List Token) (fault : Fault) → part ts ≡ Err fault → commas part ts ≡ Err fault
unfolding commas
commas_fail part ts fault e = rw e refl
