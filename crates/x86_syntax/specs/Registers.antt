-- The registers by number.
use Rattle.std.specs.Prelude.{ℕ}
use Rattle.x86_syntax.specs.declared.register.Register.{Register}
use Rattle.x86_syntax.specs.declared.register.Register.TheVariants.{R8d, R9d, R10d, R11d, Ebx, Ebp, R12d, R13d, Eax, Ecx, Edx, Esi, Edi}

-- the eight that hold a function's words come first, in the order of their use
unfoldable pub number_of : Register → ℕ
number_of R8d = 0
number_of R9d = 1
number_of R10d = 2
number_of R11d = 3
number_of Ebx = 4
number_of Ebp = 5
number_of R12d = 6
number_of R13d = 7
number_of Eax = 8
number_of Ecx = 9
number_of Edx = 10
number_of Esi = 11
number_of Edi = 12
