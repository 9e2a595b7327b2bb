-- Where the words of Linear lie.
use Rattle.std.specs.Prelude.{ℕ, List, [], ◌∷◌, slice_index_or}
use Rattle.x86_syntax.specs.declared.register.Register.{Register}
use Rattle.x86_syntax.specs.declared.register.Register.TheVariants.{R8d, R9d, R10d, R11d, Ebx, Ebp, R12d, R13d, Ecx, Edx, Esi, Edi}

-- the registers r0 to r7, in order: a call may change the first four
abbrev pub registers : List Register
registers = R8d ∷ R9d ∷ R10d ∷ R11d ∷ Ebx ∷ Ebp ∷ R12d ∷ R13d ∷ []

abbrev pub register_of : ℕ → Register
register_of r = slice_index_or registers r R8d

-- the registers in which the first arguments pass (System V Application Binary Interface, AMD64 supplement, section 3.2.3)
abbrev pub passing : List Register
passing = Edi ∷ Esi ∷ Edx ∷ Ecx ∷ []
