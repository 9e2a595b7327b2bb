-- Printing: a fixed routine that calls C's putchar. What it leaves in the registers that a call may change is open, but for the result
-- in eax and r8d to r11d, which the routine keeps (System V Application Binary Interface, AMD64 supplement, section 3.2).
use Rattle.std.specs.Prelude.{ℕ, ◌%◌, [], ◌∷◌, ◌++◌, None}
use Rattle.x86_syntax.specs.declared.register.Register.{Register}
use Rattle.x86_syntax.specs.declared.register.Register.TheVariants.{Eax, Ecx, Edx, Esi, Edi}
use Rattle.x86_state.specs.State.{State, word, put, with_flags, rest_of}

-- a register holds whatever it may
abbrev pub scrambled : Register → State → State
scrambled r s = record (put r (s.junk 0) s) { junk = rest_of s.junk }

-- the byte is printed, and eax is it
abbrev pub with_byte : ℕ → State → State
with_byte byte s = put Eax byte (record s { output = s.output ++ byte ∷ [] })

-- so do the four that pass arguments
abbrev pub all_scrambled : State → State
all_scrambled s = scrambled Edi (scrambled Esi (scrambled Edx (scrambled Ecx s)))

-- the low byte of edi is printed
abbrev pub printed : State → State
printed s = with_flags None (all_scrambled (with_byte (word Edi s % 256) s))
