-- The words of the text: names of registers (with 32 bits, and with 64), of conditions and of what is done (GNU assembler, AT&T syntax;
-- Intel 64 and IA-32 Software Developer's Manual, volume 2), and numbers.
use Rattle.std.specs.Prelude.{ℕ, ◌-◌, ◌^◌, List, ◌∷◌, codes, decimal, nat_lt, if◌then◌else◌}
use Rattle.x86_syntax.specs.declared.condition.Condition.{Condition}
use Rattle.x86_syntax.specs.declared.condition.Condition.TheVariants.{Equal, NotEqual, Less, LessOrEqual, Below, BelowOrEqual, AboveOrEqual}
use Rattle.x86_syntax.specs.declared.operators.Operator.{Operator}
use Rattle.x86_syntax.specs.declared.operators.Operator.TheVariants.{Add, Sub, Mul, And, Or, Xor}
use Rattle.x86_syntax.specs.declared.operators.Turning.{Turning}
use Rattle.x86_syntax.specs.declared.operators.Turning.TheVariants.{Neg, Not}
use Rattle.x86_syntax.specs.declared.operators.Shifting.{Shifting}
use Rattle.x86_syntax.specs.declared.operators.Shifting.TheVariants.{Shl, Shr, Sar}
use Rattle.x86_syntax.specs.declared.register.Register.{Register}
use Rattle.x86_syntax.specs.declared.register.Register.TheVariants.{R8d, R9d, R10d, R11d, Ebx, Ebp, R12d, R13d, Eax, Ecx, Edx, Esi, Edi}
use Rattle.native_text.specs.declared.words.Verb.{Verb}
use Rattle.native_text.specs.declared.words.Verb.TheVariants.{Remark, Moves, Does, Turns, Shifts, Extends, Divides, DividesUnsigned, Compares, Sets, Widens, Jumps, JumpsIf, Calls, Returns, ComparesWide, SubtractsWide, AddsWide}

abbrev pub name_of : Register → List ℕ
name_of R8d = codes "%r8d"
name_of R9d = codes "%r9d"
name_of R10d = codes "%r10d"
name_of R11d = codes "%r11d"
name_of Ebx = codes "%ebx"
name_of Ebp = codes "%ebp"
name_of R12d = codes "%r12d"
name_of R13d = codes "%r13d"
name_of Eax = codes "%eax"
name_of Ecx = codes "%ecx"
name_of Edx = codes "%edx"
name_of Esi = codes "%esi"
name_of Edi = codes "%edi"

-- the whole register, whose upper half is 0
abbrev pub wide_name_of : Register → List ℕ
wide_name_of R8d = codes "%r8"
wide_name_of R9d = codes "%r9"
wide_name_of R10d = codes "%r10"
wide_name_of R11d = codes "%r11"
wide_name_of Ebx = codes "%rbx"
wide_name_of Ebp = codes "%rbp"
wide_name_of R12d = codes "%r12"
wide_name_of R13d = codes "%r13"
wide_name_of Eax = codes "%rax"
wide_name_of Ecx = codes "%rcx"
wide_name_of Edx = codes "%rdx"
wide_name_of Esi = codes "%rsi"
wide_name_of Edi = codes "%rdi"

abbrev pub operator_text : Operator → List ℕ
operator_text Add = codes "addl"
operator_text Sub = codes "subl"
operator_text Mul = codes "imull"
operator_text And = codes "andl"
operator_text Or = codes "orl"
operator_text Xor = codes "xorl"

abbrev pub turning_text : Turning → List ℕ
turning_text Neg = codes "negl"
turning_text Not = codes "notl"

abbrev pub shifting_text : Shifting → List ℕ
shifting_text Shl = codes "shll"
shifting_text Shr = codes "shrl"
shifting_text Sar = codes "sarl"

abbrev pub jump_text : Condition → List ℕ
jump_text Equal = codes "je"
jump_text NotEqual = codes "jne"
jump_text Less = codes "jl"
jump_text LessOrEqual = codes "jle"
jump_text Below = codes "jb"
jump_text BelowOrEqual = codes "jbe"
jump_text AboveOrEqual = codes "jae"

abbrev pub set_text : Condition → List ℕ
set_text Equal = codes "sete"
set_text NotEqual = codes "setne"
set_text Less = codes "setl"
set_text LessOrEqual = codes "setle"
set_text Below = codes "setb"
set_text BelowOrEqual = codes "setbe"
set_text AboveOrEqual = codes "setae"

-- what is done
abbrev pub verb_text : Verb → List ℕ
verb_text Remark = codes "#"
verb_text Moves = codes "movl"
verb_text (Does op) = operator_text op
verb_text (Turns op) = turning_text op
verb_text (Shifts op) = shifting_text op
verb_text Extends = codes "cltd"
verb_text Divides = codes "idivl"
verb_text DividesUnsigned = codes "divl"
verb_text Compares = codes "cmpl"
verb_text (Sets condition) = set_text condition
verb_text Widens = codes "movzbl"
verb_text Jumps = codes "jmp"
verb_text (JumpsIf condition) = jump_text condition
verb_text Calls = codes "call"
verb_text Returns = codes "ret"
verb_text ComparesWide = codes "cmpq"
verb_text SubtractsWide = codes "subq"
verb_text AddsWide = codes "addq"

-- a word is read as signed
abbrev pub signed_text : ℕ → List ℕ
signed_text w = if nat_lt w (2 ^ 31) then decimal w else 45 ∷ decimal (2 ^ 32 - w)
