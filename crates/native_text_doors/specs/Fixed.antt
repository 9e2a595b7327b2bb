-- The fixed text: how a program is entered, how a byte is printed, and how a run ends (System V Application Binary Interface, AMD64
-- supplement, sections 3.2 and 3.4). It is trusted, not proved. Behind each line stands what it does.
use Rattle.std.specs.Prelude.{ℕ, List, [], ◌∷◌, ◌++◌, codes}
use Rattle.std.specs.List.{flat_map}

abbrev pub line_end : List ℕ
line_end = 10 ∷ []

-- a place to go to
abbrev pub labelled : List ℕ → List ℕ
labelled name = name ++ (codes ":" ++ line_end)

-- lines, each with its end
abbrev pub ended : List (List ℕ) → List ℕ
ended ls = flat_map (λ l. l ++ 10 ∷ []) ls

-- the registers that C keeps are put on the stack
abbrev pub kept_text : List ℕ
kept_text = ended (
    codes " pushq %rbx"
    ∷ codes " pushq %rbp"
    ∷ codes " pushq %r12"
    ∷ codes " pushq %r13"
    ∷ codes " pushq %r14"
    ∷ codes " pushq %r15"
    ∷ [])

-- they are taken back, and the caller goes on
abbrev pub back_text : List ℕ
back_text = ended (
    codes " popq %r15"
    ∷ codes " popq %r14"
    ∷ codes " popq %r13"
    ∷ codes " popq %r12"
    ∷ codes " popq %rbp"
    ∷ codes " popq %rbx"
    ∷ codes " ret"
    ∷ [])

-- the linker may give main to C's start
abbrev pub main_text : List ℕ
main_text = ended (
    codes " .globl main"
    ∷ codes "main:"
    ∷ [])

-- behind main's result: what was printed is flushed, and the result is the status
abbrev pub result_text : List ℕ
result_text = ended (
    codes " movl %eax, %ebx"  -- flushing changes eax
    ∷ codes " call .Lflush"
    ∷ codes " movl %ebx, %eax"
    ∷ [])

-- a function is entered: r14 and r15 are set, and the eight locations are 0, their upper halves too; arguments stay where they are
abbrev pub enter_text : List ℕ
enter_text = ended (
    codes ".Lenter:"
    ∷ codes " leaq .Lglobals(%rip), %r14"  -- the globals
    ∷ codes " movq .Llimit(%rip), %r15"  -- the stack's limit
    ∷ codes " testq %r15, %r15"
    ∷ codes " je .Lfind"  -- not found yet
    ∷ codes ".Lfound:"
    ∷ codes " xorl %r8d, %r8d"  -- r0 to r7
    ∷ codes " xorl %r9d, %r9d"
    ∷ codes " xorl %r10d, %r10d"
    ∷ codes " xorl %r11d, %r11d"
    ∷ codes " xorl %ebx, %ebx"
    ∷ codes " xorl %ebp, %ebp"
    ∷ codes " xorl %r12d, %r12d"
    ∷ codes " xorl %r13d, %r13d"
    ∷ codes " ret"
    ∷ codes ".Lfind:"
    ∷ codes " pushq %rdi"  -- the arguments
    ∷ codes " pushq %rsi"
    ∷ codes " pushq %rdx"
    ∷ codes " pushq %rcx"
    ∷ codes " movq %rsp, %rbp"  -- the top, while libc is called
    ∷ codes " subq $16, %rsp"  -- room for two numbers of 64 bits
    ∷ codes " andq $-16, %rsp"  -- libc wants a multiple of 16
    ∷ codes " movl $3, %edi"  -- RLIMIT_STACK
    ∷ codes " movq %rsp, %rsi"
    ∷ codes " call getrlimit@PLT"
    ∷ codes " movq (%rsp), %rax"  -- the soft limit
    ∷ codes " movl $1073741824, %ecx"  -- at most 1 GB of it counts
    ∷ codes " cmpq %rcx, %rax"
    ∷ codes " cmovaq %rcx, %rax"
    ∷ codes " movq %rax, %rdx"  -- three quarters: the environment may take a quarter
    ∷ codes " shrq $2, %rdx"
    ∷ codes " subq %rdx, %rax"
    ∷ codes " leaq 65536(%rbp), %r15"  -- 64 KB are left for the largest frame and for libc
    ∷ codes " subq %rax, %r15"
    ∷ codes " movq %r15, .Llimit(%rip)"  -- found once
    ∷ codes " movq %rbp, %rsp"
    ∷ codes " popq %rcx"
    ∷ codes " popq %rdx"
    ∷ codes " popq %rsi"
    ∷ codes " popq %rdi"
    ∷ codes " jmp .Lfound"
    ∷ [])

-- edi's low byte is printed, and eax becomes it; r8 to r11 stay
abbrev pub put_text : List ℕ
put_text = ended (
    codes ".Lput:"
    ∷ codes " pushq %r8"
    ∷ codes " pushq %r9"
    ∷ codes " pushq %r10"
    ∷ codes " pushq %r11"
    ∷ codes " pushq %rbp"
    ∷ codes " movq %rsp, %rbp"  -- the top, while libc is called
    ∷ codes " andq $-16, %rsp"  -- libc wants a multiple of 16
    ∷ codes " movzbl %dil, %edi"  -- the low byte
    ∷ codes " call putchar@PLT"
    ∷ codes " movq %rbp, %rsp"
    ∷ codes " popq %rbp"
    ∷ codes " popq %r11"
    ∷ codes " popq %r10"
    ∷ codes " popq %r9"
    ∷ codes " popq %r8"
    ∷ codes " testl %eax, %eax"  -- the byte, or a number below 0 where it was not written
    ∷ codes " js .Lunwritten"
    ∷ codes " ret"
    ∷ [])

-- all that was printed is flushed
abbrev pub flush_text : List ℕ
flush_text = ended (
    codes ".Lflush:"
    ∷ codes " pushq %rbp"
    ∷ codes " movq %rsp, %rbp"  -- the top, while libc is called
    ∷ codes " andq $-16, %rsp"  -- libc wants a multiple of 16
    ∷ codes " xorl %edi, %edi"  -- each output
    ∷ codes " call fflush@PLT"
    ∷ codes " movq %rbp, %rsp"
    ∷ codes " popq %rbp"
    ∷ codes " testl %eax, %eax"  -- 0 where all was written
    ∷ codes " jne .Lunwritten"
    ∷ codes " ret"
    ∷ [])

-- what ends a run early: a line is told on standard error, and the process ends with a status
abbrev pub ends_text : List ℕ
ends_text = ended (
    codes ".Lwrong:"  -- the run went wrong
    ∷ codes " call .Lflush"
    ∷ codes " movl $5, %ebx"  -- the status
    ∷ codes " leaq .Ltold5(%rip), %rsi"  -- the line
    ∷ codes " movl $6, %edx"  -- its length
    ∷ codes " jmp .Lend"
    ∷ codes ".Lfull:"  -- the stack has no room
    ∷ codes " call .Lflush"
    ∷ codes " movl $7, %ebx"
    ∷ codes " leaq .Ltold7(%rip), %rsi"
    ∷ codes " movl $7, %edx"
    ∷ codes " jmp .Lend"
    ∷ codes ".Lunwritten:"  -- the output could not be written
    ∷ codes " movl $4, %ebx"
    ∷ codes " leaq .Ltold4(%rip), %rsi"
    ∷ codes " movl $10, %edx"
    ∷ codes ".Lend:"
    ∷ codes " andq $-16, %rsp"  -- libc wants a multiple of 16
    ∷ codes " movl $2, %edi"  -- standard error
    ∷ codes " call write@PLT"
    ∷ codes " movl %ebx, %edi"
    ∷ codes " call _exit@PLT"
    ∷ codes ".Ltold5:"
    ∷ codes " .byte 119,114,111,110,103,10"  -- wrong
    ∷ codes ".Ltold7:"
    ∷ codes " .byte 109,101,109,111,114,121,10"  -- memory
    ∷ codes ".Ltold4:"
    ∷ codes " .byte 119,114,105,116,101,32,55,48,49,10"  -- write 701
    ∷ [])

-- the data: no limit is found; the globals follow
abbrev pub data_text : List ℕ
data_text = ended (
    codes " .data"
    ∷ codes " .p2align 3"
    ∷ codes ".Llimit:"
    ∷ codes " .quad 0"
    ∷ codes ".Lglobals:"
    ∷ [])

-- the stack holds no code: the section's flags are an empty string
abbrev pub note_text : List ℕ
note_text = codes " .section .note.GNU-stack," ++ 34 ∷ 34 ∷ codes ",@progbits" ++ 10 ∷ []
