-- Why `old_size` meets its clause `text`.
use Rattle.std.proofs.Common.{◌≡◌, ℕ, ◌+◌, true, false, arith, length, ◌∙◌}
use Rattle.acceptor_log_form.specs.declared.header.Header.{Header}
use Rattle.acceptor_log_old.specs.OldText.{belong_to_first, old_header_text}
use Rattle.acceptor_log_old.proofs.OldHeaders.{length-old_header_text, size-first, size-second}
use Rattle.acceptor_log_old.proofs.header.old_size.Goals as goal

first_long : (h : Header) (n : ℕ) → length h.digest ≡ n → n ≡ 32 → belong_to_first h.nodes h.promise h.accept ≡ true → length (old_header_text h) ≡ 6 + n
first_long h n own long first = omega (arith, long, length-old_header_text h (own ∙ long), size-first h first)

second_long : (h : Header) (n : ℕ) → length h.digest ≡ n → n ≡ 32 → belong_to_first h.nodes h.promise h.accept ≡ false → length (old_header_text h) ≡ 8 + n
second_long h n own long second = omega (arith, long, length-old_header_text h (own ∙ long), size-second h second)

pub returns-then-has_first_form-clause-text : goal.returns-then-has_first_form-clause-text
returns-then-has_first_form-clause-text c =
    let h = c.args.header.now in
    let first : belong_to_first h.nodes h.promise h.accept ≡ true = cc in
    first_long h c.digest_size-digest.result c.digest_size-digest.ensures.own c.digest_size-digest.ensures.long first

pub returns-else-has_first_form-clause-text : goal.returns-else-has_first_form-clause-text
returns-else-has_first_form-clause-text c =
    let h = c.args.header.now in
    let second : belong_to_first h.nodes h.promise h.accept ≡ false = cc in
    second_long h c.digest_size-digest.result c.digest_size-digest.ensures.own c.digest_size-digest.ensures.long second
