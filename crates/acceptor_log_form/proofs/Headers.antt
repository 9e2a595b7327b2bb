-- A header: its length, what it begins with, and that it tells all its parts.
use Rattle.std.proofs.Common.{◌≡◌, inl, inr, ℕ, ◌<◌, List, length, take, drop, get_or, sym, ap, ◌∙◌, arith}
use Rattle.std.proofs.lemmas.List.{take-take}
use Rattle.acceptor_log_form.specs.declared.header.Header.{Header}
use Rattle.acceptor_log_form.specs.Text.{header_text, header_size}
use Rattle.acceptor_log_form.specs.Fault.{IsInForm, IsNotInForm}

pub length-header_text : (h : Header) → length h.digest ≡ 32 → length (header_text h) ≡ header_size
length-header_text h long = omega (arith, long)

-- a header and a gate behind it are in form
pub header-in_form : (h : Header) (bytes : List ℕ) → take header_size bytes ≡ header_text h → header_size < length bytes → IsInForm bytes
header-in_form h bytes header long = (omega (arith, long), sym (take-take 4 header_size bytes (omega arith)) ∙ ap (take 4) header)

-- in form or not, and not both
pub form-or_not : (bytes : List ℕ) → IsInForm bytes → IsNotInForm bytes → ⊥
form-or_not bytes form (inl short) = omega (arith, form.0, short)
form-or_not bytes form (inr other) = other form.1

one_header : (g h : Header) → header_text g ≡ header_text h → g ≡ h
one_header g h same = λ i. record {
  nodes = ap (λ (l : List ℕ). get_or l 4 0) same i;
  promise = ap (λ (l : List ℕ). get_or l 5 0) same i;
  accept = ap (λ (l : List ℕ). get_or l 6 0) same i;
  node = ap (λ (l : List ℕ). get_or l 7 0) same i;
  digest = ap (λ (l : List ℕ). drop 8 l) same i;
}

-- bytes begin with one header
pub same_header : (g h : Header) (bytes : List ℕ) → take header_size bytes ≡ header_text g → take header_size bytes ≡ header_text h → g ≡ h
same_header g h bytes one two = one_header g h (sym one ∙ two)
