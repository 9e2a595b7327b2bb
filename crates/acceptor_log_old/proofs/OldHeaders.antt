-- The two forms of a header: their lengths, what they begin with, and that they are told apart.
use Rattle.std.proofs.Common.{◌≡◌, ◌≢◌, ◌⊎◌, inl, inr, ℕ, ◌+◌, ◌*◌, ◌<◌, ◌≤◌, Bool, true, false, cond, List, length, take, drop, get_or, sym, ap, ◌∙◌, refl, arith}
use Rattle.std.specs.Prelude.{◌==◌}
use Rattle.std.proofs.lemmas.Bool.{eqb-true, and_parts}
use Rattle.std.proofs.lemmas.List.{take-take, get_or-take}
use Rattle.acceptor_log_form.specs.declared.header.Header.{Header}
use Rattle.acceptor_log_old.specs.OldText.{belong_to_first, first_form, second_form, old_header_text, old_header_size}
use Rattle.acceptor_log_old.specs.OldFault.{first_magic, second_magic, IsFirst, IsInOldForm, IsInNoOldForm}

pub text-first : (h : Header) → belong_to_first h.nodes h.promise h.accept ≡ true → old_header_text h ≡ first_form h
unfolding old_header_text
text-first h is = ap (λ t. cond t (first_form h) (second_form h)) is

pub text-second : (h : Header) → belong_to_first h.nodes h.promise h.accept ≡ false → old_header_text h ≡ second_form h
unfolding old_header_text
text-second h is = ap (λ t. cond t (first_form h) (second_form h)) is

pub size-first : (h : Header) → belong_to_first h.nodes h.promise h.accept ≡ true → old_header_size h ≡ 38
unfolding old_header_size
size-first h is = ap (λ t. cond t 38 40) is

pub size-second : (h : Header) → belong_to_first h.nodes h.promise h.accept ≡ false → old_header_size h ≡ 40
unfolding old_header_size
size-second h is = ap (λ t. cond t 38 40) is

pub either_form : (h : Header) → (belong_to_first h.nodes h.promise h.accept ≡ true) ⊎ (belong_to_first h.nodes h.promise h.accept ≡ false)
either_form h = by (belong_to_first h.nodes h.promise h.accept)
  where
    by : (t : Bool) → (t ≡ true) ⊎ (t ≡ false)
    by true = inl refl
    by false = inr refl

pub length-old_header_text : (h : Header) → length h.digest ≡ 32 → length (old_header_text h) ≡ old_header_size h
length-old_header_text h long = elim (either_form h) [
  | inl is ↦ ap length (text-first h is) ∙ omega (arith, long, size-first h is)
  | inr is ↦ ap length (text-second h is) ∙ omega (arith, long, size-second h is)
]

-- what begins with a header of the first form begins with CFJ1
pub begins-first : (h : Header) (bytes : List ℕ) → belong_to_first h.nodes h.promise h.accept ≡ true → take (old_header_size h) bytes ≡ old_header_text h → take 38 bytes ≡ first_form h
begins-first h bytes is header = ap (λ (n : ℕ). take n bytes) (sym (size-first h is)) ∙ header ∙ text-first h is

pub begins-second : (h : Header) (bytes : List ℕ) → belong_to_first h.nodes h.promise h.accept ≡ false → take (old_header_size h) bytes ≡ old_header_text h → take 40 bytes ≡ second_form h
begins-second h bytes is header = ap (λ (n : ℕ). take n bytes) (sym (size-second h is)) ∙ header ∙ text-second h is

front : (size : ℕ) (bytes head : List ℕ) → 4 ≤ size → take size bytes ≡ head → take 4 bytes ≡ take 4 head
front size bytes head four is = sym (take-take 4 size bytes four) ∙ ap (take 4) is

-- a byte of the header
byte : (size k : ℕ) (bytes head : List ℕ) → k < size → take size bytes ≡ head → get_or bytes k 0 ≡ get_or head k 0
byte size k bytes head below is = sym (get_or-take size bytes k 0 below) ∙ ap (λ (l : List ℕ). get_or l k 0) is

-- a header and a gate behind it are in form
pub header-in_form : (h : Header) (bytes : List ℕ) → take (old_header_size h) bytes ≡ old_header_text h → old_header_size h < length bytes → IsInOldForm bytes
header-in_form h bytes header long = elim (either_form h) [
  | inl is ↦ inl (record { long = omega (arith, long, size-first h is); begins = front 38 bytes (first_form h) (omega arith) (begins-first h bytes is header) })
  | inr is ↦ inr (let text = begins-second h bytes is header in record {
    long = omega (arith, long, size-second h is);
    begins = front 40 bytes (second_form h) (omega arith) text;
    sizes = (λ i. belong_to_first (byte 40 4 bytes (second_form h) (omega arith) text i) (byte 40 5 bytes (second_form h) (omega arith) text i) (byte 40 6 bytes (second_form h) (omega arith) text i)) ∙ is;
  })
]

-- no bytes are of both forms
magics_differ : (bytes : List ℕ) → take 4 bytes ≡ first_magic → take 4 bytes ≡ second_magic → ⊥
magics_differ bytes first second = let same = ap (λ (l : List ℕ). get_or l 3 0) (sym first ∙ second) in absurd (omega (arith, same))

-- in a form and in none they are not
pub form-or_none : (bytes : List ℕ) → IsInOldForm bytes → IsInNoOldForm bytes → ⊥
form-or_none bytes (inl first) (inl short) = omega (arith, first.long, short)
form-or_none bytes (inl first) (inr (inl other)) = other.0 first.begins
form-or_none bytes (inl first) (inr (inr cut)) = magics_differ bytes first.begins cut.0
form-or_none bytes (inr second) (inl short) = omega (arith, second.long, short)
form-or_none bytes (inr second) (inr (inl other)) = other.1 second.begins
form-or_none bytes (inr second) (inr (inr (_, inl short))) = omega (arith, second.long, short)
form-or_none bytes (inr second) (inr (inr (_, inr sizes))) = absurd (let no = second.sizes in cc)

-- the numbers of the first form tell both sizes
sizes-first : (nodes promise accept : ℕ) → belong_to_first nodes promise accept ≡ true → (2 * promise ≡ nodes + 1) × (2 * accept ≡ nodes + 1)
unfolding belong_to_first
sizes-first nodes promise accept is =
    let both = and_parts (2 * promise == nodes + 1) (2 * accept == nodes + 1) is in
    (eqb-true (2 * promise) (nodes + 1) both.0, eqb-true (2 * accept) (nodes + 1) both.1)

one_first : (g h : Header) → belong_to_first g.nodes g.promise g.accept ≡ true → belong_to_first h.nodes h.promise h.accept ≡ true → first_form g ≡ first_form h → g ≡ h
one_first g h first second same =
    let nodes : g.nodes ≡ h.nodes = ap (λ (l : List ℕ). get_or l 4 0) same in
    let node : g.node ≡ h.node = ap (λ (l : List ℕ). get_or l 5 0) same in
    let digest : g.digest ≡ h.digest = ap (λ (l : List ℕ). drop 6 l) same in
    let one = sizes-first g.nodes g.promise g.accept first in
    let two = sizes-first h.nodes h.promise h.accept second in
    let promise : g.promise ≡ h.promise = omega (arith, nodes, one.0, two.0) in
    let accept : g.accept ≡ h.accept = omega (arith, nodes, one.1, two.1) in
    λ i. record { nodes = nodes i; promise = promise i; accept = accept i; node = node i; digest = digest i }

one_second : (g h : Header) → second_form g ≡ second_form h → g ≡ h
one_second g h same = λ i. record {
  nodes = ap (λ (l : List ℕ). get_or l 4 0) same i;
  promise = ap (λ (l : List ℕ). get_or l 5 0) same i;
  accept = ap (λ (l : List ℕ). get_or l 6 0) same i;
  node = ap (λ (l : List ℕ). get_or l 7 0) same i;
  digest = ap (λ (l : List ℕ). drop 8 l) same i;
}

-- bytes begin with one header
pub same_header : (g h : Header) (bytes : List ℕ) → take (old_header_size g) bytes ≡ old_header_text g → take (old_header_size h) bytes ≡ old_header_text h → g ≡ h
same_header g h bytes one two = elim (either_form g) [
  | inl first ↦ elim (either_form h) [
    | inl same ↦ one_first g h first same (sym (begins-first g bytes first one) ∙ begins-first h bytes same two)
    | inr second ↦ absurd (magics_differ bytes (front 38 bytes (first_form g) (omega arith) (begins-first g bytes first one)) (front 40 bytes (second_form h) (omega arith) (begins-second h bytes second two)))
  ]
  | inr second ↦ elim (either_form h) [
    | inl first ↦ absurd (magics_differ bytes (front 38 bytes (first_form h) (omega arith) (begins-first h bytes first two)) (front 40 bytes (second_form g) (omega arith) (begins-second g bytes second one)))
    | inr same ↦ one_second g h (sym (begins-second g bytes second one) ∙ begins-second h bytes same two)
  ]
]

-- CFJ1 with an even number of nodes is no header's text
pub even-other : (h : Header) (half : ℕ) (bytes : List ℕ) → IsFirst bytes → get_or bytes 4 0 ≡ 2 * half → take (old_header_size h) bytes ≢ old_header_text h
even-other h half bytes first even header = elim (either_form h) [
  | inl is ↦ (let nodes : get_or bytes 4 0 ≡ h.nodes = byte 38 4 bytes (first_form h) (omega arith) (begins-first h bytes is header) in
      omega (arith, even, nodes, (sizes-first h.nodes h.promise h.accept is).0))
  | inr is ↦ magics_differ bytes first.begins (front 40 bytes (second_form h) (omega arith) (begins-second h bytes is header))
]
