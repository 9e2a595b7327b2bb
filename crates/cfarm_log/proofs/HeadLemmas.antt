-- Headers at the front of bytes.
use Rattle.std.proofs.Common.{◌≡◌, ◌≢◌, ◌⊎◌, inl, inr, ℕ, ◌+◌, ◌-◌, ◌*◌, ◌<◌, ◌≤◌, Bool, true, false, List, [], ◌∷◌, ◌++◌, length, take, drop, get_or, refl, sym, ap, ◌∙◌, arith}
use Rattle.std.specs.Prelude.{◌==◌, ◌&&◌, slice_index_or}
use Rattle.std.proofs.lemmas.Bool.{eq-eqb}
use Rattle.std.proofs.lemmas.List.{length-drop, take_all}
use Rattle.acceptor_log_form.specs.declared.header.Header.{Header}
use Rattle.acceptor_log_form.specs.Fault.{magic, IsNotInForm}
use Rattle.acceptor_log_old.specs.OldText.{belong_to_first}
use Rattle.acceptor_log_old.specs.OldFault.{first_magic, second_magic, tells_first_sizes}
use Rattle.acceptor_log_old.proofs.OldHeaders.{text-first, text-second, length-old_header_text}
use Rattle.cfarm_log.specs.declared.version.Version.TheVariants.{Old}
use Rattle.cfarm_log.specs.Heads.{IsHead}

-- bytes begin with one magic
one_magic : (bytes : List ℕ) (a b : ℕ) → take 4 bytes ≡ 0x43 ∷ 0x46 ∷ 0x4a ∷ a ∷ [] → take 4 bytes ≡ 0x43 ∷ 0x46 ∷ 0x4a ∷ b ∷ [] → a ≡ b
one_magic bytes a b one two = ap (λ (l : List ℕ). get_or l 3 0) (sym one ∙ two)

pub first-not_new : (bytes : List ℕ) → take 4 bytes ≡ first_magic → IsNotInForm bytes
first-not_new bytes first = inr (λ new. (let same = one_magic bytes 0x32 0x31 new first in omega (arith, same)))

-- the four bytes in front, and what stands behind them
magic_front : (bytes tail text : List ℕ) (a b c d : ℕ) → take 4 bytes ≡ text → bytes ≡ a ∷ b ∷ c ∷ d ∷ tail → bytes ≡ text ++ tail
magic_front bytes tail text a b c d begins is = is ∙ ap (λ (l : List ℕ). l ++ tail) (ap (take 4) (sym is) ∙ begins)

first-is_head : (bytes rest behind : List ℕ) (a b c d : ℕ) (h : Header) → take 4 bytes ≡ first_magic → belong_to_first h.nodes h.promise h.accept ≡ true
    → bytes ≡ a ∷ b ∷ c ∷ d ∷ h.nodes ∷ h.node ∷ rest → 33 ≤ length rest → rest ≡ h.digest ++ behind → length h.digest ≡ 32
    → IsHead Old h bytes behind
first-is_head bytes rest behind a b c d h begins belongs is more split long = record {
  form = inl (record { long = omega (arith, ap length is, more); begins = begins });
  text = magic_front bytes (h.nodes ∷ h.node ∷ rest) first_magic a b c d begins is
      ∙ ap (λ (l : List ℕ). first_magic ++ (h.nodes ∷ h.node ∷ l)) split
      ∙ ap (λ (l : List ℕ). l ++ behind) (sym (text-first h belongs));
  size = length-old_header_text h long;
}

-- the sizes that stand behind CFJF
sizes_told : (bytes rest : List ℕ) (a b c d n p q : ℕ) → bytes ≡ a ∷ b ∷ c ∷ d ∷ n ∷ p ∷ q ∷ rest → tells_first_sizes bytes ≡ belong_to_first n p q
sizes_told bytes rest a b c d n p q is = ap tells_first_sizes is

second-is_head : (bytes rest behind : List ℕ) (a b c d : ℕ) (h : Header) → take 4 bytes ≡ second_magic → belong_to_first h.nodes h.promise h.accept ≡ false
    → bytes ≡ a ∷ b ∷ c ∷ d ∷ h.nodes ∷ h.promise ∷ h.accept ∷ h.node ∷ rest → 33 ≤ length rest → rest ≡ h.digest ++ behind → length h.digest ≡ 32
    → IsHead Old h bytes behind
second-is_head bytes rest behind a b c d h begins other is more split long = record {
  form = inr (record {
    long = omega (arith, ap length is, more);
    begins = begins;
    sizes = sizes_told bytes (h.node ∷ rest) a b c d h.nodes h.promise h.accept is ∙ other;
  });
  text = magic_front bytes (h.nodes ∷ h.promise ∷ h.accept ∷ h.node ∷ rest) second_magic a b c d begins is
      ∙ ap (λ (l : List ℕ). second_magic ++ (h.nodes ∷ h.promise ∷ h.accept ∷ h.node ∷ l)) split
      ∙ ap (λ (l : List ℕ). l ++ behind) (sym (text-second h other));
  size = length-old_header_text h long;
}

belongs : (n half : ℕ) → 2 * half ≡ n + 1 → belong_to_first n half half ≡ true
unfolding belong_to_first
belongs n half is = let t = eq-eqb (2 * half) (n + 1) is in λ i. t i && t i

-- what stands behind so many bytes, to their end
pub rest_is : (n : ℕ) (bytes : List ℕ) → take (length bytes - n) (drop n bytes) ≡ drop n bytes
rest_is n bytes = take_all (length bytes - n) (drop n bytes) (omega (arith, length-drop n bytes))

-- the header of the first form that bytes begin with
pub first_is : (bytes behind digest : List ℕ) (half : ℕ) → take 4 bytes ≡ first_magic → 6 ≤ length bytes → 33 ≤ length (drop 6 bytes)
    → 2 * half ≡ slice_index_or bytes 4 0 + 1 → drop 6 bytes ≡ digest ++ behind → length digest ≡ 32
    → IsHead Old (record { nodes = slice_index_or bytes 4 0; promise = half; accept = half; node = slice_index_or bytes 5 0; digest = digest }) bytes behind
first_is [] behind digest half begins six more odd split long = absurd (omega (arith, six))
first_is (a ∷ []) behind digest half begins six more odd split long = absurd (omega (arith, six))
first_is (a ∷ b ∷ []) behind digest half begins six more odd split long = absurd (omega (arith, six))
first_is (a ∷ b ∷ c ∷ []) behind digest half begins six more odd split long = absurd (omega (arith, six))
first_is (a ∷ b ∷ c ∷ d ∷ []) behind digest half begins six more odd split long = absurd (omega (arith, six))
first_is (a ∷ b ∷ c ∷ d ∷ n ∷ []) behind digest half begins six more odd split long = absurd (omega (arith, six))
first_is (a ∷ b ∷ c ∷ d ∷ n ∷ i ∷ rest) behind digest half begins six more odd split long =
    first-is_head (a ∷ b ∷ c ∷ d ∷ n ∷ i ∷ rest) rest behind a b c d (record { nodes = n; promise = half; accept = half; node = i; digest = digest }) begins (belongs n half odd) refl more split long

-- and of the second
pub second_is : (bytes behind digest : List ℕ) → take 4 bytes ≡ second_magic → 8 ≤ length bytes → 33 ≤ length (drop 8 bytes)
    → belong_to_first (slice_index_or bytes 4 0) (slice_index_or bytes 5 0) (slice_index_or bytes 6 0) ≡ false → drop 8 bytes ≡ digest ++ behind → length digest ≡ 32
    → IsHead Old (record { nodes = slice_index_or bytes 4 0; promise = slice_index_or bytes 5 0; accept = slice_index_or bytes 6 0; node = slice_index_or bytes 7 0; digest = digest }) bytes behind
second_is [] behind digest begins eight more other split long = absurd (omega (arith, eight))
second_is (a ∷ []) behind digest begins eight more other split long = absurd (omega (arith, eight))
second_is (a ∷ b ∷ []) behind digest begins eight more other split long = absurd (omega (arith, eight))
second_is (a ∷ b ∷ c ∷ []) behind digest begins eight more other split long = absurd (omega (arith, eight))
second_is (a ∷ b ∷ c ∷ d ∷ []) behind digest begins eight more other split long = absurd (omega (arith, eight))
second_is (a ∷ b ∷ c ∷ d ∷ n ∷ []) behind digest begins eight more other split long = absurd (omega (arith, eight))
second_is (a ∷ b ∷ c ∷ d ∷ n ∷ p ∷ []) behind digest begins eight more other split long = absurd (omega (arith, eight))
second_is (a ∷ b ∷ c ∷ d ∷ n ∷ p ∷ q ∷ []) behind digest begins eight more other split long = absurd (omega (arith, eight))
second_is (a ∷ b ∷ c ∷ d ∷ n ∷ p ∷ q ∷ i ∷ rest) behind digest begins eight more other split long =
    second-is_head (a ∷ b ∷ c ∷ d ∷ n ∷ p ∷ q ∷ i ∷ rest) rest behind a b c d (record { nodes = n; promise = p; accept = q; node = i; digest = digest }) begins other refl more split long
