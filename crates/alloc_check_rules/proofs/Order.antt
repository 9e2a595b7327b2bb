-- Equations come before each other exactly as their written bytes do.
use Rattle.std.proofs.Common.{◌≡◌, ℕ, ◌+◌, ◌*◌, ◌<◌, ◌≤◌, ◌^◌, List, [], ◌∷◌, ◌++◌, get_or, refl, sym, ap, ◌∙◌, inl, inr, arith}
use Rattle.std.specs.Prelude.{◌⊎◌, ◌↔◌}
use Rattle.std.specs.Int.{w16, to_be_bytes}
use Rattle.std.specs.declared.cmp.Ordering.TheVariants.{Less, Equal, Greater}
use Rattle.std.specs.Ordering.{nat_cmp, ordering_then}
use Rattle.std.specs.Cmp.Lexicographic.{slice_cmp}
use Rattle.std.proofs.lemmas.Cmp.{ranked, by_ranked}
use Rattle.locations.specs.declared.location.Location.{Location}
use Rattle.locations.specs.declared.location.Location.TheVariants.{InRegister, InSlot}
use Rattle.locations.specs.Fits.{LocationFits}
use Rattle.locations.specs.Spelling.{location_text}
use Rattle.rtl_passes.specs.RtlActsSpelling.{register_text}
use Rattle.alloc_check_rules.specs.declared.equation.Equation.{Equation}
use Rattle.alloc_check_rules.specs.Rules.{EquationFits, IsLower, IsBefore}

-- the first comes before the second
abbrev Precedes : List ℕ → List ℕ → Type 0
Precedes xs ys = slice_cmp nat_cmp xs ys ≡ Less

-- lower at once, or equal and lower behind
abbrev Decides : ℕ → ℕ → List ℕ → List ℕ → Type 0
Decides a b xs ys = (a < b) ⊎ ((a ≡ b) × Precedes xs ys)

byte_decides : (x y : ℕ) (xs ys : List ℕ) → Precedes (x ∷ xs) (y ∷ ys) ↔ Decides x y xs ys
byte_decides x y xs ys = by_ranked (x < y) (x ≡ y) (y < x) (nat_cmp x y) (ranked x y (nat_cmp x y) refl) lower level higher
  where
    lower : nat_cmp x y ≡ Less → x < y → Precedes (x ∷ xs) (y ∷ ys) ↔ Decides x y xs ys
    lower is less = (λ e. inl less, λ h. ap (λ r. ordering_then r (slice_cmp nat_cmp xs ys)) is)

    level : nat_cmp x y ≡ Equal → x ≡ y → Precedes (x ∷ xs) (y ∷ ys) ↔ Decides x y xs ys
    level is same = (λ e. inr (same, sym (ap (λ r. ordering_then r (slice_cmp nat_cmp xs ys)) is) ∙ e), back)
      where
        back : Decides x y xs ys → Precedes (x ∷ xs) (y ∷ ys)
        back (inl less) = absurd (omega (arith, less, same))
        back (inr both) = ap (λ r. ordering_then r (slice_cmp nat_cmp xs ys)) is ∙ both.1

    higher : nat_cmp x y ≡ Greater → y < x → Precedes (x ∷ xs) (y ∷ ys) ↔ Decides x y xs ys
    higher is more = (λ e. absurd (let other : Greater ≡ Less = sym (ap (λ r. ordering_then r (slice_cmp nat_cmp xs ys)) is) ∙ e in cc), back)
      where
        back : Decides x y xs ys → Precedes (x ∷ xs) (y ∷ ys)
        back (inl less) = absurd (omega (arith, less, more))
        back (inr both) = absurd (omega (arith, both.0, more))

-- two bytes decide as their number does
bytes_decide : (a b x x' y y' : ℕ) → a ≡ x * 256 + x' → x' < 256 → b ≡ y * 256 + y' → y' < 256 → (xs ys : List ℕ) → Precedes (x ∷ (x' ∷ xs)) (y ∷ (y' ∷ ys)) ↔ Decides a b xs ys
bytes_decide a b x x' y y' is small is' small' xs ys = (λ e. first ((byte_decides x y (x' ∷ xs) (y' ∷ ys)).0 e), back)
  where
    second : x ≡ y → Decides x' y' xs ys → Decides a b xs ys
    second same (inl less) = inl (omega arith)
    second same (inr both) = inr (omega (arith, both.0), both.1)

    first : Decides x y (x' ∷ xs) (y' ∷ ys) → Decides a b xs ys
    first (inl less) = inl (omega arith)
    first (inr both) = second both.0 ((byte_decides x' y' xs ys).0 both.1)

    lower : a < b → (x < y) ⊎ ((x ≡ y) × (x' < y'))
    lower less = grind arith

    back : Decides a b xs ys → Precedes (x ∷ (x' ∷ xs)) (y ∷ (y' ∷ ys))
    back (inr both) =
        let same : x ≡ y = omega (arith, both.0) in
        let same' : x' ≡ y' = omega (arith, both.0) in
        (byte_decides x y (x' ∷ xs) (y' ∷ ys)).1 (inr (same, (byte_decides x' y' xs ys).1 (inr (same', both.1))))
    back (inl less) = at (lower less)
      where
        at : (x < y) ⊎ ((x ≡ y) × (x' < y')) → Precedes (x ∷ (x' ∷ xs)) (y ∷ (y' ∷ ys))
        at (inl high) = (byte_decides x y (x' ∷ xs) (y' ∷ ys)).1 (inl high)
        at (inr both) = (byte_decides x y (x' ∷ xs) (y' ∷ ys)).1 (inr (both.0, (byte_decides x' y' xs ys).1 (inl both.1)))

abbrev high : ℕ → ℕ
high n = get_or (to_be_bytes w16 n) 0 0

abbrev low : ℕ → ℕ
low n = get_or (to_be_bytes w16 n) 1 0

word_parts : (n : ℕ) → n < 2 ^ 16 → (n ≡ high n * 256 + low n) × (low n < 256)
word_parts n small = (omega arith, omega arith)

word_decides : (a b : ℕ) → a < 2 ^ 16 → b < 2 ^ 16 → (xs ys : List ℕ) → Precedes (to_be_bytes w16 a ++ xs) (to_be_bytes w16 b ++ ys) ↔ Decides a b xs ys
word_decides a b small small' xs ys =
    let p = word_parts a small in
    let q = word_parts b small' in
    bytes_decide a b (high a) (low a) (high b) (low b) p.0 p.1 q.0 q.1 xs ys

-- nothing comes before itself
nothing_before : {P : Type 0} (a b : ℕ) → Decides a b [] [] → (a < b → P) → P
nothing_before a b (inl less) f = f less
nothing_before a b (inr both) f = absurd (let no : Equal ≡ Less = both.1 in cc)

behind_code : (c : ℕ) (xs ys : List ℕ) → Precedes (c ∷ xs) (c ∷ ys) → Precedes xs ys
behind_code c xs ys e = at ((byte_decides c c xs ys).0 e)
  where
    at : Decides c c xs ys → Precedes xs ys
    at (inl less) = absurd (omega (arith, less))
    at (inr both) = both.1

location_decides : (slots : ℕ) → slots ≤ 2 ^ 16 → (k l : Location) → LocationFits slots k → LocationFits slots l → IsLower k l ↔ Precedes (location_text k) (location_text l)
location_decides slots few (InRegister r) (InRegister q) fits fits' = (
  λ less. (byte_decides 0 0 (r ∷ []) (q ∷ [])).1 (inr (refl, (byte_decides r q [] []).1 (inl less))),
  λ e. nothing_before r q ((byte_decides r q [] []).0 (behind_code 0 (r ∷ []) (q ∷ []) e)) (λ less. less),
)
location_decides slots few (InRegister r) (InSlot t) fits fits' = (λ less. refl, λ e. tt)
location_decides slots few (InSlot s) (InRegister q) fits fits' = (λ less. absurd less, λ e. absurd (let no : Greater ≡ Less = e in cc))
location_decides slots few (InSlot s) (InSlot t) fits fits' =
    let there : s < 2 ^ 16 = omega arith in
    let there' : t < 2 ^ 16 = omega arith in (
      λ less. (byte_decides 1 1 (to_be_bytes w16 s) (to_be_bytes w16 t)).1 (inr (refl, (word_decides s t there there' [] []).1 (inl less))),
      λ e. nothing_before s t ((word_decides s t there there' [] []).0 (behind_code 1 (to_be_bytes w16 s) (to_be_bytes w16 t) e)) (λ less. less),
    )

pub before_is_of_bytes : (registers slots : ℕ) → registers ≤ 2 ^ 16 → slots ≤ 2 ^ 16 → (e f : Equation) → EquationFits registers slots e → EquationFits registers slots f → IsBefore e f ↔ Precedes (register_text e.register ++ location_text e.location) (register_text f.register ++ location_text f.location)
before_is_of_bytes registers slots few_registers few_slots e f fits fits' = (λ before. words.1 (there before), λ bytes. here (words.0 bytes))
  where
    small : e.register < 2 ^ 16
    small = omega (arith, fits.0)

    small' : f.register < 2 ^ 16
    small' = omega (arith, fits'.0)

    words : Precedes (register_text e.register ++ location_text e.location) (register_text f.register ++ location_text f.location) ↔ Decides e.register f.register (location_text e.location) (location_text f.location)
    words = word_decides e.register f.register small small' (location_text e.location) (location_text f.location)

    locations : IsLower e.location f.location ↔ Precedes (location_text e.location) (location_text f.location)
    locations = location_decides slots few_slots e.location f.location fits.1 fits'.1

    there : IsBefore e f → Decides e.register f.register (location_text e.location) (location_text f.location)
    there (inl less) = inl less
    there (inr both) = inr (both.0, locations.0 both.1)

    here : Decides e.register f.register (location_text e.location) (location_text f.location) → IsBefore e f
    here (inl less) = inl less
    here (inr both) = inr (both.0, locations.1 both.1)
