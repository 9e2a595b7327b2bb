-- What stands where, once a word is put somewhere.
use Rattle.std.proofs.Common.{◌≡◌, ◌≢◌, ℕ, zero, suc, ◌<◌, ◌≤◌, List, [], ◌∷◌, length, Option, Some, None, refl, sym, ap, ◌∙◌, subst, arith}
use Rattle.std.specs.Prelude.{slice_get, slice_set, slice_index_or, replicate}
use Rattle.std.specs.List.{AllByRecursion}
use Rattle.std.proofs.lemmas.List.{length-set, get_or-set_same, get_or-set_other, length-replicate}
use Rattle.locations.specs.declared.location.Location.{Location}
use Rattle.locations.specs.declared.location.Location.TheVariants.{InRegister, InSlot}
use Rattle.locations.specs.Fits.{LocationFits, AreDistinct}
use Rattle.machine.specs.Calls.{Callee, with_arguments, entered}
use Rattle.machine.specs.Data.{Data, value_at, put_at}
use Rattle.machine.specs.Frames.{after_call}
use Rattle.machine.proofs.Outputs.{output-put_at}
use Rattle.machine.specs.Words.{LiesIn}

-- ---- lists of words

set_none : (xs : List (Option ℕ)) (r : ℕ) → slice_index_or (slice_set xs r None) r None ≡ None
set_none [] zero = refl
set_none [] (suc r) = refl
set_none (x ∷ xs) zero = refl
set_none (x ∷ xs) (suc r) = set_none xs r

abbrev no_words : ℕ → List (Option ℕ)
no_words n = replicate n None

none_defined : (n r : ℕ) → slice_index_or (no_words n) r None ≡ None
none_defined zero zero = refl
none_defined zero (suc r) = refl
none_defined (suc n) zero = refl
none_defined (suc n) (suc r) = none_defined n r

other : (xs : List (Option ℕ)) (i r : ℕ) → r ≢ i → slice_index_or (slice_set xs i None) r None ≡ slice_index_or xs r None
other xs i r ne = get_or-set_other xs i r None None ne

-- ---- over a call

-- r0 lost, then r1, then r2
abbrev lost_one : List (Option ℕ) → List (Option ℕ)
lost_one xs = slice_set xs 0 None

abbrev lost_two : List (Option ℕ) → List (Option ℕ)
lost_two xs = slice_set (lost_one xs) 1 None

abbrev lost_three : List (Option ℕ) → List (Option ℕ)
lost_three xs = slice_set (lost_two xs) 2 None

pub after_call-lost : (xs : List (Option ℕ)) (r : ℕ) → r < 4 → slice_index_or (after_call xs) r None ≡ None
after_call-lost xs zero small = other (lost_three xs) 3 0 (λ e. omega (arith, e)) ∙ other (lost_two xs) 2 0 (λ e. omega (arith, e)) ∙ other (lost_one xs) 1 0 (λ e. omega (arith, e)) ∙ set_none xs 0
after_call-lost xs (suc zero) small = other (lost_three xs) 3 1 (λ e. omega (arith, e)) ∙ other (lost_two xs) 2 1 (λ e. omega (arith, e)) ∙ set_none (lost_one xs) 1
after_call-lost xs (suc (suc zero)) small = other (lost_three xs) 3 2 (λ e. omega (arith, e)) ∙ set_none (lost_two xs) 2
after_call-lost xs (suc (suc (suc zero))) small = set_none (lost_three xs) 3
after_call-lost xs (suc (suc (suc (suc r)))) small = absurd (omega arith)

pub after_call-kept : (xs : List (Option ℕ)) (r : ℕ) → 4 ≤ r → slice_index_or (after_call xs) r None ≡ slice_index_or xs r None
after_call-kept xs r high =
    other (lost_three xs) 3 r (λ e. omega (arith, e))
    ∙ other (lost_two xs) 2 r (λ e. omega (arith, e))
    ∙ other (lost_one xs) 1 r (λ e. omega (arith, e))
    ∙ other xs 0 r (λ e. omega (arith, e))

pub length-after_call : (xs : List (Option ℕ)) → length (after_call xs) ≡ length xs
length-after_call xs = length-set (lost_three xs) 3 None ∙ length-set (lost_two xs) 2 None ∙ length-set (lost_one xs) 1 None ∙ length-set xs 0 None

-- ---- one word

pub put_at-itself : (l : Location) (v : Option ℕ) (d : Data) → LiesIn d l → value_at l (put_at l v d) ≡ v
put_at-itself (InRegister r) v d lies = get_or-set_same d.registers r v None lies
put_at-itself (InSlot s) v d lies = get_or-set_same d.slots s v None lies

pub put_at-other : (p l : Location) (v : Option ℕ) (d : Data) → p ≢ l → value_at l (put_at p v d) ≡ value_at l d
put_at-other (InRegister q) (InRegister r) v d ne = get_or-set_other d.registers q r v None (λ e. ne (ap (λ n. InRegister n) (sym e)))
put_at-other (InRegister q) (InSlot s) v d ne = refl
put_at-other (InSlot t) (InRegister r) v d ne = refl
put_at-other (InSlot t) (InSlot s) v d ne = get_or-set_other d.slots t s v None (λ e. ne (ap (λ n. InSlot n) (sym e)))

put_at-space : (p l : Location) (v : Option ℕ) (d : Data) → LiesIn d l → LiesIn (put_at p v d) l
put_at-space (InRegister q) (InRegister r) v d lies = omega (arith, lies, length-set d.registers q v)
put_at-space (InRegister q) (InSlot s) v d lies = lies
put_at-space (InSlot t) (InRegister r) v d lies = lies
put_at-space (InSlot t) (InSlot s) v d lies = omega (arith, lies, length-set d.slots t v)

-- ---- the arguments

pub with_arguments-other : (ps : List Location) (vs : List (Option ℕ)) (d : Data) (l : Location) → AllByRecursion (λ p. p ≢ l) ps → value_at l (with_arguments ps vs d) ≡ value_at l d
with_arguments-other [] vs d l all = refl
with_arguments-other (p ∷ ps) [] d l all = refl
with_arguments-other (p ∷ ps) (v ∷ vs) d l all = with_arguments-other ps vs (put_at p v d) l all.1 ∙ put_at-other p l v d all.0

turned : (p : Location) (ps : List Location) → AllByRecursion (λ y. p ≢ y) ps → AllByRecursion (λ y. y ≢ p) ps
turned p [] all = tt
turned p (q ∷ ps) all = ((λ e. all.0 (sym e)), turned p ps all.1)

all_space : (p : Location) (v : Option ℕ) (d : Data) (ls : List Location) → AllByRecursion (LiesIn d) ls → AllByRecursion (LiesIn (put_at p v d)) ls
all_space p v d [] lie = tt
all_space p v d (l ∷ ls) lie = (put_at-space p l v d lie.0, all_space p v d ls lie.1)

pub with_arguments-each : (ps : List Location) (vs : List (Option ℕ)) (d : Data) (k : ℕ) (l : Location) (v : Option ℕ) → AreDistinct ps → AllByRecursion (LiesIn d) ps → slice_get ps k ≡ Some l → slice_get vs k ≡ Some v → value_at l (with_arguments ps vs d) ≡ v
with_arguments-each [] vs d k l v distinct lie p_at v_at = cc (p_at)
with_arguments-each (p ∷ ps) [] d k l v distinct lie p_at v_at = cc (v_at)
with_arguments-each (p ∷ ps) (w ∷ vs) d zero l v distinct lie p_at v_at =
    let same : p ≡ l = cc (p_at) in
    let word : w ≡ v = cc (v_at) in
    subst (λ x. value_at x (with_arguments ps vs (put_at p w d)) ≡ v) same
    (with_arguments-other ps vs (put_at p w d) p (turned p ps distinct.0) ∙ put_at-itself p w d lie.0 ∙ word)
with_arguments-each (p ∷ ps) (w ∷ vs) d (suc k) l v distinct lie p_at v_at = with_arguments-each ps vs (put_at p w d) k l v distinct.1 (all_space p w d ps lie.1) p_at v_at

pub put_at-globals : (l : Location) (v : Option ℕ) (d : Data) → (put_at l v d).globals ≡ d.globals
put_at-globals (InRegister r) v d = refl
put_at-globals (InSlot s) v d = refl

pub with_arguments-globals : (ps : List Location) (vs : List (Option ℕ)) (d : Data) → (with_arguments ps vs d).globals ≡ d.globals
with_arguments-globals [] vs d = refl
with_arguments-globals (p ∷ ps) [] d = refl
with_arguments-globals (p ∷ ps) (v ∷ vs) d = with_arguments-globals ps vs (put_at p v d) ∙ put_at-globals p v d

pub with_arguments-output : (ps : List Location) (vs : List (Option ℕ)) (d : Data) → (with_arguments ps vs d).output ≡ d.output
with_arguments-output [] vs d = refl
with_arguments-output (p ∷ ps) [] d = refl
with_arguments-output (p ∷ ps) (v ∷ vs) d = with_arguments-output ps vs (put_at p v d) ∙ output-put_at p v d

-- ---- a function that begins

abbrev blank : Callee → Data → Data
blank callee d = record d { registers = no_words 8; slots = no_words callee.slots }

blank-none : (callee : Callee) (d : Data) (l : Location) → value_at l (blank callee d) ≡ None
blank-none callee d (InRegister r) = none_defined 8 r
blank-none callee d (InSlot s) = none_defined callee.slots s

lies_in_blank : (callee : Callee) (d : Data) (l : Location) → LocationFits callee.slots l → LiesIn (blank callee d) l
lies_in_blank callee d (InRegister r) fits = fits
lies_in_blank callee d (InSlot s) fits = subst (λ n. s < n) (sym (length-replicate callee.slots None)) fits

all_lie : (callee : Callee) (d : Data) (ls : List Location) → AllByRecursion (LocationFits callee.slots) ls → AllByRecursion (LiesIn (blank callee d)) ls
all_lie callee d [] fit = tt
all_lie callee d (l ∷ ls) fit = (lies_in_blank callee d l fit.0, all_lie callee d ls fit.1)

pub entered-parameters : (callee : Callee) (values : List (Option ℕ)) (d : Data) (k : ℕ) (l : Location) (v : Option ℕ) → AreDistinct callee.parameters → AllByRecursion (LocationFits callee.slots) callee.parameters → slice_get callee.parameters k ≡ Some l → slice_get values k ≡ Some v → value_at l (entered callee values d) ≡ v
entered-parameters callee values d k l v distinct fit p_at v_at =
    with_arguments-each callee.parameters values (blank callee d) k l v distinct (all_lie callee d callee.parameters fit) p_at v_at

pub entered-others : (callee : Callee) (values : List (Option ℕ)) (d : Data) (l : Location) → AllByRecursion (λ p. p ≢ l) callee.parameters → value_at l (entered callee values d) ≡ None
entered-others callee values d l all = with_arguments-other callee.parameters values (blank callee d) l all ∙ blank-none callee d l

pub entered-globals : (callee : Callee) (values : List (Option ℕ)) (d : Data) → (entered callee values d).globals ≡ d.globals
entered-globals callee values d = with_arguments-globals callee.parameters values (blank callee d)

pub entered-output : (callee : Callee) (values : List (Option ℕ)) (d : Data) → (entered callee values d).output ≡ d.output
entered-output callee values d = with_arguments-output callee.parameters values (blank callee d)
