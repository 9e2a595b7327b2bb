-- Beginnings of outputs, and what the growth of a run says of later bounds.
use Rattle.std.proofs.Common.{◌≡◌, ℕ, zero, suc, ◌+◌, ◌-◌, ◌≤◌, List, [], ◌++◌, sym, ap, ◌∙◌, subst, arith, append_assoc, append-nil}
use Rattle.lang_base.specs.declared.shown.Shown.{Shown}
use Rattle.lang_base.specs.declared.shown.Shown.TheVariants.{Running, Ended, Wrong}
use Rattle.lang_base.specs.Behaviour.{Shows, Behaviour, IsBeginningOf, GoesOnTo, IsRun}

pub IsBeginningOf-refl : (xs : List ℕ) → IsBeginningOf xs xs
IsBeginningOf-refl xs = ([], append-nil xs)

pub IsBeginningOf-trans : (xs ys zs : List ℕ) → IsBeginningOf xs ys → IsBeginningOf ys zs → IsBeginningOf xs zs
IsBeginningOf-trans xs ys zs p q = (p.0 ++ q.0, sym (append_assoc xs p.0 q.0) ∙ ap (λ l. l ++ q.0) p.1 ∙ q.1)

pub IsBeginningOf-same : (xs ys : List ℕ) → xs ≡ ys → IsBeginningOf xs ys
IsBeginningOf-same xs ys e = subst (λ l. IsBeginningOf xs l) e (IsBeginningOf-refl xs)

-- from one bound to the next
later_by_one : (s : Shown) (now next : Shows) → GoesOnTo s now next → IsBeginningOf now.output next.output
later_by_one Running now next h = h
later_by_one (Ended result) now next h = IsBeginningOf-same _ _ (ap (λ (x : Shows). x.output) (sym h))
later_by_one Wrong now next h = IsBeginningOf-same _ _ (ap (λ (x : Shows). x.output) (sym h))

-- so many bounds later the output has only grown
pub output_grows : (a : Behaviour) → IsRun a → (n k : ℕ) → IsBeginningOf (a n).output (a (n + k)).output
output_grows a run n zero = subst (λ m. IsBeginningOf (a n).output (a m).output) (omega arith) (IsBeginningOf-refl (a n).output)
output_grows a run n (suc k) =
    let e : n + k + 1 ≡ n + suc k = omega arith in
    let one = later_by_one (a (n + k)).shown (a (n + k)) (a (n + k + 1)) (run (n + k)) in
    subst (λ m. IsBeginningOf (a n).output (a m).output) e (IsBeginningOf-trans _ _ _ (output_grows a run n k) one)

pub output_grows_to : (a : Behaviour) → IsRun a → (n m : ℕ) → n ≤ m → IsBeginningOf (a n).output (a m).output
output_grows_to a run n m le =
    let e : n + (m - n) ≡ m = omega arith in
    subst (λ k. IsBeginningOf (a n).output (a k).output) e (output_grows a run n (m - n))

-- a bound at which the run is over
abbrev pub IsOver : Shown → Type 0
IsOver Running = ⊥
IsOver (Ended result) = Unit {0}
IsOver Wrong = Unit {0}

stays_by_one : (s : Shown) (now next : Shows) → IsOver s → GoesOnTo s now next → next ≡ now
stays_by_one Running now next over h = absurd over
stays_by_one (Ended result) now next over h = h
stays_by_one Wrong now next over h = h

-- so many bounds after the end nothing has changed
pub end_stays : (a : Behaviour) → IsRun a → (n : ℕ) → IsOver (a n).shown → (k : ℕ) → a (n + k) ≡ a n
end_stays a run n over zero = ap a (omega arith)
end_stays a run n over (suc k) =
    let e : n + suc k ≡ n + k + 1 = omega arith in
    let before = end_stays a run n over k in
    let over' : IsOver (a (n + k)).shown = subst (λ (x : Shows). IsOver x.shown) (sym before) over in
    ap a e ∙ stays_by_one (a (n + k)).shown (a (n + k)) (a (n + k + 1)) over' (run (n + k)) ∙ before

pub end_stays_to : (a : Behaviour) → IsRun a → (n m : ℕ) → n ≤ m → IsOver (a n).shown → a m ≡ a n
end_stays_to a run n m le over =
    let e : m ≡ n + (m - n) = omega arith in
    ap a e ∙ end_stays a run n over (m - n)

-- what stands before more is a beginning of what that is a beginning of
pub IsBeginningOf-front : (xs text ys zs : List ℕ) → ys ≡ xs ++ text → IsBeginningOf ys zs → IsBeginningOf xs zs
IsBeginningOf-front xs text ys zs e q = IsBeginningOf-trans xs ys zs (text, sym e) q
