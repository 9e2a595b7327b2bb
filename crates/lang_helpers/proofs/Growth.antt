-- A machine each of whose steps goes on printing only grows.
use Rattle.std.proofs.Common.{◌≡◌, ℕ, List, refl, sym, subst}
use Rattle.lang_base.specs.Behaviour.{IsBeginningOf}
use Rattle.lang_base.specs.Machine.{Next, Goes, Ends, Fails, Grows}
use Rattle.lang_base.proofs.Beginnings.{IsBeginningOf-same}

-- what follows has printed at least this
abbrev pub PrintsOn : {S : Type 0} → (S → List ℕ) → List ℕ → Next S → Type 0
PrintsOn printed before (Goes t) = IsBeginningOf before (printed t)
PrintsOn printed before (Ends result) = Unit {0}
PrintsOn printed before Fails = Unit {0}

-- where nothing is printed
pub same_prints : {S : Type 0} (printed : S → List ℕ) (before : List ℕ) (x : Next S) → ((t : S) → x ≡ Goes t → printed t ≡ before) → PrintsOn printed before x
same_prints printed before (Goes t) h = IsBeginningOf-same _ _ (sym (h t refl))
same_prints printed before (Ends result) h = tt
same_prints printed before Fails h = tt

-- each step's output begins with what was printed before it
pub prints_grow : {S : Type 0} (printed : S → List ℕ) (next : S → Next S) → ((s : S) → PrintsOn printed (printed s) (next s)) → Grows next printed
prints_grow printed next prints = record { step = λ s t e. subst (PrintsOn printed (printed s)) e (prints s) }
