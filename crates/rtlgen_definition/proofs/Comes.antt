-- When a machine comes from one state to another, in no step or more: whatever is shown from the second is shown from the
-- first, at a bound at least as large.
use Rattle.std.proofs.Common.{◌≡◌, ℕ, suc, ◌≤◌, List, refl, ap, ◌∙◌, arith}
use Rattle.lang_base.specs.Machine.{Next, Goes, showing, shows}

pub record Comes {S : Type 0} (next : S → Next S) (output : S → List ℕ) (s t : S) : Type 0 where
  pub by : (k : ℕ) → (j : ℕ) × (k ≤ j) × (shows next output j s ≡ shows next output k t)

pub comes_nowhere : {S : Type 0} {next : S → Next S} {output : S → List ℕ} {s : S} → Comes next output s s
comes_nowhere = record { by = λ k. (k, omega arith, refl) }

pub comes_comes : {S : Type 0} {next : S → Next S} {output : S → List ℕ} {s t u : S} → Comes next output s t → Comes next output t u → Comes next output s u
comes_comes p q = record {
  by = λ k.
      let j = q.by k in
      let i = p.by j.0 in
      (i.0, omega (arith, i.1, j.1), i.2 ∙ j.2);
}

-- what is shown from a state is shown one bound later from the state before it
pub step_shows : {S : Type 0} (next : S → Next S) (output : S → List ℕ) (s t : S) → next s ≡ Goes t → (k : ℕ) → shows next output (suc k) s ≡ shows next output k t
step_shows next output s t e k = ap (λ x. showing x (shows next output k) (output s)) e

pub comes_step : {S : Type 0} {next : S → Next S} {output : S → List ℕ} {s t : S} → next s ≡ Goes t → Comes next output s t
comes_step {S} {next} {output} {s} {t} e = record { by = λ k. (suc k, omega arith, step_shows next output s t e k) }
