-- Runs from a state that are not stuck.
use Rattle.std.proofs.Common.{◌≡◌, ◌≢◌, ℕ, zero, suc, ◌+◌, ◌≤◌, List, None, sym, subst, arith}
use Rattle.lang_base.specs.declared.program.Named.{Named}
use Rattle.x86_syntax.specs.declared.function.Function.{Function}
use Rattle.x86_state.specs.Shows.{showing, shows}
use Rattle.x86_state.specs.State.{State, Step, Goes, Ends, Stops, Fills, Stuck}
use Rattle.x86_state.specs.declared.shown.Shown.TheVariants as shown
use Rattle.x86.specs.Meaning.{next}
use Rattle.native_lowering_walks.specs.Walks.{then as onward, steps}
use Rattle.native_lowering_safe_stops.specs.Halting.{IsOver}
use Rattle.native_lowering_safe.specs.Standing.{IsFree}

pub running : shown.Running ≢ shown.Stuck
running = λ e. cc

pub ended : (w : ℕ) → shown.Ended w ≢ shown.Stuck
ended w = λ e. cc

pub wrong : shown.Wrong ≢ shown.Stuck
wrong = λ e. cc

pub full : shown.Full ≢ shown.Stuck
full = λ e. cc

module _ (functions : List (Named Function)) where
  over_behind : (y : Step) (n k : ℕ) (x : Step) (out : List ℕ) → onward y (steps functions None k) ≡ x → IsOver x → ((u : State) → steps functions None k u ≡ x → IsFree functions n u)
      → (showing y (shows (next functions None) n) out).shown ≢ shown.Stuck
  over_behind (Goes u) n k x out go over later = later u go
  over_behind (Ends w) n k x out go over later = ended w
  over_behind Stops n k x out go over later = wrong
  over_behind Fills n k x out go over later = full
  over_behind Stuck n k x out go over later = absurd (subst IsOver (sym go) over)

  -- one that is over after so many steps
  pub over_free : (n k : ℕ) (s : State) (x : Step) → steps functions None k s ≡ x → IsOver x → IsFree functions n s
  over_free zero k s x go over = running
  over_free (suc n) zero s x go over = absurd (subst IsOver (sym go) over)
  over_free (suc n) (suc k) s x go over = over_behind (next functions None s) n k x s.output go over (λ u later. over_free n k u x later over)

  goes_behind : (y : Step) (n k : ℕ) (t : State) (out : List ℕ) → onward y (steps functions None k) ≡ Goes t → ((u : State) → steps functions None k u ≡ Goes t → IsFree functions n u)
      → (showing y (shows (next functions None) n) out).shown ≢ shown.Stuck
  goes_behind (Goes u) n k t out go later = later u go
  goes_behind (Ends w) n k t out go later = ended w
  goes_behind Stops n k t out go later = wrong
  goes_behind Fills n k t out go later = full
  goes_behind Stuck n k t out go later = cc

  -- one that comes after so many steps to a state from which it is not
  pub goes_free : (n k : ℕ) (s t : State) → steps functions None k s ≡ Goes t → ((m : ℕ) → m + k ≤ n → IsFree functions m t) → IsFree functions n s
  goes_free n zero s t go each =
      let same : s ≡ t = cc in
      subst (IsFree functions n) (sym same) (each n (omega arith))
  goes_free zero (suc k) s t go each = running
  goes_free (suc n) (suc k) s t go each =
      goes_behind (next functions None s) n k t s.output go (λ u later. goes_free n k u t later (λ m few. each m (omega (arith, few))))
