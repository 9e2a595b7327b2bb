-- Machines: a state, what follows it, and an output that only grows (Leroy 2009, section 3.2: transition systems).
use Rattle.std.specs.Prelude.{◌≡◌, ℕ, zero, suc, ◌<◌, List}
use Rattle.lang_base.specs.declared.shown.Shown.TheVariants.{Running, Ended, Wrong}
use Rattle.lang_base.specs.Behaviour.{Shows, IsBeginningOf}

-- what follows a state: another one, an end with a result, or a fault
pub data Next (S : Type 0) : Type 0 where
  Goes : S → Next S
  Ends : ℕ → Next S
  Fails : Next S

-- what is shown where this follows, and so much is printed already
abbrev pub showing : {S : Type 0} → Next S → (S → Shows) → List ℕ → Shows
showing (Goes t) later output = later t
showing (Ends result) later output = record { shown = Ended result; output = output }
showing Fails later output = record { shown = Wrong; output = output }

-- what a machine shows after at most n steps from a state
abbrev pub shows : {S : Type 0} → (S → Next S) → (S → List ℕ) → ℕ → S → Shows
shows next output zero s = record { shown = Running; output = output s }
shows next output (suc n) s = showing (next s) (shows next output n) (output s)

-- in each step the output only grows
pub record Grows {S : Type 0} (next : S → Next S) (output : S → List ℕ) : Type 0 where
  pub step : (s t : S) → next s ≡ Goes t → IsBeginningOf (output s) (output t)

-- One step or more lead from s to t: whatever is shown from t in k steps is shown from s in more than k.
pub record Leads {S : Type 0} (next : S → Next S) (output : S → List ℕ) (s t : S) : Type 0 where
  pub by : (k : ℕ) → (j : ℕ) × (k < j) × (shows next output j s ≡ shows next output k t)

-- Each step of the first machine is matched by one step or more of the second, and each end by an
-- end; related states have printed the same. Of a fault nothing is asked. A second machine that
-- stutters for ever matches no step.
pub record Matches {S T : Type 0} (next : S → Next S) (output : S → List ℕ) (next' : T → Next T) (output' : T → List ℕ) (Related : S → T → Type 0) : Type 0 where
  pub goes : (s s' : S) (t : T) → Related s t → next s ≡ Goes s' → (t' : T) × Related s' t' × Leads next' output' t t'
  pub ends : (s : S) (t : T) (result : ℕ) → Related s t → next s ≡ Ends result → (j : ℕ) × (shows next' output' j t ≡ record { shown = Ended result; output = output s })
  pub same : (s : S) (t : T) → Related s t → output s ≡ output' t
