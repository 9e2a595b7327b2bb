-- The theorem about steps: where each step of a machine is matched by one step or more of another,
-- the second keeps the meaning of the first (Leroy 2009, section 3.2: simulation in lock-step or with more steps).
use Rattle.std.proofs.Common.{◌≡◌, ◌≢◌, ℕ, zero, suc, ◌+◌, ◌≤◌, List, refl, sym, ap, ◌∙◌, subst, arith}
use Rattle.lang_base.specs.declared.shown.Shown.TheVariants.{Running, Wrong}
use Rattle.lang_base.specs.Behaviour.{Shows, Behaviour, IsBeginningOf, GoesOnTo, IsRun, NeverWrong}
use Rattle.lang_base.specs.Keeps.{Keeps}
use Rattle.lang_base.specs.Machine.{Next, Goes, Ends, Fails, showing, shows, Grows, Leads, Matches}
use Rattle.lang_base.proofs.Beginnings.{IsBeginningOf-refl, IsBeginningOf-same, output_grows_to, end_stays_to, IsOver}

-- Each bound of the first is shown by the second at a bound at least as large.
pub record Follows (a b : Behaviour) : Type 0 where
  pub at : (n : ℕ) → (j : ℕ) × (n ≤ j) × (a n ≡ b j)

-- a run that another follows is kept by it
pub keeps-follows : (a b : Behaviour) → IsRun b → (NeverWrong a → Follows a b) → Keeps a b
keeps-follows a b run follows never =
    let f = (follows never).at in
    record {
      safe = λ n wrong.
          let j = f n in
          let over : IsOver (b n).shown = subst IsOver (sym wrong) tt in
          let e = end_stays_to b run n j.0 j.1 over in
          never n (ap (λ (x : Shows). x.shown) (j.2 ∙ e) ∙ wrong);
      no_more = λ n.
          let j = f n in
          (n, subst (λ (x : Shows). IsBeginningOf (b n).output x.output) (sym j.2) (output_grows_to b run n j.0 j.1));
      ends = λ output result. (
        (λ h. let j = f h.0 in (j.0, sym j.2 ∙ h.1)),
        (λ h.
            let j = f h.0 in
            let over : IsOver (b h.0).shown = subst (λ (x : Shows). IsOver x.shown) (sym h.1) tt in
            (h.0, j.2 ∙ end_stays_to b run h.0 j.0 j.1 over ∙ h.1)),
      );
      no_less = λ m.
          let j = f m in
          (j.0, IsBeginningOf-same _ _ (ap (λ (x : Shows). x.output) j.2));
    }

-- what a machine shows is a run
module _ {S : Type 0} (next : S → Next S) (output : S → List ℕ) (grows : Grows next output) where
  -- what follows a state, seen one bound later
  grown : (s : S) (x : Next S) → next s ≡ x → IsBeginningOf (output s) (showing x (shows next output 0) (output s)).output
  grown s (Goes t) e = grows.step s t e
  grown s (Ends result) e = IsBeginningOf-refl (output s)
  grown s Fails e = IsBeginningOf-refl (output s)

  shows_then : (n : ℕ) (s : S) (x : Next S) → ((t : S) → GoesOnTo (shows next output n t).shown (shows next output n t) (shows next output (suc n) t)) → GoesOnTo (showing x (shows next output n) (output s)).shown (showing x (shows next output n) (output s)) (showing x (shows next output (suc n)) (output s))
  shows_then n s (Goes t) later = later t
  shows_then n s (Ends result) later = refl
  shows_then n s Fails later = refl

  shows_on : (n : ℕ) (s : S) → GoesOnTo (shows next output n s).shown (shows next output n s) (shows next output (suc n) s)
  shows_on zero s = grown s (next s) refl
  shows_on (suc n) s = shows_then n s (next s) (shows_on n)

  pub shows_is_run : (s : S) → IsRun (λ n. shows next output n s)
  shows_is_run s n =
      let e : suc n ≡ n + 1 = omega arith in
      subst (λ m. GoesOnTo (shows next output n s).shown (shows next output n s) (shows next output m s)) e (shows_on n s)

-- leading is transitive
pub leads-leads : {S : Type 0} {next : S → Next S} {output : S → List ℕ} {s t u : S} → Leads next output s t → Leads next output t u → Leads next output s u
leads-leads p q = record {
  by = λ k.
      let j = q.by k in
      let i = p.by j.0 in
      (i.0, omega (arith, i.1, j.1), i.2 ∙ j.2);
}

-- one step leads
pub leads-step : {S : Type 0} {next : S → Next S} {output : S → List ℕ} {s t : S} → next s ≡ Goes t → Leads next output s t
leads-step {S} {next} {output} {s} {t} e = record {
  by = λ k. (suc k, omega arith, ap (λ x. showing x (shows next output k) (output s)) e);
}

module _ {S T : Type 0} (next : S → Next S) (output : S → List ℕ) (next' : T → Next T) (output' : T → List ℕ) (Related : S → T → Type 0) (matches : Matches next output next' output' Related) (grows' : Grows next' output') where
  -- the second machine shows at some bound from n on what the first shows at n
  abbrev FollowsAt : ℕ → S → T → Type 0
  FollowsAt n s t = (j : ℕ) × (n ≤ j) × (shows next output n s ≡ shows next' output' j t)

  follows_step : (n : ℕ) (s : S) (t : T) (x : Next S) → next s ≡ x → Related s t → ((m : ℕ) → (shows next output m s).shown ≢ Wrong) → ((s' : S) (t' : T) → Related s' t' → ((m : ℕ) → (shows next output m s').shown ≢ Wrong) → FollowsAt n s' t') → FollowsAt (suc n) s t
  follows_step n s t (Goes s') e related never later =
      let one = matches.goes s s' t related e in
      let never' : (m : ℕ) → (shows next output m s').shown ≢ Wrong = λ m wrong. never (suc m) (ap (λ y. (showing y (shows next output m) (output s)).shown) e ∙ wrong) in
      let j = later s' one.0 one.1 never' in
      let i = one.2.by j.0 in
      (i.0, omega (arith, i.1, j.1), ap (λ y. showing y (shows next output n) (output s)) e ∙ j.2 ∙ sym i.2)
  follows_step n s t (Ends result) e related never later =
      let i = matches.ends s t result related e in
      let over : IsOver (shows next' output' i.0 t).shown = subst (λ (y : Shows). IsOver y.shown) (sym i.1) tt in
      let stays = end_stays_to (λ m. shows next' output' m t) (shows_is_run next' output' grows' t) i.0 (i.0 + suc n) (omega arith) over in
      (i.0 + suc n, omega arith, ap (λ y. showing y (shows next output n) (output s)) e ∙ sym i.1 ∙ sym stays)
  follows_step n s t Fails e related never later =
      absurd (never 1 (ap (λ y. (showing y (shows next output 0) (output s)).shown) e))

  follows_at : (n : ℕ) (s : S) (t : T) → Related s t → ((m : ℕ) → (shows next output m s).shown ≢ Wrong) → FollowsAt n s t
  follows_at zero s t related never = (0, omega arith, ap (λ o. record { shown = Running; output = o }) (matches.same s t related))
  follows_at (suc n) s t related never = follows_step n s t (next s) refl related never (follows_at n)

  -- the theorem about steps
  pub keeps-matches : (s : S) (t : T) → Related s t → Keeps (λ n. shows next output n s) (λ n. shows next' output' n t)
  keeps-matches s t related =
      keeps-follows (λ n. shows next output n s) (λ n. shows next' output' n t) (shows_is_run next' output' grows' t) (λ never. record { at = λ n. follows_at n s t related never })
