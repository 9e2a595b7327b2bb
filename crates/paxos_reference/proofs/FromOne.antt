-- Ballots stay from 1 when a list has gained an item at its front, or has not.
use Rattle.std.proofs.Common.{◌≡◌, ℕ, ◌≤◌, ◌⊎◌, List, ◌∷◌, Result, Ok, Err, OnOk, OnErr, inl, inr, sym, ◌∙◌, subst, ap}
use Rattle.std.specs.List.{remove}
use Rattle.paxos_core_world.specs.World.{Has}
use Rattle.paxos_core_world.specs.declared.msg.Msg.{Msg}
use Rattle.paxos_core_world.specs.declared.msg.Msg.TheVariants.{Propose}

-- each ballot of the list is from 1
abbrev AreBallots : List ℕ → Type 0
AreBallots begun = (b : ℕ) → Has b begun → 1 ≤ b

-- each ballot under which a message of the list proposes is from 1
abbrev AreProposals : List Msg → Type 0
AreProposals sent = (b v : ℕ) → Has (Propose b v) sent → 1 ≤ b

-- what a push leaves
pushed : {A T E : Type 0} (r : Result T E) (xs ys : List A) (x : A) → OnOk r (ys ≡ x ∷ xs) → OnErr r (ys ≡ xs) → (ys ≡ x ∷ xs) ⊎ (ys ≡ xs)
pushed (Ok t) xs ys x ok err = inl ok
pushed (Err e) xs ys x ok err = inr err

front_ballots : (x : ℕ) (xs : List ℕ) → 1 ≤ x → AreBallots xs → AreBallots (x ∷ xs)
front_ballots x xs here h b (inl e) = subst (λ c. 1 ≤ c) (sym e) here
front_ballots x xs here h b (inr old) = h b old

front_proposals : (m : Msg) (xs : List Msg) → ((b v : ℕ) → Propose b v ≡ m → 1 ≤ b) → AreProposals xs → AreProposals (m ∷ xs)
front_proposals m xs here h b v (inl e) = here b v e
front_proposals m xs here h b v (inr old) = h b v old

pub pushed_ballots : {T E : Type 0} (r : Result T E) (xs ys : List ℕ) (x : ℕ) → OnOk r (ys ≡ x ∷ xs) → OnErr r (ys ≡ xs) → 1 ≤ x → ((b : ℕ) → Has b xs → 1 ≤ b) → (b : ℕ) → Has b ys → 1 ≤ b
pushed_ballots r xs ys x ok err here h =
    elim (pushed r xs ys x ok err) as (λ _. AreBallots ys) [
      | inl e ↦ subst AreBallots (sym e) (front_ballots x xs here h)
      | inr e ↦ subst AreBallots (sym e) h
    ]

pub pushed_proposals : {T E : Type 0} (r : Result T E) (xs ys : List Msg) (m : Msg) → OnOk r (ys ≡ m ∷ xs) → OnErr r (ys ≡ xs) → ((b v : ℕ) → Propose b v ≡ m → 1 ≤ b) → ((b v : ℕ) → Has (Propose b v) xs → 1 ≤ b) → (b v : ℕ) → Has (Propose b v) ys → 1 ≤ b
pushed_proposals r xs ys m ok err here h =
    elim (pushed r xs ys m ok err) as (λ _. AreProposals ys) [
      | inl e ↦ subst AreProposals (sym e) (front_proposals m xs here h)
      | inr e ↦ subst AreProposals (sym e) h
    ]

-- what was pushed is removed again
pub removed_ballots : (xs ys zs : List ℕ) (x : ℕ) → ys ≡ x ∷ xs → zs ≡ remove ys 0 → ((b : ℕ) → Has b xs → 1 ≤ b) → (b : ℕ) → Has b zs → 1 ≤ b
removed_ballots xs ys zs x pushed removed h =
    let e : zs ≡ xs = removed ∙ ap (λ l. remove l 0) pushed in subst AreBallots (sym e) h
