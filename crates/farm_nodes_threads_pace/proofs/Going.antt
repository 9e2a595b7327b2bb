-- Turns behind turns.
use Rattle.std.proofs.Common.{◌≡◌, ℕ, zero, suc, ◌+◌, refl, sym, subst, arith}
use Rattle.farm_nodes_threads_pace.specs.After.{After, Goes}

record Both {X : Type 0} (turned : X → X → Type 0) (m n : ℕ) (x z : X) : Type 0 where
  all : ℕ
  sum : all ≡ m + n
  after : After turned all x z

module _ {X : Type 0} (turned : X → X → Type 0) where
  after_both : (m n : ℕ) (x y z : X) → After turned m x y → After turned n y z → Both turned m n x z
  after_both m zero x y z a b = record { all = m; sum = omega arith; after = subst (λ w. After turned m x w) (sym b) a }
  after_both m (suc n) x y z a b =
      let c = after_both m n x y b.0 a b.1 in
      let e : c.all ≡ m + n = c.sum in
      record { all = suc c.all; sum = omega arith; after = (b.0, c.after, b.2) }

module _ {X : Type 0} (turned : X → X → Type 0) (is_fit : X → Type 0) where
  pub goes_nowhere : (x : X) (left : ℕ) → Goes turned is_fit x left x left
  goes_nowhere x left = record { fit = λ f. f; taken = 0; counted = omega arith; after = refl }

  pub goes_once : (x y : X) (left rest : ℕ) → rest + 1 ≡ left → is_fit y → turned x y → Goes turned is_fit x left y rest
  goes_once x y left rest e fit t = record { fit = λ f. fit; taken = 1; counted = omega arith; after = (x, refl, t) }

  pub goes_through : (x y z : X) (k l m : ℕ) → Goes turned is_fit x k y l → Goes turned is_fit y l z m → Goes turned is_fit x k z m
  goes_through x y z k l m a b =
      let c = after_both turned a.taken b.taken x y z a.after b.after in
      let e : c.all ≡ a.taken + b.taken = c.sum in let f : a.taken + l ≡ k = a.counted in let g : b.taken + m ≡ l = b.counted in
      record { fit = λ f. b.fit (a.fit f); taken = c.all; counted = omega arith; after = c.after }
