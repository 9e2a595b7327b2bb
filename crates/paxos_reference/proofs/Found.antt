-- What a search of a list finds.
use Rattle.std.proofs.Common.{◌≡◌, ℕ, ◌↔◌, Bool, true, false, not, IsTrue, ◌||◌, eqb, List, [], ◌∷◌, inl, inr, refl, sym, ◌∙◌, subst, ap}
use Rattle.std.proofs.lemmas.Bool.{eqb-true, eq-eqb, and_parts, and_from}
use Rattle.std.specs.List.{list_any}
use Rattle.paxos_core_world.specs.World.{Has}
use Rattle.paxos_core_world.specs.declared.msg.Msg.{Msg}
use Rattle.paxos_core_world.specs.declared.msg.Msg.TheVariants.{Prepare, Promise, Propose, Accepted}
use Rattle.paxos_reference.specs.Tests.{is_prepare, is_propose, is_proposal}

or_left : (x y : Bool) → x ≡ true → (x || y) ≡ true
or_left true y e = refl
or_left false y e = absurd (cc)

or_right : (x y : Bool) → y ≡ true → (x || y) ≡ true
or_right true y e = refl
or_right false y e = e

-- what stands in a list and passes the test is found
pub any_has : {A : Type 0} (p : A → Bool) (x : A) (xs : List A) → Has x xs → p x ≡ true → list_any p xs ≡ true
any_has p x [] h e = absurd h
any_has p x (y ∷ ys) (inl same) e = or_left (p y) (list_any p ys) (ap p (sym same) ∙ e)
any_has p x (y ∷ ys) (inr h) e = or_right (p y) (list_any p ys) (any_has p x ys h e)

-- what a search found
pub record Found {A : Type 0} (p : A → Bool) (xs : List A) : Type 0 where
  pub item : A
  pub stands : Has item xs
  pub passes : p item ≡ true

found_step : {A : Type 0} (p : A → Bool) (y : A) (ys : List A) → (list_any p ys ≡ true → Found p ys) → (b : Bool) → p y ≡ b → (b || list_any p ys) ≡ true → Found p (y ∷ ys)
found_step p y ys rest true e h = record { item = y; stands = inl refl; passes = e }
found_step p y ys rest false e h = let f = rest h in record { item = f.item; stands = inr f.stands; passes = f.passes }

pub found : {A : Type 0} (p : A → Bool) (xs : List A) → list_any p xs ≡ true → Found p xs
found p [] h = absurd (cc)
found p (y ∷ ys) h = found_step p y ys (found p ys) (p y) refl h

-- a test that x alone passes finds x, and only x
pub tells : {A : Type 0} (p : A → Bool) (x : A) → p x ≡ true → ((y : A) → p y ≡ true → x ≡ y) → (xs : List A) (r : Bool) → r ≡ list_any p xs → IsTrue r ↔ Has x xs
tells p x e only xs r is =
    (λ h. let f = found p xs (sym is ∙ h) in subst (λ z. Has z xs) (sym (only f.item f.passes)) f.stands, λ h. is ∙ any_has p x xs h e)

same_prepare : (b : ℕ) (m : Msg) → is_prepare b m ≡ true → Prepare b ≡ m
same_prepare b (Prepare c) e = ap (λ k. Prepare k) (sym (eqb-true c b e))
same_prepare b (Promise a c r) e = absurd (cc)
same_prepare b (Propose c v) e = absurd (cc)
same_prepare b (Accepted a c v) e = absurd (cc)

-- Prepare(b) was sent
pub prepare_tells : (b : ℕ) (sent : List Msg) (r : Bool) → r ≡ list_any (is_prepare b) sent → IsTrue r ↔ Has (Prepare b) sent
prepare_tells b sent r is = tells (is_prepare b) (Prepare b) (eq-eqb b b refl) (same_prepare b) sent r is

same_propose : (b v : ℕ) (m : Msg) → is_propose b v m ≡ true → Propose b v ≡ m
same_propose b v (Propose c u) e =
    let parts = and_parts (eqb c b) (eqb u v) e in
    let ballot = eqb-true c b parts.0 in
    let value = eqb-true u v parts.1 in cc
same_propose b v (Prepare c) e = absurd (cc)
same_propose b v (Promise a c r) e = absurd (cc)
same_propose b v (Accepted a c u) e = absurd (cc)

-- Propose(b, v) was sent
pub propose_tells : (b v : ℕ) (sent : List Msg) (r : Bool) → r ≡ list_any (is_propose b v) sent → IsTrue r ↔ Has (Propose b v) sent
propose_tells b v sent r is =
    tells (is_propose b v) (Propose b v) (and_from (eqb b b) (eqb v v) (eq-eqb b b refl) (eq-eqb v v refl)) (same_propose b v) sent r is

proposal_of : (b : ℕ) (sent : List Msg) (m : Msg) → Has m sent → is_proposal b m ≡ true → (v : ℕ) × Has (Propose b v) sent
proposal_of b sent (Propose c v) h e = (v, subst (λ k. Has (Propose k v) sent) (eqb-true c b e) h)
proposal_of b sent (Prepare c) h e = absurd (cc)
proposal_of b sent (Promise a c r) h e = absurd (cc)
proposal_of b sent (Accepted a c u) h e = absurd (cc)

any_proposal : (b : ℕ) (sent : List Msg) → list_any (is_proposal b) sent ≡ true → (v : ℕ) × Has (Propose b v) sent
any_proposal b sent h = let f = found (is_proposal b) sent h in proposal_of b sent f.item f.stands f.passes

none_proposed : (b : ℕ) (sent : List Msg) (t : Bool) → list_any (is_proposal b) sent ≡ t → ((v : ℕ) → ¬ Has (Propose b v) sent) → not t ≡ true
none_proposed b sent true e h = let p = any_proposal b sent e in absurd (h p.0 p.1)
none_proposed b sent false e h = refl

-- nothing was proposed under ballot b
pub unproposed_tells : (b : ℕ) (sent : List Msg) (r : Bool) → r ≡ list_any (is_proposal b) sent → IsTrue (not r) ↔ ((v : ℕ) → ¬ Has (Propose b v) sent)
unproposed_tells b sent r is = (
  λ h v stands. let e : r ≡ true = is ∙ any_has (is_proposal b) (Propose b v) sent stands (eq-eqb b b refl) in absurd (cc),
  λ h. none_proposed b sent r (sym is) h,
)

-- the number stands in the list
pub number_tells : (b : ℕ) (xs : List ℕ) (r : Bool) → r ≡ list_any (λ x. eqb x b) xs → IsTrue r ↔ Has b xs
number_tells b xs r is = tells (λ x. eqb x b) b (eq-eqb b b refl) (λ y e. sym (eqb-true y b e)) xs r is
