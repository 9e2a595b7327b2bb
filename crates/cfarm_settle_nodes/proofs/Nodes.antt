-- Three nodes, behind their turns.
use Rattle.std.proofs.Common.{◌≡◌, ℕ, zero, suc, List, [], ◌∷◌, refl, sym, ap, ◌∙◌, subst}
use Rattle.std.specs.Prelude.{⊤}
use Rattle.std.specs.List.{AllByRecursion, AllZip}
use Rattle.offers.specs.declared.parts.Parts.{Parts}
use Rattle.rooms.specs.SeatValue.{SeatValue}
use Rattle.farm_nodes_threads_pace.specs.After.{After}
use Rattle.farm_nodes_threads_teams.specs.Taken.{HasTaken}
use Rattle.cfarm_settle_nodes.specs.Goes.{AreSeatsFor, SeatGoesOn}
use Rattle.cfarm_settle_nodes.specs.Nodes.{AreNodes, HasTurned}
use Rattle.cfarm_settle_nodes.proofs.Going.{goes_nowhere, goes_through}
use Rattle.cfarm_settle_nodes.proofs.Three.{all_offer, three_go}

-- all may be asked for turns
pub all_fit : {N : Type 0} (xs : List N) → AllByRecursion (λ n. ⊤) xs
all_fit [] = tt
all_fit (x ∷ xs) = (tt, all_fit xs)

pub same_seats : {F G C : Type 0} (f : F) (a b c x y z : SeatValue (Parts F G C)) → AreSeatsFor f (x, y, z) → a ≡ x → b ≡ y → c ≡ z → AreSeatsFor f (a, b, c)
same_seats {F} {G} {C} f a b c x y z h ea eb ec =
    let S = SeatValue (Parts F G C) in
    subst (λ (s : S). AreSeatsFor f (s, b, c)) (sym ea) (subst (λ (s : S). AreSeatsFor f (x, s, c)) (sym eb) (subst (λ (s : S). AreSeatsFor f (x, y, s)) (sym ec) h))

module _ {N F G C : Type 0} (seat : N → SeatValue (Parts F G C)) (input : N → F) where
  abbrev Turned : N → N → Type 0
  Turned n m = HasTurned (input n) (input m) (seat n) (seat m)

  -- turns behind turns are as one
  turned_all : (taken : ℕ) (n m : N) → After Turned taken n m → Turned n m
  turned_all zero n m same = subst (λ x. Turned n x) (sym same) (refl, goes_nowhere (input n) (seat n))
  turned_all (suc taken) n m h =
      let x = h.0 in
      let before = turned_all taken n x h.1 in (
        h.2.0 ∙ before.0,
        goes_through (input n) (seat n) (seat x) (seat m) before.1 (subst (λ f. SeatGoesOn f (seat x) (seat m)) before.0 h.2.1),
      )

  abbrev Taken : ℕ → N → N → Type 0
  Taken most n m = HasTaken Turned (λ x. ⊤) most n m

  -- what is known of a node of this input that has taken turns
  went : (f : F) (most : ℕ) (n m : N) → input n ≡ f → Taken most n m → (input m ≡ f) × SeatGoesOn f (seat n) (seat m)
  went f most n m is h =
      let t = turned_all h.taken n m h.after in
      (t.0 ∙ is, subst (λ x. SeatGoesOn x (seat n) (seat m)) is t.1)

  three_went : (f : F) (most : ℕ) (xs ys : List N) (h : AreNodes seat input f xs) → AllZip (Taken most) (h.first ∷ h.second ∷ h.third ∷ []) ys → AreNodes seat input f ys
  three_went f most xs [] h z = absurd z
  three_went f most xs (x ∷ []) h z = absurd z.1
  three_went f most xs (x ∷ y ∷ []) h z = absurd z.1.1
  three_went f most xs (x ∷ y ∷ w ∷ v ∷ rest) h z = absurd z.1.1.1
  three_went f most xs (x ∷ y ∷ w ∷ []) h z =
      let a = went f most h.first x h.inputs.0 z.0 in
      let b = went f most h.second y h.inputs.1 z.1.0 in
      let c = went f most h.third w h.inputs.2 z.1.1.0 in
      record {
        first = x;
        second = y;
        third = w;
        are = refl;
        seats = (
          three_go f (seat h.first) (seat h.second) (seat h.third) (seat x) (seat y) (seat w) h.seats.0 a.1 b.1 c.1,
          all_offer f (seat h.first) (seat h.second) (seat h.third) (seat x) (seat y) (seat w) h.seats.1 a.1 b.1 c.1,
        );
        inputs = (a.0, b.0, c.0);
      }

  -- three nodes that have taken turns
  pub nodes_went : (f : F) (most : ℕ) (xs ys : List N) → AreNodes seat input f xs → AllZip (Taken most) xs ys → AreNodes seat input f ys
  nodes_went f most xs ys h z = three_went f most xs ys h (subst (λ l. AllZip (Taken most) l ys) h.are z)

  -- three seats that are those of such nodes
  pub seats_so : (f : F) (xs : List N) (x y z : N) (a b c : SeatValue (Parts F G C)) (h : AreNodes seat input f xs) → (x ≡ h.first) × (y ≡ h.second) × (z ≡ h.third)
      → a ≡ seat x → b ≡ seat y → c ≡ seat z → AreSeatsFor f (a, b, c)
  seats_so f xs x y z a b c h same ea eb ec = same_seats f a b c (seat h.first) (seat h.second) (seat h.third) h.seats (ea ∙ ap seat same.0) (eb ∙ ap seat same.1) (ec ∙ ap seat same.2)
