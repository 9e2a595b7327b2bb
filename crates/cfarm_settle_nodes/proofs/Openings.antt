-- A room of three nodes that have kept nothing: nobody has offered.
use Rattle.std.proofs.Common.{◌≡◌, ℕ, zero, suc, List, [], ◌∷◌, ◌++◌, length, Option, None, Some, refl, sym, ap, ◌∙◌, arith}
use Rattle.std.proofs.lemmas.List.{length-append}
use Rattle.std.specs.Option.{option_to_list}
use Rattle.rooms_table.specs.RoomAt.{RoomAt}
use Rattle.offers.specs.declared.parts.Parts.{Parts}
use Rattle.paxos_core_world.specs.KeptPart.{KeptPart}
use Rattle.paxos_core_world.specs.Quorum.{Sizes}
use Rattle.rooms_cells.specs.Seen.{unseen, value_at}
use Rattle.rooms_words.specs.declared.view.Opening.{Opening}
use Rattle.rooms_seat_state.specs.SeatState.{opening_of}
use Rattle.rooms.specs.Opened.{AreOpened, opened, opened_first}
use Rattle.rooms.specs.SeatValue.{SeatValue, offer_of}
use Rattle.cfarm_settle_nodes.specs.Goes.{AllOfferFor, OffersFor}

unseen_at : {T : Type 0} (cells : List ℕ) (i : ℕ) → value_at (unseen {T = T} cells) i ≡ None
unseen_at {T} [] zero = refl
unseen_at {T} [] (suc i) = refl
unseen_at {T} (c ∷ cs) zero = refl
unseen_at {T} (c ∷ cs) (suc i) = unseen_at {T = T} cs i

-- of three that were taken from the end of a list none is left behind
last_three : {A : Type 0} (before : List A) (a b c x y z : A) → ((before ++ a ∷ []) ++ b ∷ []) ++ c ∷ [] ≡ x ∷ y ∷ z ∷ [] → (a ≡ x) × (b ≡ y) × (c ≡ z)
last_three {A} [] a b c x y z e = (cc, cc, cc)
last_three {A} (d ∷ ds) a b c x y z e =
    absurd (omega (arith, ap (λ (l : List A). length l) e, length-append (((d ∷ ds) ++ a ∷ []) ++ b ∷ []) (c ∷ []), length-append ((d ∷ ds) ++ a ∷ []) (b ∷ []), length-append (d ∷ ds) (a ∷ [])))

module _ {F G C : Type 0} (f : F) where
  unmade : (table : RoomAt) (cells : List ℕ) (o : Opening) (i : ℕ) (s : SeatValue (Parts F G C)) → s ≡ opened table cells o i None → OffersFor f s
  unmade table cells o i s e x is =
      let fresh : SeatValue (Parts F G C) = opened table cells o i None in
      let none : offer_of s s.words.node.me ≡ None = ap (λ (t : SeatValue (Parts F G C)). offer_of t t.words.node.me) e ∙ unseen_at {T = Parts F G C} cells fresh.words.node.me in
      let no : Some x ≡ None = sym is ∙ none in
      absurd (cc)

  -- the seats of a room of three, taken from the end of the list one by one
  pub three_unmade : (q : Sizes) (kept : List KeptPart) (offers : List (Option (Parts F G C))) (seats two one rest : List (SeatValue (Parts F G C))) (x y z : Option (SeatValue (Parts F G C))) (a b c : SeatValue (Parts F G C))
      → q.nodes ≡ 3 → offers ≡ None ∷ None ∷ None ∷ [] → AreOpened q kept offers seats
      → seats ≡ two ++ option_to_list z → two ≡ one ++ option_to_list y → one ≡ rest ++ option_to_list x → x ≡ Some a → y ≡ Some b → z ≡ Some c → AllOfferFor f a b c
  three_unmade q kept offers seats two one rest x y z a b c size none h ez ey ex xa yb zc =
      let S = SeatValue (Parts F G C) in
      let o = opening_of q kept in
      let listed : seats ≡ opened_first h.table h.cells o (None ∷ None ∷ None ∷ []) 3 =
      h.seats_are ∙ ap (λ (n : ℕ). opened_first h.table h.cells o offers n) size ∙ ap (λ (os : List (Option (Parts F G C))). opened_first h.table h.cells o os 3) none in
      let taken : seats ≡ ((rest ++ a ∷ []) ++ b ∷ []) ++ c ∷ [] =
      ez ∙ ap (λ (t : Option S). two ++ option_to_list t) zc
      ∙ ap (λ (l : List S). l ++ c ∷ []) (ey ∙ ap (λ (t : Option S). one ++ option_to_list t) yb ∙ ap (λ (l : List S). l ++ b ∷ []) (ex ∙ ap (λ (t : Option S). rest ++ option_to_list t) xa)) in
      let three = last_three rest a b c (opened h.table h.cells o 0 None) (opened h.table h.cells o 1 None) (opened h.table h.cells o 2 None) (sym taken ∙ listed) in
      record {
        first = unmade h.table h.cells o 0 a three.0;
        second = unmade h.table h.cells o 1 b three.1;
        third = unmade h.table h.cells o 2 c three.2;
      }
