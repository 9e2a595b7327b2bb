-- Seats with one claim are of the same rooms.
use Rattle.std.proofs.Common.{◌≡◌, ◌≢◌, ◌↔◌, ℕ, zero, suc, Bool, true, false, List, [], ◌∷◌, Option, None, Some, refl, sym, ap, subst, ◌∙◌}
use Rattle.std.specs.Prelude.{MatchBool}
use Rattle.rooms_function.specs.RoomAt.{RoomAt}
use Rattle.rooms_function.specs.SeatValue.{SeatValue, IsOneRoom}
use Rattle.rooms_hall.specs.Claimed.{Claimed}
use Rattle.rooms_hall.specs.RoomId.{AreNumbered, RoomId, no_table}
use Rattle.rooms_function.specs.declared.meeting.FunctionMeeting.{FunctionMeeting}
use Rattle.rooms_function.specs.declared.seat.FunctionSeat.{FunctionSeat}
use Rattle.rooms_function.specs.Met.{IsOneFunction}
use Rattle.rooms_numbered.specs.FunctionOf.{function_of, ShareNoRoom}

abbrev no_place : RoomAt
no_place = record { table = no_table; rooms = 0; room = 0; number = 0 }

-- what stands at a place of a list
abbrev nth : {A : Type 0} → A → ℕ → List A → A
nth d n [] = d
nth d zero (x ∷ xs) = x
nth d (suc n) (x ∷ xs) = nth d n xs

abbrev place_at : ℕ → RoomId → RoomAt
place_at n r = nth no_place n r.places

abbrev cells_at : ℕ → RoomId → List ℕ
cells_at n r = nth [] n r.cells

pub same_function : (a b : FunctionSeat) → function_of a ≡ function_of b → IsOneFunction a b
same_function a b e =
    record {
      first = record { table = ap (place_at 0) e; cells = ap (cells_at 0) e };
      second = record { table = ap (place_at 1) e; cells = ap (cells_at 1) e };
      third = record { table = ap (place_at 2) e; cells = ap (cells_at 2) e };
      fourth = record { table = ap (place_at 3) e; cells = ap (cells_at 3) e };
    }

pub function_is : (a b : FunctionSeat) → IsOneFunction a b → function_of a ≡ function_of b
function_is a b h =
    λ i. record {
      places = h.first.table i ∷ h.second.table i ∷ h.third.table i ∷ h.fourth.table i ∷ [];
      cells = h.first.cells i ∷ h.second.cells i ∷ h.third.cells i ∷ h.fourth.cells i ∷ [];
    }

pub same_room : {T : Type 0} (s : SeatValue T) → IsOneRoom s s
same_room s = record { table = refl; cells = refl }

-- and those with claims to two numbers are strangers: their tables were opened with these
pub strangers : (c d : Claimed) (a b : FunctionSeat) → c.room ≡ function_of a → d.room ≡ function_of b → AreNumbered c.number c.room.places → AreNumbered d.number d.room.places
    → c.number ≢ d.number → ShareNoRoom a b
strangers c d a b ec ed nc nd away =
    let na : AreNumbered c.number (function_of a).places = subst (λ (r : RoomId). AreNumbered c.number r.places) ec nc in
    let nb : AreNumbered d.number (function_of b).places = subst (λ (r : RoomId). AreNumbered d.number r.places) ed nd in
    record {
      first = λ one. away (sym na.0 ∙ (ap (λ (p : RoomAt). p.number) one.table ∙ nb.0));
      second = λ one. away (sym na.1.0 ∙ (ap (λ (p : RoomAt). p.number) one.table ∙ nb.1.0));
      third = λ one. away (sym na.1.1.0 ∙ (ap (λ (p : RoomAt). p.number) one.table ∙ nb.1.1.0));
      fourth = λ one. away (sym na.1.1.1.0 ∙ (ap (λ (p : RoomAt). p.number) one.table ∙ nb.1.1.1.0));
    }

-- what is told by two claims: they have two numbers, or are one
module _ (c d : Claimed) (told : Bool) where
  pub told_apart : told ≡ false → MatchBool told (c ≡ d) (c.number ≢ d.number) → (◌≡◌ {A = Option FunctionMeeting} None None) ↔ (c.number ≢ d.number)
  told_apart e h = (λ _. subst (λ (b : Bool). MatchBool b (c ≡ d) (c.number ≢ d.number)) e h, λ _. refl)

  pub told_one : (m : FunctionMeeting) → told ≡ true → MatchBool told (c ≡ d) (c.number ≢ d.number) → (Some m ≡ None) ↔ (c.number ≢ d.number)
  told_one m e h =
      let one : c ≡ d = subst (λ (b : Bool). MatchBool b (c ≡ d) (c.number ≢ d.number)) e h in
      (λ is. absurd (cc is), λ away. absurd (away (ap (λ (x : Claimed). x.number) one)))
