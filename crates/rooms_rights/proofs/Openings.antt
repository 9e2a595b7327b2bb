-- The rights of a table that has just been opened, room by room.
use Rattle.std.proofs.Common.{◌≡◌, ◌≢◌, ℕ, zero, suc, ◌*◌, ◌/◌, ◌%◌, ◌<◌, ◌≤◌, false, List, [], ◌∷◌, length, get_or, Option, Some, None, IfSome, take, min, length-take, mul-le-mul_right, refl, sym, ap, ◌∙◌, subst, arith}
use Rattle.std.proofs.Math.Nat.{mod-lt}
use Rattle.atomic_table.specs.Seated.{TableId}
use Rattle.atomic_table.specs.Table.{Me}
use Rattle.paxos_core_world.specs.KeptPart.{KeptPart, nothing_kept}
use Rattle.paxos_core_world.specs.declared.vote.Vote.{Vote}
use Rattle.rooms_steps.specs.Deal.{dealing, nobody}
use Rattle.rooms_steps.specs.Words.{IsVoteInWord}
use Rattle.rooms_steps.specs.Opening.{Opening}
use Rattle.rooms_steps.specs.View.{View}
use Rattle.rooms_table.specs.Deal.{dealing_all, first_room, other_rooms}
use Rattle.rooms_table.specs.Family.{count_of, no_opening, opening_in, rooms_in, tabulated, view_in}
use Rattle.rooms_table.specs.Opened.{part_at, CanOpenAll}
use Rattle.rooms_table.specs.RoomAt.{HasWords, RoomAt}
use Rattle.rooms_table.specs.declared.view.Openings.{Openings}
use Rattle.rooms_table.specs.declared.view.Views.{Views}
use Rattle.rooms_table.proofs.Places.{node_below}
use Rattle.rooms_rights.specs.Rights.{HasRights, IsOpened}

-- what stands in a row, whatever stands for what is not there
pub any_default : {A : Type 0} (xs : List A) (j : ℕ) (d e : A) → j < length xs → get_or xs j d ≡ get_or xs j e
any_default [] j d e lt = absurd (omega arith)
any_default (x ∷ xs) zero d e lt = refl
any_default (x ∷ xs) (suc j) d e lt = any_default xs j d e (omega arith)

-- ---- what was kept

module _ (o : Openings) (can : CanOpenAll o) (pair : ℕ) (lt : pair < count_of o * o.rooms) where
  some_room : 0 < o.rooms
  some_room = can.some

  room_is : pair % o.rooms < o.rooms
  room_is = mod-lt pair can.some

  node_is : pair / o.rooms < count_of o
  node_is = node_below o.rooms pair (count_of o) can.some lt

  pub part_is : (opening : Opening) (kept d : KeptPart) (e : Opening) → opening ≡ get_or o.each (pair % o.rooms) e → kept ≡ get_or opening.kept (pair / o.rooms) d → kept ≡ part_at o pair
  part_is opening kept d e eo ek =
      let row : length o.each ≡ 4 = can.row in
      let few : o.rooms ≤ 4 = can.few in
      let low : pair % o.rooms < o.rooms = room_is in
      let here : opening ≡ opening_in o (pair % o.rooms) = eo ∙ any_default o.each (pair % o.rooms) e no_opening (omega arith) in
      let rows : length (opening_in o (pair % o.rooms)).kept ≡ 7 = can.rows (pair % o.rooms) room_is in
      let most : count_of o ≤ 7 = can.most in
      let node : pair / o.rooms < count_of o = node_is in
      ek ∙ (ap (λ (p : Opening). get_or p.kept (pair / o.rooms) d) here ∙ any_default (opening_in o (pair % o.rooms)).kept (pair / o.rooms) d nothing_kept (omega arith))

  -- a vote of settled kept parts fits a word
  pub part_fits : IfSome (part_at o pair).accepted IsVoteInWord
  part_fits = fits (part_at o pair).accepted refl
    where
      room : ℕ
      room = pair % o.rooms

      fits : (a : Option Vote) → (part_at o pair).accepted ≡ a → IfSome a IsVoteInWord
      fits None e = tt
      fits (Some x) e =
          let settled = can.settled (pair % o.rooms) room_is in
          let below : pair / o.rooms < (opening_in o (pair % o.rooms)).quorums.nodes = subst (λ (n : ℕ). pair / o.rooms < n) (sym (can.same (pair % o.rooms) room_is)) node_is in
          let most : count_of o ≤ 7 = can.most in
          let same : (opening_in o (pair % o.rooms)).quorums.nodes ≡ count_of o = can.same (pair % o.rooms) room_is in
          let number : x.value < (opening_in o (pair % o.rooms)).quorums.nodes = (settled.vote (pair / o.rooms) x below e).offered.0 in
          let within = subst (λ (a : Option Vote). IfSome a (λ y. (1 ≤ y.ballot) × (y.ballot ≤ (part_at o pair).promised))) e (settled.within (pair / o.rooms) below) in
          (within.0, omega arith)

-- there is a word
pub some_words : (o : Openings) → CanOpenAll o → 0 < count_of o → (pairs : ℕ) → pairs ≡ count_of o * o.rooms → (words : List ℕ) → length words ≡ 56 → 0 < length (take (2 * pairs) words)
some_words o can some pairs e words size =
    let one : 1 ≤ count_of o = some in
    let more : 1 * o.rooms ≤ count_of o * o.rooms = mul-le-mul_right o.rooms one in
    subst (λ (n : ℕ). 0 < n) (sym (length-take (2 * pairs) words)) (least pairs (length words) o.rooms (count_of o * o.rooms) e more can.some size)
  where
    least : (p l r x : ℕ) → p ≡ x → 1 * r ≤ x → 0 < r → l ≡ 56 → 0 < min (2 * p) l
    least p l r x e m s z = omega arith

-- ---- one room

pub has_words : (o : Openings) (can : CanOpenAll o) (at : RoomAt) (room : ℕ) → room < o.rooms → at.rooms ≡ o.rooms → at.table.words ≡ 2 * (count_of o * o.rooms) → HasWords at (opening_in o room).quorums.nodes
has_words o can at room lt er ew =
    let few : o.rooms ≤ 4 = can.few in
    let same : (opening_in o room).quorums.nodes ≡ count_of o = can.same room lt in
    let most : count_of o ≤ 7 = can.most in
    record {
      some = subst (λ (n : ℕ). 0 < n) (sym er) can.some;
      few = subst (λ (n : ℕ). n ≤ 4) (sym er) few;
      most = subst (λ (n : ℕ). n ≤ 7) (sym same) most;
      words = ew ∙ (ap (λ (n : ℕ). 2 * (n * o.rooms)) (sym same) ∙ ap (λ (n : ℕ). 2 * ((opening_in o room).quorums.nodes * n)) (sym er));
    }

-- what the first token of so many rooms knows
abbrev pub rooms_all : Openings → ℕ → Views
rooms_all o n = record { rooms = tabulated n (λ room. dealing (opening_in o room) 0) }

pub all_is : (o : Openings) (n : ℕ) (v : Views) → o.rooms ≡ n → v ≡ dealing_all o → v ≡ rooms_all o n
all_is o n v er ev = ev ∙ ap (λ (m : ℕ). record { rooms = tabulated m (λ room. dealing (opening_in o room) 0) }) er

one_alone : (o : Openings) (board table : TableId) (number : ℕ) → table ≡ board → HasRights board record { table = table; rooms = 1; room = 0; number = number } (rooms_all o 1)
one_alone o board table number same = record { same = same; number = omega arith; rooms = refl; quiet = λ other lt away. absurd (away (omega arith)) }

pub one_has_rights : (o : Openings) (board table : TableId) (number : ℕ) (v : Views) → table ≡ board → v ≡ rooms_all o 1 → HasRights board record { table = table; rooms = 1; room = 0; number = number } v
one_has_rights o board table number v same ev =
    subst (λ (x : Views). HasRights board record { table = table; rooms = 1; room = 0; number = number } x) (sym ev) (one_alone o board table number same)

-- ---- four rooms

abbrev pub only : View → ℕ → Views
only v zero = record { rooms = v ∷ nobody ∷ nobody ∷ nobody ∷ [] }
only v (suc zero) = record { rooms = nobody ∷ v ∷ nobody ∷ nobody ∷ [] }
only v (suc (suc zero)) = record { rooms = nobody ∷ nobody ∷ v ∷ nobody ∷ [] }
only v (suc (suc (suc _))) = record { rooms = nobody ∷ nobody ∷ nobody ∷ v ∷ [] }

quiet_but : (v : View) (room other : ℕ) → room < 4 → other ≢ room → (view_in (only v room) other).live ≡ false
quiet_but v zero zero lt away = absurd (away refl)
quiet_but v zero (suc zero) lt away = refl
quiet_but v zero (suc (suc zero)) lt away = refl
quiet_but v zero (suc (suc (suc zero))) lt away = refl
quiet_but v zero (suc (suc (suc (suc n)))) lt away = refl
quiet_but v (suc zero) zero lt away = refl
quiet_but v (suc zero) (suc zero) lt away = absurd (away refl)
quiet_but v (suc zero) (suc (suc zero)) lt away = refl
quiet_but v (suc zero) (suc (suc (suc zero))) lt away = refl
quiet_but v (suc zero) (suc (suc (suc (suc n)))) lt away = refl
quiet_but v (suc (suc zero)) zero lt away = refl
quiet_but v (suc (suc zero)) (suc zero) lt away = refl
quiet_but v (suc (suc zero)) (suc (suc zero)) lt away = absurd (away refl)
quiet_but v (suc (suc zero)) (suc (suc (suc zero))) lt away = refl
quiet_but v (suc (suc zero)) (suc (suc (suc (suc n)))) lt away = refl
quiet_but v (suc (suc (suc zero))) zero lt away = refl
quiet_but v (suc (suc (suc zero))) (suc zero) lt away = refl
quiet_but v (suc (suc (suc zero))) (suc (suc zero)) lt away = refl
quiet_but v (suc (suc (suc zero))) (suc (suc (suc zero))) lt away = absurd (away refl)
quiet_but v (suc (suc (suc zero))) (suc (suc (suc (suc n)))) lt away = refl
quiet_but v (suc (suc (suc (suc r)))) other lt away = absurd (omega arith)

length_only : (v : View) (room : ℕ) → rooms_in (only v room) ≡ 4
length_only v zero = refl
length_only v (suc zero) = refl
length_only v (suc (suc zero)) = refl
length_only v (suc (suc (suc r))) = refl

view_only : (v : View) (room : ℕ) → room < 4 → view_in (only v room) room ≡ v
view_only v zero lt = refl
view_only v (suc zero) lt = refl
view_only v (suc (suc zero)) lt = refl
view_only v (suc (suc (suc zero))) lt = refl
view_only v (suc (suc (suc (suc r)))) lt = absurd (omega arith)

-- the token of a room of four, and what is left
pub one_of_four : (board table : TableId) (number : ℕ) (v : Views) (x : View) (room : ℕ) → room < 4 → table ≡ board → v ≡ only x room
    → HasRights board record { table = table; rooms = 4; room = room; number = number } v
one_of_four board table number v x room lt same ev =
    subst (λ (w : Views). HasRights board record { table = table; rooms = 4; room = room; number = number } w) (sym ev)
    record { same = same; number = lt; rooms = length_only x room; quiet = λ other ol away. quiet_but x room other lt away }

-- what the first token knows, and each cut
module _ (o : Openings) (v : Views) (e : v ≡ rooms_all o 4) where
  pub cut_first : first_room v ≡ only (dealing (opening_in o 0) 0) 0
  cut_first = ap first_room e

  pub cut_second : first_room (other_rooms v) ≡ only (dealing (opening_in o 1) 0) 1
  cut_second = ap (λ (w : Views). first_room (other_rooms w)) e

  pub cut_third : first_room (other_rooms (other_rooms v)) ≡ only (dealing (opening_in o 2) 0) 2
  cut_third = ap (λ (w : Views). first_room (other_rooms (other_rooms w))) e

  pub cut_rest : other_rooms (other_rooms (other_rooms v)) ≡ only (dealing (opening_in o 3) 0) 3
  cut_rest = ap (λ (w : Views). other_rooms (other_rooms (other_rooms w))) e

  pub some_first : 0 < rooms_in v
  some_first = subst (λ (w : Views). 0 < rooms_in w) (sym e) positive
    where
      positive : 0 < 4
      positive = omega arith

  pub some_second : 0 < rooms_in (other_rooms v)
  some_second = subst (λ (w : Views). 0 < rooms_in (other_rooms w)) (sym e) positive
    where
      positive : 0 < 4
      positive = omega arith

  pub some_third : 0 < rooms_in (other_rooms (other_rooms v))
  some_third = subst (λ (w : Views). 0 < rooms_in (other_rooms (other_rooms w))) (sym e) positive
    where
      positive : 0 < 4
      positive = omega arith

-- ---- what is handed out

pub is_opened : (o : Openings) (can : CanOpenAll o) (n : ℕ) → o.rooms ≡ n → (table u : TableId) → u ≡ table → (room : ℕ) → room < o.rooms → u.words ≡ 2 * (count_of o * o.rooms)
    → (id : ℕ) (m : Me (Unit {0}) Views) → view_in m.0 room ≡ dealing (opening_in o room) 0 → m.1 ≡ []
    → IsOpened o table room record { at = record { table = u; rooms = n; room = room; number = o.number }; id = id; me = (view_in m.0 room, m.1) }
is_opened o can n er table u eu room lt ew id m ev ec =
    record {
      at = λ k. record { table = eu k; rooms = sym er k; room = room; number = o.number };
      me = λ k. (ev k, ec k);
      words = has_words o can record { table = u; rooms = n; room = room; number = o.number } room lt (sym er) ew;
    }

-- the view of a room in which alone there are rights
pub view_of_four : (v : Views) (x : View) (room : ℕ) → room < 4 → v ≡ only x room → view_in v room ≡ x
view_of_four v x room lt ev = ap (λ (w : Views). view_in w room) ev ∙ view_only x room lt

pub view_of_one : (o : Openings) (v : Views) → v ≡ rooms_all o 1 → view_in v 0 ≡ dealing (opening_in o 0) 0
view_of_one o v ev = ap (λ (w : Views). view_in w 0) ev
