-- What a claim knows once it was told what another one knows.
use Rattle.std.proofs.Common.{◌≡◌, ℕ, [], ◌++◌, refl, sym, ap, ◌∙◌, subst, inl, inr}
use Rattle.rooms_hall.specs.declared.view.Given.{Given}
use Rattle.rooms_hall.specs.declared.view.View.{View}
use Rattle.atomic_table.specs.Seated.{TableId}
use Rattle.rooms_hall.specs.Claimed.{Claimed, IsClaim, room_of}
use Rattle.rooms_hall.specs.RoomId.{AreNumbered, RoomId}
use Rattle.rooms_hall.specs.Rule.{Among, both, knows}
use Rattle.rooms_hall.specs.Steps.{own}

-- once it has compared the two, it knows what it knew
pub compared : (number : ℕ) (v w u x : View) → v ≡ knows record { number = number; room = room_of v } → u ≡ both v w → x ≡ record { claims = own u.claims; drawn = [] } → x ≡ v
compared number v w u x known told after =
    after
    ∙ (ap {B = View} (λ (y : View). record { claims = own y.claims; drawn = [] }) told ∙ (ap {B = View} (λ (y : View). record { claims = own (y.claims ++ w.claims); drawn = [] }) known ∙ sym known))

-- who knows that the number is this room's has its claim
pub is_claim : (hall board table : TableId) (number : ℕ) (room : RoomId) (v : View) → board ≡ hall → table ≡ hall → hall.words ≡ 1
    → v ≡ knows record { number = number; room = room } → AreNumbered number room.places → IsClaim hall board table number v
is_claim hall board table number room v eb et words is numbered =
    let named : room_of v ≡ room = ap (λ (u : View). room_of u) is in
    record {
      shared = eb;
      mine = et;
      words = words;
      view = is ∙ ap (λ (r : RoomId). knows record { number = number; room = r }) (sym named);
      numbered = subst (λ (r : RoomId). AreNumbered number r.places) (sym named) numbered;
    }

-- two claims of one number are of one room
pub one_room : (m n : ℕ) (v o w u : View) → v ≡ knows record { number = m; room = room_of v } → o ≡ knows record { number = n; room = room_of o } → w ≡ o → u ≡ both v w
    → ((c d : Given) → Among c u.claims → Among d u.claims → c.number ≡ d.number → c ≡ d) → m ≡ n
    → ◌≡◌ {A = Claimed} record { number = m; room = room_of v } record { number = n; room = room_of o }
one_room m n v o w u kv ko ew eu one same =
    ap {B = Claimed} (λ (g : Given). record { number = g.number; room = g.room }) (one a b (subst (λ (y : View). Among a y.claims) (sym is) (inl refl)) (subst (λ (y : View). Among b y.claims) (sym is) (inr (inl refl))) same)
  where
    a : Given
    a = record { number = m; room = room_of v }

    b : Given
    b = record { number = n; room = room_of o }

    is : u ≡ both (knows a) (knows b)
    is = eu ∙ (ap (λ (y : View). both y w) kv ∙ ap (λ (y : View). both (knows a) y) (ew ∙ ko))
