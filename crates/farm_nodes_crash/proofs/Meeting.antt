-- Nodes that heard of one another rest in each room, since their seats there do.
use Rattle.std.proofs.Common.{◌≡◌, ◌≢◌, ◌⊎◌, ℕ, ◌<◌, List, [], ◌∷◌, length, Option, Some, None, inl, inr, sym, ap, ◌∙◌, subst, arith}
use Rattle.std.specs.Prelude.{slice_get}
use Rattle.std.proofs.lemmas.Bool.{cases_eq}
use Rattle.paxos_core_world.specs.Quorum.{Sizes}
use Rattle.rooms_seat_state.specs.SeatState.{SeatState}
use Rattle.rooms_seat.specs.Meeting.{HaveMet}
use Rattle.rooms_crash.specs.Meetings.{IsSeatOf, Meetings, Meets}
use Rattle.rooms_crash_heard.proofs.Hearing.{heard_rest}
use Rattle.rooms_crash_heard.proofs.Neighbours.{neighbours_hear}
use Rattle.rooms_crash_heard.specs.Heard.{AllHearOf, back, forth, HearsOfAll}
use Rattle.farm_nodes_turn_passes.specs.Fours.{words_of}
use Rattle.farm_nodes_turn_passes.specs.declared.which.Which.{Which}
use Rattle.farm_nodes_restart_records.proofs.Rooms.{function_at, pass_at_room}
use Rattle.farm_nodes_open_nodes.proofs.Lists.{found_at}
use Rattle.farm_nodes_crash_left.specs.Left.{NodeSeats}
use Rattle.farm_nodes_crash.specs.Meeting.{AreSeats, FunctionSeats, HearAll, NeighboursHearAll, NodesMeet, NodesMeetings, NodesThatHeardRest}
use Rattle.farm_nodes_crash.specs.Rooms.{RoomsRest}

-- the seat of a pass, where there is one
abbrev pub pick : SeatState → Which → Option FunctionSeats → SeatState
pick d pass None = d
pick d pass (Some s) = words_of s pass

picked : (d : SeatState) (pass : Which) (o p r t : Option FunctionSeats) (a b x y : FunctionSeats) → o ≡ Some a → p ≡ Some b → r ≡ Some x → t ≡ Some y
    → HaveMet (words_of a pass) (words_of b pass) (words_of x pass) (words_of y pass) → HaveMet (pick d pass o) (pick d pass p) (pick d pass r) (pick d pass t)
picked d pass o p r t a b x y eo ep er et h =
    subst (λ (z : Option FunctionSeats). HaveMet (pick d pass z) (pick d pass p) (pick d pass r) (pick d pass t)) (sym eo)
    (subst (λ (z : Option FunctionSeats). HaveMet (words_of a pass) (pick d pass z) (pick d pass r) (pick d pass t)) (sym ep)
    (subst (λ (z : Option FunctionSeats). HaveMet (words_of a pass) (words_of b pass) (pick d pass z) (pick d pass t)) (sym er)
    (subst (λ (z : Option FunctionSeats). HaveMet (words_of a pass) (words_of b pass) (words_of x pass) (pick d pass z)) (sym et) h)))

module _ (q : Sizes) (functions : ℕ) where
  abbrev pub Counted : (ℕ → NodeSeats) → Type 0
  Counted seats = (i : ℕ) → i < q.nodes → length (seats i) ≡ functions

  pub counted_once : (i j : ℕ) (old new : ℕ → NodeSeats) → NodesMeet q functions i j old new → Counted old → Counted new
  counted_once i j old new h count k lt = at (cases_eq k i) (cases_eq k j)
    where
      at : (k ≡ i) ⊎ (k ≢ i) → (k ≡ j) ⊎ (k ≢ j) → length (new k) ≡ functions
      at (inl e) other = ap (λ (x : ℕ). length (new x)) e ∙ h.first_count
      at (inr d) (inl e) = ap (λ (x : ℕ). length (new x)) e ∙ h.second_count
      at (inr d) (inr c) = ap (λ (s : NodeSeats). length s) (h.others k d c) ∙ count k lt

  pub counted : (ps : List (ℕ × ℕ)) (old new : ℕ → NodeSeats) → NodesMeetings q functions ps old new → Counted old → Counted new
  counted [] old new h count k lt = ap (λ (s : NodeSeats). length s) (h k) ∙ count k lt
  counted (p ∷ ps) old new h count k lt = counted_once p.0 p.1 h.0 new h.2 (counted ps old h.0 h.1 count) k lt

  module _ (d : SeatState) (f : ℕ) (pass : Which) (low : f < functions) where
    abbrev pub seats_at : (ℕ → NodeSeats) → ℕ → SeatState
    seats_at seats i = pick d pass (slice_get (seats i) f)

    pub there : (seats : ℕ → NodeSeats) → Counted seats → (i : ℕ) → i < q.nodes → (s : FunctionSeats) × (slice_get (seats i) f ≡ Some s)
    there seats count i lt = found_at (seats i) f (omega (arith, low, count i lt))

    one : (i j : ℕ) (old new : ℕ → NodeSeats) → NodesMeet q functions i j old new → Counted old → Meets i j (seats_at old) (seats_at new)
    one i j old new h count = record {
      two = h.two;
      met =
          picked d pass (slice_get (old i) f) (slice_get (old j) f) (slice_get (new i) f) (slice_get (new j) f) a.0 b.0 x.0 y.0 a.1 b.1 x.1 y.1 (h.met f pass a.0 b.0 x.0 y.0 a.1 b.1 x.1 y.1);
      others = λ k e c. ap (λ (s : NodeSeats). pick d pass (slice_get s f)) (h.others k e c);
    }
      where
        now : Counted new
        now = counted_once i j old new h count

        a : (s : FunctionSeats) × (slice_get (old i) f ≡ Some s)
        a = there old count i h.first

        b : (s : FunctionSeats) × (slice_get (old j) f ≡ Some s)
        b = there old count j h.second

        x : (s : FunctionSeats) × (slice_get (new i) f ≡ Some s)
        x = there new now i h.first

        y : (s : FunctionSeats) × (slice_get (new j) f ≡ Some s)
        y = there new now j h.second

    pub all : (ps : List (ℕ × ℕ)) (old new : ℕ → NodeSeats) → NodesMeetings q functions ps old new → Counted old → Meetings ps (seats_at old) (seats_at new)
    all [] old new h count = λ k. ap (λ (s : NodeSeats). pick d pass (slice_get s f)) (h k)
    all (p ∷ ps) old new h count = (seats_at h.0, all ps old h.0 h.1 count, one p.0 p.1 h.0 new h.2 (counted ps old h.0 h.1 count))

  module _ (h : ℕ) (old : ℕ → NodeSeats) (seats : AreSeats q functions old) (twice : HearAll q functions h old) where
    abbrev pub own_seat : (f : ℕ) → Which → f < functions → SeatState
    own_seat f pass low = words_of (found_at (old h) f (omega (arith, low, seats.count h twice.one))).0 pass

    abbrev pub rest : RoomsRest q functions old
    rest f pass low = record {
      opening = (seats_at (own_seat f pass low) f pass low old h).view.opening;
      run = (seats_at (own_seat f pass low) f pass low twice.between h).view.seen;
      words = seats_at (own_seat f pass low) f pass low old;
      are = λ i il.
          let s = there (own_seat f pass low) f pass low old seats.count i il in (
            s.0,
            ap (λ (n : ℕ). slice_get (old i) n) (function_at f pass) ∙ s.1,
            ap (λ (w : Which). words_of s.0 w) (pass_at_room f pass) ∙ sym (ap (λ (o : Option FunctionSeats). pick (own_seat f pass low) pass o) s.1),
          );
      rest = heard_rest q h twice.first twice.second (seats_at (own_seat f pass low) f pass low old) (seats_at (own_seat f pass low) f pass low twice.between)
          (seats_at (own_seat f pass low) f pass low twice.new) twice.one
          (all (own_seat f pass low) f pass low twice.first old twice.between twice.met seats.count) twice.heard
          (all (own_seat f pass low) f pass low twice.second twice.between twice.new twice.met_again (counted twice.first old twice.between twice.met seats.count)) twice.hear
          (λ i il.
          let s = there (own_seat f pass low) f pass low old seats.count i il in
          subst (λ (o : Option FunctionSeats). IsSeatOf q i (pick (own_seat f pass low) pass o)) (sym s.1) (seats.each i f pass s.0 il s.1));
    }

    -- the room in which they rest is that of node h's seat, and the run is what this one has seen between
    pub rest_opening : (f : ℕ) (pass : Which) (low : f < functions) (s : FunctionSeats) → slice_get (old h) f ≡ Some s
        → (rest f pass low).opening ≡ (words_of s pass).view.opening
    rest_opening f pass low s at = ap (λ (o : Option FunctionSeats). (pick (own_seat f pass low) pass o).view.opening) at

    pub rest_run : (f : ℕ) (pass : Which) (low : f < functions) (s : FunctionSeats) → slice_get (twice.between h) f ≡ Some s
        → (rest f pass low).run ≡ (words_of s pass).view.seen
    rest_run f pass low s at = ap (λ (o : Option FunctionSeats). (pick (own_seat f pass low) pass o).view.seen) at

pub nodes_that_heard_rest : (q : Sizes) (functions : ℕ) → NodesThatHeardRest q functions
nodes_that_heard_rest q functions h old seats twice = rest q functions h old seats twice

pub neighbours_hear_all : (q : Sizes) (functions : ℕ) → NeighboursHearAll q functions
neighbours_hear_all q functions old new met = (
  met.last,
  record {
    one = omega (arith, met.nodes);
    first = forth met.last;
    second = back met.last;
    between = met.between;
    new = new;
    met = met.met;
    heard = subst (λ (n : ℕ). HearsOfAll (forth met.last) n met.last) (sym met.nodes) (neighbours_hear met.last).0;
    met_again = met.met_again;
    hear = subst (λ (n : ℕ). AllHearOf (back met.last) n met.last) (sym met.nodes) (neighbours_hear met.last).1;
  },
)
