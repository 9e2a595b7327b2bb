-- A whole turn of a node that was not stopped, by what the turn in its room told.
use Rattle.std.proofs.Common.{◌≡◌, ◌≢◌, ℕ, ◌*◌, ◌<◌, Bool, true, false, ltb, List, [], ◌++◌, append-nil, length, map, slice_get, Option, Some, None, is_some, IfSome, Result, Ok, Err, IfOk, refl, sym, ap, ◌∙◌, subst, arith}
use Rattle.paxos_core_world.specs.Quorum.{Sizes}
use Rattle.durable_model.specs.declared.disk.Disk as disks
use Rattle.acceptor_log_form.specs.declared.header.Header.{Header}
use Rattle.acceptor_log_form.specs.declared.record.Record.{Record}
use Rattle.acceptor_log_form.specs.Leaves.{proposed_in}
use Rattle.acceptor_log_form.specs.Order.{AreInOrder}
use Rattle.acceptor_log.specs.declared.log.Log.{Log}
use Rattle.acceptor_log.specs.Acknowledged.{acknowledged}
use Rattle.farm_nodes_turn_function.specs.Ordered.{AreOrdered, IsOfOneNode, IsUnproposed}
use Rattle.farm_nodes_turn_function.specs.OfRun.{IsOfRun}
use Rattle.farm_nodes_turn_function.specs.SeatState.{SeatState}
use Rattle.farm_nodes_turn_function.specs.JournalAdvances.{JournalAdvances, AreOf}
use Rattle.farm_nodes_turn_function.specs.Served.{IsServed}
use Rattle.farm_nodes_turn_function.specs.Fault.{Fault}
use Rattle.farm_nodes_turn_function.specs.Halt.{Halt}
use Rattle.farm_nodes_turn_function.specs.Halted.{left_over, HasHaltCause}
use Rattle.farm_nodes_turn_function.specs.Numbers.{function_of, pass_of}
use Rattle.farm_nodes_turn_function.specs.Progress.{Progress}
use Rattle.farm_nodes_turn_function.specs.Progress.TheVariants.{Learned, Moved, Idle}
use Rattle.farm_nodes_turn_function.specs.Played.{progress_of}
use Rattle.farm_nodes_turn_node.specs.declared.halted.Halted.{Halted}
use Rattle.farm_nodes_turn_function.specs.Which.{Which}
use Rattle.farm_nodes_turn_function.specs.Which.TheVariants.{Constants, Expressions, Allocation, Order}
use Rattle.farm_nodes_turn_function.specs.Fours.{Four, words_of}
use Rattle.farm_nodes_turn_function.specs.Told.{TellNew}
use Rattle.farm_nodes_turn_function.specs.Texts.{Texts, IsOwnTextIn}
use Rattle.farm_nodes_turn_function.specs.Turned.{OthersStay, StaysIn}
use Rattle.farm_nodes_turn_node.specs.Told.{failure_of, turn_of}
use Rattle.farm_nodes_turn_function.specs.Leaves.{Leave, left_in}
use Rattle.farm_nodes_turn_node.specs.Held.{pending_in, sizes_in, AreOfRuns, AreSeatsOf, AreUnproposed, IsSoundBy}
use Rattle.farm_nodes_turn_function.specs.Turns.{PlayedIn}
use Rattle.farm_nodes_turn_node.specs.Stood.{TurnsBy}
use Rattle.farm_nodes_turn_function.proofs.Places.{found, map_at, map_length, map_same}
use Rattle.farm_nodes_turn_node.proofs.Standings.{stands_turned, turned_rooms, turns_into}

-- what stops a node behind this turn
abbrev pub halted_by : ℕ → Result Progress Halt → Option Halted
halted_by room (Ok progress) = None
halted_by room (Err halt) = Some (record { room = room; halt = halt })

pub none_of : {A : Type 0} (o : Option A) → is_some o ≡ false → o ≡ None
none_of None e = refl
none_of (Some x) e = absurd (cc)

pub not_none : {A : Type 0} (o : Option A) → is_some o ≡ true → o ≡ None → ⊥
not_none None e none = absurd (cc)
not_none (Some x) e none = absurd (cc)

-- what did not fail has no fault
pub went_on : (p : Progress) → failure_of (turn_of p) ≡ None
went_on (Learned v) = refl
went_on Moved = refl
went_on Idle = refl

pub no_cause : (o : Option Fault) (P : Fault → Type 0) → o ≡ None → IfSome o P
no_cause None P e = tt
no_cause (Some fault) P e = absurd (cc)

pub stays_node : {T1 T2 T3 T4 : Type 0} (p : Which) (s t : Four T1 T2 T3 T4) → StaysIn p s t → IsOfOneNode (words_of s p) (words_of t p)
stays_node Constants s t stays = record { me = stays.me; quorums = stays.quorums }
stays_node Expressions s t stays = record { me = stays.me; quorums = stays.quorums }
stays_node Allocation s t stays = record { me = stays.me; quorums = stays.quorums }
stays_node Order s t stays = record { me = stays.me; quorums = stays.quorums }

stays_run : {T1 T2 T3 T4 : Type 0} (p : Which) (s t : Four T1 T2 T3 T4) → StaysIn p s t → IsOfRun (words_of s p) → IsOfRun (words_of t p)
stays_run Constants s t stays = stays.run.of_run
stays_run Expressions s t stays = stays.run.of_run
stays_run Allocation s t stays = stays.run.of_run
stays_run Order s t stays = stays.run.of_run

module _ {D X T1 T2 T3 T4 : Type 0} (texts : Texts T1 T2 T3 T4) (disk : disks.Ghosts D) (f : X → Four T1 T2 T3 T4) (old new : Log D) (room : ℕ) (xs ys : List X) (was : Option Halted)
    (served : IsServed disk old new) (sound : IsSoundBy texts disk old (map f xs) was)
    (low : function_of room < length xs) (none : was ≡ None) (count : length ys ≡ length xs)
    (others : (g : ℕ) → g ≢ function_of room → slice_get ys g ≡ slice_get xs g)
    (stay : (x y : X) → slice_get xs (function_of room) ≡ Some x → slice_get ys (function_of room) ≡ Some y → OthersStay (pass_of room) (f x) (f y))
    (stays : (x y : X) → slice_get xs (function_of room) ≡ Some x → slice_get ys (function_of room) ≡ Some y → StaysIn (pass_of room) (f x) (f y)) where
  numbers : (x y : X) → slice_get xs (function_of room) ≡ Some x → slice_get ys (function_of room) ≡ Some y → IsOfOneNode (words_of (f x) (pass_of room)) (words_of (f y) (pass_of room))
  numbers x y p q = stays_node (pass_of room) (f x) (f y) (stays x y p q)

  stood : disk.is_honest old.disk → Leave texts (map f xs) (acknowledged disk.seen old)
  stood honest = let u = sound.upto honest in subst (λ (rs : List Record). Leave texts (map f xs) rs) (u.2 none) u.1.leave

  stood_named : disk.is_honest old.disk → AreOf (4 * length xs) (acknowledged disk.seen old)
  stood_named honest =
      let u = sound.upto honest in
      subst (λ (rs : List Record). AreOf (4 * length xs) rs) (u.2 none)
      (subst (λ (n : ℕ). AreOf (4 * n) u.0) (map_length f xs) u.1.named)

  named_now : (s t : SeatState) (upto pending : List Record) → JournalAdvances disk old new room s t upto pending
      → disk.is_honest old.disk → AreOf (4 * length (map f ys)) upto
  named_now s t upto pending advances honest =
      let below : room < 4 * length xs = omega arith in
      subst (λ (n : ℕ). AreOf (4 * n) upto) (sym (map_length f ys ∙ count)) (advances.named (4 * length xs) below (stood_named honest))

  -- each seat is the node's
  seats_now : AreSeatsOf new.header (map f ys)
  seats_now =
      let x = found xs (function_of room) low in
      let y = found ys (function_of room) (subst (λ (n : ℕ). function_of room < n) (sym count) low) in
      let one = numbers x.0 y.0 x.1 y.1 in
      let of : AreSeatsOf old.header (map f ys) = record {
        me = turned_rooms room (map f xs) (map f ys) (f x.0) (f y.0) (map_at f xs (function_of room) x.0 x.1) (map_at f ys (function_of room) y.0 y.1)
            (λ g other. map_same f ys xs g (others g other)) (stay x.0 y.0 x.1 y.1)
            (λ m w. w.node.me ≡ old.header.node) (λ m w. w.node.me ≡ old.header.node) (λ e. one.me ∙ e) (λ m w other e. e) sound.own.me;
        quorums = turned_rooms room (map f xs) (map f ys) (f x.0) (f y.0) (map_at f xs (function_of room) x.0 x.1) (map_at f ys (function_of room) y.0 y.1)
            (λ g other. map_same f ys xs g (others g other)) (stay x.0 y.0 x.1 y.1)
            (λ m w. w.node.quorums ≡ sizes_in old.header) (λ m w. w.node.quorums ≡ sizes_in old.header) (λ e. one.quorums ∙ e) (λ m w other e. e) sound.own.quorums;
      } in
      subst (λ (h : Header). AreSeatsOf h (map f ys)) (sym served.header) of

  -- and of its run
  of_runs_now : AreOfRuns (map f ys)
  of_runs_now =
      let x = found xs (function_of room) low in
      let y = found ys (function_of room) (subst (λ (n : ℕ). function_of room < n) (sym count) low) in
      turned_rooms room (map f xs) (map f ys) (f x.0) (f y.0) (map_at f xs (function_of room) x.0 x.1) (map_at f ys (function_of room) y.0 y.1)
      (λ g other. map_same f ys xs g (others g other)) (stay x.0 y.0 x.1 y.1)
      (λ m w. IsOfRun w) (λ m w. IsOfRun w) (stays_run (pass_of room) (f x.0) (f y.0) (stays x.0 y.0 x.1 y.1)) (λ m w other e. e) sound.of_runs

  -- the room's records before are in order
  ordered : disk.is_honest old.disk → (x : X) → slice_get xs (function_of room) ≡ Some x → AreOrdered (4 * length xs) room (words_of (f x) (pass_of room)) (acknowledged disk.seen old)
  ordered honest x p =
      let u = sound.upto honest in
      let at = map_at f xs (function_of room) x p in
      let nothing : u.0 ++ pending_in (map f xs) was ≡ acknowledged disk.seen old =
      ap (λ (h : Option Halted). u.0 ++ pending_in (map f xs) h) none ∙ (append-nil u.0 ∙ u.2 none) in
      record {
        in_order = subst (λ (n : ℕ). AreInOrder n (words_of (f x) (pass_of room)).node.me (4 * length xs) (acknowledged disk.seen old)) (sym (ap (λ (q : Sizes). q.nodes) (sound.own.quorums room (f x) at)))
            (subst (λ (i : ℕ). AreInOrder old.header.nodes i (4 * length xs) (acknowledged disk.seen old)) (sym (sound.own.me room (f x) at))
            (subst (λ (rs : List Record). AreInOrder old.header.nodes old.header.node (4 * length xs) rs) nothing
            (subst (λ (n : ℕ). AreInOrder old.header.nodes old.header.node (4 * n) (u.0 ++ pending_in (map f xs) was)) (map_length f xs) u.1.in_order)));
        kept = (stood honest).rooms room (f x) at;
        unproposed = subst (λ (rs : List Record). IsUnproposed (proposed_in rs room) (words_of (f x) (pass_of room))) (u.2 none) (u.1.unproposed room (f x) at);
      }

  module _ (honest : disk.is_honest old.disk) (x y : X) (p : slice_get xs (function_of room) ≡ Some x) (q : slice_get ys (function_of room) ≡ Some y) (halted : Option Halted) (upto pending : List Record)
      (advances : JournalAdvances disk old new room (words_of (f x) (pass_of room)) (words_of (f y) (pass_of room)) upto pending)
      (told : TellNew (IsOwnTextIn texts (pass_of room) (f y)) room (words_of (f x) (pass_of room)) (words_of (f y) (pass_of room)) (acknowledged disk.seen old) upto)
      (same : pending ≡ pending_in (map f ys) halted) where
    low_room : room < 4 * length xs
    low_room = omega arith

    -- what the node keeps, and has offered
    stands_now : Leave texts (map f ys) upto
    stands_now =
        let first : length (map f xs) ≡ length xs = map_length f xs in
        let before = ordered honest x p in
        stands_turned room (map f xs) (map f ys) (f x) (f y)
        (map_at f xs (function_of room) x p) (map_at f ys (function_of room) y q)
        (λ g other. map_same f ys xs g (others g other)) (stay x y p q) texts (acknowledged disk.seen old) upto (stood honest) (stays x y p q)
        (words_of (f y) (pass_of room)).node.quorums.nodes (words_of (f y) (pass_of room)).node.me (4 * length xs)
        (advances.order (4 * length xs) low_room before).0.in_order advances.longer (told (4 * length xs) low_room before)
        advances.kept advances.others
        (subst (λ (n : ℕ). function_of room < n) (sym first) low) (map_length f ys ∙ (count ∙ sym first))

    order_now : AreInOrder new.header.nodes new.header.node (4 * length (map f ys)) (upto ++ pending_in (map f ys) halted)
    order_now =
        let at = map_at f xs (function_of room) x p in
        let rs : List Record = upto ++ pending_in (map f ys) halted in
        let order : AreInOrder (words_of (f x) (pass_of room)).node.quorums.nodes (words_of (f x) (pass_of room)).node.me (4 * length xs) (upto ++ pending_in (map f ys) halted) =
        subst (λ (l : List Record). AreInOrder (words_of (f x) (pass_of room)).node.quorums.nodes (words_of (f x) (pass_of room)).node.me (4 * length xs) (upto ++ l)) same
        (advances.order (4 * length xs) low_room (ordered honest x p)).1 in
        subst (λ (h : Header). AreInOrder h.nodes h.node (4 * length (map f ys)) (upto ++ pending_in (map f ys) halted)) (sym served.header)
        (subst (λ (n : ℕ). AreInOrder old.header.nodes old.header.node (4 * n) (upto ++ pending_in (map f ys) halted)) (sym (map_length f ys ∙ count))
        (subst (λ (i : ℕ). AreInOrder old.header.nodes i (4 * length xs) (upto ++ pending_in (map f ys) halted)) (sound.own.me room (f x) at)
        (subst (λ (n : ℕ). AreInOrder n (words_of (f x) (pass_of room)).node.me (4 * length xs) (upto ++ pending_in (map f ys) halted)) (ap (λ (q : Sizes). q.nodes) (sound.own.quorums room (f x) at)) order)))

    unproposed_now : AreUnproposed (map f ys) upto
    unproposed_now =
        turned_rooms room (map f xs) (map f ys) (f x) (f y) (map_at f xs (function_of room) x p) (map_at f ys (function_of room) y q)
        (λ g other. map_same f ys xs g (others g other)) (stay x y p q)
        (λ m w. IsUnproposed (proposed_in (acknowledged disk.seen old) m) w) (λ m w. IsUnproposed (proposed_in upto m) w)
        (λ fresh. (advances.order (4 * length xs) low_room (ordered honest x p)).0.unproposed)
        (λ m w other fresh. subst (λ (l : ℕ). IsUnproposed l w) (sym (advances.proposals m other)) fresh)
        (λ m u e. let before = sound.upto honest in subst (λ (rs : List Record). IsUnproposed (proposed_in rs m) (words_of u (pass_of m))) (before.2 none) (before.1.unproposed m u e))

    turned : (halted ≡ None → upto ≡ acknowledged disk.seen new) → TurnsBy texts disk old new (map f ys) halted
    turned all =
        turns_into texts disk old new (map f ys) halted room (words_of (f x) (pass_of room)) (words_of (f y) (pass_of room)) upto pending
        served.header advances same stands_now
        (named_now (words_of (f x) (pass_of room)) (words_of (f y) (pass_of room)) upto pending advances honest) order_now unproposed_now all

  pub into : (result : Result Progress Halt)
      → (disk.is_honest old.disk → old.going ≡ true → (x y : X) → slice_get xs (function_of room) ≡ Some x → slice_get ys (function_of room) ≡ Some y
      → PlayedIn texts disk old new room result (f x) (f y))
      → disk.is_honest old.disk → TurnsBy texts disk old new (map f ys) (halted_by room result)
  into (Ok progress) journal honest =
      let x = found xs (function_of room) low in
      let y = found ys (function_of room) (subst (λ (n : ℕ). function_of room < n) (sym count) low) in
      let played = journal honest (sound.going none) x.0 y.0 x.1 y.1 in
      turned honest x.0 y.0 x.1 y.1 None (acknowledged disk.seen new) [] played.1.advances played.2 refl (λ e. refl)
  into (Err halt) journal honest =
      let x = found xs (function_of room) low in
      let y = found ys (function_of room) (subst (λ (n : ℕ). function_of room < n) (sym count) low) in
      let left = journal honest (sound.going none) x.0 y.0 x.1 y.1 in
      turned honest x.0 y.0 x.1 y.1 (Some (record { room = room; halt = halt })) left.0 (left_over room (words_of (f y.0) (pass_of room)) halt.pending) left.1 left.2
      (sym (ap (λ (o : Option (Four T1 T2 T3 T4)). left_in o room halt.pending) (map_at f ys (function_of room) y.0 y.1)))
      (λ e. absurd (cc))

  pub sound_now : (result : Result Progress Halt)
      → (disk.is_honest old.disk → old.going ≡ true → (x y : X) → slice_get xs (function_of room) ≡ Some x → slice_get ys (function_of room) ≡ Some y
      → PlayedIn texts disk old new room result (f x) (f y))
      → IfOk result (λ progress. new.going ≡ old.going)
      → IsSoundBy texts disk new (map f ys) (halted_by room result)
  sound_now (Ok progress) journal went = record {
    journal = served.sound;
    going = λ e. went ∙ sound.going none;
    own = seats_now;
    of_runs = of_runs_now;
    upto = λ honest. let i = into (Ok progress) journal (served.honest.0 honest) in (i.upto, i.stands, i.all);
  }
  sound_now (Err halt) journal went = record {
    journal = served.sound;
    going = λ e. absurd (cc);
    own = seats_now;
    of_runs = of_runs_now;
    upto = λ honest. let i = into (Err halt) journal (served.honest.0 honest) in (i.upto, i.stands, i.all);
  }

  pub told_now : (progress : Progress)
      → (disk.is_honest old.disk → old.going ≡ true → (x y : X) → slice_get xs (function_of room) ≡ Some x → slice_get ys (function_of room) ≡ Some y
      → PlayedIn texts disk old new room (Ok progress) (f x) (f y))
      → disk.is_honest old.disk → (x y : X) → slice_get xs (function_of room) ≡ Some x → slice_get ys (function_of room) ≡ Some y
      → turn_of progress ≡ turn_of (progress_of (words_of (f x) (pass_of room)).node.learned (words_of (f y) (pass_of room)).node.learned (ltb (length (acknowledged disk.seen old)) (length (acknowledged disk.seen new))))
  told_now progress journal honest x y p q =
      let played = journal honest (sound.going none) x y p q in
      ap turn_of (played.3 ∙ ap (λ (m : Bool). progress_of (words_of (f x) (pass_of room)).node.learned (words_of (f y) (pass_of room)).node.learned m) played.1.moved)

-- the cause, with the pending record as the stopped node tells it
pub stops_for : {D X T1 T2 T3 T4 : Type 0} (disk : disks.Ghosts D) (f : X → Four T1 T2 T3 T4) (TooLarge : Type 0) (old new : Log D) (room : ℕ) (ys : List X) (halt : Halt) (y : X)
    → slice_get ys (function_of room) ≡ Some y
    → HasHaltCause disk TooLarge old new (left_over room (words_of (f y) (pass_of room)) halt.pending) halt.fault
    → HasHaltCause disk TooLarge old new (left_in (slice_get (map f ys) (function_of room)) room halt.pending) halt.fault
stops_for {D} {X} {T1} {T2} {T3} {T4} disk f TooLarge old new room ys halt y is cause =
    subst (λ (o : Option (Four T1 T2 T3 T4)). HasHaltCause disk TooLarge old new (left_in o room halt.pending) halt.fault) (sym (map_at f ys (function_of room) y is)) cause
