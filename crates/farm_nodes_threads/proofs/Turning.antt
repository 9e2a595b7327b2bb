-- What turns leave of nodes: of one, turn by turn, and of all that took them on threads.
use Rattle.std.proofs.Common.{◌≡◌, ℕ, zero, suc, ◌<◌, ◌≤◌, ◌+◌, List, [], ◌∷◌, length, refl, sym, ap, ◌∙◌, subst, arith}
use Rattle.std.specs.Arc.{arc_value}
use Rattle.std.specs.List.{AllByRecursion, AllZip}
use Rattle.lang_base.specs.declared.program.Program.{Program}
use Rattle.rtl_language.specs.Function.{FunctionData}
use Rattle.durable_model.specs.declared.disk.Disk as disks
use Rattle.rooms_hall.specs.declared.hall.Naming as naming
use Rattle.farm_nodes_turn_node.specs.Asked.{MayBeAsked}
use Rattle.farm_nodes_turn_node.specs.Fours.{four_of, fours_of}
use Rattle.farm_nodes_turn_node.specs.Numbers.{function_of, pass_of}
use Rattle.farm_nodes_turn_node.specs.Texts.{pass_texts}
use Rattle.farm_nodes_turn_node.specs.Told.{failure_of}
use Rattle.farm_nodes_turn_node.specs.Turned.{IsTooLargeFor}
use Rattle.farm_nodes_turn_node.specs.declared.farm_node.FarmNode.{FarmNode}
use Rattle.farm_nodes_turn_node.proofs.Places.{found, map_at, map_length, map_same}
use Rattle.farm_nodes_threads_pace.specs.After.{After}
use Rattle.farm_nodes_threads_teams.specs.Taken.{HasTaken}
use Rattle.farm_nodes_threads.specs.Nodes.{CameBackNode, NodeCameBack, StopsForCause}
use Rattle.farm_nodes_threads.specs.OneTurn.{TakesTurn}
use Rattle.farm_nodes_threads.specs.Stopped.{IsStoppedFor}
use Rattle.farm_nodes_threads.proofs.Coming.{by_halt, came_none, came_once, came_through, keeps_at}
use Rattle.farm_nodes_threads.proofs.Stopping.{stop_since, stop_told, too_large_still}

-- turns behind turns
pub after_both : {X : Type 0} (turned : X → X → Type 0) (n k : ℕ) (x y z : X) → After turned n x y → After turned k y z → After turned (n + k) x z
after_both {X} turned n zero x y z first last =
    let same : n ≡ n + zero = omega arith in
    subst (λ m. After turned m x z) same (subst (λ w. After turned n x w) (sym last) first)
after_both {X} turned n (suc k) x y z first last =
    let all : After turned (n + k) x last.0 = after_both turned n k x y last.0 first last.1 in
    let more : After turned (suc (n + k)) x z = (last.0, all, last.2) in
    let same : suc (n + k) ≡ n + suc k = omega arith in
    subst (λ m. After turned m x z) same more

-- of what holds a node
pub after_held : {X Y : Type 0} (f : Y → X) (turned : X → X → Type 0) (n : ℕ) (x y : Y) → After (λ a b. turned (f a) (f b)) n x y → After turned n (f x) (f y)
after_held f turned zero x y same = ap f same
after_held f turned (suc n) x y turns = (f turns.0, after_held f turned n x turns.0 turns.1, turns.2)

module _ {D O H : Type 0} {h : naming.Ghosts H} (disk : disks.Ghosts D) where
  -- it has as many seats as before
  as_many : (x y : FarmNode D O H h) → y.program ≡ x.program → length y.seats.items ≡ length x.seats.items
  as_many x y same = y.covers ∙ (ap (λ p. length (arc_value {X = Program FunctionData} p).functions) same ∙ sym x.covers)

  -- one turn
  came_by_one : (x y : FarmNode D O H h) → TakesTurn disk x y → CameBackNode disk x y
  came_by_one x y turn =
      let long = as_many x y turn.others.program in
      came_once pass_texts disk x.log y.log (fours_of x.seats.items) (fours_of y.seats.items)
      x.halted y.halted turn.room
      (map_length four_of y.seats.items ∙ (long ∙ sym (map_length four_of x.seats.items)))
      (λ f other. map_same four_of y.seats.items x.seats.items f (turn.others.seats f other))
      (λ s t e g none. keeps_at four_of (arc_value x.program).functions turn.room x.seats.items y.seats.items
      (subst (λ n. function_of turn.room < n) x.covers turn.within) (turn.leaves.function none) s t e g)
      turn.served turn.journal
      (λ some. let same = (turn.stopped some).1 in
      (ap (λ n. n.log) same, ap (λ n. fours_of n.seats.items) same, ap (λ n. n.halted) same))

  stopped_by_one : (x y : FarmNode D O H h) → TakesTurn disk x y → StopsForCause disk x y
  stopped_by_one x y turn none =
      let at = function_of turn.room in
      let functions = (arc_value x.program).functions in
      let f = found functions at (subst (λ n. at < n) x.covers turn.within) in
      let s = found x.seats.items at turn.within in
      let t = found y.seats.items at (subst (λ n. at < n) (sym (as_many x y turn.others.program)) turn.within) in
      let others = (turn.leaves.function none f.0 f.1 s.0 t.0 s.1 t.1).others in
      stop_told disk functions (fours_of y.seats.items) (IsTooLargeFor f.0.function (pass_of turn.room) (four_of s.0)) x.log y.log y.halted (failure_of turn.told)
      (turn.tells.fault none)
      (λ large. record {
        room = turn.room;
        function = f.0;
        seat = four_of t.0;
        named = f.1;
        seated = map_at four_of y.seats.items at t.0 t.1;
        too_large = too_large_still f.0.function (pass_of turn.room) (four_of s.0) (four_of t.0) others large;
      })
      (turn.tells.cause none f.0 f.1 s.0 t.0 s.1 t.1)

  -- the device's failures are counted
  pub later_by : (n : ℕ) (x y : FarmNode D O H h) → After (TakesTurn disk) n x y → disk.faults x.log.disk ≤ disk.faults y.log.disk
  later_by zero x y same = subst (λ z. disk.faults x.log.disk ≤ disk.faults z.log.disk) (sym same) (omega arith)
  later_by (suc n) x y turns = let first = later_by n x turns.0 turns.1 in let last = turns.2.served.later in omega (arith, first, last)

  -- a stop behind turns that came back
  stops_through : (x y z : FarmNode D O H h) → y.program ≡ x.program → disk.faults x.log.disk ≤ disk.faults y.log.disk → CameBackNode disk x y → CameBackNode disk y z
      → StopsForCause disk x y → StopsForCause disk y z → StopsForCause disk x z
  stops_through x y z same later came again first last none =
      by_halt y.halted
      (λ going. stop_since disk (arc_value x.program).functions (fours_of z.seats.items) x.log y.log z.log z.halted later came.honest.1
      (subst (λ p. IsStoppedFor disk (arc_value {X = Program FunctionData} p).functions y.log z.log (fours_of z.seats.items) z.halted) same (last going)))
      (λ some. let still = again.stopped some in
      subst (λ l. IsStoppedFor disk (arc_value x.program).functions x.log l (fours_of z.seats.items) z.halted) (sym still.0)
      (subst (λ l. IsStoppedFor disk (arc_value x.program).functions x.log y.log l z.halted) (sym still.1)
      (subst (λ o. IsStoppedFor disk (arc_value x.program).functions x.log y.log (fours_of y.seats.items) o) (sym still.2) (first none))))

  pub came_back_through : (most more : ℕ) (x y z : FarmNode D O H h) → NodeCameBack disk most x y → NodeCameBack disk more y z → NodeCameBack disk (most + more) x z
  came_back_through most more x y z first last =
      let taken = first.3 in let again = last.3 in
      let both = after_both (TakesTurn disk) taken.taken again.taken x y z taken.after again.after in (
        last.0 ∙ first.0,
        came_through pass_texts disk x.log y.log z.log (fours_of x.seats.items) (fours_of y.seats.items)
            (fours_of z.seats.items) x.halted y.halted z.halted first.1 last.1,
        stops_through x y z first.0 (later_by taken.taken x y taken.after) first.1 last.1 first.2 last.2,
        record { taken = taken.taken + again.taken; counted = let a = taken.counted in let b = again.counted in omega (arith, a, b); after = both },
      )

  module _ (now : (d : D) → disk.is_honest d → (c : List ℕ) → disk.left_since d (disk.moment d) c → disk.may_leave d c) where
    -- no turn
    pub came_by_none : (most : ℕ) (x : FarmNode D O H h) → MayBeAsked disk x → NodeCameBack disk most x x
    came_by_none most x fit = (
      refl,
      came_none pass_texts disk x.log (fours_of x.seats.items) x.halted (now x.log.disk) fit.0,
      λ none. subst (λ o. IsStoppedFor disk (arc_value x.program).functions x.log x.log (fours_of x.seats.items) o) (sym none) tt,
      record { taken = 0; counted = omega arith; after = refl },
    )

    came_by : (n : ℕ) (x y : FarmNode D O H h) → MayBeAsked disk x → After (TakesTurn disk) n x y → NodeCameBack disk n x y
    came_by zero x y fit same = subst (λ z. NodeCameBack disk 0 x z) (sym same) (came_by_none 0 x fit)
    came_by (suc n) x y fit turns =
        let before = came_by n x turns.0 fit turns.1 in
        let one : NodeCameBack disk 1 turns.0 y = (
          turns.2.others.program,
          came_by_one turns.0 y turns.2,
          stopped_by_one turns.0 y turns.2,
          record { taken = 1; counted = omega arith; after = (turns.0, refl, turns.2) },
        ) in
        let same : n + 1 ≡ suc n = omega arith in
        subst (λ m. NodeCameBack disk m x y) same (came_back_through n 1 x turns.0 y before one)

    pub came_by_most : (most n : ℕ) (x y : FarmNode D O H h) → n ≤ most → MayBeAsked disk x → After (TakesTurn disk) n x y → NodeCameBack disk most x y
    came_by_most most n x y low fit turns =
        let came = came_by n x y fit turns in
        (came.0, came.1, came.2, record { taken = n; counted = low; after = turns })

    -- of all nodes, each in what holds it
    module _ {N : Type 0} (node : N → FarmNode D O H h) (most : ℕ) where
      abbrev Fit : N → Type 0
      Fit x = MayBeAsked disk (node x)

      abbrev Turned : N → N → Type 0
      Turned x y = TakesTurn disk (node x) (node y)

      pub all_stay : (xs : List N) → AllByRecursion Fit xs → AllZip (λ x y. NodeCameBack disk most (node x) (node y)) xs xs
      all_stay [] fit = tt
      all_stay (x ∷ xs) fit = (came_by_none most (node x) fit.0, all_stay xs fit.1)

      pub all_long : (xs ys : List N) → AllZip (HasTaken Turned Fit most) xs ys → length ys ≡ length xs
      all_long [] [] z = refl
      all_long [] (y ∷ ys) z = absurd z
      all_long (x ∷ xs) [] z = absurd z
      all_long (x ∷ xs) (y ∷ ys) z = ap suc (all_long xs ys z.1)

      pub all_fit : (xs ys : List N) → AllByRecursion Fit xs → AllZip (HasTaken Turned Fit most) xs ys → AllByRecursion Fit ys
      all_fit [] [] fit z = tt
      all_fit [] (y ∷ ys) fit z = absurd z
      all_fit (x ∷ xs) [] fit z = absurd z
      all_fit (x ∷ xs) (y ∷ ys) fit z = (z.0.fit fit.0, all_fit xs ys fit.1 z.1)

      pub all_came : (xs ys : List N) → AllByRecursion Fit xs → AllZip (HasTaken Turned Fit most) xs ys
          → AllZip (λ x y. NodeCameBack disk most (node x) (node y)) xs ys
      all_came [] [] fit z = tt
      all_came [] (y ∷ ys) fit z = absurd z
      all_came (x ∷ xs) [] fit z = absurd z
      all_came (x ∷ xs) (y ∷ ys) fit z =
          (came_by_most most z.0.taken (node x) (node y) z.0.counted fit.0 (after_held node (TakesTurn disk) z.0.taken x y z.0.after), all_came xs ys fit.1 z.1)
