-- Rooms of a function, one behind the other: which are settled where one is told.
use Rattle.std.proofs.Common.{◌≡◌, ◌⊎◌, inl, inr, ℕ, zero, suc, ◌+◌, ◌*◌, ◌<◌, ◌≤◌, List, refl, sym, ap, subst, ◌∙◌, arith}
use Rattle.std.specs.Global.{Vec}
use Rattle.paxos_core_world.specs.KeptPart.{KeptPart}
use Rattle.paxos_core_world.specs.Quorum.{Sizes}
use Rattle.paxos_core_world.specs.Settled.{Settled}
use Rattle.paxos_core_world.specs.World.{nodes_of}
use Rattle.rooms.specs.Opened.{AreOffersOf}
use Rattle.rooms.specs.declared.error.RoomError.{RoomError}
use Rattle.rooms.specs.declared.error.RoomError.TheVariants as error
use Rattle.farm_nodes_turn_passes.specs.FunctionOffers.{FunctionOffers}
use Rattle.farm_nodes_turn_passes.specs.Opened.{kept_of_pass}
use Rattle.farm_nodes_turn_passes.specs.Opened as by_pass
use Rattle.farm_nodes_turn_passes.specs.declared.which.Which.{Which}
use Rattle.farm_nodes_turn_passes.specs.declared.which.Which.TheVariants.{Constants, Expressions, Allocation, Order}
use Rattle.farm_nodes_turn_passes.specs.Numbers.{function_of, room_at}
use Rattle.farm_nodes_open_numbers.specs.Kept.{four_kept, kept_of, parts_of, AreSettled, AreSettledBefore, IsOfferedIn, IsSettledIn}
use Rattle.farm_nodes_open_numbers.specs.declared.fault.RoomFault.{RoomFault}
use Rattle.farm_nodes_open_numbers.specs.declared.fault.RoomFault.TheVariants.{CellRefused, NoMemory, Spent, Unsettled}
use Rattle.farm_nodes_open_numbers.proofs.Left.{who_offered}
use Rattle.farm_nodes_open_numbers.proofs.OneRoom.{map-map}
use Rattle.farm_nodes_open_rooms.specs.Function.{room_fault, IsRoomFault}

of_function : (f : ℕ) (pass : Which) (room : ℕ) → room ≡ room_at f pass → function_of room ≡ f
of_function f Constants room is = omega (arith, is)
of_function f Expressions room is = omega (arith, is)
of_function f Allocation room is = omega (arith, is)
of_function f Order room is = omega (arith, is)

module _ (q : Sizes) (nodes : List (Vec KeptPart)) (f : ℕ) (room : ℕ) where
  none_before : room ≡ room_at f Constants → AreSettledBefore q nodes f room
  none_before is Constants lt = absurd (omega (arith, is, lt))
  none_before is Expressions lt = absurd (omega (arith, is, lt))
  none_before is Allocation lt = absurd (omega (arith, is, lt))
  none_before is Order lt = absurd (omega (arith, is, lt))

  one_before : IsSettledIn q nodes (room_at f Constants) → room ≡ room_at f Expressions → AreSettledBefore q nodes f room
  one_before a is Constants lt = a
  one_before a is Expressions lt = absurd (omega (arith, is, lt))
  one_before a is Allocation lt = absurd (omega (arith, is, lt))
  one_before a is Order lt = absurd (omega (arith, is, lt))

  two_before : IsSettledIn q nodes (room_at f Constants) → IsSettledIn q nodes (room_at f Expressions) → room ≡ room_at f Allocation → AreSettledBefore q nodes f room
  two_before a b is Constants lt = a
  two_before a b is Expressions lt = b
  two_before a b is Allocation lt = absurd (omega (arith, is, lt))
  two_before a b is Order lt = absurd (omega (arith, is, lt))

  three_before : IsSettledIn q nodes (room_at f Constants) → IsSettledIn q nodes (room_at f Expressions) → IsSettledIn q nodes (room_at f Allocation) → room ≡ room_at f Order → AreSettledBefore q nodes f room
  three_before a b c is Constants lt = a
  three_before a b c is Expressions lt = b
  three_before a b c is Allocation lt = c
  three_before a b c is Order lt = absurd (omega (arith, is, lt))

not_unsettled : (fault : RoomFault) → (fault ≡ NoMemory) ⊎ (fault ≡ Spent) → fault ≡ Unsettled → ⊥
not_unsettled fault (inl a) e = cc
not_unsettled fault (inr a) e = cc

not_refused : (fault : RoomFault) → (fault ≡ NoMemory) ⊎ (fault ≡ Spent) → fault ≡ CellRefused → ⊥
not_refused fault (inl a) e = cc
not_refused fault (inr a) e = cc

module _ (q : Sizes) (nodes : List (Vec KeptPart)) (f : ℕ) where
  pub all_settled : IsSettledIn q nodes (room_at f Constants) → IsSettledIn q nodes (room_at f Expressions) → IsSettledIn q nodes (room_at f Allocation) → IsSettledIn q nodes (room_at f Order) → AreSettled q nodes f
  all_settled a b c d Constants = a
  all_settled a b c d Expressions = b
  all_settled a b c d Allocation = c
  all_settled a b c d Order = d

  -- the room of a pass is told
  told : (pass : Which) (room : ℕ) (fault : RoomFault) → AreSettledBefore q nodes f room → room ≡ room_at f pass → (fault ≡ Unsettled → ¬ IsSettledIn q nodes (room_at f pass)) → (fault ≡ CellRefused → IsOfferedIn nodes (room_at f pass)) → IsRoomFault q nodes f room fault
  told pass room fault before is unsettled refused = record {
    of_function = of_function f pass room is;
    before = before;
    unsettled = λ e s. unsettled e (subst (λ (k : ℕ). IsSettledIn q nodes k) is s);
    refused = λ e. subst (λ (k : ℕ). IsOfferedIn nodes k) (sym is) (refused e);
  }

  module _ (room : ℕ) (fault : RoomFault) where
    pub told_first : room ≡ room_at f Constants → (fault ≡ Unsettled → ¬ IsSettledIn q nodes (room_at f Constants)) → (fault ≡ CellRefused → IsOfferedIn nodes (room_at f Constants)) → IsRoomFault q nodes f room fault
    told_first is = told Constants room fault (none_before q nodes f room is) is

    pub told_second : IsSettledIn q nodes (room_at f Constants) → room ≡ room_at f Expressions → (fault ≡ Unsettled → ¬ IsSettledIn q nodes (room_at f Expressions)) → (fault ≡ CellRefused → IsOfferedIn nodes (room_at f Expressions)) → IsRoomFault q nodes f room fault
    told_second a is = told Expressions room fault (one_before q nodes f room a is) is

    pub told_third : IsSettledIn q nodes (room_at f Constants) → IsSettledIn q nodes (room_at f Expressions) → room ≡ room_at f Allocation → (fault ≡ Unsettled → ¬ IsSettledIn q nodes (room_at f Allocation)) → (fault ≡ CellRefused → IsOfferedIn nodes (room_at f Allocation)) → IsRoomFault q nodes f room fault
    told_third a b is = told Allocation room fault (two_before q nodes f room a b is) is

    pub told_fourth : IsSettledIn q nodes (room_at f Constants) → IsSettledIn q nodes (room_at f Expressions) → IsSettledIn q nodes (room_at f Allocation) → room ≡ room_at f Order → (fault ≡ Unsettled → ¬ IsSettledIn q nodes (room_at f Order)) → (fault ≡ CellRefused → IsOfferedIn nodes (room_at f Order)) → IsRoomFault q nodes f room fault
    told_fourth a b c is = told Order room fault (three_before q nodes f room a b c is) is

    -- or there is no memory or no number for them, before a room is told
    pub told_none : room ≡ 4 * f → (fault ≡ NoMemory) ⊎ (fault ≡ Spent) → IsRoomFault q nodes f room fault
    told_none is none = told_first (omega (arith, is)) (λ e. absurd (not_unsettled fault none e)) (λ e. absurd (not_refused fault none e))

-- ---- of the passes by number

-- what was kept in the room of a pass
module _ (nodes : List (Vec KeptPart)) (f : ℕ) where
  pub kept_first : kept_of_pass 0 (parts_of nodes f) ≡ kept_of nodes (room_at f Constants)
  kept_first =
      let same : 4 * f ≡ room_at f Constants = omega arith in
      map-map (λ (parts : List KeptPart). nodes_of parts 0) (λ (node : Vec KeptPart). four_kept node.items f) nodes ∙ ap (λ (m : ℕ). kept_of nodes m) same

  pub kept_second : kept_of_pass 1 (parts_of nodes f) ≡ kept_of nodes (room_at f Expressions)
  kept_second = map-map (λ (parts : List KeptPart). nodes_of parts 1) (λ (node : Vec KeptPart). four_kept node.items f) nodes

  pub kept_third : kept_of_pass 2 (parts_of nodes f) ≡ kept_of nodes (room_at f Allocation)
  kept_third = map-map (λ (parts : List KeptPart). nodes_of parts 2) (λ (node : Vec KeptPart). four_kept node.items f) nodes

  pub kept_fourth : kept_of_pass 3 (parts_of nodes f) ≡ kept_of nodes (room_at f Order)
  kept_fourth = map-map (λ (parts : List KeptPart). nodes_of parts 3) (λ (node : Vec KeptPart). four_kept node.items f) nodes

  settled_in : (q : Sizes) (p : ℕ) (room : ℕ) → kept_of_pass p (parts_of nodes f) ≡ kept_of nodes room → by_pass.IsSettledIn q (parts_of nodes f) p → IsSettledIn q nodes room
  settled_in q p room e s = subst (λ (k : List KeptPart). Settled q (nodes_of k)) e s

  settled_back : (q : Sizes) (p : ℕ) (room : ℕ) → kept_of_pass p (parts_of nodes f) ≡ kept_of nodes room → IsSettledIn q nodes room → by_pass.IsSettledIn q (parts_of nodes f) p
  settled_back q p room e s = subst (λ (k : List KeptPart). Settled q (nodes_of k)) (sym e) s

  pub settled_all : (q : Sizes) → by_pass.AreSettled q (parts_of nodes f) → AreSettled q nodes f
  settled_all q s =
      all_settled q nodes f (settled_in q 0 (room_at f Constants) kept_first (s 0 (omega arith))) (settled_in q 1 (room_at f Expressions) kept_second (s 1 (omega arith)))
      (settled_in q 2 (room_at f Allocation) kept_third (s 2 (omega arith))) (settled_in q 3 (room_at f Order) kept_fourth (s 3 (omega arith)))

  module _ (q : Sizes) (here : FunctionOffers) (room : ℕ) (fault : RoomFault) (why : RoomError) (are : fault ≡ room_fault why)
      (o1 : AreOffersOf (kept_of nodes (room_at f Constants)) here.first.items) (o2 : AreOffersOf (kept_of nodes (room_at f Expressions)) here.second.items)
      (o3 : AreOffersOf (kept_of nodes (room_at f Allocation)) here.third.items) (o4 : AreOffersOf (kept_of nodes (room_at f Order)) here.fourth.items) where
    unsettled_is : (why : RoomError) → room_fault why ≡ Unsettled → why ≡ error.Unsettled
    unsettled_is error.NoMemory e = absurd (cc)
    unsettled_is error.Unsettled e = refl
    unsettled_is error.CellRefused e = absurd (cc)

    refused_is : (why : RoomError) → room_fault why ≡ CellRefused → why ≡ error.CellRefused
    refused_is error.NoMemory e = absurd (cc)
    refused_is error.Unsettled e = absurd (cc)
    refused_is error.CellRefused e = refl

    pub told_pass : (pass : ℕ) → by_pass.IsUnopened q (parts_of nodes f) here pass why → room + 1 ≡ 4 * f + pass → IsRoomFault q nodes f room fault
    told_pass zero is at = absurd (let some : 0 < 0 = is.some in omega arith)
    told_pass (suc zero) is at =
        told_first q nodes f room fault (omega (arith, at))
        (λ e s. is.here (unsettled_is why (sym are ∙ e)) 0 refl (settled_back q 0 (room_at f Constants) kept_first s))
        (λ e. who_offered (kept_of nodes (room_at f Constants)) here.first.items o1 (is.refused (refused_is why (sym are ∙ e))))
    told_pass (suc (suc zero)) is at =
        told_second q nodes f room fault (settled_in q 0 (room_at f Constants) kept_first (is.before 0 (omega arith))) (omega (arith, at))
        (λ e s. is.here (unsettled_is why (sym are ∙ e)) 1 refl (settled_back q 1 (room_at f Expressions) kept_second s))
        (λ e. who_offered (kept_of nodes (room_at f Expressions)) here.second.items o2 (is.refused (refused_is why (sym are ∙ e))))
    told_pass (suc (suc (suc zero))) is at =
        told_third q nodes f room fault (settled_in q 0 (room_at f Constants) kept_first (is.before 0 (omega arith)))
        (settled_in q 1 (room_at f Expressions) kept_second (is.before 1 (omega arith))) (omega (arith, at))
        (λ e s. is.here (unsettled_is why (sym are ∙ e)) 2 refl (settled_back q 2 (room_at f Allocation) kept_third s))
        (λ e. who_offered (kept_of nodes (room_at f Allocation)) here.third.items o3 (is.refused (refused_is why (sym are ∙ e))))
    told_pass (suc (suc (suc (suc zero)))) is at =
        told_fourth q nodes f room fault (settled_in q 0 (room_at f Constants) kept_first (is.before 0 (omega arith)))
        (settled_in q 1 (room_at f Expressions) kept_second (is.before 1 (omega arith))) (settled_in q 2 (room_at f Allocation) kept_third (is.before 2 (omega arith))) (omega (arith, at))
        (λ e s. is.here (unsettled_is why (sym are ∙ e)) 3 refl (settled_back q 3 (room_at f Order) kept_fourth s))
        (λ e. who_offered (kept_of nodes (room_at f Order)) here.fourth.items o4 (is.refused (refused_is why (sym are ∙ e))))
    told_pass (suc (suc (suc (suc (suc n))))) is at = absurd (let most : suc (suc (suc (suc (suc n)))) ≤ 4 = is.most in omega arith)
