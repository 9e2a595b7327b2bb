-- What turns in the rooms of the passes up to one are, and leave.
use Rattle.std.proofs.Common.{◌≡◌, ◌≢◌, ℕ, zero, suc, ◌<◌, Bool, true, false, eqb, List, [], ◌∷◌, length, slice_get, Some, None, refl, sym, ap, ◌∙◌, subst, arith}
use Rattle.std.proofs.lemmas.Bool.{eqb-true, eq-eqb}
use Rattle.std.proofs.lemmas.Option.{slice_get_within}
use Rattle.std.specs.Arc.{arc_value}
use Rattle.std.specs.List.{AllZip}
use Rattle.lang_base.specs.declared.program.Program.{Program}
use Rattle.rtl_language.specs.Function.{FunctionData}
use Rattle.durable_model.specs.declared.disk.Disk as disks
use Rattle.rooms_hall.specs.declared.hall.Naming as naming
use Rattle.farm_nodes_turn_node.specs.Fours.{Four, four_of}
use Rattle.farm_nodes_turn_node.specs.Numbers.{function_of, pass_of, place_of}
use Rattle.farm_nodes_turn_node.specs.NumberedSeat.{NumberedSeat}
use Rattle.farm_nodes_turn_node.specs.Turned.{OthersStay}
use Rattle.farm_nodes_turn_node.specs.Which.{Which}
use Rattle.farm_nodes_turn_node.specs.Which.TheVariants.{Constants, Expressions, Allocation, Order}
use Rattle.farm_nodes_turn_node.specs.declared.farm_node.FarmNode.{FarmNode}
use Rattle.farm_nodes_turn_node.proofs.Places.{found}
use Rattle.farm_nodes_threads_pace.specs.After.{After}
use Rattle.farm_nodes_threads_teams.specs.Taken.{HasTaken}
use Rattle.farm_nodes_threads.specs.Nodes.{NodeCameBack}
use Rattle.farm_nodes_threads.specs.OneTurn.{TakesTurn}
use Rattle.farm_nodes_threads.proofs.Coming.{by_halt}
use Rattle.farm_nodes_threads_until.specs.Early.{IsSameBehind, IsSameIn, StaysBehind, TakesEarlyTurn}

module _ {T1 T2 T3 T4 : Type 0} where
  same_so : (p : Which) (s t : Four T1 T2 T3 T4) → t ≡ s → IsSameIn p s t
  same_so Constants s t same = ap (λ (u : Four T1 T2 T3 T4). u.constants) same
  same_so Expressions s t same = ap (λ (u : Four T1 T2 T3 T4). u.expressions) same
  same_so Allocation s t same = ap (λ (u : Four T1 T2 T3 T4). u.allocation) same
  same_so Order s t same = ap (λ (u : Four T1 T2 T3 T4). u.order) same

  -- where the others stay
  same_beside : (p q : Which) (s t : Four T1 T2 T3 T4) → place_of p < place_of q → OthersStay p s t → IsSameIn q s t
  same_beside Constants Constants s t low others = absurd (omega (arith, low))
  same_beside Constants Expressions s t low others = ap (λ (u : Four T1 T2 T3 T4). u.expressions) others
  same_beside Constants Allocation s t low others = ap (λ (u : Four T1 T2 T3 T4). u.allocation) others
  same_beside Constants Order s t low others = ap (λ (u : Four T1 T2 T3 T4). u.order) others
  same_beside Expressions Constants s t low others = absurd (omega (arith, low))
  same_beside Expressions Expressions s t low others = absurd (omega (arith, low))
  same_beside Expressions Allocation s t low others = ap (λ (u : Four T1 T2 T3 T4). u.allocation) others
  same_beside Expressions Order s t low others = ap (λ (u : Four T1 T2 T3 T4). u.order) others
  same_beside Allocation Constants s t low others = absurd (omega (arith, low))
  same_beside Allocation Expressions s t low others = absurd (omega (arith, low))
  same_beside Allocation Allocation s t low others = absurd (omega (arith, low))
  same_beside Allocation Order s t low others = ap (λ (u : Four T1 T2 T3 T4). u.order) others
  same_beside Order Constants s t low others = absurd (omega (arith, low))
  same_beside Order Expressions s t low others = absurd (omega (arith, low))
  same_beside Order Allocation s t low others = absurd (omega (arith, low))
  same_beside Order Order s t low others = absurd (omega (arith, low))

  same_through : (p : Which) (s t u : Four T1 T2 T3 T4) → IsSameIn p s t → IsSameIn p t u → IsSameIn p s u
  same_through Constants s t u first last = last ∙ first
  same_through Expressions s t u first last = last ∙ first
  same_through Allocation s t u first last = last ∙ first
  same_through Order s t u first last = last ∙ first

module _ {D O H : Type 0} {h : naming.Ghosts H} (disk : disks.Ghosts D) where
  as_many : (x y : FarmNode D O H h) → y.program ≡ x.program → length y.seats.items ≡ length x.seats.items
  as_many x y same = y.covers ∙ (ap (λ p. length (arc_value {X = Program FunctionData} p).functions) same ∙ sym x.covers)

  -- one turn
  pub behind_so : (until : Which) (x y : FarmNode D O H h) → y ≡ x → StaysBehind until x y
  behind_so until x y same f s t e g p low =
      let both : Some t ≡ Some s = sym g ∙ (ap (λ (n : FarmNode D O H h). slice_get n.seats.items f) same ∙ e) in
      same_so p (four_of s) (four_of t) (ap four_of (let it : t ≡ s = cc in it))

  behind_in : (until : Which) (x y : FarmNode D O H h) (turn : TakesEarlyTurn disk until x y) → x.halted ≡ None
      → (f : ℕ) (s t : NumberedSeat H h) → slice_get x.seats.items f ≡ Some s → slice_get y.seats.items f ≡ Some t
      → (b : Bool) → eqb f (function_of turn.turn.room) ≡ b → IsSameBehind until (four_of s) (four_of t)
  behind_in until x y turn none f s t e g true b p low =
      let room = turn.turn.room in
      let same : f ≡ function_of room = eqb-true f (function_of room) b in
      let named = found (arc_value x.program).functions (function_of room) (subst (λ n. function_of room < n) x.covers turn.turn.within) in
      let left = turn.turn.leaves.function none named.0 named.1 s t
      (ap (λ (k : ℕ). slice_get x.seats.items k) (sym same) ∙ e) (ap (λ (k : ℕ). slice_get y.seats.items k) (sym same) ∙ g) in
      let early = turn.early in
      same_beside (pass_of room) p (four_of s) (four_of t) (omega (arith, early, low)) left.others
  behind_in until x y turn none f s t e g false b p low =
      let room = turn.turn.room in
      let apart : f ≢ function_of room = (λ (same : f ≡ function_of room). let bad : true ≡ false = sym (eq-eqb f (function_of room) same) ∙ b in absurd (cc)) in
      let both : Some t ≡ Some s = sym g ∙ (turn.turn.others.seats f apart ∙ e) in
      same_so p (four_of s) (four_of t) (ap four_of (let it : t ≡ s = cc in it))

  behind_once : (until : Which) (x y : FarmNode D O H h) → TakesEarlyTurn disk until x y → StaysBehind until x y
  behind_once until x y turn f s t e g =
      by_halt x.halted (λ none. behind_in until x y turn none f s t e g (eqb f (function_of turn.turn.room)) refl)
      (λ some. behind_so until x y (turn.turn.stopped some).1 f s t e g)

  -- turns behind turns
  behind_through : (until : Which) (x y z : FarmNode D O H h) → length y.seats.items ≡ length x.seats.items
      → StaysBehind until x y → StaysBehind until y z → StaysBehind until x z
  behind_through until x y z long first last f s u e g p low =
      let within : f < length x.seats.items = slice_get_within x.seats.items f s e in
      let t = found y.seats.items f (omega (arith, within, long)) in
      same_through p (four_of s) (four_of t.0) (four_of u) (first f s t.0 e t.1 p low) (last f t.0 u t.1 g p low)

  -- of all, where they came back from other turns before
  pub all_behind_through : (until : Which) (most : ℕ) (xs ys zs : List (FarmNode D O H h)) → AllZip (NodeCameBack disk most) xs ys
      → AllZip (StaysBehind until) xs ys → AllZip (StaysBehind until) ys zs → AllZip (StaysBehind until) xs zs
  all_behind_through until most [] [] zs came first last = last
  all_behind_through until most [] (y ∷ ys) zs came first last = absurd came
  all_behind_through until most (x ∷ xs) [] zs came first last = absurd came
  all_behind_through until most (x ∷ xs) (y ∷ ys) [] came first last = absurd last
  all_behind_through until most (x ∷ xs) (y ∷ ys) (z ∷ zs) came first last =
      (behind_through until x y z (as_many x y came.0.0) first.0 last.0, all_behind_through until most xs ys zs came.1 first.1 last.1)

  pub all_behind_so : (until : Which) (xs : List (FarmNode D O H h)) → AllZip (StaysBehind until) xs xs
  all_behind_so until [] = tt
  all_behind_so until (x ∷ xs) = (behind_so until x x refl, all_behind_so until xs)

  long_by : (until : Which) (n : ℕ) (x y : FarmNode D O H h) → After (TakesEarlyTurn disk until) n x y → length y.seats.items ≡ length x.seats.items
  long_by until zero x y same = ap (λ (m : FarmNode D O H h). length m.seats.items) same
  long_by until (suc n) x y turns = as_many turns.0 y turns.2.turn.others.program ∙ long_by until n x turns.0 turns.1

  behind_by : (until : Which) (n : ℕ) (x y : FarmNode D O H h) → After (TakesEarlyTurn disk until) n x y → StaysBehind until x y
  behind_by until zero x y same = behind_so until x y same
  behind_by until (suc n) x y turns =
      behind_through until x turns.0 y (long_by until n x turns.0 turns.1) (behind_by until n x turns.0 turns.1) (behind_once until turns.0 y turns.2)

  -- of what holds a node, and keeps up to which pass it is asked
  module _ {N : Type 0} (node : N → FarmNode D O H h) (until : N → Which) where
    abbrev pub Turned : N → N → Type 0
    Turned x y = (until y ≡ until x) × TakesEarlyTurn disk (until x) (node x) (node y)

    early_until : (n : ℕ) (x y : N) → After Turned n x y → until y ≡ until x
    early_until zero x y same = ap until same
    early_until (suc n) x y turns = turns.2.0 ∙ early_until n x turns.0 turns.1

    early_held : (n : ℕ) (x y : N) → After Turned n x y → After (TakesEarlyTurn disk (until x)) n (node x) (node y)
    early_held zero x y same = ap node same
    early_held (suc n) x y turns = (
      node turns.0,
      early_held n x turns.0 turns.1,
      subst (λ u. TakesEarlyTurn disk u (node turns.0) (node y)) (early_until n x turns.0 turns.1) turns.2.1,
    )

    any_held : (n : ℕ) (x y : N) → After Turned n x y → After (λ a b. TakesTurn disk (node a) (node b)) n x y
    any_held zero x y same = same
    any_held (suc n) x y turns = (turns.0, any_held n x turns.0 turns.1, turns.2.1.turn)

    pub taken_any : (fit : N → Type 0) (most : ℕ) (x y : N) → HasTaken Turned fit most x y → HasTaken (λ a b. TakesTurn disk (node a) (node b)) fit most x y
    taken_any fit most x y t = record { fit = t.fit; taken = t.taken; counted = t.counted; after = any_held t.taken x y t.after }

    pub taken_behind : (fit : N → Type 0) (most : ℕ) (last : Which) (x y : N) → until x ≡ last → HasTaken Turned fit most x y → StaysBehind last (node x) (node y)
    taken_behind fit most last x y is t =
        subst (λ u. StaysBehind u (node x) (node y)) is (behind_by (until x) t.taken (node x) (node y) (early_held t.taken x y t.after))
