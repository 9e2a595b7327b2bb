-- What a node's journal stands for is not changed by a meeting.
use Rattle.std.proofs.Common.{◌≡◌, ℕ, ◌*◌, ◌<◌, ◌≤◌, List, [], ◌++◌, map, length, slice_get, Option, Some, None, sym, ap, ◌∙◌, subst, arith, inl, inr}
use Rattle.std.proofs.lemmas.Bool.{cases_eq}
use Rattle.std.proofs.lemmas.Option.{slice_get_within}
use Rattle.paxos_core_world.specs.KeptPart.{KeptPart}
use Rattle.durable_model.specs.declared.disk.Disk as disks
use Rattle.acceptor_log_form.specs.Order.{AreInOrder}
use Rattle.acceptor_log_form.specs.declared.header.Header.{Header}
use Rattle.acceptor_log_form.specs.declared.record.Record.{Record}
use Rattle.acceptor_log.specs.declared.log.Log.{Log}
use Rattle.farm_nodes_meet_seats.specs.SeatValue.{SeatValue}
use Rattle.rooms_cells.specs.Seen.{SightOf, value_at}
use Rattle.farm_nodes_meet_seats.specs.Meeting.{Remains}
use Rattle.farm_nodes_turn_node.specs.SeatState.{SeatState}
use Rattle.farm_nodes_meet_seats.proofs.Orders.{IsSameNode}
use Rattle.farm_nodes_turn_node.specs.JournalAdvances.{AreOf}
use Rattle.farm_nodes_meet_seats.specs.Numbers.{function_of, pass_of}
use Rattle.farm_nodes_meet_seats.specs.Fours.{Four, words_of}
use Rattle.farm_nodes_meet_seats.specs.Leaves.{Leave}
use Rattle.farm_nodes_meet_seats.specs.Texts.{Texts, IsOwnTextIn}
use Rattle.farm_nodes_meet_seats.specs.Told.{IsOwnText}
use Rattle.farm_nodes_meet_seats.specs.Which.{Which}
use Rattle.farm_nodes_meet_seats.specs.Which.TheVariants.{Constants, Expressions, Allocation, Order}
use Rattle.farm_nodes_turn_node.proofs.Places.{found, mapped, map_at, map_length}
use Rattle.farm_nodes_turn_node.specs.declared.halted.Halted.{Halted}
use Rattle.farm_nodes_turn_node.specs.Held.{AreOfRuns, AreSeatsOf, AreUnproposed, IsSoundBy}
use Rattle.farm_nodes_meet_nodes.proofs.Deciding.{first_of_run, second_of_run}
use Rattle.farm_nodes_meet_seats.specs.OfRun.{IsOfRun}
use Rattle.farm_nodes_meet_seats.specs.Held.{Held}
use Rattle.farm_nodes_meet_seats.specs.Functions.{MetIn}
use Rattle.farm_nodes_meet_seats.specs.Lists.{HaveMetAll}

one_item : {S : Type 0} (o : Option S) (x y : S) → o ≡ Some x → o ≡ Some y → x ≡ y
one_item o x y e e' = cc

same_as : (s t : SeatState) → t ≡ s → IsSameNode s t
same_as s t e = record {
  me = ap (λ (u : SeatState). u.node.me) e;
  quorums = ap (λ (u : SeatState). u.node.quorums) e;
  kept = ap (λ (u : SeatState). u.node.kept) e;
  ballot = ap (λ (u : SeatState). u.node.ballot) e;
  proposed = ap (λ (u : SeatState). u.node.proposed) e;
}

of_remains : (s t : SeatState) → Remains s t → IsSameNode s t
of_remains s t r = record { me = r.me; quorums = r.quorums; kept = r.kept; ballot = r.ballot; proposed = r.under_it }

-- the text of its offer is that of a seat with the same sights
own_met : {T : Type 0} (IsText : List ℕ → T → Type 0) (a b : SeatValue T) → b.sights ≡ a.sights → Remains a.words b.words → (text : List ℕ) → IsOwnText IsText a text → IsOwnText IsText b text
own_met {T} IsText a b sights remains text own =
    (own.0, ap (λ (ss : List (SightOf T)). value_at ss b.words.node.me) sights ∙ (ap (λ (j : ℕ). value_at a.sights j) remains.me ∙ own.1), own.2)

module _ {T1 T2 T3 T4 : Type 0} where
  -- the seats, and their number
  abbrev pub four_in : Held T1 T2 T3 T4 → Four T1 T2 T3 T4
  four_in h = record {
    constants = h.constants.seat;
    expressions = h.expressions.seat;
    allocation = h.allocation.seat;
    order = h.order.seat;
    number = h.constants.claim;
  }

-- what a seat's node keeps, and the text of its offer
module _ {T1 T2 T3 T4 : Type 0} (texts : Texts T1 T2 T3 T4) where
  -- their nodes keep what they kept, and have the ballot under way that they had, and their offers
  pub record KeptIn (h h' : Held T1 T2 T3 T4) (p : Which) : Type 0 where
    pub node : IsSameNode (words_of (four_in h) p) (words_of (four_in h') p)
    pub own : (text : List ℕ) → IsOwnTextIn texts p (four_in h) text → IsOwnTextIn texts p (four_in h') text
    pub of_run : IsOfRun (words_of (four_in h) p) → IsOfRun (words_of (four_in h') p)

  kept_first : (a b a' b' : Held T1 T2 T3 T4) → MetIn a b a' b' → (p : Which) → KeptIn a a' p
  kept_first a b a' b' met Constants = record { node = of_remains a.constants.seat.words a'.constants.seat.words met.constants.first_remains; own = own_met texts.constants a.constants.seat a'.constants.seat met.constants.first_sights met.constants.first_remains; of_run = first_of_run a.constants b.constants a'.constants b'.constants met.constants }
  kept_first a b a' b' met Expressions = record { node = of_remains a.expressions.seat.words a'.expressions.seat.words met.expressions.first_remains; own = own_met texts.expressions a.expressions.seat a'.expressions.seat met.expressions.first_sights met.expressions.first_remains; of_run = first_of_run a.expressions b.expressions a'.expressions b'.expressions met.expressions }
  kept_first a b a' b' met Allocation = record { node = of_remains a.allocation.seat.words a'.allocation.seat.words met.allocation.first_remains; own = own_met texts.allocation a.allocation.seat a'.allocation.seat met.allocation.first_sights met.allocation.first_remains; of_run = first_of_run a.allocation b.allocation a'.allocation b'.allocation met.allocation }
  kept_first a b a' b' met Order = record { node = of_remains a.order.seat.words a'.order.seat.words met.order.first_remains; own = own_met texts.order a.order.seat a'.order.seat met.order.first_sights met.order.first_remains; of_run = first_of_run a.order b.order a'.order b'.order met.order }

  kept_second : (a b a' b' : Held T1 T2 T3 T4) → MetIn a b a' b' → (p : Which) → KeptIn b b' p
  kept_second a b a' b' met Constants = record { node = of_remains b.constants.seat.words b'.constants.seat.words met.constants.second_remains; own = own_met texts.constants b.constants.seat b'.constants.seat met.constants.second_sights met.constants.second_remains; of_run = second_of_run a.constants b.constants a'.constants b'.constants met.constants }
  kept_second a b a' b' met Expressions = record { node = of_remains b.expressions.seat.words b'.expressions.seat.words met.expressions.second_remains; own = own_met texts.expressions b.expressions.seat b'.expressions.seat met.expressions.second_sights met.expressions.second_remains; of_run = second_of_run a.expressions b.expressions a'.expressions b'.expressions met.expressions }
  kept_second a b a' b' met Allocation = record { node = of_remains b.allocation.seat.words b'.allocation.seat.words met.allocation.second_remains; own = own_met texts.allocation b.allocation.seat b'.allocation.seat met.allocation.second_sights met.allocation.second_remains; of_run = second_of_run a.allocation b.allocation a'.allocation b'.allocation met.allocation }
  kept_second a b a' b' met Order = record { node = of_remains b.order.seat.words b'.order.seat.words met.order.second_remains; own = own_met texts.order b.order.seat b'.order.seat met.order.second_sights met.order.second_remains; of_run = second_of_run a.order b.order a'.order b'.order met.order }

module _ {S T1 T2 T3 T4 : Type 0} (texts : Texts T1 T2 T3 T4) (view : S → Held T1 T2 T3 T4) where
  -- as many, and each keeps what it kept
  pub record HaveKept (xs xs' : List S) : Type 0 where
    pub long : length xs' ≡ length xs
    pub each : (k : ℕ) (a a' : S) → slice_get xs k ≡ Some a → slice_get xs' k ≡ Some a' → (p : Which) → KeptIn texts (view a) (view a') p

  kept_same : (xs xs' : List S) → xs' ≡ xs → HaveKept xs xs'
  kept_same xs xs' same = record {
    long = ap (λ (l : List S). length l) same;
    each = λ k a a' ea ea' p.
        let is : a ≡ a' = one_item (slice_get xs k) a a' ea (sym (ap (λ (l : List S). slice_get l k) same) ∙ ea') in
        record {
          node = same_as (words_of (four_in (view a)) p) (words_of (four_in (view a')) p) (ap (λ (x : S). words_of (four_in (view x)) p) (sym is));
          own = λ text own. subst (λ (x : S). IsOwnTextIn texts p (four_in (view x)) text) is own;
          of_run = λ h. subst (λ (x : S). IsOfRun (words_of (four_in (view x)) p)) is h;
        };
  }

  -- what has met under other names
  pub met_as : (xs ys xs' ys' us vs us' vs' : List S) (count : ℕ) → us ≡ xs → vs ≡ ys → xs' ≡ us' → ys' ≡ vs'
      → HaveMetAll us vs us' vs' count view → HaveMetAll xs ys xs' ys' count view
  met_as xs ys xs' ys' us vs us' vs' count ex ey ex' ey' met =
      subst (λ (l : List S). HaveMetAll l ys xs' ys' count view) ex
      (subst (λ (l : List S). HaveMetAll us l xs' ys' count view) ey
      (subst (λ (l : List S). HaveMetAll us vs l ys' count view) (sym ex')
      (subst (λ (l : List S). HaveMetAll us vs us' l count view) (sym ey') met)))

  pub first_kept : (xs ys xs' ys' : List S) (count : ℕ) → HaveMetAll xs ys xs' ys' count view → HaveKept xs xs'
  first_kept xs ys xs' ys' count met = elim (cases_eq (length xs) (length ys)) [
    | inl alike ↦
        let all = met.met alike in
        record {
          long = all.first;
          each = λ k a a' ea ea' p.
              let within : k < length xs = slice_get_within xs k a ea in
              let b = found ys k (omega (arith, within, alike)) in
              let b' = found ys' k (omega (arith, within, alike, all.second)) in
              let one = all.each k a b.0 a' b'.0 ea b.1 ea' b'.1 in
              kept_first texts (view a) (view b.0) (view a') (view b'.0) one p;
        }
    | inr other ↦ kept_same xs xs' (met.unlike other).0
  ]

  pub second_kept : (xs ys xs' ys' : List S) (count : ℕ) → HaveMetAll xs ys xs' ys' count view → HaveKept ys ys'
  second_kept xs ys xs' ys' count met = elim (cases_eq (length xs) (length ys)) [
    | inl alike ↦
        let all = met.met alike in
        record {
          long = all.second;
          each = λ k b b' eb eb' p.
              let within : k < length ys = slice_get_within ys k b eb in
              let a = found xs k (omega (arith, within, alike)) in
              let a' = found xs' k (omega (arith, within, alike, all.first)) in
              let one = all.each k a.0 b a'.0 b' a.1 eb a'.1 eb' in
              kept_second texts (view a.0) (view b) (view a'.0) (view b') one p;
        }
    | inr other ↦ kept_same ys ys' (met.unlike other).1
  ]

  abbrev fours : List S → List (Four T1 T2 T3 T4)
  fours xs = map (λ s. four_in (view s)) xs

  as_many : (xs xs' : List S) → HaveKept xs xs' → length (fours xs') ≡ length (fours xs)
  as_many xs xs' kept = map_length (λ (s : S). four_in (view s)) xs' ∙ (kept.long ∙ sym (map_length (λ (s : S). four_in (view s)) xs))

  -- the seat that was where one is
  at_kept : (xs xs' : List S) → HaveKept xs xs' → (m : ℕ) (t : Four T1 T2 T3 T4) → slice_get (fours xs') (function_of m) ≡ Some t
      → (s : Four T1 T2 T3 T4) × (slice_get (fours xs) (function_of m) ≡ Some s) × IsSameNode (words_of s (pass_of m)) (words_of t (pass_of m))
      × ((text : List ℕ) → IsOwnTextIn texts (pass_of m) s text → IsOwnTextIn texts (pass_of m) t text)
      × (IsOfRun (words_of s (pass_of m)) → IsOfRun (words_of t (pass_of m)))
  at_kept xs xs' kept m t e =
      let new = mapped (λ (s : S). four_in (view s)) xs' (function_of m) t e in
      let within : function_of m < length xs' = slice_get_within xs' (function_of m) new.0 new.1 in
      let old = found xs (function_of m) (subst (λ (n : ℕ). function_of m < n) kept.long within) in (
        four_in (view old.0),
        map_at (λ (s : S). four_in (view s)) xs (function_of m) old.0 old.1,
        subst (λ (u : Four T1 T2 T3 T4). IsSameNode (words_of (four_in (view old.0)) (pass_of m)) (words_of u (pass_of m))) new.2
            (kept.each (function_of m) old.0 new.0 old.1 new.1 (pass_of m)).node,
        subst (λ (u : Four T1 T2 T3 T4). (text : List ℕ) → IsOwnTextIn texts (pass_of m) (four_in (view old.0)) text → IsOwnTextIn texts (pass_of m) u text) new.2
            (kept.each (function_of m) old.0 new.0 old.1 new.1 (pass_of m)).own,
        subst (λ (u : Four T1 T2 T3 T4). IsOfRun (words_of (four_in (view old.0)) (pass_of m)) → IsOfRun (words_of u (pass_of m))) new.2
            (kept.each (function_of m) old.0 new.0 old.1 new.1 (pass_of m)).of_run,
      )

  leave_kept : (xs xs' : List S) (rs : List Record) → HaveKept xs xs' → Leave texts (fours xs) rs → Leave texts (fours xs') rs
  leave_kept xs xs' rs kept leave = record {
    rooms = λ m t e. let old = at_kept xs xs' kept m t e in leave.rooms m old.0 old.1 ∙ sym old.2.kept;
    no_others = λ m above. leave.no_others m (subst (λ (n : ℕ). n ≤ function_of m) (as_many xs xs' kept) above);
    offers = λ m t e now.
        let old = at_kept xs xs' kept m t e in
        let told = leave.offers m old.0 old.1 (ap (λ (k : KeptPart). k.offered) (sym old.2.kept) ∙ now) in
        (told.0, told.1, old.3 told.0 told.2);
  }

  seats_kept : (h : Header) (xs xs' : List S) → HaveKept xs xs' → AreSeatsOf h (fours xs) → AreSeatsOf h (fours xs')
  seats_kept h xs xs' kept own = record {
    me = λ m t e. let old = at_kept xs xs' kept m t e in old.2.me ∙ own.me m old.0 old.1;
    quorums = λ m t e. let old = at_kept xs xs' kept m t e in old.2.quorums ∙ own.quorums m old.0 old.1;
  }

  of_runs_kept : (xs xs' : List S) → HaveKept xs xs' → AreOfRuns (fours xs) → AreOfRuns (fours xs')
  of_runs_kept xs xs' kept of m t e = let old = at_kept xs xs' kept m t e in old.4 (of m old.0 old.1)

  unproposed_kept : (xs xs' : List S) (rs : List Record) → HaveKept xs xs' → AreUnproposed (fours xs) rs → AreUnproposed (fours xs') rs
  unproposed_kept xs xs' rs kept fresh m t e b is none =
      let old = at_kept xs xs' kept m t e in fresh m old.0 old.1 b (sym old.2.ballot ∙ is) (sym old.2.proposed ∙ none)

  sound_going : {D : Type 0} (disk : disks.Ghosts D) (log : Log D) (xs xs' : List S)
      → HaveKept xs xs' → IsSoundBy texts disk log (fours xs) None → IsSoundBy texts disk log (fours xs') None
  sound_going disk log xs xs' kept sound = record {
    journal = sound.journal;
    going = sound.going;
    own = seats_kept log.header xs xs' kept sound.own;
    of_runs = of_runs_kept xs xs' kept sound.of_runs;
    upto = λ honest.
        let u = sound.upto honest in (
          u.0,
          record {
            leave = leave_kept xs xs' u.0 kept u.1.leave;
            named = subst (λ (n : ℕ). AreOf (4 * n) u.0) (sym (as_many xs xs' kept)) u.1.named;
            in_order = subst (λ (n : ℕ). AreInOrder log.header.nodes log.header.node (4 * n) (u.0 ++ [])) (sym (as_many xs xs' kept)) u.1.in_order;
            unproposed = unproposed_kept xs xs' u.0 kept u.1.unproposed;
            left = u.1.left;
          },
          u.2,
        );
  }

  -- a node that is not stopped stays sound, whatever became of its seats, where they keep what they kept
  pub sound_kept : {D : Type 0} (disk : disks.Ghosts D) (log : Log D) (xs xs' : List S)
      (halted : Option Halted) → halted ≡ None → HaveKept xs xs'
      → IsSoundBy texts disk log (fours xs) halted → IsSoundBy texts disk log (fours xs') halted
  sound_kept disk log xs xs' halted none kept sound =
      subst (λ (h : Option Halted). IsSoundBy texts disk log (fours xs') h) (sym none)
      (sound_going disk log xs xs' kept (subst (λ (h : Option Halted). IsSoundBy texts disk log (fours xs) h) none sound))
