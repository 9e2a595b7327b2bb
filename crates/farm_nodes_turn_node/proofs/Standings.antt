-- What stands behind a turn in one room: the journal stands for what the node keeps.
use Rattle.std.proofs.Common.{◌≡◌, ◌≢◌, ℕ, ◌*◌, ◌<◌, ◌≤◌, Bool, true, false, eqb, List, ◌++◌, length, slice_get, Option, Some, None, refl, sym, ap, ◌∙◌, subst, arith}
use Rattle.std.proofs.lemmas.Bool.{eqb-true, eq-eqb}
use Rattle.durable_model.specs.declared.disk.Disk as disks
use Rattle.durable_model.specs.Moments.{LeavesOnly}
use Rattle.paxos_core_world.specs.KeptPart.{KeptPart}
use Rattle.acceptor_log_form.specs.declared.header.Header.{Header}
use Rattle.acceptor_log_form.specs.declared.record.Record.{Record}
use Rattle.acceptor_log_form.specs.Leaves.{kept_in}
use Rattle.acceptor_log_form.specs.Lists.{Begins, Between}
use Rattle.acceptor_log_writing.specs.OneOf.{Either}
use Rattle.acceptor_log_form.specs.Order.{AreInOrder}
use Rattle.acceptor_log.specs.declared.log.Log.{Log}
use Rattle.acceptor_log.specs.Acknowledged.{acknowledged}
use Rattle.farm_nodes_turn_function.specs.SeatState.{SeatState}
use Rattle.farm_nodes_turn_function.specs.JournalAdvances.{JournalAdvances, AreOf}
use Rattle.farm_nodes_turn_function.specs.Numbers.{function_of, pass_of}
use Rattle.farm_nodes_turn_node.specs.declared.halted.Halted.{Halted}
use Rattle.farm_nodes_turn_function.specs.Fours.{Four, words_of}
use Rattle.farm_nodes_turn_function.specs.Leaves.{Leave}
use Rattle.farm_nodes_turn_node.specs.Held.{pending_in, AreUnproposed}
use Rattle.farm_nodes_turn_function.specs.Told.{last_offer_in, IsToldAs}
use Rattle.farm_nodes_turn_function.specs.Texts.{Texts, IsOwnTextIn}
use Rattle.farm_nodes_turn_function.specs.Turned.{OthersStay, StaysIn}
use Rattle.farm_nodes_turn_node.specs.Stood.{TurnsBy}
use Rattle.farm_nodes_turn_function.proofs.Owned.{own_stays}
use Rattle.farm_nodes_turn_function.proofs.Places.{same_room, words_other}
use Rattle.farm_nodes_turn_function.proofs.Told.{offer_stays}

apart : (m n : ℕ) → eqb m n ≡ false → m ≢ n
apart m n e same = let bad : true ≡ false = sym (eq-eqb m n same) ∙ e in absurd (cc)

-- a turn in the room, between two lists of seats
module _ {T1 T2 T3 T4 : Type 0} (room : ℕ) (old new : List (Four T1 T2 T3 T4)) (s t : Four T1 T2 T3 T4)
    (was : slice_get old (function_of room) ≡ Some s) (is : slice_get new (function_of room) ≡ Some t)
    (others : (f : ℕ) → f ≢ function_of room → slice_get new f ≡ slice_get old f) (stay : OthersStay (pass_of room) s t) where
  there : (m : ℕ) (u : Four T1 T2 T3 T4) → function_of m ≡ function_of room → slice_get new (function_of m) ≡ Some u → t ≡ u
  there m u f e = let both : Some t ≡ Some u = sym is ∙ (ap (λ (k : ℕ). slice_get new k) (sym f) ∙ e) in cc

  -- what is so of each room's words before is so after, where it is so of the room's own and stays so of others
  module _ (Old New : ℕ → SeatState → Type 0) (own : Old room (words_of s (pass_of room)) → New room (words_of t (pass_of room)))
      (rest : (m : ℕ) (w : SeatState) → m ≢ room → Old m w → New m w)
      (each : (m : ℕ) (u : Four T1 T2 T3 T4) → slice_get old (function_of m) ≡ Some u → Old m (words_of u (pass_of m))) where
    turned_at : (m : ℕ) (u : Four T1 T2 T3 T4) → slice_get new (function_of m) ≡ Some u → (b d : Bool) → eqb m room ≡ b → eqb (function_of m) (function_of room) ≡ d
        → New m (words_of u (pass_of m))
    turned_at m u e true d p q =
        let same : m ≡ room = eqb-true m room p in
        let now : t ≡ u = there m u (ap (λ (k : ℕ). function_of k) same) e in
        subst (λ (k : ℕ). New k (words_of u (pass_of k))) (sym same)
        (subst (λ (v : Four T1 T2 T3 T4). New room (words_of v (pass_of room))) now (own (each room s was)))
    turned_at m u e false true p q =
        let f : function_of m ≡ function_of room = eqb-true (function_of m) (function_of room) q in
        let now : t ≡ u = there m u f e in
        let differs : pass_of m ≡ pass_of room → ⊥ = (λ (same : pass_of m ≡ pass_of room). apart m room p (same_room m room f same)) in
        subst (λ (v : Four T1 T2 T3 T4). New m (words_of v (pass_of m))) now
        (subst (λ (w : SeatState). New m w) (sym (words_other (pass_of room) (pass_of m) s t differs stay))
        (rest m (words_of s (pass_of m)) (apart m room p) (each m s (ap (λ (k : ℕ). slice_get old k) f ∙ was))))
    turned_at m u e false false p q =
        rest m (words_of u (pass_of m)) (apart m room p) (each m u (sym (others (function_of m) (apart (function_of m) (function_of room) q)) ∙ e))

    pub turned_rooms : (m : ℕ) (u : Four T1 T2 T3 T4) → slice_get new (function_of m) ≡ Some u → New m (words_of u (pass_of m))
    turned_rooms m u e = turned_at m u e (eqb m room) (eqb (function_of m) (function_of room)) refl refl

  -- the records tell the offers that stand in the node's cells
  module _ (texts : Texts T1 T2 T3 T4) (before upto : List Record) (stood : Leave texts old before) (stays : StaysIn (pass_of room) s t)
      (n i rooms : ℕ) (order : AreInOrder n i rooms upto) (begins : Begins before upto)
      (made : (words_of s (pass_of room)).node.kept.offered ≡ false → (words_of t (pass_of room)).node.kept.offered ≡ true
      → IsToldAs (IsOwnTextIn texts (pass_of room) t) (last_offer_in upto room)) where
    carried : (m : ℕ) (u v : Four T1 T2 T3 T4) → slice_get old (function_of m) ≡ Some u → (words_of u (pass_of m)).node.kept.offered ≡ true
        → ((text : List ℕ) → IsOwnTextIn texts (pass_of m) u text → IsOwnTextIn texts (pass_of m) v text) → IsToldAs (IsOwnTextIn texts (pass_of m) v) (last_offer_in upto m)
    carried m u v at had own =
        let is = stood.offers m u at had in
        (is.0, offer_stays n i rooms m before upto begins order (ap (λ (k : KeptPart). k.offered) (stood.rooms m u at) ∙ had) ∙ is.1, own is.0 is.2)

    here : (b : Bool) → (words_of s (pass_of room)).node.kept.offered ≡ b → (words_of t (pass_of room)).node.kept.offered ≡ true
        → IsToldAs (IsOwnTextIn texts (pass_of room) t) (last_offer_in upto room)
    here true had now = carried room s t was had (own_stays texts (pass_of room) (pass_of room) s t stays stay)
    here false had now = made had now

    told_at : (m : ℕ) (u : Four T1 T2 T3 T4) → slice_get new (function_of m) ≡ Some u → (b d : Bool) → eqb m room ≡ b → eqb (function_of m) (function_of room) ≡ d
        → (words_of u (pass_of m)).node.kept.offered ≡ true → IsToldAs (IsOwnTextIn texts (pass_of m) u) (last_offer_in upto m)
    told_at m u e true d p q now =
        let same : m ≡ room = eqb-true m room p in
        let now_is : t ≡ u = there m u (ap (λ (k : ℕ). function_of k) same) e in
        let has : (words_of t (pass_of room)).node.kept.offered ≡ true =
        ap (λ (v : Four T1 T2 T3 T4). (words_of v (pass_of room)).node.kept.offered) now_is ∙ (ap (λ (k : ℕ). (words_of u (pass_of k)).node.kept.offered) (sym same) ∙ now) in
        subst (λ (k : ℕ). IsToldAs (IsOwnTextIn texts (pass_of k) u) (last_offer_in upto k)) (sym same)
        (subst (λ (v : Four T1 T2 T3 T4). IsToldAs (IsOwnTextIn texts (pass_of room) v) (last_offer_in upto room)) now_is
        (here (words_of s (pass_of room)).node.kept.offered refl has))
    told_at m u e false true p q now =
        let f : function_of m ≡ function_of room = eqb-true (function_of m) (function_of room) q in
        let now_is : t ≡ u = there m u f e in
        let differs : pass_of m ≡ pass_of room → ⊥ = (λ (same : pass_of m ≡ pass_of room). apart m room p (same_room m room f same)) in
        let had : (words_of s (pass_of m)).node.kept.offered ≡ true =
        ap (λ (w : SeatState). w.node.kept.offered) (sym (words_other (pass_of room) (pass_of m) s t differs stay))
        ∙ (ap (λ (v : Four T1 T2 T3 T4). (words_of v (pass_of m)).node.kept.offered) now_is ∙ now) in
        subst (λ (v : Four T1 T2 T3 T4). IsToldAs (IsOwnTextIn texts (pass_of m) v) (last_offer_in upto m)) now_is
        (carried m s t (ap (λ (k : ℕ). slice_get old k) f ∙ was) had (own_stays texts (pass_of room) (pass_of m) s t stays stay))
    told_at m u e false false p q now =
        carried m u u (sym (others (function_of m) (apart (function_of m) (function_of room) q)) ∙ e) now (λ text own. own)

    told_turned : (m : ℕ) (u : Four T1 T2 T3 T4) → slice_get new (function_of m) ≡ Some u → (words_of u (pass_of m)).node.kept.offered ≡ true
        → IsToldAs (IsOwnTextIn texts (pass_of m) u) (last_offer_in upto m)
    told_turned m u e now = told_at m u e (eqb m room) (eqb (function_of m) (function_of room)) refl refl now

    -- and they leave what the seats keep
    pub stands_turned : (kept_in before room ≡ (words_of s (pass_of room)).node.kept → kept_in upto room ≡ (words_of t (pass_of room)).node.kept)
        → ((m : ℕ) → m ≢ room → kept_in upto m ≡ kept_in before m) → function_of room < length old → length new ≡ length old → Leave texts new upto
    stands_turned own rest low same = record {
      rooms = turned_rooms (λ m w. kept_in before m ≡ w.node.kept) (λ m w. kept_in upto m ≡ w.node.kept) own (λ m w other e. rest m other ∙ e) stood.rooms;
      no_others = λ m above.
          let other : m ≢ room = (λ (e : m ≡ room). let high : length new ≤ function_of room = subst (λ (k : ℕ). length new ≤ function_of k) e above in omega arith) in
          rest m other ∙ stood.no_others m (omega arith);
      offers = told_turned;
    }

module _ {D T1 T2 T3 T4 : Type 0} (texts : Texts T1 T2 T3 T4) (disk : disks.Ghosts D) where
  pub turns_into : (old new : Log D) (seats : List (Four T1 T2 T3 T4)) (halted : Option Halted) (room : ℕ) (s t : SeatState) (upto pending : List Record)
      → new.header ≡ old.header → JournalAdvances disk old new room s t upto pending
      → pending ≡ pending_in seats halted → Leave texts seats upto → AreOf (4 * length seats) upto
      → AreInOrder new.header.nodes new.header.node (4 * length seats) (upto ++ pending_in seats halted) → AreUnproposed seats upto → (halted ≡ None → upto ≡ acknowledged disk.seen new)
      → TurnsBy texts disk old new seats halted
  turns_into old new seats halted room s t upto pending header advances same stands named in_order unproposed all = record {
    upto = upto;
    longer = advances.longer;
    stands = record {
      leave = stands;
      named = named;
      in_order = in_order;
      unproposed = unproposed;
      left = λ c left.
          subst (λ (h : Header). Either h upto (upto ++ pending_in seats halted) c) (sym header)
          (subst (λ (p : List Record). Either old.header upto (upto ++ p) c) same (advances.left c left));
    };
    all = all;
    any_moment = subst (λ (p : List Record). LeavesOnly disk.moment disk.left_since old.disk new.disk (Between old.header (acknowledged disk.seen old) (upto ++ p))) same advances.any_moment;
  }
