-- What the journal on a pair that a crash left of a node's holds: of each room what the journal of the node's seat there may hold.
use Rattle.std.proofs.Common.{◌≡◌, ◌⊎◌, ℕ, List, [], ◌∷◌, ◌++◌, Option, Some, None, refl, sym, ap, subst, ◌∙◌, inl, inr}
use Rattle.std.specs.Prelude.{slice_get}
use Rattle.durable_model.specs.declared.disk.Disk as disks
use Rattle.durable_pair.specs.declared.pair.Pair as pairs
use Rattle.durable_pair.specs.Images.{IsSpent}
use Rattle.paxos_core_world.specs.Quorum.{Sizes}
use Rattle.acceptor_log_form.specs.declared.errors.LogError.{LogError}
use Rattle.acceptor_log_form.specs.declared.header.Header.{Header}
use Rattle.acceptor_log_form.specs.declared.record.Record.{Record}
use Rattle.acceptor_log_form.specs.Leaves.{kept_in}
use Rattle.acceptor_log_form.specs.Lists.{Between}
use Rattle.acceptor_log_form.specs.Text.{StandsFor}
use Rattle.acceptor_log_form.proofs.Between.{between-lists, between-no_fault}
use Rattle.acceptor_log_writing.proofs.Either.{either-between}
use Rattle.acceptor_log.specs.declared.log.Log.{Log}
use Rattle.rooms_seat_state.specs.SeatState.{SeatState}
use Rattle.rooms_crash.specs.Held.{MayHold}
use Rattle.farm_nodes_turn_step.specs.declared.stop.Pending.{Pending}
use Rattle.farm_nodes_turn_step.specs.declared.stop.Pending.TheVariants.{Act, Offer}
use Rattle.farm_nodes_turn_passes.specs.Fours.{Four, words_of}
use Rattle.farm_nodes_turn_node.specs.Held.{pending_in, IsJournalOf}
use Rattle.farm_nodes_turn_passes.specs.Numbers.{function_of, pass_of}
use Rattle.farm_nodes_turn_passes.specs.Offers.{ConstantsOffer, ExpressionsOffer, AllocationOffer, OrderOffer, IsConstants, IsExpressions, IsAllocation, IsOrder}
use Rattle.farm_nodes_turn_passes.specs.Leaves.{left_in, IsPendingIn, MayPend}
use Rattle.farm_nodes_turn_passes.specs.Texts.{pass_texts}
use Rattle.farm_nodes_turn_passes.specs.declared.which.Which.{Which}
use Rattle.farm_nodes_turn_passes.specs.declared.which.Which.TheVariants.{Constants, Expressions, Allocation, Order}
use Rattle.farm_nodes_turn_node.specs.declared.halted.Halted.{Halted}
use Rattle.farm_nodes_open_journals.specs.Journals.{header_of, IsDueTo, IsDueToJournal, IsOpened}
use Rattle.farm_nodes_open_journals.specs.WhichJournal.{WhichJournal, CountsOn}
use Rattle.farm_nodes_open_journals.specs.WhichJournal as which
use Rattle.farm_nodes_crash_left.specs.Left.{IsLeftOf, IsNode, IsWaitingWith, NodeSeats}
use Rattle.farm_nodes_crash_left.proofs.Pending.{holds_none, holds_pending, one_at_most, with_or_without, MayWait}

abbrev FarmFour : Type 0
FarmFour = Four ConstantsOffer ExpressionsOffer AllocationOffer OrderOffer

same_some : {A : Type 0} (x : Option A) (a b : A) → x ≡ Some a → x ≡ Some b → a ≡ b
same_some x a b e f = let same : Some a ≡ Some b = sym e ∙ f in cc

-- what is pending in a room is a step asked of a node of it, or an offer in it
waits_in : (room : ℕ) (w : Which) (s : FarmFour) (p : Pending) → IsPendingIn IsConstants IsExpressions IsAllocation IsOrder room w s p → MayWait room (words_of s w) p
waits_in room Constants s (Act a) h = h
waits_in room Expressions s (Act a) h = h
waits_in room Allocation s (Act a) h = h
waits_in room Order s (Act a) h = h
waits_in room Constants s (Offer r) h = (h.2, h.3)
waits_in room Expressions s (Offer r) h = (h.2, h.3)
waits_in room Allocation s (Offer r) h = (h.2, h.3)
waits_in room Order s (Offer r) h = (h.2, h.3)

-- it is one record at most
one_left : (o : Option FarmFour) (room : ℕ) (p : Option Pending) → ((r : Record) × (left_in o room p ≡ r ∷ [])) ⊎ (left_in o room p ≡ [])
one_left None room p = inr refl
one_left (Some s) room p = one_at_most room (words_of s (pass_of room)) p

one_pending : (seats : NodeSeats) (halted : Option Halted) → ((r : Record) × (pending_in seats halted ≡ r ∷ [])) ⊎ (pending_in seats halted ≡ [])
one_pending seats None = inr refl
one_pending seats (Some h) = one_left (slice_get seats (function_of h.room)) h.room h.halt.pending

-- the seat s of room m, and records that leave what it keeps
module _ (seats : NodeSeats) (m : ℕ) (s : FarmFour) (at : slice_get seats (function_of m) ≡ Some s) (upto : List Record)
    (leave : kept_in upto m ≡ (words_of s (pass_of m)).node.kept) where
  abbrev own : SeatState
  own = words_of s (pass_of m)

  idle : MayHold own (kept_in (upto ++ []) m)
  idle = holds_none m own upto leave

  one_seat : (room : ℕ) (t : FarmFour) → slice_get seats (function_of room) ≡ Some t → room ≡ m → words_of t (pass_of room) ≡ own
  one_seat room t there e =
      let same : t ≡ s = same_some (slice_get seats (function_of m)) t s (subst (λ k. slice_get seats (function_of k) ≡ Some t) e there) at in
      (λ i. words_of (same i) (pass_of (e i)))

  holds_at : (room : ℕ) (p : Option Pending) (o : Option FarmFour) → slice_get seats (function_of room) ≡ o
      → MayPend IsConstants IsExpressions IsAllocation IsOrder room seats p → MayHold own (kept_in (upto ++ left_in o room p) m)
  holds_at room p None there waits = idle
  holds_at room None (Some t) there waits = idle
  holds_at room (Some p) (Some t) there (u, is, waits) =
      let same : u ≡ t = same_some (slice_get seats (function_of room)) u t is there in
      holds_pending m own upto leave room (words_of t (pass_of room)) (one_seat room t there) p
      (waits_in room (pass_of room) t p
      (subst (λ (x : FarmFour). IsPendingIn IsConstants IsExpressions IsAllocation IsOrder room (pass_of room) x p) same waits))

  pub holds_with : (halted : Option Halted) → IsWaitingWith seats halted → MayHold own (kept_in (upto ++ pending_in seats halted) m)
  holds_with None waits = idle
  holds_with (Some h) waits = holds_at h.room h.halt.pending (slice_get seats (function_of h.room)) refl waits

  pub holds_records : (halted : Option Halted) → IsWaitingWith seats halted → (rs : List Record) → (rs ≡ upto) ⊎ (rs ≡ upto ++ pending_in seats halted)
      → MayHold own (kept_in rs m)
  holds_records halted waits rs (inl e) = inl (ap (λ (l : List Record). kept_in l m) e ∙ leave)
  holds_records halted waits rs (inr e) = subst (λ (l : List Record). MayHold own (kept_in l m)) (sym e) (holds_with halted waits)

no_header : (h : Header) (low high : List Record) (bytes : List ℕ) → bytes ≡ [] → Between h low high bytes → ⊥
no_header h low high bytes e between =
    let here : Between h low high [] = subst (λ (b : List ℕ). Between h low high b) e between in
    let bad : [] ≡ 0x43 ∷ 0x46 ∷ 0x4a ∷ 0x32 ∷ h.nodes ∷ h.promise ∷ h.accept ∷ h.node ∷ h.digest = here.stands.header in absurd (cc)

module _ {D : Type 0} (disk : disks.Ghosts D) (pair : pairs.Ghosts D) (q : Sizes) (digest : List ℕ) (functions : ℕ)
    (honest_spent : (p : D) (d : List ℕ) → disk.is_honest p → pair.old_may p d → IsSpent d)
    (new_is_left : (p : D) (c : List ℕ) → disk.is_honest p → pair.new_may p c → disk.may_leave p c)
    (i : ℕ) (log : Log D) (seats : NodeSeats) (halted : Option Halted) (node : IsNode disk pair q digest functions i log seats halted)
    (p : D) (left : IsLeftOf disk pair q digest functions log p) where
  abbrev header : Header
  header = header_of q digest i

  abbrev pub upto : List Record
  upto = (node.sound.upto node.honest).0

  pub journal : IsJournalOf pass_texts disk log seats halted upto
  journal = (node.sound.upto node.honest).1

  pub bytes_between : Between header upto (upto ++ pending_in seats halted) (disk.seen p)
  bytes_between =
      subst (λ (h : Header). Between h upto (upto ++ pending_in seats halted) (disk.seen p)) node.header
      (either-between log.header upto (upto ++ pending_in seats halted) (disk.seen p) (pending_in seats halted, refl) (journal.left (disk.seen p) (new_is_left log.disk (disk.seen p) node.honest left.shows.left.0)))

  pub own_spent : IsSpent (pair.old_seen p)
  own_spent = left.shows.spent (honest_spent log.disk left.shows.old node.honest left.shows.left.1)

  -- it is not refused
  own_due : (fault : LogError) (what : WhichJournal) → CountsOn disk pair what p → IsDueTo disk pair header p fault what → ⊥
  own_due fault which.None none due = due
  own_due fault which.New new due = between-no_fault header upto (upto ++ pending_in seats halted) (disk.seen p) fault bytes_between due
  own_due fault which.Old old due = old own_spent

  pub own_opens : (fault : LogError) → IsDueToJournal disk pair header p fault → ⊥
  own_opens fault due = own_due fault due.0 due.1 due.2

  pub own_stands : (now : Log D) (rs : List Record) → IsOpened disk pair header p now rs → StandsFor header rs (disk.seen p)
  own_stands now rs opened =
      (opened.over left.whole which.New
      (own_spent, λ none. no_header header upto (upto ++ pending_in seats halted) (disk.seen p) none.0 bytes_between)).stands

  pub own_records : (rs : List Record) → StandsFor header rs (disk.seen p) → (rs ≡ upto) ⊎ (rs ≡ upto ++ pending_in seats halted)
  own_records rs stands =
      let both = between-lists header upto (upto ++ pending_in seats halted) rs (disk.seen p) bytes_between stands in
      with_or_without upto (pending_in seats halted) rs both.0 both.1 (one_pending seats halted)

  pub node_holds : (now : Log D) (rs : List Record) → IsOpened disk pair header p now rs → (m : ℕ) (s : FarmFour) → slice_get seats (function_of m) ≡ Some s
      → MayHold (words_of s (pass_of m)) (kept_in rs m)
  node_holds now rs opened m s at =
      holds_records seats m s at upto (journal.leave.rooms m s at) halted node.waiting rs (own_records rs (own_stands now rs opened))
