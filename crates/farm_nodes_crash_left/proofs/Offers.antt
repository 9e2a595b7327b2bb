-- Each offer among the records that a crash left of a node's journal is one of its room's pass.
use Rattle.std.proofs.Common.{◌≡◌, ◌⊎◌, ℕ, zero, suc, ◌*◌, ◌<◌, ◌%◌, Bool, true, false, cond, eqb, List, [], ◌∷◌, ◌++◌, append-nil, length, Option, Some, None, refl, sym, ap, subst, ◌∙◌, inl, inr, arith}
use Rattle.std.specs.List.{cons_option}
use Rattle.std.specs.Prelude.{slice_get}
use Rattle.std.proofs.lemmas.Bool.{eqb-true}
use Rattle.std.proofs.lemmas.Option.{slice_get_within, some_pair_parts}
use Rattle.lang_base.specs.declared.language.Language as language
use Rattle.lang_base.specs.declared.pass.Pass as pass
use Rattle.rtl_language.specs.contracts.language.RtlLanguage.TheImpl as rtl_language
use Rattle.ltl.specs.contracts.language.LtlLanguage.TheImpl as ltl_language
use Rattle.linear_language.specs.contracts.language.LinearLanguage.TheImpl as linear_language
use Rattle.constprop_check.specs.contracts.pass.ConstPropPass.TheImpl as constants
use Rattle.cse_check.specs.contracts.pass.CsePass.TheImpl as expressions
use Rattle.alloc_check.specs.contracts.pass.AllocPass.TheImpl as allocation
use Rattle.linearize_check.specs.contracts.pass.LinearizePass.TheImpl as order
use Rattle.acceptor_log_form.specs.declared.record.Record.{Record}
use Rattle.acceptor_log_form.specs.declared.record.Record.TheVariants.{Offered, Started, Proposed, Promised, Accepted, Summary}
use Rattle.acceptor_log_form.specs.Order.{AreInOrder}
use Rattle.paxos_core_node_steps.specs.declared.step.Step.{Step}
use Rattle.paxos_core_node_steps.specs.declared.step.Step.TheVariants as step
use Rattle.offers.specs.declared.parts.Parts.{Parts}
use Rattle.farm_nodes_turn_order.specs.Recorded.{record_of, records_of}
use Rattle.farm_nodes_turn_step.specs.declared.stop.Pending.{Pending}
use Rattle.farm_nodes_turn_step.specs.declared.stop.Pending.TheVariants.{Act, Offer}
use Rattle.rooms_seat_state.specs.Would.{would}
use Rattle.farm_nodes_turn_passes.specs.Fours.{Four, words_of}
use Rattle.farm_nodes_turn_node.specs.Held.{pending_in}
use Rattle.farm_nodes_turn_passes.specs.Numbers.{function_of, pass_at, pass_of, place_of}
use Rattle.farm_nodes_turn_passes.specs.Offers.{ConstantsOffer, ExpressionsOffer, AllocationOffer, OrderOffer, IsConstants, IsExpressions, IsAllocation, IsOrder}
use Rattle.farm_nodes_turn_passes.specs.Leaves.{left_in, IsPendingIn, Leave, MayPend}
use Rattle.farm_nodes_turn_passes.specs.Texts.{IsOwnTextIn, pass_texts}
use Rattle.farm_nodes_turn_passes.specs.declared.which.Which.{Which}
use Rattle.farm_nodes_turn_passes.specs.declared.which.Which.TheVariants.{Constants, Expressions, Allocation, Order}
use Rattle.farm_nodes_turn_node.specs.declared.halted.Halted.{Halted}
use Rattle.farm_nodes_turn_offer.specs.Pending.{IsOfferText}
use Rattle.paxos_core_world.specs.KeptPart.{KeptPart}
use Rattle.farm_nodes_turn_order.specs.OfferIn.{last_offer_in}
use Rattle.farm_nodes_turn_order.proofs.Told.{stands_alone, told_offered}
use Rattle.farm_nodes_restart_seat.proofs.Places.{some_same, there_is}
use Rattle.farm_nodes_open_stored.specs.Stored.{HasNoParts}
use Rattle.farm_nodes_open_stored.specs.Written.{all_written, written}
use Rattle.farm_nodes_open_stored.specs.Read.{HasNoOffer}
use Rattle.farm_nodes_crash_left.specs.Left.{IsWaitingWith, NodeSeats}

abbrev FarmFour : Type 0
FarmFour = Four ConstantsOffer ExpressionsOffer AllocationOffer OrderOffer

-- ---- the offers of a pass among records

record IsFound (which : Which) (rs : List Record) (y : ℕ × List ℕ) : Type 0 where
  pub at : ℕ
  pub entry : Record
  pub stands : slice_get rs at ≡ Some entry
  pub is : written which entry ≡ Some y

found_behind : (which : Which) (r : Record) (rs : List Record) (y : ℕ × List ℕ) → IsFound which rs y → IsFound which (r ∷ rs) y
found_behind which r rs y h = record { at = suc h.at; entry = h.entry; stands = h.stands; is = h.is }

found_in : (which : Which) (r : Record) (rs : List Record) (o : Option (ℕ × List ℕ)) → written which r ≡ o
    → ((at : ℕ) (y : ℕ × List ℕ) → slice_get (all_written which rs) at ≡ Some y → IsFound which rs y)
    → (at : ℕ) (y : ℕ × List ℕ) → slice_get (cons_option o (all_written which rs)) at ≡ Some y → IsFound which (r ∷ rs) y
found_in which r rs None e rest at y got = found_behind which r rs y (rest at y got)
found_in which r rs (Some z) e rest zero y got = record { at = 0; entry = r; stands = refl; is = e ∙ got }
found_in which r rs (Some z) e rest (suc at) y got = found_behind which r rs y (rest at y got)

found : (which : Which) (rs : List Record) (at : ℕ) (y : ℕ × List ℕ) → slice_get (all_written which rs) at ≡ Some y → IsFound which rs y
found which [] at y got = absurd (omega (arith, slice_get_within [] at y got))
found which (r ∷ rs) at y got = found_in which r rs (written which r) refl (found which rs) at y got

-- what is written is an offer in a room of the pass
record IsWritten (which : Which) (entry : Record) (room : ℕ) (text : List ℕ) : Type 0 where
  pub is : entry ≡ Offered room text
  pub of : pass_of room ≡ which

pass_at_place : (which : Which) → pass_at (place_of which) ≡ which
pass_at_place Constants = refl
pass_at_place Expressions = refl
pass_at_place Allocation = refl
pass_at_place Order = refl

written_if : (which : Which) (t : Bool) (a room : ℕ) (b text : List ℕ) → eqb (a % 4) (place_of which) ≡ t
    → ◌≡◌ {A = Option (ℕ × List ℕ)} (cond t (Some (a, b)) None) (Some (room, text)) → IsWritten which (Offered a b) room text
written_if which false a room b text e got = absurd (cc)
written_if which true a room b text e got =
    let same = some_pair_parts a room b text got in
    record {
      is = (λ i. Offered (same.0 i) (same.1 i));
      of = ap (λ (n : ℕ). pass_of n) (sym same.0) ∙ (ap (λ (n : ℕ). pass_at n) (eqb-true (a % 4) (place_of which) e) ∙ pass_at_place which);
    }

is_written : (which : Which) (entry : Record) (room : ℕ) (text : List ℕ) → written which entry ≡ Some (room, text) → IsWritten which entry room text
is_written which (Offered a b) room text e = written_if which (eqb (a % 4) (place_of which)) a room b text refl e
is_written which (Started a b) room text e = absurd (cc)
is_written which (Proposed a b v) room text e = absurd (cc)
is_written which (Promised a b) room text e = absurd (cc)
is_written which (Accepted a b v) room text e = absurd (cc)
is_written which (Summary a s p x) room text e = absurd (cc)

-- ---- texts of offers that their pass accepts

abbrev pub HasText : Which → List ℕ → Type 0
HasText Constants text = (x : ConstantsOffer) × IsConstants text x
HasText Expressions text = (x : ExpressionsOffer) × IsExpressions text x
HasText Allocation text = (x : AllocationOffer) × IsAllocation text x
HasText Order text = (x : OrderOffer) × IsOrder text x

-- so it is of each offer among records
abbrev pub AreOf : List Record → Type 0
AreOf rs = (k : ℕ) (r : Record) (room : ℕ) (text : List ℕ) → slice_get rs k ≡ Some r → r ≡ Offered room text → HasText (pass_of room) text

own_has : (w : Which) (s : FarmFour) (text : List ℕ) → IsOwnTextIn pass_texts w s text → HasText w text
own_has Constants s text h = (h.0, h.2)
own_has Expressions s text h = (h.0, h.2)
own_has Allocation s text h = (h.0, h.2)
own_has Order s text h = (h.0, h.2)

text_of_offered : (a b : ℕ) (s t : List ℕ) → Offered a s ≡ Offered b t → (a ≡ b) × (s ≡ t)
text_of_offered a b s t e = (cc, cc)

pending_has : (room : ℕ) (w : Which) (s : FarmFour) (r : Record) → IsPendingIn IsConstants IsExpressions IsAllocation IsOrder room w s (Offer r)
    → (bytes : List ℕ) × (r ≡ Offered room bytes) × HasText w bytes
pending_has room Constants s r h = (h.2, h.3, (h.1, h.4))
pending_has room Expressions s r h = (h.2, h.3, (h.1, h.4))
pending_has room Allocation s r h = (h.2, h.3, (h.1, h.4))
pending_has room Order s r h = (h.2, h.3, (h.1, h.4))

pub has_at : (which : Which) (rs : List Record) → AreOf rs → (at room : ℕ) (text : List ℕ) → slice_get (all_written which rs) at ≡ Some (room, text) → HasText which text
has_at which rs are at room text stands =
    let there = found which rs at (room, text) stands in
    let is = is_written which there.entry room text there.is in
    subst (λ (w : Which). HasText w text) is.of (are there.at there.entry room text there.stands is.is)

module _ {P A B C I O : Type 0} (from : language.Ghosts A I) (to : language.Ghosts B O) (by : pass.Ghosts P A B C I O) (which : Which) (rs : List Record)
    (are : AreOf rs) (texts : (text : List ℕ) → HasText which text → (x : Parts I O C) × IsOfferText from to by text x) where
  none_without : HasNoParts from to by which rs → ⊥
  none_without h =
      let x = texts h.text (has_at which rs are h.at h.room h.text h.stands) in
      h.none x.0 x.1.fits x.1.text

pub no_offer_missing : (rs : List Record) → AreOf rs → HasNoOffer rs → ⊥
no_offer_missing rs are (inl h) = none_without rtl_language.ghosts rtl_language.ghosts constants.ghosts Constants rs are (λ text x. x) h
no_offer_missing rs are (inr (inl h)) = none_without rtl_language.ghosts rtl_language.ghosts expressions.ghosts Expressions rs are (λ text x. x) h
no_offer_missing rs are (inr (inr (inl h))) = none_without rtl_language.ghosts ltl_language.ghosts allocation.ghosts Allocation rs are (λ text x. x) h
no_offer_missing rs are (inr (inr (inr h))) = none_without ltl_language.ghosts linear_language.ghosts order.ghosts Order rs are (λ text x. x) h

-- ---- the records of a node's journal

told_are : (n i rooms : ℕ) (rs : List Record) (seats : NodeSeats) → rooms ≡ 4 * length seats → AreInOrder n i rooms rs → Leave pass_texts seats rs → AreOf rs
told_are n i rooms rs seats size ordered leave k r room text at is =
    let here : slice_get rs k ≡ Some (Offered room text) = at ∙ ap (λ (x : Record). Some x) is in
    let below : room < rooms = (ordered k (Offered room text) here).0 in
    let s = there_is seats (function_of room) (omega (arith, below, size)) in
    let first : last_offer_in rs room ≡ Some text = stands_alone n i rooms rs k room text ordered here in
    let now : (words_of s.0 (pass_of room)).node.kept.offered ≡ true =
    ap (λ (x : KeptPart). x.offered) (sym (leave.rooms room s.0 s.1)) ∙ told_offered rs room text first in
    let one = leave.offers room s.0 s.1 now in
    let same : one.0 ≡ text = some_same (last_offer_in rs room) one.0 text one.1 first in
    own_has (pass_of room) s.0 text (subst (λ (t : List ℕ). IsOwnTextIn pass_texts (pass_of room) s.0 t) same one.2)

of_one : (r entry : Record) (k : ℕ) → slice_get (r ∷ []) k ≡ Some entry → r ≡ entry
of_one r entry zero at = let same : Some r ≡ Some entry = at in cc
of_one r entry (suc k) at = absurd (omega (arith, slice_get_within [] k entry at))

-- one record behind others
pushed : (xs : List Record) (r : Record) → AreOf xs → ((room : ℕ) (text : List ℕ) → r ≡ Offered room text → HasText (pass_of room) text) → AreOf (xs ++ r ∷ [])
pushed [] r are last k entry room text at is = last room text (of_one r entry k at ∙ is)
pushed (x ∷ xs) r are last zero entry room text at is = are 0 entry room text at is
pushed (x ∷ xs) r are last (suc k) entry room text at is =
    pushed xs r (λ j e m t there so. are (suc j) e m t there so) last k entry room text at is

no_step : (room m : ℕ) (s : Step) (text : List ℕ) → record_of room s ≡ Offered m text → ⊥
no_step room m (step.Start b) text e = absurd (cc)
no_step room m (step.Promise b) text e = absurd (cc)
no_step room m (step.Propose b v) text e = absurd (cc)
no_step room m (step.Accept b v) text e = absurd (cc)

with_none : (xs : List Record) → AreOf xs → AreOf (xs ++ [])
with_none xs are = subst (λ (l : List Record). AreOf l) (sym (append-nil xs)) are

with_step : (xs : List Record) (room : ℕ) (told : Option Step) → AreOf xs → AreOf (xs ++ records_of room told)
with_step xs room None are = with_none xs are
with_step xs room (Some s) are = pushed xs (record_of room s) are (λ m text e. absurd (no_step room m s text e))

with_offer_of : (xs : List Record) (room : ℕ) (r : Record) → AreOf xs → (bytes : List ℕ) × (r ≡ Offered room bytes) × HasText (pass_of room) bytes → AreOf (xs ++ r ∷ [])
with_offer_of xs room r are (bytes, is, has) =
    pushed xs r are (λ m text e.
    let same = text_of_offered room m bytes text (sym is ∙ e) in
    subst (λ (t : List ℕ). HasText (pass_of m) t) same.1 (subst (λ (n : ℕ). HasText (pass_of n) bytes) same.0 has))

module _ (seats : NodeSeats) (xs : List Record) (are : AreOf xs) where
  with_left : (room : ℕ) (p : Option Pending) (o : Option FarmFour) → slice_get seats (function_of room) ≡ o
      → MayPend IsConstants IsExpressions IsAllocation IsOrder room seats p → AreOf (xs ++ left_in o room p)
  with_left room p None there waits = with_none xs are
  with_left room None (Some t) there waits = with_none xs are
  with_left room (Some (Act a)) (Some t) there waits = with_step xs room (would (words_of t (pass_of room)) a) are
  with_left room (Some (Offer r)) (Some t) there (u, is, waits) = with_offer_of xs room r are (pending_has room (pass_of room) u r waits)

  with_halted : (halted : Option Halted) → IsWaitingWith seats halted → AreOf (xs ++ pending_in seats halted)
  with_halted None waits = with_none xs are
  with_halted (Some h) waits = with_left h.room h.halt.pending (slice_get seats (function_of h.room)) refl waits

pub records_are_of : (n i rooms : ℕ) (seats : NodeSeats) (halted : Option Halted) (upto rs : List Record) → rooms ≡ 4 * length seats → AreInOrder n i rooms upto
    → Leave pass_texts seats upto → IsWaitingWith seats halted → (rs ≡ upto) ⊎ (rs ≡ upto ++ pending_in seats halted) → AreOf rs
records_are_of n i rooms seats halted upto rs size ordered leave waits (inl e) =
    subst (λ (l : List Record). AreOf l) (sym e) (told_are n i rooms upto seats size ordered leave)
records_are_of n i rooms seats halted upto rs size ordered leave waits (inr e) =
    subst (λ (l : List Record). AreOf l) (sym e) (with_halted seats upto (told_are n i rooms upto seats size ordered leave) halted waits)
