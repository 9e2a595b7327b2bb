-- The offers of the nodes are those of the nodes that have kept that they made one.
use Rattle.std.proofs.Common.{◌≡◌, ℕ, ◌*◌, ◌<◌, List, length, Option, Some, None, sym, ap, ◌∙◌, arith}
use Rattle.std.specs.Prelude.{slice_get, is_some}
use Rattle.std.specs.Global.{Vec}
use Rattle.std.proofs.lemmas.List.{length-map}
use Rattle.std.proofs.lemmas.Option.{get_or_from_slice_get}
use Rattle.lang_base.specs.declared.language.Language as language
use Rattle.lang_base.specs.declared.pass.Pass as pass
use Rattle.rtl_language.specs.contracts.language.RtlLanguage.TheImpl as rtl_language
use Rattle.ltl.specs.contracts.language.LtlLanguage.TheImpl as ltl_language
use Rattle.linear_language.specs.contracts.language.LinearLanguage.TheImpl as linear_language
use Rattle.constprop_check.specs.contracts.pass.ConstPropPass.TheImpl as constants
use Rattle.farm_nodes_open_stored.specs.CsePass.TheImpl as expressions
use Rattle.farm_nodes_open_stored.specs.AllocPass.TheImpl as allocation
use Rattle.farm_nodes_open_stored.specs.LinearizePass.TheImpl as order
use Rattle.paxos_core_world.specs.KeptPart.{KeptPart, nothing_kept}
use Rattle.paxos_core_world.specs.World.{nodes_of}
use Rattle.acceptor_log_form.specs.Leaves.{kept_in}
use Rattle.acceptor_log_form.specs.declared.record.Record.{Record}
use Rattle.offers.specs.declared.parts.Parts.{Parts}
use Rattle.farm_nodes_open_lists.specs.Opened.{offer_at}
use Rattle.farm_nodes_open_rooms.specs.Numbers.{place_of, room_at}
use Rattle.farm_nodes_open_rooms.specs.Which.{Which}
use Rattle.farm_nodes_open_rooms.specs.Which.TheVariants.{Constants, Expressions, Allocation, Order}
use Rattle.farm_nodes_open_stored.specs.Known.{AreKnown}
use Rattle.farm_nodes_open_stored.specs.Stored.{IsStored}
use Rattle.farm_nodes_open_stored.specs.FarmNodesOpenOffersStored.{Stored}
use Rattle.farm_nodes_open_rooms.specs.Kept.{kept_of}
use Rattle.farm_nodes_open_rooms.specs.Opened.{AreOfferedIn}
use Rattle.farm_nodes_open_lists.specs.Rows.{offers_of, rows_of}
use Rattle.farm_nodes_open_rooms.proofs.Seated.{kept_at}
use Rattle.farm_nodes_open_stored.specs.Nodes.{AreMade}
use Rattle.farm_nodes_open_stored.specs.Read.{AreKept, IsKeptPart}
use Rattle.farm_nodes_open_stored.specs.Checked.{AllOffers, AreNodesOffers, AreOffers, IsOffersPart, WereAccepted}
use Rattle.farm_nodes_open_seats.proofs.Lists.{at_map, found_at}

place_low : (which : Which) → place_of which < 4
place_low Constants = omega arith
place_low Expressions = omega arith
place_low Allocation = omega arith
place_low Order = omega arith

-- a function's rooms are among those of all
pub room_low : (functions f : ℕ) (which : Which) → f < functions → room_at f which < 4 * functions
room_low functions f which below = omega (arith, below, place_low which)

-- a node's offer for a function stands at the node's place among all for it
pub offer_there : {T : Type 0} (offers : List (Vec (Option T))) (f i : ℕ) (o : Vec (Option T)) (x : Option T) → slice_get offers i ≡ Some o → slice_get o.items f ≡ Some x → offer_at (offers_of (rows_of offers) f) i ≡ x
offer_there {T} offers f i o x at is =
    let in_row : slice_get (offers_of (rows_of offers) f) i ≡ Some (offer_at o.items f) =
    at_map (λ (row : List (Option T)). offer_at row f) (rows_of offers) i o.items (at_map (λ (v : Vec (Option T)). v.items) offers i o at) in
    get_or_from_slice_get (offers_of (rows_of offers) f) i (offer_at o.items f) None in_row ∙ get_or_from_slice_get o.items f x None is

module _ {J P A B C I O : Type 0} (from : language.Ghosts A I) (to : language.Ghosts B O) (by : pass.Ghosts P A B C I O) (which : Which) (functions : ℕ)
    (law : (which : Which) (rs : List Record) (functions : ℕ) (stored : Stored (Parts I O C)) (offers : List (Option (Parts I O C))) → IsStored from to by which rs stored → AreKnown functions stored offers
    → (f : ℕ) → f < functions → (offer : Option (Parts I O C)) → slice_get offers f ≡ Some offer → (kept_in rs (room_at f which)).offered ≡ is_some offer)
    (journals : List (J × Vec Record)) (kept : List (Vec KeptPart)) (offers : List (Vec (Option (Parts I O C))))
    (are_kept : AreMade (IsKeptPart functions (length journals)) journals (length journals) kept)
    (are_offers : AreMade (IsOffersPart from to by which functions) journals (length journals) offers) where
  rows_size : (f : ℕ) → length (offers_of (rows_of offers) f) ≡ length journals
  rows_size f = length-map (rows_of offers) _ ∙ length-map offers _ ∙ are_offers.count

  kept_size : (room : ℕ) → length (kept_of kept room) ≡ length journals
  kept_size room = length-map kept _ ∙ are_kept.count

  made : (f : ℕ) → f < functions → (i : ℕ) → i < length (kept_of kept (room_at f which)) → (nodes_of (kept_of kept (room_at f which)) i).offered ≡ is_some (offer_at (offers_of (rows_of offers) f) i)
  made f below i low =
      let room : ℕ = room_at f which in
      let within : i < length journals = omega (arith, low, kept_size room) in
      let j : (j : J × Vec Record) × (slice_get journals i ≡ Some j) = found_at journals i within in
      let k : (k : Vec KeptPart) × (slice_get kept i ≡ Some k) = found_at kept i (omega (arith, within, are_kept.count)) in
      let o : (o : Vec (Option (Parts I O C))) × (slice_get offers i ≡ Some o) = found_at offers i (omega (arith, within, are_offers.count)) in
      let part : AreKept functions (length journals) i j.0.1.items k.0.items = are_kept.each i j.0 k.0 j.1 k.1 in
      let ours : AreOffers from to by which functions j.0.1.items o.0.items = are_offers.each i j.0 o.0 j.1 o.1 in
      let x : (x : Option (Parts I O C)) × (slice_get o.0.items f ≡ Some x) = found_at o.0.items f (omega (arith, below, ours.known.count)) in
      let offer : offer_at (offers_of (rows_of offers) f) i ≡ x.0 = offer_there offers f i o.0 x.0 o.1 x.1 in
      let low_room : room < 4 * functions = room_low functions f which below in
      ap (λ (p : KeptPart). p.offered) (kept_at kept room i k.0 k.1 ∙ get_or_from_slice_get k.0.items room (kept_in j.0.1.items room) nothing_kept (part.each room low_room))
      ∙ law which j.0.1.items functions ours.stored o.0.items ours.written ours.known f below x.0 x.1 ∙ ap is_some (sym offer)

  pub offered_in : AreOfferedIn kept which functions (rows_of offers)
  offered_in f below = record { size = rows_size f ∙ sym (kept_size (room_at f which)); made = made f below }

-- what each node has of a pass
offers_at : {J P A B C I O : Type 0} (from : language.Ghosts A I) (to : language.Ghosts B O) (by : pass.Ghosts P A B C I O) (which : Which) (functions : ℕ) (journals : List (J × Vec Record)) (offers : List (Vec (Option (Parts I O C))))
    → AreMade (IsOffersPart from to by which functions) journals (length journals) offers → (i : ℕ) (j : J × Vec Record) → i < length journals → slice_get journals i ≡ Some j → (o : Vec (Option (Parts I O C))) × AreOffers from to by which functions j.1.items o.items
offers_at {J} {P} {A} {B} {C} {I} {O} from to by which functions journals offers are i j low at =
    let o : (o : Vec (Option (Parts I O C))) × (slice_get offers i ≡ Some o) = found_at offers i (omega (arith, low, are.count)) in
    (o.0, are.each i j o.0 at o.1)

-- the passes accept all of them
pub accepted_all : {J : Type 0} (functions : ℕ) (journals : List (J × Vec Record)) (offers : AllOffers) → AreNodesOffers functions journals offers → WereAccepted journals (length journals)
accepted_all functions journals offers are i j low at =
    let o1 = offers_at rtl_language.ghosts rtl_language.ghosts constants.ghosts Constants functions journals offers.constants.items are.constants i j low at in
    let o2 = offers_at rtl_language.ghosts rtl_language.ghosts expressions.ghosts Expressions functions journals offers.expressions.items are.expressions i j low at in
    let o3 = offers_at rtl_language.ghosts ltl_language.ghosts allocation.ghosts Allocation functions journals offers.allocation.items are.allocation i j low at in
    let o4 = offers_at ltl_language.ghosts linear_language.ghosts order.ghosts Order functions journals offers.order.items are.order i j low at in
    record {
      stored = record { constants = o1.1.stored; expressions = o2.1.stored; allocation = o3.1.stored; order = o4.1.stored };
      written = record { constants = o1.1.written; expressions = o2.1.written; allocation = o3.1.written; order = o4.1.written };
      accepted = record { constants = o1.1.accepted; expressions = o2.1.accepted; allocation = o3.1.accepted; order = o4.1.accepted };
    }
