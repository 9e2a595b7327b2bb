-- The seats of three nodes of one room, after their turns and their meetings.
use Rattle.std.proofs.Common.{◌≡◌, ℕ, zero, suc, List, [], ◌++◌, Option, None, Some, Result, Ok, Err, IfOk, IfSome, refl, sym, ap, ◌∙◌, subst}
use Rattle.rooms_table.specs.RoomAt.{RoomAt}
use Rattle.lang_base.specs.declared.language.Language as language
use Rattle.lang_base.specs.declared.pass.Pass as pass
use Rattle.lang_base.specs.Keeps.{Keeps}
use Rattle.lang_base.specs.declared.program.Global.{Global}
use Rattle.offers.specs.OneFunction.{program_of_one}
use Rattle.offers.specs.declared.parts.Parts.{Parts}
use Rattle.rooms.specs.SeatValue.{SeatValue, offer_of}
use Rattle.cfarm_settle_nodes.specs.Agreed.{IsOwnOffer, IsOfferOf, IsCode, IsCodeOf, IsOwnCode, IsAgreed}
use Rattle.cfarm_settle_nodes.specs.Goes.{AllOfferFor, AreThree, SeatGoesOn, IsSeatOf, SeesNoMore}
use Rattle.cfarm_settle_nodes.specs.Learned.{IsLearnedByAll}
use Rattle.cfarm_settle_nodes.proofs.Going.{stays_on}

module _ {F G C : Type 0} (f : F) where
  seat_goes : (board : RoomAt) (shelf : List ℕ) (i : ℕ) (a b : SeatValue (Parts F G C)) → IsSeatOf board shelf i a → SeatGoesOn f a b → IsSeatOf board shelf i b
  seat_goes board shelf i a b s h =
      record {
        table = h.room.table ∙ s.table;
        cells = h.cells ∙ s.cells;
        opening = h.room.opening ∙ s.opening;
        me = h.room.me ∙ s.me;
        quorums = h.room.quorums ∙ s.quorums;
      }

  pub three_go : (a b c x y z : SeatValue (Parts F G C)) → AreThree a b c → SeatGoesOn f a x → SeatGoesOn f b y → SeatGoesOn f c z → AreThree x y z
  three_go a b c x y z s h k l =
      record {
        board = s.board;
        shelf = s.shelf;
        first = seat_goes s.board s.shelf 0 a x s.first h;
        second = seat_goes s.board s.shelf 1 b y s.second k;
        third = seat_goes s.board s.shelf 2 c z s.third l;
      }

  pub all_offer : (a b c x y z : SeatValue (Parts F G C)) → AllOfferFor f a b c → SeatGoesOn f a x → SeatGoesOn f b y → SeatGoesOn f c z → AllOfferFor f x y z
  all_offer a b c x y z s h k l = record { first = h.own s.first; second = k.own s.second; third = l.own s.third }

  -- the offer of one of them is for this input
  for_input : (node : ℕ) (x : Parts F G C) (a b c : SeatValue (Parts F G C)) → AllOfferFor f a b c → IsOfferOf node x a b c → x.input ≡ f
  for_input zero x a b c all h = all.first x h
  for_input (suc zero) x a b c all h = all.second x h
  for_input (suc (suc zero)) x a b c all h = all.third x h
  for_input (suc (suc (suc node))) x a b c all h = absurd h

module _ {P A B C I O : Type 0} (from : language.Ghosts A I) (to : language.Ghosts B O) (by : pass.Ghosts P A B C I O) where
  -- three seats that have met: what is known of the code of the node whose number all have learned
  pub agreed_code : (f : I) (node : ℕ) (code : List ℕ) (a b c x y z : SeatValue (Parts I O C)) → AreThree a b c → AllOfferFor f a b c → SeesNoMore a x → SeesNoMore b y → SeesNoMore c z
      → IsLearnedByAll x.words.view.seen node → IsCodeOf from to by node x y z code → IsAgreed from to by f x y z code
  agreed_code f node code a b c x y z three all h k l learned it =
      let on : AllOfferFor f x y z = all_offer f a b c x y z all (stays_on f a x h) (stays_on f b y k) (stays_on f c z l) in
      record {
        node = node;
        offer = it.0;
        offered = for_input f node it.0 x y z on it.1;
        agreed = record {
          room = three_go f a b c x y z three (stays_on f a x h) (stays_on f b y k) (stays_on f c z l);
          learned = learned;
          offered = it.1;
        };
        code = it.2;
      }

-- what is known of what was found, from what was known of it
pub found_too : {V E : Type 0} (r : Result (Option V) E) (X Y : V → Type 0) → ((v : V) → X v → Y v) → IfOk r (λ found. IfSome found X) → IfOk r (λ found. IfSome found Y)
found_too (Err e) X Y f h = tt
found_too (Ok None) X Y f h = tt
found_too (Ok (Some v)) X Y f h = f v h

module _ {P A B C I O : Type 0} (from : language.Ghosts A I) (to : language.Ghosts B O) (by : pass.Ghosts P A B C I O) where
  -- what was written into nothing is the code of the seat's own offer
  pub own_code_of : (s : SeatValue (Parts I O C)) (me : ℕ) (x : Parts I O C) (before after : List ℕ) (output : O) → me ≡ s.words.node.me → offer_of s me ≡ Some x
      → by.accepts x.input x.output x.certificate
      → ((globals : List Global) (name : List ℕ) → Keeps (from.run (program_of_one globals name x.input)) (to.run (program_of_one globals name x.output)))
      → before ≡ [] → output ≡ x.output → after ≡ before ++ to.spelling output → IsOwnCode from to by s after
  own_code_of s me x before after output own seen accepted keeps empty is written = (
    x,
    ap (λ (i : ℕ). offer_of s i) (sym own) ∙ seen,
    record {
      accepted = accepted;
      keeps = keeps;
      spells = written ∙ ap (λ (l : List ℕ). l ++ to.spelling output) empty ∙ ap (λ (o : O). to.spelling o) is;
    },
  )

  -- the same by the node's number
  pub code_of_node : {E V : Type 0} (items : V → List ℕ) (node k : ℕ) (a b c : SeatValue (Parts I O C)) (r : Result (Option V) E) → node ≡ k
      → IfOk r (λ found. IfSome found (λ code. IsCodeOf from to by k a b c (items code))) → IfOk r (λ found. IfSome found (λ code. IsCodeOf from to by node a b c (items code)))
  code_of_node {E} {V} items node k a b c r e h = subst (λ (n : ℕ). IfOk r (λ found. IfSome found (λ code. IsCodeOf from to by n a b c (items code)))) (sym e) h
