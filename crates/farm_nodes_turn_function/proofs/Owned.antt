-- A turn leaves the texts of the offers that stand in the node's own cells.
use Rattle.std.proofs.Common.{◌≡◌, ℕ, List, sym, subst}
use Rattle.farm_nodes_turn_room.proofs.Turns.{own_seeing}
use Rattle.farm_nodes_turn_passes.specs.declared.which.Which.{Which}
use Rattle.farm_nodes_turn_passes.specs.declared.which.Which.TheVariants.{Constants, Expressions, Allocation, Order}
use Rattle.farm_nodes_turn_passes.specs.Fours.{Four}
use Rattle.farm_nodes_turn_passes.specs.Texts.{Texts, IsOwnTextIn}
use Rattle.farm_nodes_turn_function.specs.Turned.{OthersStay, StaysIn}

module _ {T1 T2 T3 T4 : Type 0} (texts : Texts T1 T2 T3 T4) where
  -- of the pass whose turn it is
  own_there : (p : Which) (s t : Four T1 T2 T3 T4) → StaysIn p s t → (text : List ℕ) → IsOwnTextIn texts p s text → IsOwnTextIn texts p t text
  own_there Constants s t stays text own = own_seeing texts.constants s.constants t.constants stays.me stays.seen text own
  own_there Expressions s t stays text own = own_seeing texts.expressions s.expressions t.expressions stays.me stays.seen text own
  own_there Allocation s t stays text own = own_seeing texts.allocation s.allocation t.allocation stays.me stays.seen text own
  own_there Order s t stays text own = own_seeing texts.order s.order t.order stays.me stays.seen text own

  -- of each
  pub own_stays : (p q : Which) (s t : Four T1 T2 T3 T4) → StaysIn p s t → OthersStay p s t → (text : List ℕ) → IsOwnTextIn texts q s text → IsOwnTextIn texts q t text
  own_stays Constants Constants s t stays others text own = own_there Constants s t stays text own
  own_stays Constants Expressions s t stays others text own = subst (λ (u : Four T1 T2 T3 T4). IsOwnTextIn texts Expressions u text) (sym others) own
  own_stays Constants Allocation s t stays others text own = subst (λ (u : Four T1 T2 T3 T4). IsOwnTextIn texts Allocation u text) (sym others) own
  own_stays Constants Order s t stays others text own = subst (λ (u : Four T1 T2 T3 T4). IsOwnTextIn texts Order u text) (sym others) own
  own_stays Expressions Constants s t stays others text own = subst (λ (u : Four T1 T2 T3 T4). IsOwnTextIn texts Constants u text) (sym others) own
  own_stays Expressions Expressions s t stays others text own = own_there Expressions s t stays text own
  own_stays Expressions Allocation s t stays others text own = subst (λ (u : Four T1 T2 T3 T4). IsOwnTextIn texts Allocation u text) (sym others) own
  own_stays Expressions Order s t stays others text own = subst (λ (u : Four T1 T2 T3 T4). IsOwnTextIn texts Order u text) (sym others) own
  own_stays Allocation Constants s t stays others text own = subst (λ (u : Four T1 T2 T3 T4). IsOwnTextIn texts Constants u text) (sym others) own
  own_stays Allocation Expressions s t stays others text own = subst (λ (u : Four T1 T2 T3 T4). IsOwnTextIn texts Expressions u text) (sym others) own
  own_stays Allocation Allocation s t stays others text own = own_there Allocation s t stays text own
  own_stays Allocation Order s t stays others text own = subst (λ (u : Four T1 T2 T3 T4). IsOwnTextIn texts Order u text) (sym others) own
  own_stays Order Constants s t stays others text own = subst (λ (u : Four T1 T2 T3 T4). IsOwnTextIn texts Constants u text) (sym others) own
  own_stays Order Expressions s t stays others text own = subst (λ (u : Four T1 T2 T3 T4). IsOwnTextIn texts Expressions u text) (sym others) own
  own_stays Order Allocation s t stays others text own = subst (λ (u : Four T1 T2 T3 T4). IsOwnTextIn texts Allocation u text) (sym others) own
  own_stays Order Order s t stays others text own = own_there Order s t stays text own
