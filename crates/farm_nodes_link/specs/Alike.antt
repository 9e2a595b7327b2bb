-- Two nodes that have met, and that link one program.
use Rattle.std.specs.Prelude.{◌≡◌, ℕ, List, length, slice_get, Option, Some}
use Rattle.lang_base.specs.declared.program.Program.{Program}
use Rattle.rooms_hall.specs.declared.hall.Naming as naming
use Rattle.rtl_language.specs.Function as rtl
use Rattle.linear_language.specs.Function as linear
use Rattle.farm_nodes_meet_seats.specs.NumberedSeat.{NumberedSeat}
use Rattle.farm_nodes_meet_seats.specs.Held.{held_of}
use Rattle.farm_nodes_meet_seats.specs.Lists.{HaveMetAll}
use Rattle.farm_nodes_link.specs.Going.{SeatsGoOn}
use Rattle.farm_nodes_link.specs.Learned.{FourOffers, learned_by, IsUndecided}
use Rattle.farm_nodes_link.specs.Offered.{linked_offers}

-- the four offers that were learned of a function are learned still
pub record KeepsLearned (old new : List (Option FourOffers)) : Type 0 where
  pub count : length new ≡ length old
  pub each : (k : ℕ) (offers : FourOffers) → slice_get old k ≡ Some (Some offers) → slice_get new k ≡ Some (Some offers)

module _ {H : Type 0} {h : naming.Ghosts H} where
  -- they have these seats since a meeting that counted all functions
  pub record HaveCountedAll (xs ys : List (NumberedSeat H h)) : Type 0 where
    pub first : List (NumberedSeat H h)
    pub second : List (NumberedSeat H h)
    pub alike : length first ≡ length second
    pub met : HaveMetAll first second xs ys (length first) held_of

  -- They met, and all functions were counted, so that in each room they are of one; today's seats go on from those, and what each had learned
  -- then it has still.
  pub record HaveCounted (xs ys : List (NumberedSeat H h)) : Type 0 where
    pub first : List (NumberedSeat H h)
    pub second : List (NumberedSeat H h)
    pub counted : HaveCountedAll first second
    pub first_on : SeatsGoOn first xs
    pub second_on : SeatsGoOn second ys
    pub first_keeps : KeepsLearned (learned_by first) (learned_by xs)
    pub second_keeps : KeepsLearned (learned_by second) (learned_by ys)

  -- they have these seats since a meeting that did not count all functions of both
  pub record HaveMissed (xs ys : List (NumberedSeat H h)) : Type 0 where
    pub first : List (NumberedSeat H h)
    pub second : List (NumberedSeat H h)
    pub count : ℕ
    pub met : HaveMetAll first second xs ys count held_of
    pub missed : count ≡ length xs → count ≡ length ys → ⊥

  -- none is undecided, they have learned the same offers, and all programs that these link are one
  pub record LinkOne (program : Program rtl.FunctionData) (xs ys : List (NumberedSeat H h)) : Type 0 where
    pub first : IsUndecided (learned_by xs) → ⊥
    pub second : IsUndecided (learned_by ys) → ⊥
    pub same : learned_by xs ≡ learned_by ys
    pub one : (p q : Program linear.FunctionData) → p ≡ linked_offers program (learned_by xs) → q ≡ linked_offers program (learned_by ys) → p ≡ q

  -- a meeting that counted all functions counts
  abbrev pub MeetingCounts : List (NumberedSeat H h) → List (NumberedSeat H h) → Type 0
  MeetingCounts xs ys = HaveCountedAll xs ys → HaveCounted xs ys

  -- nodes that met, and were counted, link one program
  abbrev pub CountedLinkOne : Program rtl.FunctionData → List (NumberedSeat H h) → List (NumberedSeat H h) → Type 0
  CountedLinkOne program xs ys = HaveCounted xs ys → LinkOne program xs ys
