-- The rule of a room's words, which holds between any two steps on them.
use Rattle.std.specs.Prelude.{◌≡◌, ℕ, List}
use mathlib.Core.Option.{some}
use lib.ListN.{get_elem?}
use Rattle.atomic_table.specs.Table.{State}
use Rattle.rooms_words.specs.declared.event.Event.{Event}
use Rattle.rooms_words.specs.declared.view.Opening.{Opening}
use Rattle.rooms_words.specs.declared.view.View.{View}
use Rattle.rooms_words.specs.Views.{world_after, IsLegal, IsMine, Fits}
use Rattle.rooms_words.specs.WordsOf.{ShowsWorld}

-- no two seats may step for one node
abbrev pub AreApart : List View → Type 0
AreApart views =
    (p q i : ℕ) (v w : View) → get_elem? views p ≡ some v → get_elem? views q ≡ some w → IsMine v i → IsMine w i → p ≡ q

-- there is a run of the protocol from the room's opening, the last world of which has the room's words, and which the views
-- of all seats fit
pub record RoomRule {S : Type 0} (o : Opening) (s : State S View) : Type 0 where
  pub run : List Event
  pub legal : IsLegal o run
  pub words : ShowsWorld o.quorums.nodes (world_after o run) s.words
  pub views : (seat : ℕ) (v : View) → get_elem? s.views seat ≡ some v → Fits o run v
  pub apart : AreApart s.views
