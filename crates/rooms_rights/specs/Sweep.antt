-- What a sweep tells, in which a node's seat looks at the words of its room, node by node.
use Rattle.std.specs.Prelude.{◌≡◌, ◌≢◌, ℕ, zero, suc, ◌+◌, ◌*◌, ◌<◌, ◌≤◌, List, slice_index_or, slice_set, Option, Some, None}
use mathlib.Core.Option.{none}
use Rattle.atomic_table.specs.Seated.{TableId}
use Rattle.atomic_table.specs.Table.{Me, step}
use Rattle.rooms_steps.specs.Steps.{AcceptorLook, LooksAtAcceptor, LooksAtProposer, ProposerLook}
use Rattle.rooms_steps.specs.Views.{IsSeated}
use Rattle.rooms_steps.specs.View.{View}
use Rattle.rooms_table.specs.Family.{view_in}
use Rattle.rooms_table.specs.Places.{pair_of}
use Rattle.rooms_table.specs.RoomAt.{HasWords}
use Rattle.rooms_table.specs.Steps.{StepsInItsRoom}
use Rattle.rooms_table.specs.declared.view.Views.{Views}
use Rattle.rooms_rights.specs.Rights.{HasRights, Held}
use Rattle.rooms_rights.specs.declared.seen.SeenWords.{SeenWords}

-- the holder of a token of this table, which knows this, may look at the words of the nodes of a room
pub record MayLook (board : TableId) (h : Held) (count : ℕ) (table : TableId) (me : Me (Unit {0}) Views) : Type 0 where
  pub rights : HasRights board record { table = table; rooms = h.at.rooms; room = h.at.room; number = h.at.number } me.0
  pub seated : IsSeated (view_in me.0 h.at.room)
  pub words : HasWords record { table = table; rooms = h.at.rooms; room = h.at.room; number = h.at.number } (view_in me.0 h.at.room).opening.quorums.nodes
  pub nodes : (view_in me.0 h.at.room).opening.quorums.nodes ≡ count

-- it may look at the words at this place, a node's
pub record CanLook (board table : TableId) (me : Me (Unit {0}) Views) (place : ℕ) : Type 0 where
  pub held : Held
  pub count : ℕ
  pub node : ℕ
  pub may : MayLook board held count table me
  pub below : node < count
  pub stands : place ≡ 2 * pair_of held.at.rooms held.at.room node

-- it looked at both words of a node, and these numbers are what it found of its proposer's and then of its acceptor's
pub record Found (slots place : ℕ) (v : Me (Unit {0}) Views) (proposer acceptor : ℕ) (w : Me (Unit {0}) Views) : Type 0 where
  pub between : Me (Unit {0}) Views
  pub first : StepsInItsRoom {S = Unit {0}} ProposerLook (step slots place 0 0 none) v proposer between
  pub second : StepsInItsRoom {S = Unit {0}} AcceptorLook (step slots (place + 1) 0 0 none) between acceptor w

-- it may sweep the words of so many nodes, the room's
pub record MaySweep (h : Held) (n : ℕ) : Type 0 where
  pub seated : IsSeated h.me.0
  pub words : HasWords h.at h.me.0.opening.quorums.nodes
  pub count : h.me.0.opening.quorums.nodes ≡ n
  pub least : 2 ≤ n

abbrev pub none_seen : SeenWords
none_seen = record { proposer = 0; acceptor = 0 }

-- the numbers last found of node j's words
abbrev pub seen_of : List SeenWords → ℕ → SeenWords
seen_of seen j = slice_index_or seen j none_seen

-- the number found of its proposer's is put down
abbrev pub with_proposer : List SeenWords → ℕ → ℕ → List SeenWords
with_proposer seen j found = slice_set seen j (record (seen_of seen j) { proposer = found })

-- of node j it looked at the proposer's word, and put its number down, and then at the acceptor's, which was this number
pub record LookedAtNode (j number : ℕ) (v : View) (s : List SeenWords) (w : View) (t : List SeenWords) : Type 0 where
  pub found : ℕ
  pub between : View
  pub proposer : LooksAtProposer j found v between
  pub acceptor : LooksAtAcceptor j number between w
  pub put : t ≡ with_proposer s j found

-- it looked so at the first nodes, one after another, and found each acceptor's number as it was seen last
abbrev pub FoundUnchanged : ℕ → View → List SeenWords → View → List SeenWords → Type 0
FoundUnchanged zero v s w t = (w ≡ v) × (t ≡ s)
FoundUnchanged (suc j) v s w t = (u : View) × (r : List SeenWords) × FoundUnchanged j v s u r × LookedAtNode j (seen_of r j).acceptor u r w t

-- it stopped at node j, where it found another number of the acceptor's
pub record FoundChanged (j number count : ℕ) (v : View) (s : List SeenWords) (w : View) (t : List SeenWords) : Type 0 where
  pub node : j < count
  pub before : View
  pub seen : List SeenWords
  pub swept : FoundUnchanged j v s before seen
  pub looked : LookedAtNode j number before seen w t
  pub other : number ≢ (seen_of seen j).acceptor

-- it looked at all of so many nodes, or stopped at one
abbrev pub SweptTo : Option (ℕ × ℕ) → ℕ → View → List SeenWords → View → List SeenWords → Type 0
SweptTo None count v s w t = FoundUnchanged count v s w t
SweptTo (Some stop) count v s w t = FoundChanged stop.0 stop.1 count v s w t
