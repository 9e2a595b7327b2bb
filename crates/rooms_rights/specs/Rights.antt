-- A node's rights in one room of a table, as if the room were alone.
use Rattle.std.specs.Prelude.{◌≡◌, ◌≢◌, ℕ, ◌*◌, ◌<◌, [], false}
use Rattle.atomic_table.specs.Seated.{TableId}
use Rattle.atomic_table.specs.Table.{Me, Allows}
use Rattle.rooms_steps.specs.Deal.{dealing}
use Rattle.rooms_steps.specs.Rule.{RoomRule}
use Rattle.rooms_steps.specs.Views.{IsSeated}
use Rattle.rooms_steps.specs.Opening.{Opening}
use Rattle.rooms_steps.specs.View.{View}
use Rattle.rooms_table.specs.Family.{opening_in, rooms_in, view_in}
use Rattle.rooms_table.specs.RoomAt.{HasWords, RoomAt}
use Rattle.rooms_table.specs.declared.view.Openings.{Openings}
use Rattle.rooms_table.specs.declared.view.Views.{Views}

-- which room, which token, and what the token's holder knows of the room
pub record Held : Type 0 where
  pub at : RoomAt
  pub id : ℕ
  pub me : Me (Unit {0}) View

-- the token has rights in this room of this table, and in no other
pub record HasRights (board : TableId) (at : RoomAt) (v : Views) : Type 0 where
  pub same : at.table ≡ board
  pub number : at.room < at.rooms
  pub rooms : rooms_in v ≡ at.rooms
  pub quiet : (other : ℕ) → other < at.rooms → other ≢ at.room → (view_in v other).live ≡ false

-- a node's seat may take a step on this word of the room, after which the word is f of what it was
pub record MayStep (h : Held) (word : ℕ) (f : ℕ → ℕ) (then : ℕ → Me (Unit {0}) View → Type 0) : Type 0 where
  pub seated : IsSeated h.me.0
  pub words : HasWords h.at h.me.0.opening.quorums.nodes
  pub below : word < 2 * h.me.0.opening.quorums.nodes
  pub allowed : (o : Opening) → Allows (RoomRule o) h.at.table.slots h.id h.me word f then

-- the rights of all nodes of a room that has just been opened, in this table
pub record IsOpened (o : Openings) (table : TableId) (room : ℕ) (h : Held) : Type 0 where
  pub at : h.at ≡ record { table = table; rooms = o.rooms; room = room; number = o.number }
  pub me : h.me ≡ (dealing (opening_in o room) 0, [])
  pub words : HasWords h.at (opening_in o room).quorums.nodes

-- there are nodes left whose seats may be dealt out: from this one on
pub record MayDeal (h : Held) (k : ℕ) : Type 0 where
  pub words : HasWords h.at h.me.0.opening.quorums.nodes
  pub view : h.me.0 ≡ dealing h.me.0.opening k
  pub next : k < h.me.0.opening.quorums.nodes
