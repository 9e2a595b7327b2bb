pub mod Rights
pub mod Sweep
pub use Rattle.rooms_table.specs.Family
pub use Rattle.rooms_table.specs.Opened
pub use Rattle.rooms_table.specs.RoomAt
pub use Rattle.rooms_table.specs.declared.view.Openings
