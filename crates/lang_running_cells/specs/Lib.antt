pub use Rattle.machine.specs.Frames
