-- What stands in `alloc_check_rules` and is cited above.
pub use Rattle.alloc_check_rules.proofs.Locations.{back_fits, covers_none, frame_put, globals_put, frame_moves, globals_moves, is_same, same_itself}
