-- The bundle first, then the program.
use Rattle.std.proofs.Common.{[], inl}
use Rattle.cfarm_files.proofs.Uses.{uses_none_behind}
use Rattle.cfarm_build_folder.proofs.placing.place_both.Goals as goal

pub returns-in-Err-clause-refused : goal.returns-in-Err-clause-refused
returns-in-Err-clause-refused g c = inl (record { refused = c.in-Err.ensures.refused; whole = c.in-Err.ensures.whole })

-- no disk is opened by the one or the other
pub returns-in-Ok-place-clause-unused : goal.returns-in-Ok-place-clause-unused
returns-in-Ok-place-clause-unused g c =
    uses_none_behind (g.F.Files.used c.args.files.now) (g.F.Files.used c.place_given.new.files) (g.F.Files.used c.place.new.files) []
    c.place_given.ensures.unused c.place.ensures.unused

pub returns-in-Err-place-clause-unused : goal.returns-in-Err-place-clause-unused
returns-in-Err-place-clause-unused g c =
    uses_none_behind (g.F.Files.used c.args.files.now) (g.F.Files.used c.place_given.new.files) (g.F.Files.used c.place.new.files) []
    c.place_given.ensures.unused c.place.ensures.unused
