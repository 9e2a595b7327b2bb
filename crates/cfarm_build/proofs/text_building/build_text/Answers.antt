-- Why `build_text` meets its clauses `refused` and `built`.
use Rattle.std.proofs.Common.{refl, inl}
use Rattle.cfarm_build.proofs.Putting.{has_built, has_not_built}
use Rattle.cfarm_build.proofs.text_building.build_text.Goals as goal

-- nothing is built
pub returns-in-Err-clause-refused : goal.returns-in-Err-clause-refused
returns-in-Err-clause-refused g c = inl ((rw c.in-Err.is at c.compiled-made.ensures.refused), refl)

pub returns-clause-built : goal.returns-clause-built
returns-clause-built g c =
    has_built _ c.args.options c.args.text.now c.args.files.now c.compiled-made.new.files c.put_built.new.files _ _ c.in-Ok.made.0
    (rw c.in-Ok.is at c.compiled-made.ensures.built) c.put_built.ensures.unused c.put_built.result c.put_built.ensures.put

pub returns-clause-refused : goal.returns-clause-refused
returns-clause-refused g c =
    has_not_built _ c.args.options c.args.text.now c.args.files.now c.compiled-made.new.files c.put_built.new.files _ _ c.in-Ok.made.0
    (rw c.in-Ok.is at c.compiled-made.ensures.built) c.put_built.ensures.unused c.put_built.result c.put_built.ensures.refused
