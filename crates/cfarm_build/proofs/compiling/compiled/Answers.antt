-- Why `compiled` meets its clauses `refused` and `built`.
use Rattle.std.proofs.Common.{inl, inr, refl}
use Rattle.cfarm_build_linking.specs.Carried.{bundle_of}
use Rattle.cfarm_files.proofs.Uses.{uses_none}
use Rattle.cfarm_options.specs.Quorums.{quorums_of}
use Rattle.cfarm_build.proofs.Carrying.{carried_back, carried_of}
use Rattle.cfarm_build.proofs.Leaving.{of_both, of_lock}
use Rattle.cfarm_build.proofs.Refusing.{keeps_same, ready}
use Rattle.cfarm_build.proofs.Returned.{built_before, not_before}
use Rattle.cfarm_build.proofs.compiling.compiled.Goals as goal

-- A refused text makes nothing; behind it the lock's file and journals may have been made.
pub returns-in-Err-clause-refused : goal.returns-in-Err-clause-refused
returns-in-Err-clause-refused g c = inl (
  record { cause = c.in-Err.fault; told = refl; unprepared = c.in-Err.ensures.refused; unopened = uses_none (g.F.Files.used c.args.files.now) },
  keeps_same (g.F.Files.placed c.args.files.now),
)

pub returns-in-Err-locked-clause-refused : goal.returns-in-Err-locked-clause-refused
returns-in-Err-locked-clause-refused g c =
    let made = c.in-Ok.ensures in
    inr (
      record {
        source = c.in-Ok.source;
        source_is = ready _ _ made.accepted made.translated made.keeps made.names made.count made.digest;
        so = inl (inl (c.in-Err-locked.ensures.refused, c.in-Err-locked.ensures.unused));
      },
      of_lock c.args.options.folder.now _ _ c.in-Err-locked.ensures.made,
    )

pub returns-in-Err-given_in-clause-refused : goal.returns-in-Err-given_in-clause-refused
returns-in-Err-given_in-clause-refused g c =
    let made = c.in-Ok.ensures in
    inr (
      record {
        source = c.in-Ok.source;
        source_is = ready _ _ made.accepted made.translated made.keeps made.names made.count made.digest;
        so = inl (inl (tt, c.in-Ok-locked.ensures.unused));
      },
      of_lock c.args.options.folder.now _ _ c.in-Ok-locked.ensures.made,
    )

pub returns-in-Ok-made_under-clause-built : goal.returns-in-Ok-made_under-clause-built
returns-in-Ok-made_under-clause-built g c =
    let made = c.in-Ok.ensures in
    let lock = c.in-Ok-locked.ensures in
    let source = c.in-Ok.source in
    let options = c.args.options in
    let built = c.in-Ok-made_under.built in
    let is = ready c.args.text.now source made.accepted made.translated made.keeps made.names made.count made.digest in
    let it = c.in-Ok-made_under.ensures.built in
    record {
      source = source;
      source_is = is;
      built_in = built_before _ options c.args.files.now c.locked.new.files c.made_under.new.files lock.others lock.unused source built it;
      carried = carried_of c.args.text.now source is built.program.items (bundle_of built)
          (carried_back g.F.Disk.Disk g.F.Disk.Pair g.H.Naming (quorums_of options) options.seed options.turns source it.given it.back built it.built_is);
      made = of_both options.folder.now _ _ _ lock.made c.in-Ok-made_under.ensures.made;
    }

pub returns-in-Err-made_under-clause-refused : goal.returns-in-Err-made_under-clause-refused
returns-in-Err-made_under-clause-refused g c =
    let made = c.in-Ok.ensures in
    let lock = c.in-Ok-locked.ensures in
    let source = c.in-Ok.source in
    inr (
      record {
        source = source;
        source_is = ready c.args.text.now source made.accepted made.translated made.keeps made.names made.count made.digest;
        so = not_before _ c.args.options c.args.files.now c.locked.new.files c.made_under.new.files lock.others lock.unused source c.in-Err-made_under.fault
            c.in-Err-made_under.ensures.refused;
      },
      of_both c.args.options.folder.now _ _ _ lock.made c.in-Err-made_under.ensures.made,
    )
