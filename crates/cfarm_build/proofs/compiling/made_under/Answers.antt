-- Why `made_under` meets its clauses `refused`, `built` and `made`, and it may call `build` and close what that gives back.
use Rattle.std.proofs.Common.{ℕ, ap, inl, inr, refl, subst₂, sym, ◌∙◌, arith}
use Rattle.paxos_core_world.specs.Quorum.{Sizes}
use Rattle.cfarm_files.proofs.Uses.{uses_none}
use Rattle.cfarm_build_folder.specs.BuildError.TheVariants.{NoMemory}
use Rattle.cfarm_build_folder.specs.Disks.{HasNoDisk, IsJournal}
use Rattle.cfarm_build_folder.proofs.Making.{journals_of, makes_keeps, makes_none}
use Rattle.cfarm_build.specs.Built.{IsBuiltBack}
use Rattle.cfarm_build.specs.Refused.{IsUnbuilt}
use Rattle.cfarm_build.proofs.Returned.{given_back}
use Rattle.cfarm_build.proofs.compiling.made_under.Goals as goal

-- memory for the paths was refused
pub returns-in_default-clause-refused : goal.returns-in_default-clause-refused
returns-in_default-clause-refused g c = inl (inl (tt, uses_none (g.F.Files.used c.args.files.now)))

pub returns-in_default-clause-made : goal.returns-in_default-clause-made
returns-in_default-clause-made g c = makes_none (IsJournal c.args.options.folder.now) (g.F.Files.placed c.args.files.now)

-- a file of a journal is refused
pub returns-in-Err-clause-refused : goal.returns-in-Err-clause-refused
returns-in-Err-clause-refused g c =
    inl (inr (subst₂ (λ folder count. HasNoDisk (g.F.Files.may_give c.args.files.now) folder (g.F.Files.used c.args.files.now)
    (g.F.Files.used c.open_disks.new.files) count c.in-Err.fault) c.in-Some.ensures.folder c.in-Some.ensures.count c.in-Err.ensures.refused))

pub returns-in-Err-clause-made : goal.returns-in-Err-clause-made
returns-in-Err-clause-made g c = journals_of _ _ _ _ c.in-Some.ensures.folder c.in-Err.ensures.made

-- memory for the optimisers was: the disks are closed as they were
pub returns-in_default-oracles_of-clause-refused : goal.returns-in_default-oracles_of-clause-refused
returns-in_default-oracles_of-clause-refused g c =
    let disks = c.in-Ok.disks.items in
    inr (record {
      given = disks;
      back = disks;
      cause = NoMemory;
      told = refl;
      unbuilt_is = inl refl;
      given_back = given_back _ c.args.options c.args.files.now c.open_disks.new.files c.close_disks.new.files _ _ c.in-Some.ensures.folder c.in-Some.ensures.count
          disks disks c.in-Ok.ensures.given.0 c.in-Ok.ensures.given.1 c.close_disks.ensures.closes;
    })

pub returns-in_default-oracles_of-clause-made : goal.returns-in_default-oracles_of-clause-made
returns-in_default-oracles_of-clause-made g c =
    journals_of _ _ _ _ c.in-Some.ensures.folder (makes_keeps (IsJournal c.in-Some.paths.folder.now) _ _ _ c.in-Ok.ensures.made c.close_disks.ensures.kept)

pub build-made-requires-clause-size : goal.build-made-requires-clause-size
build-made-requires-clause-size g c κs within =
    c.in-Ok.ensures.given.0.count_is ∙ (c.in-Some.ensures.count ∙ sym (ap (λ (q : Sizes). q.nodes) c.requires.quorums))

pub build-made-requires-clause-oracles : goal.build-made-requires-clause-oracles
build-made-requires-clause-oracles g c κs within =
    omega (
      arith,
      c.in-Ok-oracles_of.ensures,
      c.from-nodes.ensures,
      c.nodes.ensures.value,
      ap (λ (q : Sizes). q.nodes) c.requires.quorums,
      c.in-Ok.ensures.given.0.count_is,
      c.in-Some.ensures.count,
    )

pub close_disks-requires-clause-there : goal.close_disks-requires-clause-there
close_disks-requires-clause-there g c κs within = omega (arith, c.in-Ok.ensures.given.0.count_is)

pub close_disks-requires-2-clause-there : goal.close_disks-requires-2-clause-there
close_disks-requires-2-clause-there g c κs within = omega (arith, c.build-made.ensures.back, c.in-Ok.ensures.given.0.count_is)

pub returns-in-Ok-made-clause-built : goal.returns-in-Ok-made-clause-built
returns-in-Ok-made-clause-built g c =
    let disks = c.in-Ok.disks.items in
    let back = c.build-made.result.1.items in
    record {
      given = disks;
      back = back;
      built_is = subst₂ (λ (q : Sizes) (t : ℕ). IsBuiltBack g.F.Disk.Disk g.F.Disk.Pair g.H.Naming q c.args.options.seed t c.args.source disks back c.in-Ok-made.built)
          c.requires.quorums c.from-turns.ensures (rw c.in-Ok-made.is at c.build-made.ensures.built);
      given_back = given_back _ c.args.options c.args.files.now c.open_disks.new.files c.close_disks-2.new.files _ _ c.in-Some.ensures.folder c.in-Some.ensures.count
          disks back c.in-Ok.ensures.given.0 c.in-Ok.ensures.given.1 c.close_disks-2.ensures.closes;
    }

pub returns-in-Ok-made-clause-made : goal.returns-in-Ok-made-clause-made
returns-in-Ok-made-clause-made g c =
    journals_of _ _ _ _ c.in-Some.ensures.folder (makes_keeps (IsJournal c.in-Some.paths.folder.now) _ _ _ c.in-Ok.ensures.made c.close_disks-2.ensures.kept)

pub returns-clause-refused : goal.returns-clause-refused
returns-clause-refused g c =
    let disks = c.in-Ok.disks.items in
    let back = c.build-made.result.1.items in
    inr (record {
      given = disks;
      back = back;
      cause = c.in-Err-made.fault;
      told = refl;
      unbuilt_is = subst₂ (λ (q : Sizes) (t : ℕ). IsUnbuilt g.F.Disk.Disk g.F.Disk.Pair g.H.Naming q c.args.options.seed t c.args.source disks back c.in-Err-made.fault)
          c.requires.quorums c.from-turns.ensures (rw c.in-Err-made.is at c.build-made.ensures.refused);
      given_back = given_back _ c.args.options c.args.files.now c.open_disks.new.files c.close_disks-2.new.files _ _ c.in-Some.ensures.folder c.in-Some.ensures.count
          disks back c.in-Ok.ensures.given.0 c.in-Ok.ensures.given.1 c.close_disks-2.ensures.closes;
    })

pub returns-clause-made : goal.returns-clause-made
returns-clause-made g c =
    journals_of _ _ _ _ c.in-Some.ensures.folder (makes_keeps (IsJournal c.in-Some.paths.folder.now) _ _ _ c.in-Ok.ensures.made c.close_disks-2.ensures.kept)
