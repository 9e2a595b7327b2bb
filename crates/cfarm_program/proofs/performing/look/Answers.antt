-- Why `look` meets its clause `does`.
use Rattle.std.proofs.Common.{subst}
use Rattle.paxos_core_world.specs.Quorum.{Sizes}
use Rattle.cfarm_fsck_files.specs.Looking.{Looked}
use Rattle.cfarm_program.proofs.performing.look.Goals as goal

pub returns-clause-does : goal.returns-clause-does
returns-clause-does g c =
    let it = c.look_through.ensures.does in
    let told : Sizes → Type 0 = λ q. Looked g.F.Files c.args.files.now c.look_through.new.files
    c.args.options.folder.now q c.args.text.now it.0 (g.W.Write.contents c.args.out.now.taker) (g.W.Write.contents c.look_through.new.out.taker) in
    (it.0, subst told c.in-Some.ensures.1 it.1, it.2)
