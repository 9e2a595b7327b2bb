-- Why `perform` meets its clause `does`, and it may call `build` and `look`.
use Rattle.std.proofs.Common.{subst}
use Rattle.cfarm_program.specs.Met.{AreMet}
use Rattle.cfarm_program_status.proofs.Answering.{plainly}
use Rattle.cfarm_program.proofs.Placing.{keeps_files}
use Rattle.cfarm_program.proofs.performing.perform.Goals as goal

pub returns-in-Check-clause-does : goal.returns-in-Check-clause-does
returns-in-Check-clause-does g c =
    let it = c.check.ensures.does in
    rw c.in-Check.is (it.0, (keeps_files _ _, it.1), it.2)

pub returns-in-Interpret-clause-does : goal.returns-in-Interpret-clause-does
returns-in-Interpret-clause-does g c =
    let it = c.run_text.ensures.does in
    rw c.in-Interpret.is (it.0, (keeps_files _ _, it.1), it.2)

pub returns-in-Exec-clause-does : goal.returns-in-Exec-clause-does
returns-in-Exec-clause-does g c =
    let it = c.run_bytes.ensures.does in
    rw c.in-Exec.is (it.0, (keeps_files _ _, it.1), it.2)

pub returns-in-Settle-clause-does : goal.returns-in-Settle-clause-does
returns-in-Settle-clause-does g c =
    let it = c.lay_out.ensures.does in
    rw c.in-Settle.is (it.0, (keeps_files _ _, it.1), plainly c.args.is_seen it.0 _ _ _ it.2)

pub returns-in-Simulate-clause-does : goal.returns-in-Simulate-clause-does
returns-in-Simulate-clause-does g c =
    let it = c.play.ensures.does in
    rw c.in-Simulate.is (it.0, (keeps_files _ _, it.1), plainly c.args.is_seen it.0 _ _ _ it.2)

pub build-requires-clause-met : goal.build-requires-clause-met
build-requires-clause-met g c κs within = subst AreMet c.in-Build.is c.requires.met

pub returns-in-Show-clause-does : goal.returns-in-Show-clause-does
returns-in-Show-clause-does g c =
    let it = c.show_text.ensures.does in
    rw c.in-Show.is (it.0, (keeps_files _ _, it.1), plainly c.args.is_seen it.0 _ _ _ it.2)

pub returns-in-List-clause-does : goal.returns-in-List-clause-does
returns-in-List-clause-does g c =
    let it = c.list_records.ensures.does in
    rw c.in-List.is (it.0, (keeps_files _ _, it.1), plainly c.args.is_seen it.0 _ _ _ it.2)

pub returns-in-Verify-clause-does : goal.returns-in-Verify-clause-does
returns-in-Verify-clause-does g c =
    let it = c.verify_files.ensures.does in
    rw c.in-Verify.is (it.0, (keeps_files _ _, it.1), plainly c.args.is_seen it.0 _ _ _ it.2)

pub returns-in-Emit-clause-does : goal.returns-in-Emit-clause-does
returns-in-Emit-clause-does g c =
    let it = c.emit_form.ensures.does in
    rw c.in-Emit.is (it.0, (keeps_files _ _, it.1), plainly c.args.is_seen it.0 _ _ _ it.2)

pub returns-in-Judge-clause-does : goal.returns-in-Judge-clause-does
returns-in-Judge-clause-does g c =
    let it = c.judge_offer.ensures.does in
    rw c.in-Judge.is (it.0, (keeps_files _ _, it.1), plainly c.args.is_seen it.0 _ _ _ it.2)

pub returns-in-Native-clause-does : goal.returns-in-Native-clause-does
returns-in-Native-clause-does g c =
    let it = c.write_native.ensures.does in
    rw c.in-Native.is (it.0, it.1, plainly c.args.is_seen it.0 _ _ _ it.2)

pub look-requires-clause-met : goal.look-requires-clause-met
look-requires-clause-met g c κs within = subst AreMet c.in-Fsck.is c.requires.met

pub returns-in-Fsck-clause-does : goal.returns-in-Fsck-clause-does
returns-in-Fsck-clause-does g c =
    let it = c.look.ensures.does in
    rw c.in-Fsck.is (it.0, it.1, plainly c.args.is_seen it.0 _ _ _ it.2)
