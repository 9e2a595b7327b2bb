-- Why `command` meets its contract.
use Rattle.cfarm_command_line_tasks.specs.Words.{build_app, check_app, emit_app, exec_app, fsck_app, interpret_app, judge_app, list_app, native_app, settle_app, show_app, sim_app, statuses_app, top_app, verify_app}
use Rattle.cfarm_command_line.proofs.command_line.command.Goals as goal

pub returns : goal.returns
returns c =
    let checking = c.with_command-checking.ensures top_app (check_app c.args.choices) c.bare.ensures c.check.ensures in
    let interpreting = c.with_command-interpreting.ensures _ (interpret_app c.args.bounds c.args.choices) checking c.interpret.ensures in
    let building = c.with_command-building.ensures _ (build_app c.args.choices) interpreting c.build.ensures in
    let executing = c.with_command-executing.ensures _ (exec_app c.args.bounds c.args.choices) building c.exec.ensures in
    let settling = c.with_command-settling.ensures _ settle_app executing c.settle.ensures in
    let playing = c.with_command-playing.ensures _ sim_app settling c.sim.ensures in
    let showing = c.with_command-showing.ensures _ show_app playing c.show.ensures in
    let listing = c.with_command-listing.ensures _ list_app showing c.list.ensures in
    let looking = c.with_command-looking.ensures _ (fsck_app c.args.choices) listing c.fsck.ensures in
    let verifying = c.with_command-verifying.ensures _ verify_app looking c.verify.ensures in
    let emitting = c.with_command-emitting.ensures _ (emit_app c.args.choices) verifying c.emit.ensures in
    let judging = c.with_command-judging.ensures _ judge_app emitting c.judge.ensures in
    let translating = c.with_command-translating.ensures _ native_app judging c.native.ensures in
    c.with_command.ensures _ statuses_app translating c.statuses.ensures
