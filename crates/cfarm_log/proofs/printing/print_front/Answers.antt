-- The first line was printed, or begun.
use Rattle.cfarm_output.specs.Begun.{IsBegun}
use Rattle.cfarm_log_lines.specs.Lines.{head_line, record_lines}
use Rattle.cfarm_log.specs.Forms.{version_number}
use Rattle.cfarm_log.specs.Listing.{lines_to}
use Rattle.cfarm_log.proofs.Printed.{begun_behind, begun_longer, on_err}
use Rattle.cfarm_log.proofs.printing.print_front.Goals as goal

pub returns-in-Ok-clause-begun : goal.returns-in-Ok-clause-begun
returns-in-Ok-clause-begun g c =
    let first = head_line (version_number c.args.version) c.args.header.now in
    let lines = record_lines c.args.records.now in
    let before = g.W.Write.contents c.args.out.now in
    let mid = g.W.Write.contents c.print_head.new.out in
    let after = g.W.Write.contents c.print_records.new.out in
    on_err c.print_records.result (IsBegun lines mid after) (IsBegun (lines_to c.args.version c.args.header.now c.args.records.now) before after) c.print_records.ensures.begun
    (λ begun. begun_behind first lines before mid after c.in-Ok.ensures.ok begun)

pub returns-in-Err-clause-begun : goal.returns-in-Err-clause-begun
returns-in-Err-clause-begun g c =
    begun_longer (head_line (version_number c.args.version) c.args.header.now) (record_lines c.args.records.now) (g.W.Write.contents c.args.out.now)
    (g.W.Write.contents c.print_head.new.out) c.in-Err.ensures.begun
