-- What is answered of a journal.
use Rattle.std.proofs.Common.{List, ◌+◌, ◌-◌, length, sym, ap, subst}
use Rattle.acceptor_log_form.specs.declared.record.Record.{Record}
use Rattle.std.specs.Io.KnownBytes.{Appends}
use Rattle.cfarm_output.specs.Begun.{IsBegun}
use Rattle.cfarm_log_lines.specs.Lines.{end_line}
use Rattle.cfarm_log.specs.declared.error.ListingError.{ListingError}
use Rattle.cfarm_log.specs.Listing.{lines_to, IsListed, IsStoppedAt}
use Rattle.cfarm_log.proofs.Printed.{begun_end, begun_front, either, failed, failed_by, no_head, on_ok, place_is, stopped, whole}
use Rattle.cfarm_log.proofs.listing.list_journal.Goals as goal

pub returns-in-Err-clause-stopped : goal.returns-in-Err-clause-stopped
returns-in-Err-clause-stopped g c =
    let before = g.W.Write.contents c.args.out.now in
    subst (λ (e : ListingError). IsStoppedAt c.args.bytes.now e before before) (sym c.head_fault.ensures)
    (no_head c.args.bytes.now c.in-Err.fault before c.in-Err.ensures.refused)

pub returns-in-Err-print_front-clause-stopped : goal.returns-in-Err-print_front-clause-stopped
returns-in-Err-print_front-clause-stopped g c =
    let h = c.in-Ok.head in
    let found = c.in-Ok-read_front.found in
    let is = c.in-Ok-read_front.ensures in
    let bytes = c.args.bytes.now in
    let before = g.W.Write.contents c.args.out.now in
    let after = g.W.Write.contents c.print_front.new.out in
    failed c.in-Err-print_front.fault bytes before after c.in-Err-print_front.ensures.err
    (begun_front h.version h.header found.records.items bytes h.behind.now is.rest (either h.version h.behind.now found is) before after c.in-Ok.ensures.head is.front
    (subst (λ (rs : List Record). IsBegun (lines_to h.version h.header rs) before after) c.as_slice-records.ensures.value c.in-Err-print_front.ensures.begun))

pub returns-then-found-clause-ok : goal.returns-then-found-clause-ok
returns-then-found-clause-ok g c =
    let h = c.in-Ok.head in
    let found = c.in-Ok-read_front.found in
    let is = c.in-Ok-read_front.ensures in
    let bytes = c.args.bytes.now in
    let before = g.W.Write.contents c.args.out.now in
    let mid = g.W.Write.contents c.print_front.new.out in
    let after = g.W.Write.contents c.print_end.new.out in
    let size = length bytes - length h.behind.now + found.gate + 1 in
    let first = subst (λ (rs : List Record). Appends before mid (lines_to h.version h.header rs)) c.as_slice-records.ensures.value c.in-Ok-print_front.ensures.ok in
    on_ok c.print_end.result (Appends mid after (end_line (length c.as_slice-records.result.now) size)) (IsListed bytes before after) c.print_end.ensures.ok
    (λ last. whole h.version h.header found.records.items bytes h.behind.now is.rest size before mid after c.in-Ok.ensures.head is.front (is.at_end c.if-found.true)
    (ap (λ n. n + 1) (place_is h.version h.header bytes h.behind.now found c.in-Ok.ensures.head is)) first (subst (λ (rs : List Record). Appends mid after (end_line (length rs) size)) c.as_slice-records.ensures.value last))

pub returns-then-found-clause-stopped : goal.returns-then-found-clause-stopped
returns-then-found-clause-stopped g c =
    let h = c.in-Ok.head in
    let found = c.in-Ok-read_front.found in
    let is = c.in-Ok-read_front.ensures in
    let bytes = c.args.bytes.now in
    let before = g.W.Write.contents c.args.out.now in
    let mid = g.W.Write.contents c.print_front.new.out in
    let after = g.W.Write.contents c.print_end.new.out in
    let size = length bytes - length h.behind.now + found.gate + 1 in
    let first = subst (λ (rs : List Record). Appends before mid (lines_to h.version h.header rs)) c.as_slice-records.ensures.value c.in-Ok-print_front.ensures.ok in
    failed_by c.print_end.result bytes before after (IsBegun (end_line (length c.as_slice-records.result.now) size) mid after) c.print_end.ensures.err c.print_end.ensures.begun
    (λ last. begun_end h.version h.header found.records.items bytes h.behind.now is.rest size before mid after c.in-Ok.ensures.head is.front (is.at_end c.if-found.true)
    (ap (λ n. n + 1) (place_is h.version h.header bytes h.behind.now found c.in-Ok.ensures.head is)) first (subst (λ (rs : List Record). IsBegun (end_line (length rs) size) mid after) c.as_slice-records.ensures.value last))

pub returns-clause-stopped : goal.returns-clause-stopped
returns-clause-stopped g c =
    let h = c.in-Ok.head in
    let found = c.in-Ok-read_front.found in
    let is = c.in-Ok-read_front.ensures in
    let bytes = c.args.bytes.now in
    let place = length bytes - length h.behind.now + found.gate in
    let before = g.W.Write.contents c.args.out.now in
    let mid = g.W.Write.contents c.print_front.new.out in
    let first = subst (λ (rs : List Record). Appends before mid (lines_to h.version h.header rs)) c.as_slice-records.ensures.value c.in-Ok-print_front.ensures.ok in
    stopped c.stop_at.result h.version h.header found.records.items bytes h.behind.now is.rest place before mid (g.W.Write.contents c.stop_at.new.out) c.in-Ok.ensures.head is.front (is.at_cut c.if-found.false)
    (place_is h.version h.header bytes h.behind.now found c.in-Ok.ensures.head is) first c.stop_at.ensures.kept c.stop_at.ensures.told
