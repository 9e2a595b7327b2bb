-- What is read is what the journal has acknowledged.
use Rattle.std.proofs.Common.{◌∙◌, arith}
use Rattle.farm_nodes_open_journals.proofs.Listed.{memory_only, rests_still, records_again, sound_again}
use Rattle.farm_nodes_open_journals.proofs.listing.list.Goals as goal

pub returns-in-Ok-clause-ok : goal.returns-in-Ok-clause-ok
returns-in-Ok-clause-ok g c = (c.resting-log.ensures.parts.2, c.resting-log.ensures.parts.1 ∙ c.header.ensures)

pub returns-in-Ok-clause-same : goal.returns-in-Ok-clause-same
returns-in-Ok-clause-same g c = c.resting-log.ensures.parts.0 ∙ c.into_disk-disk.ensures

pub returns-in-Ok-clause-ready : goal.returns-in-Ok-clause-ready
returns-in-Ok-clause-ready g c ready =
    let disk = g.P.Disk in
    c.resting-log.ensures.ready c.in-Ok.found.records.items (omega (arith, c.len.ensures, c.in-Ok.found.records.ok.0))
    (rests_still disk c.header.result.now c.args.log c.into_disk-disk.result c.header.ensures c.into_disk-disk.ensures ready
    c.in-Ok.found.records.items c.in-Ok.found.gate (λ honest. c.in-Ok.ensures.stands (g.met.P.Pair.honest_whole c.into_disk-disk.result honest)) c.in-Ok.ensures.gate)

pub returns-in-Ok-clause-acknowledged : goal.returns-in-Ok-clause-acknowledged
returns-in-Ok-clause-acknowledged g c ready =
    let disk = g.P.Disk in
    c.resting-log.ensures.acknowledged c.in-Ok.found.records.items (omega (arith, c.len.ensures, c.in-Ok.found.records.ok.0))
    (rests_still disk c.header.result.now c.args.log c.into_disk-disk.result c.header.ensures c.into_disk-disk.ensures ready
    c.in-Ok.found.records.items c.in-Ok.found.gate (λ honest. c.in-Ok.ensures.stands (g.met.P.Pair.honest_whole c.into_disk-disk.result honest)) c.in-Ok.ensures.gate)

pub returns-in-Ok-clause-records : goal.returns-in-Ok-clause-records
returns-in-Ok-clause-records g c ready =
    let disk = g.P.Disk in
    records_again disk c.header.result.now c.args.log c.into_disk-disk.result c.header.ensures c.into_disk-disk.ensures ready
    c.one_list.ensures c.in-Ok.found.records.items (λ honest. c.in-Ok.ensures.stands (g.met.P.Pair.honest_whole c.into_disk-disk.result honest))

pub returns-in-Err-clause-faults : goal.returns-in-Err-clause-faults
returns-in-Err-clause-faults g c ready =
    let disk = g.P.Disk in
    memory_only c.in-Err.fault (λ other. sound_again disk c.header.result.now c.args.log c.into_disk-disk.result c.header.ensures c.into_disk-disk.ensures ready
    c.no_fault.ensures c.in-Err.fault (λ honest. c.in-Err.ensures.refused (g.met.P.Pair.honest_whole c.into_disk-disk.result honest) other))
