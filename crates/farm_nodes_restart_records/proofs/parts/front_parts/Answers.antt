-- Why `front_parts` meets its clauses `front` and `refused`.
use Rattle.farm_nodes_restart_records.proofs.Leaving.{refused_front, show_front}
use Rattle.farm_nodes_restart_records.proofs.parts.front_parts.Goals as goal

pub returns-clause-front : goal.returns-clause-front
returns-clause-front c = show_front (λ parts. parts.items) c.args.rooms c.but_last-front.result.now c.args.records.now c.kept_parts.result c.but_last-front.ensures c.kept_parts.ensures.rooms c.kept_parts.ensures.kept

pub returns-clause-refused : goal.returns-clause-refused
returns-clause-refused c =
    refused_front c.args.header.now.nodes c.args.header.now.node c.args.rooms c.but_last-front.result.now c.args.records.now c.kept_parts.result c.but_last-front.ensures c.kept_parts.ensures.refused
