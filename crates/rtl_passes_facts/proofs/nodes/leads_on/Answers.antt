use Rattle.rtl_passes_facts.proofs.nodes.leads_on.Goals as goal

pub returns : goal.returns
returns g c = rw c.edges.ensures at c.lead_each.ensures
