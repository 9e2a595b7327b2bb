use Rattle.std.proofs.Common.{ℕ, List, sym, subst}
use Rattle.acceptor_log_form.specs.Text.{StandsFor}
use Rattle.acceptor_log.specs.Acknowledged.{acknowledged}
use Rattle.acceptor_log.proofs.laws.at_rest.Goals as goal

pub returns : goal.returns
returns g c log bytes sound honest going left =
    let ready = sound honest going in
    subst (λ (l : List ℕ). StandsFor log.header (acknowledged g.D.Disk.seen log) l) (sym (ready.rests.durable bytes left)) ready.rests.stands
