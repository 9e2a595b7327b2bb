-- The header of the first form, unless the number of nodes is even.
use Rattle.std.proofs.Common.{ℕ, ◌≤◌, List, length, get_or, sym, subst, ◌∙◌, arith}
use Rattle.std.specs.Prelude.{◌/◌, ◌+◌, slice_index_or}
use Rattle.cfarm_log.proofs.HeadLemmas.{first-not_new, first_is, rest_is}
use Rattle.cfarm_log.proofs.head.first_head.Goals as goal

pub returns-then-nodes-eq0-clause-refused : goal.returns-then-nodes-eq0-clause-refused
returns-then-nodes-eq0-clause-refused c = (
  first-not_new c.args.bytes.now c.requires,
  λ h. c.even_nodes.ensures h (get_or c.args.bytes.now 4 0 / 2) c.args.bytes.now (record { long = omega arith; begins = c.requires }) (omega arith),
)

pub returns-clause-head : goal.returns-clause-head
returns-clause-head c =
    let rest = rest_is 6 c.args.bytes.now in
    first_is c.args.bytes.now c.digest_in.result.1.now c.digest_in.result.0 (slice_index_or c.args.bytes.now 4 0 / 2 + 1) c.requires
    c.in-len6-up.len_at_least (subst (λ (l : List ℕ). 33 ≤ length l) rest c.if-rest-lt33.false) (omega arith) (sym rest ∙ c.digest_in.ensures.text) c.digest_in.ensures.size
