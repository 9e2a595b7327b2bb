-- Why `put_in_order` meets its contract.
use Rattle.alloc_check_verdict.proofs.carried.put_in_order.Goals as goal

pub returns-else-not-rise : goal.returns-else-not-rise
returns-else-not-rise c = λ e. (λ among. among, λ among. among)
