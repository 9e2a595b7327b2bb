-- Why `order_is_of_bytes` meets its contract.
use Rattle.alloc_check_rules.proofs.Order.{before_is_of_bytes}
use Rattle.alloc_check_rules.proofs.law.order_is_of_bytes.Goals as goal

pub returns : goal.returns
returns c = before_is_of_bytes
