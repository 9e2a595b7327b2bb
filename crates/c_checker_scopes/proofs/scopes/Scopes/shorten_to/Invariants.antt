use Rattle.std.proofs.Common.{◌≡◌, ◌≤◌, ◌-◌, length, drop}
use Rattle.c_checker_scopes.proofs.scopes.Scopes.shorten_to.Given as goal

abbrev pub invariant-loop-self : goal.invariant-loop-self
invariant-loop-self g l = record {
  left : l.mark ≤ length l.self;
  fewer : length l.self ≤ length l.fn.self;
  oldest : l.self ≡ drop (length l.fn.self - length l.self) l.fn.self;
}

abbrev pub decreases-loop-self : goal.decreases-loop-self
decreases-loop-self g l = length l.self
