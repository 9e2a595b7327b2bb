-- The line is put together of its two parts.
use Rattle.std.proofs.Common.{◌≡◌, ◌++◌, ℕ, List, subst, codes, IfOk}
use Rattle.std.specs.Fmt.{decimal}
use Rattle.std.specs.String.{string_bytes}
use Rattle.cfarm_log_lines.specs.Lines.{of_owner, of_sizes}
use Rattle.cfarm_log_lines.proofs.lines.head_line.Goals as goal

pub returns : goal.returns
returns c =
    let both : string_bytes c.in_ok-sizes.sizes ++ string_bytes c.in_ok-owner.owner ≡ of_sizes c.args.header.now ++ of_owner c.args.header.now =
    λ i. c.in_ok-sizes.ensures i ++ c.in_ok-owner.ensures i in
    subst (λ (l : List ℕ). IfOk c.format.result (λ text. string_bytes text ≡ codes "journal " ++ (decimal c.args.version ++ l)))
    both c.format.ensures.ok
