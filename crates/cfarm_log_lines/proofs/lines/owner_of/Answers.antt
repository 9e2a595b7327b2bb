-- The digits are those of the digest.
use Rattle.std.proofs.Common.{◌≡◌, ◌++◌, ◌∙◌, ℕ, List, ap, subst, codes, IfOk}
use Rattle.std.specs.Fmt.{decimal}
use Rattle.std.specs.String.{string_bytes}
use Rattle.hex.specs.Hex.{encode_lower}
use Rattle.cfarm_log_lines.proofs.lines.owner_of.Goals as goal

pub returns : goal.returns
returns c =
    let h = c.args.header.now in
    let digits : string_bytes c.in_ok-source.source ≡ encode_lower h.digest = c.in_ok-source.ensures ∙ ap encode_lower c.as_slice.ensures in
    subst (λ (l : List ℕ). IfOk c.format.result (λ text. string_bytes text ≡ codes " node " ++ (decimal h.node ++ (codes " source " ++ (l ++ codes "\n")))))
    digits c.format.ensures.ok
