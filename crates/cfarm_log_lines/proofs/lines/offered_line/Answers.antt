-- The digits are those of the digest of the offer.
use Rattle.std.proofs.Common.{◌≡◌, ◌++◌, ◌∙◌, ℕ, List, length, ap, subst, codes, IfOk}
use Rattle.std.specs.Fmt.{decimal}
use Rattle.std.specs.String.{string_bytes}
use Rattle.hex.specs.Hex.{encode_lower}
use Rattle.sha2.specs.Sha256.{sha256}
use Rattle.cfarm_log_lines.proofs.lines.offered_line.Goals as goal

pub returns : goal.returns
returns c =
    let offer = c.args.offer.now in
    let digits : string_bytes c.in_ok-name.name ≡ encode_lower (sha256 offer) =
    c.in_ok-name.ensures ∙ ap encode_lower (c.as_slice.ensures ∙ c.digest-digest.ensures) in
    subst (λ (l : List ℕ). IfOk c.format.result (λ text. string_bytes text ≡ codes "offered room " ++ (decimal c.args.room ++ (codes " bytes "
    ++ (decimal (length offer) ++ (codes " name " ++ (l ++ codes "\n")))))))
    digits c.format.ensures.ok
