-- Why `header_of` meets its contract.
use Rattle.std.proofs.Common.{List, ℕ, ◌++◌, ap, ◌∙◌}
use Rattle.native_text_header.specs.Header.{header_text}
use Rattle.cfarm_native.proofs.writing.header_of.Goals as goal

pub returns : goal.returns
returns c =
    let text = header_text c.args.prefix.now c.args.program.now in
    c.in_ok-push_header.ensures ∙ ap (λ (old : List ℕ). old ++ text) c.new-text.ensures.items
