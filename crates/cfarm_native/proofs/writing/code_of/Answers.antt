-- Why `code_of` meets its contract.
use Rattle.std.proofs.Common.{List, ℕ, ◌++◌, ap, ◌∙◌}
use Rattle.lang_base.specs.declared.program.Program.{Program}
use Rattle.x86_syntax.specs.declared.function.Function.{Function}
use Rattle.native_text.specs.Doorways.{prefix_in}
use Rattle.native_text.specs.Whole.{native_text}
use Rattle.cfarm_native.proofs.writing.code_of.Goals as goal

pub returns : goal.returns
returns c =
    let prefix = prefix_in c.args.doorways.now in
    c.in_ok-push_native.ensures
    ∙ ap (λ (old : List ℕ). old ++ native_text c.in_ok-native.native prefix) c.new-text.ensures.items
    ∙ ap (λ (p : Program Function). native_text p prefix) c.in_ok-native.ensures
