-- Why `is_named` meets its contract.
use Rattle.std.proofs.Common.{◌≡◌, refl, subst, ◌∙◌, arith}
use Rattle.std.specs.List.{list_any}
use Rattle.native_lowering_definition.specs.Blocks.{Around}
use Rattle.native_lowering_definition.specs.Lowering.{names}
use Rattle.native_lowering_blocks.specs.Noted.{is_named}
use Rattle.native_lowering_blocks.proofs.Found.{is_named_by}
use Rattle.native_lowering_blocks.proofs.Noted.{told}
use Rattle.native_lowering_blocks.proofs.around.Around.is_named.Goals as goal

pub returns : goal.returns
returns c =
    let s = c.self.inside in
    let same = rw c.deref.ensures.value at c.flag.ensures in
    subst (λ (a : Around). c.flag.result ≡ list_any (names c.args.label) a.code) c.self.view_is
    (same ∙ told is_named s.code.now s.named.items c.args.label refl (omega arith) c.self.invariant.1 ∙ is_named_by c.args.label s.code.now)
