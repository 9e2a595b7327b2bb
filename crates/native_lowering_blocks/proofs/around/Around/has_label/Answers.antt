-- Why `has_label` meets its contract.
use Rattle.std.proofs.Common.{◌≡◌, refl, subst, ◌∙◌, arith}
use Rattle.native_lowering_definition.specs.Blocks.{Around, has_label}
use Rattle.native_lowering_blocks.specs.Noted.{is_there}
use Rattle.native_lowering_blocks.proofs.Found.{stands}
use Rattle.native_lowering_blocks.proofs.Noted.{told}
use Rattle.native_lowering_blocks.proofs.around.Around.has_label.Goals as goal

pub returns : goal.returns
returns c =
    let s = c.self.inside in
    let same = rw c.deref.ensures.value at c.flag.ensures in
    subst (λ (a : Around). c.flag.result ≡ has_label a c.args.label) c.self.view_is
    (same ∙ told is_there s.code.now s.stands.items c.args.label refl (omega arith) c.self.invariant.0 ∙ stands c.args.label s.code.now)
