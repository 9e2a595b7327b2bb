-- Each function that is made has few registers, since each that it is made of is in range.
use Rattle.std.proofs.Common.{◌≡◌, ◌≤◌, map, sym, subst}
use Rattle.std.specs.Prelude.{All}
use Rattle.std.proofs.lemmas.Result.{IfOk-weaker}
use Rattle.cminor_syntax.specs.Fits.{IsFunction}
use Rattle.rtlgen_definition.specs.Gen.{gen}
use Rattle.rtlgen.proofs.Small.{all_small}
use Rattle.rtlgen.proofs.programs.translate.Goals as goal

pub returns-clause-small : goal.returns-clause-small
returns-clause-small c =
    IfOk-weaker _ (λ p. p ≡ gen c.args.program.now) _
    (λ p e. subst (λ q. All (λ f. f.function.registers ≤ 2048) q.functions) (sym e) (all_small _ c.generated_is_small.ensures (subst (All (λ f. IsFunction f.function)) c.as_slice.ensures c.are_in_range.ensures))) c.translate_all.ensures.same
