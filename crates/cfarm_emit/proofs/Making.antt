-- There are offers for each function.
use Rattle.std.proofs.Common.{◌≡◌, ℕ, List, length, Option, sym, ap, ◌∙◌}
use Rattle.lang_base.specs.declared.program.Named.{Named}
use Rattle.lang_base.specs.declared.program.Program.{Program}
use Rattle.rtl_language.specs.Function as rtl
use Rattle.chains.specs.declared.offering.Offers.{Offers}
use Rattle.bundle_offers.proofs.Standings.{as_many}
use Rattle.cfarm_emit.specs.Made.{AreMade}

pub as_many_from : (fs : List (Named rtl.FunctionData)) (begun : Program rtl.FunctionData) (seed : Option ℕ) (offers lent : List Offers)
    → fs ≡ begun.functions → lent ≡ offers → AreMade fs seed offers → length begun.functions ≡ length lent
as_many_from fs begun seed offers lent at same are = ap length (sym at) ∙ sym (as_many fs offers are.chained) ∙ ap length (sym same)
