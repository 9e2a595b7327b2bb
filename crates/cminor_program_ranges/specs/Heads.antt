-- Programs that have the globals of another, and functions under the same names in the same order.
use Rattle.std.specs.Prelude.{◌≡◌, map}
use Rattle.lang_base.specs.declared.program.Program.{Program}

pub record HasHeadOf {F G : Type 0} (first : Program F) (p : Program G) : Type 0 where
  pub globals : p.globals ≡ first.globals
  pub names : map (λ f. f.name) p.functions ≡ map (λ f. f.name) first.functions
