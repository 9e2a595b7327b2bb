-- The texts of the offers of a function's four passes, and whether they go on one from the other.
use Rattle.std.specs.Prelude.{ℕ, List, Option, Some, None, option_copied}
use Rattle.rtl_language.specs.Function as rtl
use Rattle.rtl_language.specs.contracts.language.RtlLanguage.TheImpl as rtl_language
use Rattle.ltl.specs.Function as ltl
use Rattle.ltl.specs.contracts.language.LtlLanguage.TheImpl as ltl_language
use Rattle.linear_language.specs.Function as linear
use Rattle.linear_language.specs.contracts.language.LinearLanguage.TheImpl as linear_language
use Rattle.constprop_check.specs.contracts.pass.ConstPropPass.TheImpl as constants
use Rattle.cse_check.specs.contracts.pass.CsePass.TheImpl as expressions
use Rattle.alloc_check.specs.contracts.pass.AllocPass.TheImpl as allocation
use Rattle.linearize_check.specs.contracts.pass.LinearizePass.TheImpl as order
use Rattle.cfarm_fsck_linking.specs.declared.texts.Texts as lent
use Rattle.cfarm_fsck_linking.specs.Steps.{IsStep}

-- the text of each pass, where it is known
pub record FourTexts : Type 0 where
  pub constants : Option (List ℕ)
  pub expressions : Option (List ℕ)
  pub allocation : Option (List ℕ)
  pub order : Option (List ℕ)

abbrev pub texts_of : lent.Texts → FourTexts
texts_of texts = record {
  constants = option_copied texts.first;
  expressions = option_copied texts.second;
  allocation = option_copied texts.third;
  order = option_copied texts.fourth;
}

-- Each is of an offer that its pass can read, the first goes on from the function, and each behind it from the output of the one before it,
-- where that is known: all of each function is compared.
pub record AreChained (function : rtl.FunctionData) (texts : FourTexts) : Type 0 where
  pub second : Option rtl.FunctionData
  pub third : Option rtl.FunctionData
  pub fourth : Option ltl.FunctionData
  pub end : Option linear.FunctionData
  pub constants : IsStep rtl_language.ghosts rtl_language.ghosts constants.ghosts (Some function) texts.constants second
  pub expressions : IsStep rtl_language.ghosts rtl_language.ghosts expressions.ghosts second texts.expressions third
  pub allocation : IsStep rtl_language.ghosts ltl_language.ghosts allocation.ghosts third texts.allocation fourth
  pub order : IsStep ltl_language.ghosts linear_language.ghosts order.ghosts fourth texts.order end
