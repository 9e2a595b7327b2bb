-- The numbers of functions and of globals are forms.
use Rattle.std.proofs.Common.{◌<◌, arith}
use Rattle.std.specs.Int.{w16, to_be_bytes}
use Rattle.lang_base.proofs.Forms.{IsForm}
use Rattle.lang_base.proofs.Parts.{byte_text, byte_form, number16_form, below_form}
use Rattle.lang_helpers.specs.Limits.{function_limit, global_limit, function_number, global}

pub function_number_form : IsForm function_number byte_text (λ n. n < function_limit)
unfolding function_number
function_number_form = below_form function_limit byte_form (λ n lt. omega arith)

pub global_form : IsForm global (to_be_bytes w16) (λ n. n < global_limit)
unfolding global
global_form = below_form global_limit number16_form (λ n lt. omega arith)
