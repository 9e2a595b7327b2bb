-- The bytes of an order beside a function: how many nodes it lists, and the nodes.
use Rattle.std.proofs.Common.{ℕ, ◌<◌, ◌≤◌, ◌^◌, List, [], length, arith}
use Rattle.std.specs.Int.{w16, to_be_bytes}
use Rattle.std.specs.List.{AllByRecursion}
use Rattle.ltl.specs.Function as ltl
use Rattle.lang_base.specs.Reading.{Reading, number, below, counted}
use Rattle.lang_base.specs.Texts.{counted_text}
use Rattle.lang_base.proofs.Forms.{IsForm}
use Rattle.lang_base.proofs.Parts.{number16_form, below_form, fits_form}
use Rattle.lang_base.proofs.Lists.{counted_form, each_fits, fits_each}

-- an order that can be written: not too long, each number one of so many nodes
pub record OrderFits (nodes : ℕ) (order : List ℕ) : Type 0 where
  pub few : length order < 2 ^ 16
  pub each : AllByRecursion (λ n. n < nodes) order

abbrev pub order_text : List ℕ → List ℕ
order_text order = counted_text (to_be_bytes w16) (to_be_bytes w16) order

unfoldable pub order : ℕ → Reading (List ℕ)
order nodes bytes = counted (number w16) (λ before. below nodes (number w16)) bytes

-- what is read is spelled so, and what is spelled so is read
pub order_form : (nodes : ℕ) → nodes ≤ 2 ^ 16 → IsForm (order nodes) order_text (OrderFits nodes)
unfolding order
order_form nodes few =
    fits_form (counted_form (λ before. below nodes (number w16)) (to_be_bytes w16) (λ before n. n < nodes) (λ before. below_form nodes number16_form (λ n lt. omega arith)) (number w16) (to_be_bytes w16) (λ n. n < 2 ^ 16) number16_form)
    (λ ns fits. record { few = fits.0; each = each_fits (λ n. n < nodes) [] ns fits.1 })
    (λ ns fits. (fits.few, fits_each (λ n. n < nodes) [] ns fits.each))

-- an order that can be written beside this input
pub record CertFits (input : ltl.FunctionData) (listed : List ℕ) : Type 0 where
  pub few_nodes : length input.blocks ≤ 65535
  pub each : OrderFits (length input.blocks) listed

abbrev pub cert_text : List ℕ → List ℕ
cert_text order = order_text order
