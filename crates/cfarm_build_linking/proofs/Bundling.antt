-- The bundle of learned offers is that of the program that they link.
use Rattle.std.proofs.Common.{◌≡◌, ℕ, List, Option, Some, None, sym, subst}
use Rattle.std.specs.Prelude.{IfSome}
use Rattle.lang_base.specs.declared.program.Program.{Program}
use Rattle.rtl_language.specs.Function as rtl
use Rattle.linear_language.specs.Function as linear
use Rattle.cfarm_build_result.specs.Linking.{BundleLinks}
use Rattle.cfarm_build_result.specs.Learned.{FourOffers}
use Rattle.cfarm_build_result.specs.Offered.{linked_offers, AllGoOn}
use Rattle.cfarm_build_result.specs.Bundled.{LinksLearned}

pub if_some : {T : Type 0} (P Q : T → Type 0) (o : Option T) → ((x : T) → P x → Q x) → IfSome o P → IfSome o Q
if_some P Q None so is = tt
if_some P Q (Some x) so is = so x is

pub bundled_so : (bytes digest : List ℕ) (begun : Program rtl.FunctionData) (seen learned : List (Option FourOffers)) (program : Program linear.FunctionData)
    → seen ≡ learned → AllGoOn begun.functions learned → program ≡ linked_offers begun learned
    → LinksLearned bytes digest seen → BundleLinks bytes digest begun program
bundled_so bytes digest begun seen learned program same all is links =
    let links_them : LinksLearned bytes digest learned = subst (λ l. LinksLearned bytes digest l) same links in
    subst (λ p. BundleLinks bytes digest begun p) (sym is) (links_them begun all)
