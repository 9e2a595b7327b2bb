-- What the linker tells of what is lent, in the words of the offers that were learned.
use Rattle.std.proofs.Common.{◌≡◌, ℕ, List, Option, Bool, true, false, sym, ap, subst, ◌∙◌}
use Rattle.lang_base.specs.declared.program.Program.{Program}
use Rattle.cminor_syntax.specs.Trees.{FunctionTree}
use Rattle.rtl_language.specs.Function.{FunctionData}
use Rattle.rtlgen_definition.specs.Gen.{gen}
use Rattle.linker.specs.Chains.{linked, names_beside, names_of, AllChained, IsMissing, IsUnchained, Refusal}
use Rattle.linker.specs.Refused as linker_says
use Rattle.linker.specs.declared.errors.LinkError.{LinkError}
use Rattle.linker.specs.declared.errors.LinkError.TheVariants.{NoMemory, TooManyNodes, Missing, Unchained, Names}
use Rattle.farm_nodes_link.specs.Learned.{FourOffers, IsUndecided}
use Rattle.farm_nodes_link.specs.Lent.{Named, lent_beside}
use Rattle.farm_nodes_link.specs.Offered.{AllGoOn, ends_of, linked_offers}
use Rattle.farm_nodes_link.specs.Refused.{IsFirstBroken, IsUnlinked, IsUnlinkedTo}
use Rattle.farm_nodes_link.proofs.Beside as lent

pub not_true : (b : Bool) → b ≡ false → b ≡ true → ⊥
not_true true e is = absurd (cc e)
not_true false e is = absurd (cc is)

module _ (program : Program FunctionData) (learned : List (Option FourOffers)) (named : List Named) (same : lent_beside named ≡ learned) where
  pub is_linked : linked program named ≡ linked_offers program learned
  is_linked =
      let ends = lent.all_ends program.functions named ∙ ap (λ l. ends_of program.functions l) same in
      λ i. record { globals = program.globals; functions = ends i }

  pub go_on : AllChained program.functions named → AllGoOn program.functions learned
  go_on all = subst (λ l. AllGoOn program.functions l) same (lent.all_go_on program.functions named all)

  pub chain : AllGoOn program.functions learned → AllChained program.functions named
  chain all = lent.chained program.functions named (subst (λ l. AllGoOn program.functions l) (sym same) all)

  never_missing : (IsUndecided learned → ⊥) → (i : ℕ) → IsMissing program.functions named i → ⊥
  never_missing never i told =
      never (subst (λ l. IsUndecided l) same (record { function = i; wanting = lent.wanting named i told.beside told.there told.missing }))

  broken_at : (i : ℕ) → IsUnchained program.functions named i → IsFirstBroken program.functions learned i
  broken_at i told =
      subst (λ l. IsFirstBroken program.functions l i) same
      (lent.first_broken told.function told.beside told.chain told.offered told.broken program.functions named i told.before told.of told.there)

  pub unlinked_to : names_beside named ≡ names_of program.functions → (IsUndecided learned → ⊥) → (e : LinkError)
      → Refusal program.functions named e → IsUnlinkedTo program learned e
  unlinked_to beside never NoMemory told = tt
  unlinked_to beside never Names told = told beside
  unlinked_to beside never (TooManyNodes i) told = told
  unlinked_to beside never (Missing i) told = never_missing never i told
  unlinked_to beside never (Unchained i) told = broken_at i told

module _ (program : Program FunctionTree) (learned : List (Option FourOffers)) (named : List Named) (same : lent_beside named ≡ learned) where
  pub unlinked : (names : List (List ℕ)) → names_beside named ≡ names → (IsUndecided learned → ⊥) → (e : LinkError)
      → linker_says.IsRefused program named e → IsUnlinked program names learned e
  unlinked names beside never NoMemory told = tt
  unlinked names beside never Names told = λ others. told (beside ∙ others)
  unlinked names beside never (TooManyNodes i) told = told
  unlinked names beside never (Missing i) told = never_missing (gen program) learned named same never i told
  unlinked names beside never (Unchained i) told = broken_at (gen program) learned named same i told
