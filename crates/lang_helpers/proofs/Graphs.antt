-- A graph is a form where its nodes are.
use Rattle.std.proofs.Common.{◌≡◌, ℕ, ◌<◌, ◌≤◌, ◌^◌, List, [], ◌++◌, length, refl, sym, ap, subst, ◌∙◌, arith, append_assoc}
use Rattle.std.specs.Prelude.{nat_lt}
use Rattle.std.specs.Int.{w16, to_be_bytes}
use Rattle.std.specs.List.{AllByRecursion, flat_map}
use Rattle.std.proofs.lemmas.Bool.{ltb-true, lt-ltb}
use Rattle.lang_base.specs.declared.errors.FormError.TheVariants.{NotCanonical}
use Rattle.lang_base.specs.Reading.{Reading, number, both, more}
use Rattle.lang_helpers.specs.Graphs.{node, ends, graph_of, text_of_graph}
use Rattle.lang_base.proofs.Forms.{IsForm}
use Rattle.lang_base.proofs.Parts.{number16_form, made_form, tested_form, fits_form, below_form, both_form}
use Rattle.lang_base.proofs.Lists.{more_form, each_fits, fits_each}

pub node_form : (nodes : ℕ) → nodes ≤ 2 ^ 16 → IsForm (node nodes) (to_be_bytes w16) (λ n. n < nodes)
unfolding node
node_form nodes few = below_form nodes number16_form (λ n lt. omega arith)

-- where a test goes on
abbrev pub TwoNodesFit : ℕ → ℕ × ℕ → Type 0
TwoNodesFit nodes p = (p.0 < nodes) × (p.1 < nodes)

pub two_nodes_form : (nodes : ℕ) → nodes ≤ 2 ^ 16 → IsForm (both (node nodes) (λ taken. node nodes)) (λ p. to_be_bytes w16 p.0 ++ to_be_bytes w16 p.1) (TwoNodesFit nodes)
two_nodes_form nodes few =
    both_form (node nodes) (to_be_bytes w16) (λ n. n < nodes) (node_form nodes few) (λ taken. node nodes) (λ taken. to_be_bytes w16) (λ taken n. n < nodes) (λ taken fits. node_form nodes few)

abbrev EndsFit : ℕ × ℕ → Type 0
EndsFit p = (p.0 < p.1) × (p.1 < 2 ^ 16)

ends_form : IsForm ends (λ p. to_be_bytes w16 p.0 ++ to_be_bytes w16 p.1) EndsFit
unfolding ends
ends_form =
    tested_form (λ p. nat_lt p.0 p.1) NotCanonical
    (both_form (number w16) (to_be_bytes w16) (λ n. n < 2 ^ 16) number16_form (λ e. number w16) (λ e. to_be_bytes w16) (λ e n. n < 2 ^ 16) (λ e fits. number16_form))
    EndsFit
    (λ p fits passes. (ltb-true p.0 p.1 passes, fits.1))
    (λ p fits. let lt : p.0 < 2 ^ 16 = omega (arith, fits.0, fits.1) in ((lt, fits.1), lt-ltb p.0 p.1 fits.0))

module _ {A : Type 0} (NodeFits : ℕ → A → Type 0) where
  -- so many nodes, each in range
  abbrev pub AllNodesFit : ℕ → List A → Type 0
  AllNodesFit count nodes = (length nodes ≡ count) × AllByRecursion (NodeFits count) nodes

  -- the entry is one of the nodes, which are not too many, and each is in range
  pub record GraphFits (g : ℕ × List A) : Type 0 where
    pub entry : g.0 < length g.1
    pub nodes : length g.1 < 2 ^ 16
    pub each : AllByRecursion (NodeFits (length g.1)) g.1

pub nodes_form : {A : Type 0} (one : Reading A) (text : A → List ℕ) (NodeFits : ℕ → A → Type 0) (count : ℕ) → IsForm one text (NodeFits count) → IsForm (more (λ before. one) [] count) (flat_map text) (AllNodesFit NodeFits count)
nodes_form one text NodeFits count form =
    fits_form (more_form (λ before. one) text (λ before. NodeFits count) (λ before. form) count)
    (λ nodes fits. (fits.0, each_fits (NodeFits count) [] nodes fits.1))
    (λ nodes fits. (fits.0, fits_each (NodeFits count) [] nodes fits.1))

pub graph_of_form : {A : Type 0} (nodes : ℕ → Reading (List A)) (text : A → List ℕ) (NodeFits : ℕ → A → Type 0) → ((count : ℕ) → count ≤ 2 ^ 16 → IsForm (nodes count) (flat_map text) (AllNodesFit NodeFits count)) → IsForm (graph_of nodes) (text_of_graph text) (GraphFits NodeFits)
graph_of_form {A} nodes text NodeFits nodes_form =
    made_form (λ (p : (ℕ × ℕ) × List A). (p.0.0, p.1))
    (both_form ends (λ p. to_be_bytes w16 p.0 ++ to_be_bytes w16 p.1) EndsFit ends_form (λ p. nodes p.1) (λ p. flat_map text) (λ p. AllNodesFit NodeFits p.1)
    (λ p fits. let few : p.1 ≤ 2 ^ 16 = omega (arith, fits.1) in nodes_form p.1 few))
    (text_of_graph text) (GraphFits NodeFits)
    (λ p fits.
    let len : length p.1 ≡ p.0.1 = fits.1.0 in (
      ap (λ n. to_be_bytes w16 p.0.0 ++ (to_be_bytes w16 n ++ flat_map text p.1)) len ∙ sym (append_assoc (to_be_bytes w16 p.0.0) (to_be_bytes w16 p.0.1) (flat_map text p.1)),
      record {
        entry = subst (λ n. p.0.0 < n) (sym len) fits.0.0;
        nodes = subst (λ n. n < 2 ^ 16) (sym len) fits.0.1;
        each = subst (λ n. AllByRecursion (NodeFits n) p.1) (sym len) fits.1.1;
      },
    ))
    (λ g fits. (((g.0, length g.1), g.1), ((fits.entry, fits.nodes), (refl, fits.each)), refl))
