-- What pieces of code do, wherever they stand.
use Rattle.std.proofs.Common.{◌≡◌, ℕ, ◌+◌, ◌==◌, Bool, true, false, not, cond, List, [], ◌∷◌, ◌++◌, length, Some, refl, ap, ◌∙◌}
use Rattle.std.specs.Prelude.{slice_get}
use Rattle.lang_base.specs.Machine.{Goes}
use Rattle.lang_base.specs.declared.program.Named.{Named}
use Rattle.ints.specs.declared.conditions.Cond.TheVariants.{Nz}
use Rattle.ints.specs.CondTable.{cond_table}
use Rattle.rtl_acts.specs.declared.arguments.Arguments.TheVariants.{One}
use Rattle.rtl_acts.specs.declared.act.Act.{Act}
use Rattle.rtl_acts.specs.Data.{Data, value_at}
use Rattle.rtl_acts.specs.Acts.{does, holds}
use Rattle.rtl_language.specs.declared.instruction.Instruction.TheVariants.{Do, Branch}
use Rattle.rtl_language.specs.Function.{FunctionData}
use Rattle.rtl_language.specs.Frames.{State, printed, goes_to}
use Rattle.rtl_language.specs.Meaning.{branches, next}
use Rattle.rtlgen_definition.specs.Pieces.{Piece, nothing, one, both, either}
use Rattle.rtlgen_definition.proofs.Stands.{Stands, stands_front, stands_behind}
use Rattle.rtlgen_definition.proofs.Comes.{Comes, comes_nowhere, comes_comes, comes_step}
use Rattle.rtlgen_definition.proofs.Grounds.{Ground, IsThere, at_node, node_step}

not_zero : (w : ℕ) (z : Bool) → (w == 0) ≡ z → cond_table Nz (w ∷ []) ≡ not z
unfolding cond_table
not_zero w z e = ap not e

module _ (functions : List (Named FunctionData)) (c : Ground) (there : IsThere functions c) where
  -- the machine comes from one state to another
  abbrev pub Leads : State → State → Type 0
  Leads s t = Comes (next functions) printed s t

  -- wherever the piece stands, it leads from its entry to where it goes on
  abbrev pub Brings : Piece → Data → Data → Type 0
  Brings piece d d' = (following count : ℕ) → Stands c.nodes count (piece following count).nodes → Leads (at_node c (piece following count).entry d) (at_node c following d')

  pub brings_nothing : (d : Data) → Brings nothing d d
  brings_nothing d following count stands = comes_nowhere

  pub brings_one : (act : Act) (d d' : Data) → does act d ≡ Some d' → Brings (one (Do act)) d d'
  brings_one act d d' e following count stands =
      comes_step (node_step functions c there count d (Do act following) stands.0 ∙ ap (goes_to (at_node c count d) following) e)

  pub brings_both : (first second : Piece) (d d' d'' : Data) → Brings first d d' → Brings second d' d'' → Brings (both first second) d d''
  brings_both first second d d' d'' f g following count stands =
      let last = second following count in
      let front = first last.entry (count + length last.nodes) in
      comes_comes
      (f last.entry (count + length last.nodes) (stands_behind c.nodes last.nodes front.nodes count stands))
      (g following count (stands_front c.nodes last.nodes front.nodes count stands))

  -- a branch goes to what was made for the word's truth
  pub branch_step : (r w : ℕ) (z : Bool) (d : Data) (place taken other : ℕ) → value_at r d ≡ Some w → (w == 0) ≡ z →
      slice_get c.nodes place ≡ Some (Branch (record { condition = Nz; arguments = One r }) taken other) →
      next functions (at_node c place d) ≡ Goes (at_node c (cond z other taken) d)
  branch_step r w z d place taken other value zero e =
      let answer : holds (record { condition = Nz; arguments = One r }) d ≡ Some (not z) = rw value (ap (λ b. Some b) (not_zero w z zero)) in
      node_step functions c there place d (Branch (record { condition = Nz; arguments = One r }) taken other) e
      ∙ ap (branches (at_node c place d) taken other) answer
      ∙ chosen z
    where
      chosen : (z : Bool) → branches (at_node c place d) taken other (Some (not z)) ≡ Goes (at_node c (cond z other taken) d)
      chosen true = refl
      chosen false = refl

  -- where the parts of a branch stand
  pub record Forks (r : ℕ) (taken other : Piece) (following count : ℕ) : Type 0 where
    pub other_stands : Stands c.nodes count (other following count).nodes
    pub taken_stands : Stands c.nodes (count + length (other following count).nodes) (taken following (count + length (other following count).nodes)).nodes
    pub step : (w : ℕ) (z : Bool) (d : Data) → value_at r d ≡ Some w → (w == 0) ≡ z →
        Leads (at_node c (either r taken other following count).entry d) (at_node c (cond z (other following count).entry (taken following (count + length (other following count).nodes)).entry) d)

  pub forks : (r : ℕ) (taken other : Piece) (following count : ℕ) → Stands c.nodes count (either r taken other following count).nodes → Forks r taken other following count
  forks r taken other following count stands =
      let second = other following count in
      let behind = count + length second.nodes in
      let first = taken following behind in
      let branch = Branch (record { condition = Nz; arguments = One r }) first.entry second.entry in
      let later : Stands c.nodes behind (first.nodes ++ branch ∷ []) = stands_behind c.nodes second.nodes (first.nodes ++ branch ∷ []) count stands in
      let last : Stands c.nodes (behind + length first.nodes) (branch ∷ []) = stands_behind c.nodes first.nodes (branch ∷ []) behind later in
      record {
        other_stands = stands_front c.nodes second.nodes (first.nodes ++ branch ∷ []) count stands;
        taken_stands = stands_front c.nodes first.nodes (branch ∷ []) behind later;
        step = λ w z d value zero. comes_step (branch_step r w z d (behind + length first.nodes) first.entry second.entry value zero last.0);
      }

  pub brings_first : (r w : ℕ) (taken other : Piece) (d d' : Data) → value_at r d ≡ Some w → (w == 0) ≡ false → Brings taken d d' → Brings (either r taken other) d d'
  brings_first r w taken other d d' value zero f following count stands =
      let fork = forks r taken other following count stands in
      comes_comes (fork.step w false d value zero) (f following (count + length (other following count).nodes) fork.taken_stands)

  pub brings_second : (r w : ℕ) (taken other : Piece) (d d' : Data) → value_at r d ≡ Some w → (w == 0) ≡ true → Brings other d d' → Brings (either r taken other) d d'
  brings_second r w taken other d d' value zero f following count stands =
      let fork = forks r taken other following count stands in
      comes_comes (fork.step w true d value zero) (f following count fork.other_stands)
