-- How the machine arrives where a statement's outcome says.
use Rattle.std.proofs.Common.{◌≡◌, ℕ, zero, suc, ◌+◌, ◌≤◌, List, ◌∷◌, Option, Some, None, refl, ◌∙◌, arith}
use Rattle.std.specs.Prelude.{slice_get}
use Rattle.lang_base.specs.declared.shown.Shown.TheVariants.{Running}
use Rattle.lang_base.specs.Machine.{Goes, shows}
use Rattle.lang_base.specs.declared.program.Named.{Named}
use Rattle.rtl_acts.specs.Data.{Data}
use Rattle.rtl_language.specs.Function.{FunctionData}
use Rattle.rtl_language.specs.Frames.{Frame, State, printed, comes_back}
use Rattle.rtl_language.specs.Meaning.{next}
use Rattle.rtl_language.specs.Meaning as R
use Rattle.cminor_syntax.specs.Trees.{StatementTree}
use Rattle.cminor_syntax.specs.State as C
use Rattle.cminor_syntax.specs.Meaning as M
use Rattle.cminor_syntax.specs.Fits.{StatementFits}
use Rattle.rtlgen_definition.specs.Gen.{statement, statement_needs}
use Rattle.rtlgen_definition.proofs.Stands.{Stands}
use Rattle.rtlgen_definition.proofs.Comes.{Comes, comes_comes, comes_step, step_shows}
use Rattle.rtlgen_definition.proofs.Grounds.{Ground, IsThere, Sees, at_node}

-- a node is reached, with the words of this state
abbrev pub Reaches : List (Named FunctionData) → Ground → State → ℕ → C.State → Type 0
Reaches functions c u place s = (d : Data) × Comes (next functions) printed u (at_node c place d) × Sees c s d

-- a `return` of this to these callers is reached
pub record Leaves (functions : List (Named FunctionData)) (callers : List Frame) (u : State) (w : Option ℕ) (s : C.State) : Type 0 where
  pub last : State
  pub comes : Comes (next functions) printed u last
  pub step : next functions last ≡ comes_back callers last.here (Some w)
  pub globals : last.here.globals ≡ s.globals
  pub output : last.here.output ≡ s.output

-- so many steps are made at least, and this is printed by then
pub record Runs (functions : List (Named FunctionData)) (bound : ℕ) (u : State) (output : List ℕ) : Type 0 where
  pub steps : ℕ
  pub many : bound ≤ steps
  pub shown : shows (next functions) printed steps u ≡ record { shown = Running; output = output }

-- Of a statement: it goes on at a node, or at that of a block around it. Where it goes wrong nothing is asked.
abbrev pub Arrives : List (Named FunctionData) → Ground → (bound : ℕ) (exits : List ℕ) (following : ℕ) → State → M.Outcome → Type 0
Arrives functions c bound exits following u (M.Falls s) = Reaches functions c u following s
Arrives functions c bound exits following u (M.Exits n s) = (place : ℕ) → slice_get exits n ≡ Some place → Reaches functions c u place s
Arrives functions c bound exits following u (M.Returns w s) = Leaves functions c.callers u w s
Arrives functions c bound exits following u (M.RunsOut output) = Runs functions bound u output
Arrives functions c bound exits following u (M.Fails output) = Unit {0}

-- of a function, called by these
abbrev pub CallArrives : List (Named FunctionData) → (callers : List Frame) (bound : ℕ) → State → M.Outcome → Type 0
CallArrives functions callers bound u (M.Falls s) = Leaves functions callers u None s
CallArrives functions callers bound u (M.Exits n s) = Unit {0}
CallArrives functions callers bound u (M.Returns w s) = Leaves functions callers u w s
CallArrives functions callers bound u (M.RunsOut output) = Runs functions bound u output
CallArrives functions callers bound u (M.Fails output) = Unit {0}

-- What runs with one bound less, wherever it stands: statements arrive within `less`, and calls within `bound`, their own step with them.
pub record LowerArrives (functions : List (Named FunctionData)) (bound less : ℕ) (lower : M.Level) : Type 0 where
  pub does : (c : Ground) → IsThere functions c → (t : StatementTree) (exits : List ℕ) (following count : ℕ) (s : C.State) (d : Data) → StatementFits c.variables t → c.variables + statement_needs t ≤ c.registers →
      Stands c.nodes count (statement t c.variables exits following count).nodes → Sees c s d →
      Arrives functions c less exits following (at_node c (statement t c.variables exits following count).entry d) (lower (M.Does t) s)
  pub calls : (f : ℕ) (arguments : List (Option ℕ)) (s : C.State) (u : State) (caller : Frame) → u.here.globals ≡ s.globals → u.here.output ≡ s.output →
      next functions u ≡ R.calls u f arguments caller (slice_get functions f) →
      CallArrives functions (caller ∷ u.callers) bound u (lower (M.Calls f arguments) s)

module _ (functions : List (Named FunctionData)) where
  leaves_comes : (callers : List Frame) (u v : State) (w : Option ℕ) (s : C.State) → Comes (next functions) printed u v → Leaves functions callers v w s → Leaves functions callers u w s
  leaves_comes callers u v w s p h = record { last = h.last; comes = comes_comes p h.comes; step = h.step; globals = h.globals; output = h.output }

  runs_comes : (bound : ℕ) (u v : State) (output : List ℕ) → Comes (next functions) printed u v → Runs functions bound v output → Runs functions bound u output
  runs_comes bound u v output p h =
      let j = p.by h.steps in
      record { steps = j.0; many = omega (arith, j.1, h.many); shown = j.2 ∙ h.shown }

  runs_step : (bound less : ℕ) (u v : State) (output : List ℕ) → bound ≤ suc less → next functions u ≡ Goes v → Runs functions less v output → Runs functions bound u output
  runs_step bound less u v output le e h = record { steps = suc h.steps; many = omega (arith, le, h.many); shown = step_shows (next functions) printed u v e h.steps ∙ h.shown }

  -- a call's step
  pub call_step : (callers : List Frame) (bound less : ℕ) (u v : State) (o : M.Outcome) → bound ≤ suc less → next functions u ≡ Goes v → CallArrives functions callers less v o → CallArrives functions callers bound u o
  call_step callers bound less u v (M.Falls s) le e h = leaves_comes callers u v None s (comes_step e) h
  call_step callers bound less u v (M.Exits n s) le e h = tt
  call_step callers bound less u v (M.Returns w s) le e h = leaves_comes callers u v w s (comes_step e) h
  call_step callers bound less u v (M.RunsOut output) le e h = runs_step bound less u v output le e h
  call_step callers bound less u v (M.Fails output) le e h = tt

  module _ (c : Ground) (exits : List ℕ) (following : ℕ) where
    pub arrives_comes : (bound : ℕ) (u v : State) (o : M.Outcome) → Comes (next functions) printed u v → Arrives functions c bound exits following v o → Arrives functions c bound exits following u o
    arrives_comes bound u v (M.Falls s) p h = (h.0, comes_comes p h.1, h.2)
    arrives_comes bound u v (M.Exits n s) p h = λ place e. let g = h place e in (g.0, comes_comes p g.1, g.2)
    arrives_comes bound u v (M.Returns w s) p h = leaves_comes c.callers u v w s p h
    arrives_comes bound u v (M.RunsOut output) p h = runs_comes bound u v output p h
    arrives_comes bound u v (M.Fails output) p h = tt

    -- the step at a loop's head
    pub arrives_step : (bound less : ℕ) (u v : State) (o : M.Outcome) → bound ≤ suc less → next functions u ≡ Goes v → Arrives functions c less exits following v o → Arrives functions c bound exits following u o
    arrives_step bound less u v (M.Falls s) le e h = (h.0, comes_comes (comes_step e) h.1, h.2)
    arrives_step bound less u v (M.Exits n s) le e h = λ place is. let g = h place is in (g.0, comes_comes (comes_step e) g.1, g.2)
    arrives_step bound less u v (M.Returns w s) le e h = leaves_comes c.callers u v w s (comes_step e) h
    arrives_step bound less u v (M.RunsOut output) le e h = runs_step bound less u v output le e h
    arrives_step bound less u v (M.Fails output) le e h = tt

    -- one behind another, which goes on in the middle
    pub arrives_goes_on : (bound middle : ℕ) (u : State) (then : C.State → M.Outcome) (o : M.Outcome) →
        ((s : C.State) (d : Data) → Sees c s d → Arrives functions c bound exits following (at_node c middle d) (then s)) →
        Arrives functions c bound exits middle u o → Arrives functions c bound exits following u (M.goes_on then o)
    arrives_goes_on bound middle u then (M.Falls s) later h = arrives_comes bound u (at_node c middle h.0) (then s) h.1 (later s h.0 h.2)
    arrives_goes_on bound middle u then (M.Exits n s) later h = h
    arrives_goes_on bound middle u then (M.Returns w s) later h = h
    arrives_goes_on bound middle u then (M.RunsOut output) later h = h
    arrives_goes_on bound middle u then (M.Fails output) later h = tt

    -- a block is left to the node behind it
    pub arrives_block : (bound : ℕ) (u : State) (o : M.Outcome) → Arrives functions c bound (following ∷ exits) following u o → Arrives functions c bound exits following u (M.leaves_block o)
    arrives_block bound u (M.Falls s) h = h
    arrives_block bound u (M.Exits zero s) h = h following refl
    arrives_block bound u (M.Exits (suc n) s) h = h
    arrives_block bound u (M.Returns w s) h = h
    arrives_block bound u (M.RunsOut output) h = h
    arrives_block bound u (M.Fails output) h = tt
