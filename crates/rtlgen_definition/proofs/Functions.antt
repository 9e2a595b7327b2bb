-- A function's code arrives where the function's outcome says, and so does what runs below each bound.
use Rattle.std.proofs.Common.{◌≡◌, ℕ, zero, suc, ◌+◌, ◌-◌, ◌==◌, ◌≤◌, Bool, true, false, cond, List, [], ◌∷◌, ◌++◌, length, map, Option, Some, None, refl, sym, ap, ◌∙◌, subst, arith}
use Rattle.std.specs.Prelude.{slice_get, slice_index_or, slice_set, replicate, All}
use Rattle.std.specs.Option.{option_map}
use Rattle.std.proofs.lemmas.Bool.{eqb-true}
use Rattle.std.proofs.lemmas.List.{length-append, length-replicate, replicate-append-replicate}
use Rattle.std.proofs.lemmas.List.Elements.{All-head, All-tail}
use Rattle.std.proofs.lemmas.Option.{slice_get-map}
use Rattle.lang_base.specs.declared.shown.Shown.TheVariants.{Running}
use Rattle.lang_base.specs.Machine.{Goes, Fails}
use Rattle.lang_base.specs.declared.program.Named.{Named}
use Rattle.rtl_acts.specs.Data.{Data}
use Rattle.rtl_language.specs.declared.instruction.Instruction.TheVariants.{Return}
use Rattle.rtl_language.specs.Function.{FunctionData}
use Rattle.rtl_language.specs.Frames.{Frame, State, with_arguments}
use Rattle.rtl_language.specs.Meaning.{begun, next}
use Rattle.rtl_language.specs.Meaning as R
use Rattle.cminor_syntax.specs.Trees.{StatementTree, StatementsTree, FunctionTree}
use Rattle.cminor_syntax.specs.Trees as T
use Rattle.cminor_syntax.specs.State as C
use Rattle.cminor_syntax.specs.Evaluation.{word}
use Rattle.cminor_syntax.specs.Meaning as M
use Rattle.cminor_syntax.specs.Fits.{IsFunction}
use Rattle.rtlgen_definition.specs.Gen.{statement, statement_needs, ends_with_value, last_with_value, ending, numbers_from, gen_function, gen_named}
use Rattle.rtlgen_definition.proofs.Stands.{Stands, stands_front, stands_behind, stands_whole}
use Rattle.rtlgen_definition.proofs.Grounds.{Ground, IsThere, Sees, at_node, node_step}
use Rattle.rtlgen_definition.proofs.Outcomes.{Arrives, CallArrives, LowerArrives, call_step}
use Rattle.rtlgen_definition.proofs.Statements.{statement_arrives}

-- ---- a body that ends with the `return` of a value does not reach its end

module _ (lower : M.Level) where
  returns_leaves : (x : Option ℕ) (s u : C.State) → M.returns s x ≡ M.Falls u → ⊥
  returns_leaves None s u e = cc
  returns_leaves (Some w) s u e = cc

  goes_on_leaves : (then : C.State → M.Outcome) (o : M.Outcome) (u : C.State) → ((v : C.State) → then v ≡ M.Falls u → ⊥) → M.goes_on then o ≡ M.Falls u → ⊥
  goes_on_leaves then (M.Falls s) u leaves e = leaves s e
  goes_on_leaves then (M.Exits n s) u leaves e = cc
  goes_on_leaves then (M.Returns w s) u leaves e = cc
  goes_on_leaves then (M.RunsOut output) u leaves e = cc
  goes_on_leaves then (M.Fails output) u leaves e = cc

  first_leaves : (o : M.Outcome) (u : C.State) → ((v : C.State) → o ≡ M.Falls v → ⊥) → M.goes_on (M.exec_all lower T.Done) o ≡ M.Falls u → ⊥
  first_leaves (M.Falls s) u leaves e = leaves s refl
  first_leaves (M.Exits n s) u leaves e = cc
  first_leaves (M.Returns w s) u leaves e = cc
  first_leaves (M.RunsOut output) u leaves e = cc
  first_leaves (M.Fails output) u leaves e = cc

  mutual
    pub value_leaves : (t : StatementTree) (s u : C.State) → ends_with_value t ≡ true → M.exec lower t s ≡ M.Falls u → ⊥
    value_leaves T.Skip s u r e = absurd cc
    value_leaves (T.Assign v x) s u r e = absurd cc
    value_leaves (T.Store g i x) s u r e = absurd cc
    value_leaves (T.Call f target arguments) s u r e = absurd cc
    value_leaves (T.Put target x) s u r e = absurd cc
    value_leaves (T.Sequence ss) s u r e = values_leave ss s u r e
    value_leaves (T.If x a b) s u r e = absurd cc
    value_leaves (T.Loop a) s u r e = absurd cc
    value_leaves (T.Block a) s u r e = absurd cc
    value_leaves (T.Exit n) s u r e = absurd cc
    value_leaves (T.Return None) s u r e = absurd cc
    value_leaves (T.Return (Some x)) s u r e = returns_leaves (word x s) s u e

    values_leave : (ss : StatementsTree) (s u : C.State) → last_with_value ss ≡ true → M.exec_all lower ss s ≡ M.Falls u → ⊥
    values_leave T.Done s u r e = absurd cc
    values_leave (T.First a T.Done) s u r e = first_leaves (M.exec lower a s) u (λ v h. value_leaves a s v r h) e
    values_leave (T.First a (T.First b rest)) s u r e = goes_on_leaves (M.exec_all lower (T.First b rest)) (M.exec lower a s) u (λ v h. values_leave (T.First b rest) v u r h) e

-- ---- a called function begins with the same words

abbrev undefined : Option ℕ
undefined = None

arguments_shifted : (k n : ℕ) (vs : List (Option ℕ)) (x : Option ℕ) (registers : List (Option ℕ)) → with_arguments (numbers_from (suc k) n) vs (x ∷ registers) ≡ x ∷ with_arguments (numbers_from k n) vs registers
arguments_shifted k zero vs x registers = refl
arguments_shifted k (suc n) [] x registers = refl
arguments_shifted k (suc n) (v ∷ vs) x registers = arguments_shifted (suc k) n vs x (slice_set registers k v)

arguments_stand : (n : ℕ) (vs rest : List (Option ℕ)) → length vs ≡ n → with_arguments (numbers_from 0 n) vs (replicate n undefined ++ rest) ≡ vs ++ rest
arguments_stand zero [] rest e = refl
arguments_stand zero (v ∷ vs) rest e = absurd (omega (arith, e))
arguments_stand (suc n) [] rest e = absurd (omega (arith, e))
arguments_stand (suc n) (v ∷ vs) rest e = arguments_shifted 0 n vs v (replicate n undefined ++ rest) ∙ ap (λ l. v ∷ l) (arguments_stand n vs rest (omega (arith, e)))

nothing_held : (n i : ℕ) → slice_index_or (replicate n undefined) i None ≡ None
nothing_held zero i = refl
nothing_held (suc n) zero = refl
nothing_held (suc n) (suc i) = nothing_held n i

same_held : (vs : List (Option ℕ)) (a b i : ℕ) → slice_index_or (vs ++ replicate a undefined) i None ≡ slice_index_or (vs ++ replicate b undefined) i None
same_held [] a b i = nothing_held a i ∙ sym (nothing_held b i)
same_held (v ∷ vs) a b zero = refl
same_held (v ∷ vs) a b (suc i) = same_held vs a b i

counted : (vs : List (Option ℕ)) (n : ℕ) → length (vs ++ replicate n undefined) ≡ length vs + n
counted vs n = length-append vs (replicate n undefined) ∙ ap (λ k. length vs + k) (length-replicate n undefined)

-- the ground of a function that is called by these
abbrev pub ground : ℕ → FunctionTree → List Frame → Ground
ground number f callers = record { number = number; nodes = (gen_function f).nodes; variables = f.variables; registers = (gen_function f).registers; callers = callers }

-- the registers of a called function
abbrev pub given_registers : FunctionTree → List (Option ℕ) → List (Option ℕ)
given_registers f vs = with_arguments (gen_function f).parameters vs (replicate (gen_function f).registers None)

pub begins_sees : (number : ℕ) (f : FunctionTree) (callers : List Frame) (vs : List (Option ℕ)) (s : C.State) (globals : List (List ℕ)) (output : List ℕ) → f.parameters ≤ f.variables → length vs ≡ f.parameters → globals ≡ s.globals → output ≡ s.output →
    Sees (ground number f callers) (M.begins f vs s) (record { registers = given_registers f vs; globals = globals; output = output })
begins_sees number f callers vs s globals output within count same_globals same_output =
    let all = f.variables + statement_needs f.body in
    let split : all ≡ f.parameters + (all - f.parameters) = omega (arith, within) in
    let is : given_registers f vs ≡ vs ++ replicate (all - f.parameters) undefined =
    ap (λ n. with_arguments (numbers_from 0 f.parameters) vs (replicate n undefined)) split
    ∙ ap (with_arguments (numbers_from 0 f.parameters) vs) (sym (replicate-append-replicate f.parameters (all - f.parameters) undefined))
    ∙ arguments_stand f.parameters vs (replicate (all - f.parameters) undefined) count in
    let variables : length vs + (f.variables - f.parameters) ≡ f.variables = omega (arith, within, count) in
    let registers : length vs + (all - f.parameters) ≡ all = omega (arith, within, count) in
    record {
      holds = λ v h. ap (λ l. slice_index_or l v None) is ∙ same_held vs (all - f.parameters) (f.variables - f.parameters) v;
      count = counted vs (f.variables - f.parameters) ∙ variables;
      space = ap (λ l. length l) is ∙ counted vs (all - f.parameters) ∙ registers;
      within = omega arith;
      globals = same_globals;
      output = same_output;
    }

-- ---- a function

module _ (functions : List (Named FunctionData)) (c : Ground) (there : IsThere functions c) (bound : ℕ) where
  -- where a body's end is reached, nothing is returned
  ends_arrive : (u : State) (o : M.Outcome) (z : Bool) → (z ≡ true → (s : C.State) → o ≡ M.Falls s → ⊥) → Stands c.nodes 0 (ending z 0 0).nodes → Arrives functions c bound [] (ending z 0 0).entry u o → CallArrives functions c.callers bound u o
  ends_arrive u (M.Falls s) true leaves stands h = absurd (leaves refl s refl)
  ends_arrive u (M.Falls s) false leaves stands h =
      record { last = at_node c 0 h.0; comes = h.1; step = node_step functions c there 0 h.0 (Return None) stands.0; globals = h.2.globals; output = h.2.output }
  ends_arrive u (M.Exits n s) z leaves stands h = tt
  ends_arrive u (M.Returns w s) z leaves stands h = h
  ends_arrive u (M.RunsOut output) z leaves stands h = h
  ends_arrive u (M.Fails output) z leaves stands h = tt

pub body_arrives : (functions : List (Named FunctionData)) (bound less : ℕ) → bound ≤ suc less → (lower : M.Level) → LowerArrives functions bound less lower → (number : ℕ) (f : FunctionTree) (callers : List Frame) →
    IsThere functions (ground number f callers) → IsFunction f → (s : C.State) (d : Data) → Sees (ground number f callers) s d →
    CallArrives functions callers bound (at_node (ground number f callers) (gen_function f).entry d) (M.exec lower f.body s)
body_arrives functions bound less sooner lower runs number f callers there fits s d sees =
    let c = ground number f callers in
    let z = ends_with_value f.body in
    let last = ending z 0 0 in
    let front = statement f.body f.variables [] last.entry (0 + length last.nodes) in
    let whole = stands_whole c.nodes in
    ends_arrive functions c there bound (at_node c front.entry d) (M.exec lower f.body s) z (λ r u e. value_leaves lower f.body s u r e) (stands_front c.nodes last.nodes front.nodes 0 whole)
    (statement_arrives functions c there bound less sooner lower runs f.body [] last.entry (0 + length last.nodes) s d fits.body (omega arith) (stands_behind c.nodes last.nodes front.nodes 0 whole) sees)

-- ---- calls, and what runs below each bound

abbrev pub AllInRange : List (Named FunctionTree) → Type 0
AllInRange fs = All (λ named. IsFunction named.function) fs

pub in_range : (fs : List (Named FunctionTree)) → AllInRange fs → (k : ℕ) (f : Named FunctionTree) → slice_get fs k ≡ Some f → IsFunction f.function
in_range [] fit k f e = absurd cc
in_range (g ∷ fs) fit zero f e =
    let same : g ≡ f = cc in
    subst (λ (n : Named FunctionTree). IsFunction n.function) same (All-head (λ n. IsFunction n.function) g fs fit)
in_range (g ∷ fs) fit (suc k) f e = in_range fs (All-tail (λ n. IsFunction n.function) g fs fit) k f e

pub is_found : (fs : List (Named FunctionTree)) (k : ℕ) (f : Named FunctionTree) → slice_get fs k ≡ Some f → slice_get (map gen_named fs) k ≡ Some (gen_named f)
is_found fs k f e = slice_get-map gen_named fs k ∙ ap (option_map gen_named) e

pub is_there : (fs : List (Named FunctionTree)) (k : ℕ) (f : Named FunctionTree) (callers : List Frame) → slice_get fs k ≡ Some f → IsThere (map gen_named fs) (ground k f.function callers)
is_there fs k f callers e = record { named = gen_named f; found = is_found fs k f e; nodes = refl }

pub length-numbers : (first n : ℕ) → length (numbers_from first n) ≡ n
length-numbers first zero = refl
length-numbers first (suc n) = ap suc (length-numbers (suc first) n)

module _ (fs : List (Named FunctionTree)) (fit : AllInRange fs) where
  abbrev functions : List (Named FunctionData)
  functions = map gen_named fs

  module _ (n less : ℕ) (sooner : n ≤ suc less) (runs : LowerArrives functions n less (M.level fs n)) where
    entered : (number : ℕ) (f : Named FunctionTree) → slice_get fs number ≡ Some f → (vs : List (Option ℕ)) (s : C.State) (u : State) (caller : Frame) → u.here.globals ≡ s.globals → u.here.output ≡ s.output →
        next functions u ≡ R.calls u number vs caller (slice_get functions number) → (z : Bool) → (length vs == f.function.parameters) ≡ z →
        CallArrives functions (caller ∷ u.callers) (suc n) u (cond z (M.exec (M.level fs n) f.function.body (M.begins f.function vs s)) (M.Fails s.output))
    entered number f found vs s u caller globals output e false counts = tt
    entered number f found vs s u caller globals output e true counts =
        let count = eqb-true (length vs) f.function.parameters counts in
        let fits = in_range fs fit number f found in
        let callers = caller ∷ u.callers in
        let there = is_there fs number f callers found in
        let d : Data = record { registers = given_registers f.function vs; globals = u.here.globals; output = u.here.output } in
        let takes : (length vs == length (gen_function f.function).parameters) ≡ true = ap (λ k. length vs == k) (length-numbers 0 f.function.parameters) ∙ counts in
        let step : next functions u ≡ Goes (begun u number (gen_function f.function) vs caller) =
        e ∙ ap (R.calls u number vs caller) (is_found fs number f found) ∙ ap (λ b. cond b (Goes (begun u number (gen_function f.function) vs caller)) Fails) takes in
        call_step functions callers (suc n) n u (at_node (ground number f.function callers) (gen_function f.function).entry d) (M.exec (M.level fs n) f.function.body (M.begins f.function vs s)) (omega arith) step
        (body_arrives functions n less sooner (M.level fs n) runs number f.function callers there fits (M.begins f.function vs s) d (begins_sees number f.function callers vs s u.here.globals u.here.output fits.within count globals output))

    calls_arrive : (number : ℕ) (x : Option (Named FunctionTree)) → slice_get fs number ≡ x → (vs : List (Option ℕ)) (s : C.State) (u : State) (caller : Frame) → u.here.globals ≡ s.globals → u.here.output ≡ s.output →
        next functions u ≡ R.calls u number vs caller (slice_get functions number) → CallArrives functions (caller ∷ u.callers) (suc n) u (M.enters (M.level fs n) x vs s)
    calls_arrive number None found vs s u caller globals output e = tt
    calls_arrive number (Some f) found vs s u caller globals output e = entered number f found vs s u caller globals output e (length vs == f.function.parameters) refl

  -- at each bound, with what `less` is there
  pub levels_arrive : (n : ℕ) → (less : ℕ) × (n ≤ suc less) × LowerArrives functions n less (M.level fs n)
  levels_arrive zero = (
    0,
    omega arith,
    record {
      does = λ c there t exits following count s d fits space stands sees. record { steps = 0; many = omega arith; shown = ap (λ l. record { shown = Running; output = l }) sees.output };
      calls = λ f vs s u caller globals output e. record { steps = 0; many = omega arith; shown = ap (λ l. record { shown = Running; output = l }) output };
    },
  )
  levels_arrive (suc n) =
      let lower = levels_arrive n in (
        n,
        omega arith,
        record {
          does = λ c there t exits following count s d fits space stands sees. statement_arrives functions c there n lower.0 lower.1 (M.level fs n) lower.2 t exits following count s d fits space stands sees;
          calls = λ f vs s u caller globals output e. calls_arrive n lower.0 lower.1 lower.2 f (slice_get fs f) refl vs s u caller globals output e;
        },
      )
