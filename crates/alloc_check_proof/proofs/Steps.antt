-- Single steps: what each instruction does, the block that stands for it does.
use Rattle.std.proofs.Common.{◌≡◌, ℕ, zero, suc, ◌<◌, List, [], ◌∷◌, length, get_or, set, Option, Some, None, Bool, true, false, cond, eqb, ◌&&◌, refl, sym, ap, ◌∙◌, subst, arith, inl, inr}
use Rattle.std.specs.Prelude.{All, slice_get, map, replicate, ◌==◌}
use Rattle.std.specs.List.{AllByRecursion}
use Rattle.std.specs.Option.{option_map}
use Rattle.std.proofs.lemmas.Bool.{eqb-true, eq-eqb, and_parts, cases_lt}
use Rattle.std.proofs.lemmas.List.{length-set, length-map, length-replicate, get_or_past}
use Rattle.std.proofs.lemmas.List.Elements.{All-from_recursion}
use Rattle.std.proofs.lemmas.Option.{slice_get_within, slice_get-get_or}
use Rattle.lang_base.specs.Machine.{Next, Goes, Ends, Fails}
use Rattle.lang_base.specs.declared.program.Named.{Named}
use Rattle.lang_base.specs.Soundness.{AcceptedInTurn}
use Rattle.locations.specs.declared.location.Location.{Location}
use Rattle.locations.specs.declared.location.Location.TheVariants.{InRegister}
use Rattle.locations.specs.declared.location.Move.{Move}
use Rattle.locations.specs.Fits.{LocationFits, MoveFits}
use Rattle.rtl_acts.specs.Data as rtl_data
use Rattle.rtl_acts.specs.Acts as rtl_acts
use Rattle.rtl_acts.proofs.Outputs as rtl_outputs
use Rattle.rtl_acts.specs.declared.act.Act.{Act}
use Rattle.rtl_acts.specs.declared.test.Test.{Test}
use Rattle.rtl_language.specs.declared.instruction.Instruction.{Instruction}
use Rattle.rtl_language.specs.declared.instruction.Instruction.TheVariants.{Do, Call, Branch, Return}
use Rattle.rtl_language.specs.Function as rtl
use Rattle.rtl_language.specs.Frames as rtl_frames
use Rattle.rtl_language.specs.Meaning as rtl_meaning
use Rattle.machine.specs.declared.act.Act as machine_act
use Rattle.machine.specs.declared.test.Test as machine_test
use Rattle.machine.specs.Data.{Data, value_at, put_at, all_moved}
use Rattle.machine.specs.Acts.{holds}
use Rattle.machine.specs.Frames.{Frame, State, goes_to, returned, after_call, restored, with_result, resumed, comes_back}
use Rattle.machine.specs.Calls.{values_of, with_arguments, waiting, begun, calls}
use Rattle.machine.proofs.Outputs.{output-all_moved, output-with_result}
use Rattle.ltl.specs.declared.block.Block.{Block}
use Rattle.ltl.specs.declared.block.Body.{Body}
use Rattle.ltl.specs.declared.block.Body.TheVariants as body
use Rattle.ltl.specs.Function as ltl
use Rattle.ltl.specs.Meaning.{does_any, branches, callee_of, body_step, block_step, function_step, next}
use Rattle.alloc_check_rules.specs.declared.equation.Equation.{Equation}
use Rattle.alloc_check_rules.specs.declared.change.Change.{Change}
use Rattle.alloc_check_rules.specs.declared.change.Change.TheVariants.{Nothing, Defines, Drops, Copies}
use Rattle.alloc_check_rules.specs.declared.demand.Demand.{Demand}
use Rattle.alloc_check_rules.specs.declared.demand.Demand.TheVariants.{Met, Refused, Needs}
use Rattle.alloc_check_rules.specs.Equations.{back_equation, through, demand}
use Rattle.alloc_check_rules.specs.Pairs.{result_change, act_change, same_test, same_presence, change_of, in_register, equations_of, act_uses, arguments_used, uses}
use Rattle.alloc_check_rules.specs.Rules.{equations_at, IsGiven, IsAnswered, LeadsTo, IsCarried, StandsFor, IsRightAs}
use Rattle.alloc_check_rules.specs.Holding.{Covers, AllCover, Holds, DemandHolds, HasFrame}
use Rattle.alloc_check_rules.specs.Steps.{SameLocations, Changed, IsBack}
use Rattle.alloc_check_proof.specs.Related.{Agrees, IsSound, Pair, FrameRelated, FramesRelated, Related}
use Rattle.alloc_check_rules.proofs.Locations.{frame_put, globals_put, frame_moves, globals_moves, back_fits}
use Rattle.alloc_check_rules.proofs.Changes.{through_holds, over_call_holds, result_changed, moves_hold}
use Rattle.alloc_check_rules.proofs.Acts.{cond_some, test_covered, act_done}
use Rattle.alloc_check_rules.proofs.Entries.{values_covered, frame_arguments, globals_arguments, output_arguments, entry_holds}

-- ---- frames, globals and output

same_frame : (slots : ℕ) (e e' : Data) → SameLocations e e' → HasFrame slots e → HasFrame slots e'
same_frame slots e e' same frame = record { registers = ap length same.registers ∙ frame.registers; slots = ap length same.slots ∙ frame.slots }

frame_changed : (slots : ℕ) (change : Change) (d : rtl_data.Data) (e : Data) (d' : rtl_data.Data) (e' : Data) → Changed change d e d' e' → HasFrame slots e → HasFrame slots e'
frame_changed slots Nothing d e d' e' c frame = same_frame slots e e' c.locations frame
frame_changed slots (Defines r k) d e d' e' c frame = same_frame slots (put_at k c.second e) e' c.locations (frame_put slots k c.second e frame)
frame_changed slots (Drops r) d e d' e' c frame = same_frame slots e e' c.locations frame
frame_changed slots (Copies target source) d e d' e' c frame = same_frame slots e e' c.locations frame

frame_result : (slots : ℕ) (location : Option Location) (value : Option ℕ) (e : Data) → HasFrame slots e → HasFrame slots (with_result location value e)
frame_result slots None value e frame = frame
frame_result slots (Some l) value e frame = frame_put slots l value e frame

globals_result : (location : Option Location) (value : Option ℕ) (e : Data) → (with_result location value e).globals ≡ e.globals
globals_result None value e = refl
globals_result (Some l) value e = globals_put l value e

rtl_globals_result : (target value : Option ℕ) (d : rtl_data.Data) → (rtl_acts.with_result target value d).globals ≡ d.globals
rtl_globals_result None value d = refl
rtl_globals_result (Some r) value d = refl

length_after_call : (rs : List (Option ℕ)) → length (after_call rs) ≡ length rs
length_after_call rs =
    length-set (set (set (set rs 0 None) 1 None) 2 None) 3 None
    ∙ length-set (set (set rs 0 None) 1 None) 2 None
    ∙ length-set (set rs 0 None) 1 None
    ∙ length-set rs 0 None

-- ---- one function and the one that is accepted for it

module _ (f : rtl.FunctionData) (g : ltl.FunctionData) (lists : List (List Equation)) (sound : IsSound f g lists) where
  -- the block of a node, in range
  pub record BlockAt (n : ℕ) (i : Instruction) : Type 0 where
    pub block : Block
    pub stands : slice_get g.blocks n ≡ Some block
    pub fits : ltl.BlockFits g.slots (length g.blocks) block
    pub right : IsRightAs f g lists n i block

  pub block_at : (n : ℕ) (i : Instruction) → slice_get f.nodes n ≡ Some i → BlockAt n i
  block_at n i e =
      let below : n < length g.blocks = omega (arith, slice_get_within f.nodes n i e, sound.allocated.shape.nodes) in
      let nothing : Block = record { before = []; body = body.Return None } in
      let b = get_or g.blocks n nothing in
      let stands : slice_get g.blocks n ≡ Some b = slice_get-get_or g.blocks n nothing below in
      record {
        block = b;
        stands = stands;
        fits = All-from_recursion (ltl.BlockFits g.slots (length g.blocks)) g.blocks sound.output.each n nothing below;
        right = sound.allocated.nodes n (slice_get_within f.nodes n i e) i b e stands;
      }

  -- an equation of a node has a location that is there
  pub location_fits : (n k : ℕ) (q : Equation) → k < length (equations_at lists n) → LocationFits g.slots (get_or (equations_at lists n) k q).location
  location_fits n k q below =
      elim (cases_lt n (length lists)) [
        | inl there ↦ (sound.allocated.each n [] there k q below).location
        | inr past ↦ absurd (let none : equations_at lists n ≡ [] = get_or_past lists n [] past in let short : length (equations_at lists n) ≡ 0 = ap length none in omega (arith, below, short))
      ]

  -- where the function is called, the equations at its entry hold
  pub entry_agrees : (vs ws : List (Option ℕ)) (d : rtl_data.Data) (e : Data) → e.globals ≡ d.globals → e.output ≡ d.output → AllCover vs ws → length vs ≡ length f.parameters → Agrees g.slots (equations_at lists f.entry) (record d { registers = rtl_frames.with_arguments f.parameters vs (replicate f.registers None) }) (with_arguments g.parameters ws (record e { registers = replicate 8 None; slots = replicate g.slots None }))
  entry_agrees vs ws d e globals output cover counted =
      let nothing : Instruction = Return None in
      let there : slice_get f.nodes f.entry ≡ Some (get_or f.nodes f.entry nothing) = slice_get-get_or f.nodes f.entry nothing sound.input.entry in
      let right = (block_at f.entry (get_or f.nodes f.entry nothing) there).right in
      let bare : Data = record e { registers = replicate 8 None; slots = replicate g.slots None } in
      let frame : HasFrame g.slots bare = record { registers = length-replicate {A = Option ℕ} 8 None; slots = length-replicate {A = Option ℕ} g.slots None } in
      record {
        frame = frame_arguments g.slots g.parameters ws bare frame;
        globals = globals_arguments g.parameters ws bare ∙ globals;
        output = output_arguments g.parameters ws bare ∙ output;
        holds = λ k q below.
            entry_holds f.registers g.slots f.parameters g.parameters sound.input.parameters sound.output.parameters vs ws cover counted
            (record d { registers = rtl_frames.with_arguments f.parameters vs (replicate f.registers None) }) bare refl frame
            (get_or (equations_at lists f.entry) k q) (right.entry refl k q below);
      }

-- ---- what is returned

abbrev given : Option ℕ → Option (Option ℕ)
given None = None
given (Some w) = Some (Some w)

rtl_returned : (r : ℕ) (d : rtl_data.Data) → rtl_frames.returned (Some r) d ≡ given (rtl_data.value_at r d)
rtl_returned r d = refl

ltl_returned : (k : ℕ) (e : Data) → returned (Some k) e ≡ given (value_at (InRegister k) e)
ltl_returned k e = refl

given_covered : (x y : Option ℕ) → Covers x y → (v : Option ℕ) → given x ≡ Some v → given y ≡ Some v
given_covered None y c v e = cc (e)
given_covered (Some w) y c v e = ap given (c.by w refl) ∙ e

-- a return that has an answer has the same
returned_covered : (d : rtl_data.Data) (e : Data) (value location : Option ℕ) → same_presence value location ≡ true → All (Holds d e) (uses (Return value) (body.Return location)) → (v : Option ℕ) → rtl_frames.returned value d ≡ Some v → returned location e ≡ Some v
returned_covered d e None None is used v known = known
returned_covered d e None (Some k) is used v known = cc (is)
returned_covered d e (Some r) None is used v known = cc (is)
returned_covered d e (Some r) (Some k) is used v known =
    ltl_returned k e ∙ given_covered (rtl_data.value_at r d) (value_at (InRegister k) e) (used 0 (in_register r k) (omega arith)) v (sym (rtl_returned r d) ∙ known)

-- ---- programs

-- the functions of a number, accepted
pub pair_of : (fs : List (Named rtl.FunctionData)) (gs : List (Named ltl.FunctionData)) → AcceptedInTurn IsSound fs gs → (k : ℕ) (f : Named rtl.FunctionData) → slice_get fs k ≡ Some f → (p : Pair fs gs k) × (p.source ≡ f)
pair_of [] gs accepted k f e = cc
pair_of (f' ∷ fs) [] accepted k f e = absurd accepted
pair_of (f' ∷ fs) (g ∷ gs) accepted zero f e =
    let same : f' ≡ f = cc in
    let one = accepted.0.1 in
    (record { source = f'; target = g; lists = one.0; is_source = refl; is_target = refl; sound = one.1 }, same)
pair_of (f' ∷ fs) (g ∷ gs) accepted (suc k) f e =
    let p = pair_of fs gs accepted.1 k f e in
    let q = p.0 in
    (record { source = q.source; target = q.target; lists = q.lists; is_source = q.is_source; is_target = q.is_target; sound = q.sound }, p.1)

module _ (sources : List (Named rtl.FunctionData)) (targets : List (Named ltl.FunctionData)) where
  -- the second goes to a state that stands where the first's does
  abbrev Arrives : rtl_frames.State → Next State → Type 0
  Arrives s' x = (t' : State) × (x ≡ Goes t') × Related sources targets s' t'

  -- ---- returns

  back_goes : (fs : List rtl_frames.Frame) (gs : List Frame) → FramesRelated sources targets fs gs → (d : rtl_data.Data) (e : Data) → e.globals ≡ d.globals → e.output ≡ d.output → (value : Option (Option ℕ)) (s' : rtl_frames.State) → rtl_frames.comes_back fs d value ≡ Goes s' → Arrives s' (comes_back gs e value)
  back_goes fs gs related d e globals output None s' goes = cc (goes)
  back_goes [] gs related d e globals output (Some None) s' goes = cc (goes)
  back_goes [] gs related d e globals output (Some (Some w)) s' goes = cc (goes)
  back_goes (f ∷ fs) [] related d e globals output (Some value) s' goes = absurd related
  back_goes (f ∷ fs) (g ∷ gs) related d e globals output (Some value) s' goes =
      let r = related.0 in
      let slots = r.pair.target.function.slots in
      let d' : rtl_data.Data = rtl_frames.restored f d in
      let e' : Data = restored g e in
      let frame : HasFrame slots e' = record { registers = length_after_call g.registers ∙ r.registers; slots = r.slots } in
      let left : Data = with_result g.target value e' in
      let is : rtl_frames.resumed value d f fs ≡ s' = cc in
      let t' : State = resumed value e g gs in
      let back : Related sources targets (rtl_frames.resumed value d f fs) t' =
      record {
        pair = r.pair;
        same = λ i. record { function = r.function i; place = r.place i; here = all_moved g.moves left; callers = gs };
        agrees = record {
          frame = frame_moves slots g.moves left (frame_result slots g.target value e' frame);
          globals = globals_moves g.moves left ∙ globals_result g.target value e' ∙ globals ∙ sym (rtl_globals_result f.target value d');
          output = output-all_moved g.moves left ∙ output-with_result g.target value e' ∙ output ∙ sym (rtl_outputs.output-with_result f.target value d');
          holds = r.holds value d' e' refl refl refl;
        };
        callers = related.1;
      } in
      subst (λ x. Arrives x (Goes t')) is (t', refl, back)

  back_ends : (fs : List rtl_frames.Frame) (gs : List Frame) → FramesRelated sources targets fs gs → (d : rtl_data.Data) (e : Data) (value : Option (Option ℕ)) (result : ℕ) → rtl_frames.comes_back fs d value ≡ Ends result → comes_back gs e value ≡ Ends result
  back_ends fs gs related d e None result ends = cc (ends)
  back_ends [] gs related d e (Some None) result ends = cc (ends)
  back_ends [] [] related d e (Some (Some w)) result ends = let same : w ≡ result = cc in ap (λ x. Ends x) same
  back_ends [] (g ∷ gs) related d e (Some (Some w)) result ends = absurd related
  back_ends (f ∷ fs) gs related d e (Some value) result ends = cc (ends)

  module _ (accepted : AcceptedInTurn IsSound sources targets) (s : rtl_frames.State) (p : Pair sources targets s.function) (here : Data) (callers : List Frame) (agrees : Agrees p.target.function.slots (equations_at p.lists s.place) s.here here) (related : FramesRelated sources targets s.callers callers) where
    abbrev slots : ℕ
    slots = p.target.function.slots

    -- the equations at the node
    abbrev es : List Equation
    es = equations_at p.lists s.place

    -- where the second program stands
    abbrev t : State
    t = record { function = s.function; place = s.place; here = here; callers = callers }

    arrive : (n m : ℕ) → n ≡ m → (d' : rtl_data.Data) (e' : Data) → Agrees slots (equations_at p.lists n) d' e' → Related sources targets (record s { place = n; here = d' }) (record t { place = m; here = e' })
    arrive n m same d' e' agrees' = record {
      pair = p;
      same = λ i. record { function = s.function; place = sym same i; here = e'; callers = callers };
      agrees = agrees';
      callers = related;
    }

    module _ (before : List Move) (fits_before : AllByRecursion (MoveFits slots) before) where
      -- the data behind the first moves
      abbrev first : Data
      first = all_moved before here

      frame_first : HasFrame slots first
      frame_first = frame_moves slots before here agrees.frame

      globals_first : first.globals ≡ s.here.globals
      globals_first = globals_moves before here ∙ agrees.globals

      output_first : first.output ≡ s.here.output
      output_first = output-all_moved before here ∙ agrees.output

      given_holds : (q : Equation) → IsGiven es before q → Holds s.here first q
      given_holds q h = moves_hold slots before s.here here agrees.frame fits_before q (subst (Holds s.here here) h.2 (agrees.holds h.0 (back_equation before q) h.1))

      used_hold : (qs : List Equation) → All (IsGiven es before) qs → All (Holds s.here first) qs
      used_hold qs all k q below = given_holds (get_or qs k q) (all k q below)

      demanded : (dm : Demand) → IsAnswered es before dm → DemandHolds s.here first dm
      demanded Met answered = tt
      demanded Refused answered = answered
      demanded (Needs q) answered = given_holds q answered

      -- the equations at a node where a change leads, with these moves behind it
      behind_holds : (n : ℕ) (change : Change) (after : List Move) → AllByRecursion (MoveFits slots) after → (d : rtl_data.Data) (e : Data) → HasFrame slots e → (d' : rtl_data.Data) (e' : Data) → Changed change d e d' e' → ((k : ℕ) (q : Equation) → k < length (equations_at p.lists n) → DemandHolds d e (through change (back_equation after (get_or (equations_at p.lists n) k q)))) → All (Holds d' (all_moved after e')) (equations_at p.lists n)
      behind_holds n change after fits d e frame d' e' changed holds k q below =
          let x = get_or (equations_at p.lists n) k q in
          let there = location_fits p.source.function p.target.function p.lists p.sound n k q below in
          moves_hold slots after d' e' (frame_changed slots change d e d' e' changed frame) fits x
          (through_holds slots d e d' e' frame change changed (back_equation after x) (back_fits slots after x.location fits there) (holds k q below))

      do_goes : (a : Act) (n : ℕ) (b : Option machine_act.Act) (after : List Move) (m : ℕ) → AllByRecursion (MoveFits slots) after → (change : Change) → cond (eqb n m) (act_change a b) None ≡ Some change → IsCarried p.lists es (Do a n) (record { before = before; body = body.Go b after m }) change → (o : Option rtl_data.Data) → rtl_acts.does a s.here ≡ o → (s' : rtl_frames.State) → rtl_frames.goes_to s n o ≡ Goes s' → Arrives s' (goes_to t m (option_map (all_moved after) (does_any b first)))
      do_goes a n b after m fits change is carried None does s' goes = cc (goes)
      do_goes a n b after m fits change is carried (Some d') does s' goes =
          let parts = cond_some (eqb n m) (act_change a b) change is in
          let done = act_done s.here first globals_first output_first a b change parts.1 (used_hold (act_uses a b) carried.uses) d' does in
          let left = done.left in
          let answered = (carried.leads 0 n (omega arith)).answered in
          let there : record s { place = n; here = d' } ≡ s' = cc in
          subst (λ x. Arrives x (goes_to t m (option_map (all_moved after) (does_any b first)))) there (
            record t { place = m; here = all_moved after left },
            ap (λ o. goes_to t m (option_map (all_moved after) o)) done.is,
            arrive n m (eqb-true n m parts.0) d' (all_moved after left) (
                record {
                  frame = frame_moves slots after left (frame_changed slots change s.here first d' left done.defines frame_first);
                  globals = globals_moves after left ∙ done.globals;
                  output = output-all_moved after left ∙ done.output;
                  holds = behind_holds n change after fits s.here first frame_first d' left done.defines (λ k q below. demanded _ (answered k q below));
                }
                ),
          )

      -- both arms of a branch change nothing
      arm_goes : (change : Change) → Nothing ≡ change → (i : Instruction) (test : machine_test.Test) (taken other : ℕ) (n m : ℕ) → n ≡ m → LeadsTo p.lists es (record { before = before; body = body.Branch test taken other }) change n → Related sources targets (record s { place = n; here = s.here }) (record t { place = m; here = first })
      arm_goes change same i test taken other n m nodes leads =
          arrive n m nodes s.here first (
          record {
            frame = frame_first;
            globals = globals_first;
            output = output_first;
            holds = λ k q below. demanded (Needs (get_or (equations_at p.lists n) k q)) (subst (λ c. IsAnswered es before (demand (body.Branch test taken other) c (get_or (equations_at p.lists n) k q))) (sym same) (leads.answered k q below));
          }
          )

      branch_goes : (test : Test) (n o : ℕ) (other : machine_test.Test) (m p' : ℕ) (change : Change) → cond (same_test test other && eqb n m && eqb o p') (Some Nothing) None ≡ Some change → IsCarried p.lists es (Branch test n o) (record { before = before; body = body.Branch other m p' }) change → (answer : Option Bool) → rtl_acts.holds test s.here ≡ answer → (s' : rtl_frames.State) → rtl_meaning.branches s n o answer ≡ Goes s' → Arrives s' (branches t first m p' (holds other first))
      branch_goes test n o other m p' change is carried None answers s' goes = cc (goes)
      branch_goes test n o other m p' change is carried (Some answer) answers s' goes =
          let parts = cond_some (same_test test other && eqb n m && eqb o p') (Some Nothing) change is in
          let both = and_parts (same_test test other && eqb n m) (eqb o p') parts.0 in
          let tests = and_parts (same_test test other) (eqb n m) both.0 in
          let same : Nothing ≡ change = let e = parts.1 in cc in
          let known = test_covered s.here first test other tests.0 (used_hold (arguments_used test.arguments other.arguments) carried.uses) answer answers in
          subst (λ x. Arrives s' (branches t first m p' x)) (sym known)
          (at answer (eqb-true n m tests.1) (eqb-true o p' both.1) same goes)
        where
          at : (answer : Bool) → n ≡ m → o ≡ p' → Nothing ≡ change → rtl_meaning.branches s n o (Some answer) ≡ Goes s' → Arrives s' (branches t first m p' (Some answer))
          at true taken left same goes =
              let there : record s { place = n; here = s.here } ≡ s' = cc in
              subst (λ x. Arrives x (branches t first m p' (Some true))) there
              (record t { place = m; here = first }, refl, arm_goes change same (Branch test n o) other m p' n m taken (carried.leads 0 n (omega arith)))
          at false taken left same goes =
              let there : record s { place = o; here = s.here } ≡ s' = cc in
              subst (λ x. Arrives x (branches t first m p' (Some false))) there
              (record t { place = p'; here = first }, refl, arm_goes change same (Branch test n o) other m p' o p' left (carried.leads 1 o (omega arith)))

      return_goes : (value location : Option ℕ) (change : Change) → cond (same_presence value location) (Some Nothing) None ≡ Some change → IsCarried p.lists es (Return value) (record { before = before; body = body.Return location }) change → (o : Option (Option ℕ)) → rtl_frames.returned value s.here ≡ o → (s' : rtl_frames.State) → rtl_frames.comes_back s.callers s.here o ≡ Goes s' → Arrives s' (comes_back callers first (returned location first))
      return_goes value location change is carried None returns s' goes = absurd (fails s.callers goes)
        where
          fails : (fs : List rtl_frames.Frame) → rtl_frames.comes_back fs s.here None ≡ Goes s' → ⊥
          fails [] e = cc (e)
          fails (f ∷ fs) e = cc (e)
      return_goes value location change is carried (Some v) returns s' goes =
          let parts = cond_some (same_presence value location) (Some Nothing) change is in
          let known = returned_covered s.here first value location parts.0 (used_hold (uses (Return value) (body.Return location)) carried.uses) v returns in
          subst (λ x. Arrives s' (comes_back callers first x)) (sym known)
          (back_goes s.callers callers related s.here first globals_first output_first (Some v) s' goes)

      return_ends : (value location : Option ℕ) (change : Change) → cond (same_presence value location) (Some Nothing) None ≡ Some change → IsCarried p.lists es (Return value) (record { before = before; body = body.Return location }) change → (o : Option (Option ℕ)) → rtl_frames.returned value s.here ≡ o → (result : ℕ) → rtl_frames.comes_back s.callers s.here o ≡ Ends result → comes_back callers first (returned location first) ≡ Ends result
      return_ends value location change is carried None returns result ends = absurd (fails s.callers ends)
        where
          fails : (fs : List rtl_frames.Frame) → rtl_frames.comes_back fs s.here None ≡ Ends result → ⊥
          fails [] e = cc (e)
          fails (f ∷ fs) e = cc (e)
      return_ends value location change is carried (Some v) returns result ends =
          let parts = cond_some (same_presence value location) (Some Nothing) change is in
          let known = returned_covered s.here first value location parts.0 (used_hold (uses (Return value) (body.Return location)) carried.uses) v returns in
          ap (comes_back callers first) known ∙ back_ends s.callers callers related s.here first (Some v) result ends

      -- ---- calls

      -- the callers that wait
      waits : (f : ℕ) (names : List ℕ) (target : Option ℕ) (n h : ℕ) (locations : List Location) (location : Option Location) (after : List Move) (m : ℕ) → AllByRecursion (MoveFits slots) after → n ≡ m → (change : Change) → result_change target location ≡ Some change → IsCarried p.lists es (Call f names target n) (record { before = before; body = body.Call h locations location after m }) change → FrameRelated sources targets (rtl_meaning.waiting s target n) (waiting t first location m after)
      waits f names target n h locations location after m fits nodes change result carried =
          let answered = (carried.leads 0 n (omega arith)).answered in
          record {
            pair = p;
            function = refl;
            place = sym nodes;
            registers = frame_first.registers;
            slots = frame_first.slots;
            holds = λ value d e same_registers lost same_slots.
                let back : IsBack s.here first d e = record { registers = same_registers; locations = lost; slots = same_slots } in
                let frame : HasFrame slots e =
                record {
                  registers = ap length lost ∙ length_after_call first.registers ∙ frame_first.registers;
                  slots = ap length same_slots ∙ frame_first.slots;
                } in
                behind_holds n change after fits d e frame (rtl_acts.with_result target value d) (with_result location value e) (result_changed target location change result value d e)
                (λ k q below. over_call_holds s.here first d e back (through change (back_equation after (get_or (equations_at p.lists n) k q))) (demanded _ (answered k q below)));
          }

      enters : (number : ℕ) (c : Pair sources targets number) (vs ws : List (Option ℕ)) → AllCover vs ws → length ws ≡ length vs → (caller : rtl_frames.Frame) (caller' : Frame) → FrameRelated sources targets caller caller' → (b : Bool) → (length vs == length c.source.function.parameters) ≡ b → (s' : rtl_frames.State) → cond b (Goes (rtl_meaning.begun s number c.source.function vs caller)) Fails ≡ Goes s' → Arrives s' (calls t first number ws caller' (Some (callee_of c.target)))
      enters number c vs ws cover counted caller caller' waiting' false takes s' goes = cc (goes)
      enters number c vs ws cover counted caller caller' waiting' true takes s' goes =
          let shape = c.sound.allocated.shape in
          let count : length vs ≡ length c.source.function.parameters = eqb-true (length vs) (length c.source.function.parameters) takes in
          let takes' : (length ws == length c.target.function.parameters) ≡ true = eq-eqb (length ws) (length c.target.function.parameters) (counted ∙ count ∙ sym shape.parameters) in
          let t' : State = begun t first number (callee_of c.target) ws caller' in
          let there : rtl_meaning.begun s number c.source.function vs caller ≡ s' = cc in
          let related' : Related sources targets (rtl_meaning.begun s number c.source.function vs caller) t' =
          record {
            pair = c;
            same = λ i. record { function = number; place = shape.entry i; here = t'.here; callers = t'.callers };
            agrees = entry_agrees c.source.function c.target.function c.lists c.sound vs ws s.here first globals_first output_first cover count;
            callers = (waiting', related);
          } in
          subst (λ x. Arrives x (calls t first number ws caller' (Some (callee_of c.target)))) there
          (t', ap (λ b. cond b (Goes t') Fails) takes', related')

      call_goes : (f : ℕ) (names : List ℕ) (target : Option ℕ) (n h : ℕ) (locations : List Location) (location : Option Location) (after : List Move) (m : ℕ) → AllByRecursion (MoveFits slots) after → (change : Change) → cond (eqb f h && eqb (length names) (length locations) && eqb n m) (result_change target location) None ≡ Some change → IsCarried p.lists es (Call f names target n) (record { before = before; body = body.Call h locations location after m }) change → (o : Option (Named rtl.FunctionData)) → slice_get sources f ≡ o → (s' : rtl_frames.State) → rtl_meaning.calls s f (map (λ a. rtl_data.value_at a s.here) names) (rtl_meaning.waiting s target n) o ≡ Goes s' → Arrives s' (calls t first h (values_of locations first) (waiting t first location m after) (option_map callee_of (slice_get targets h)))
      call_goes f names target n h locations location after m fits change is carried None there s' goes = cc (goes)
      call_goes f names target n h locations location after m fits change is carried (Some callee) there s' goes =
          let parts = cond_some (eqb f h && eqb (length names) (length locations) && eqb n m) (result_change target location) change is in
          let both = and_parts (eqb f h && eqb (length names) (length locations)) (eqb n m) parts.0 in
          let tests = and_parts (eqb f h) (eqb (length names) (length locations)) both.0 in
          let number : f ≡ h = eqb-true f h tests.0 in
          let count : length names ≡ length locations = eqb-true (length names) (length locations) tests.1 in
          let nodes : n ≡ m = eqb-true n m both.1 in
          let found = pair_of sources targets accepted f callee there in
          let c = found.0 in
          let vs = map (λ a. rtl_data.value_at a s.here) names in
          let ws = values_of locations first in
          let caller = rtl_meaning.waiting s target n in
          let caller' = waiting t first location m after in
          let goes' : rtl_meaning.calls s f vs caller (Some c.source) ≡ Goes s' = ap (λ x. rtl_meaning.calls s f vs caller (Some x)) found.1 ∙ goes in
          let counted : length ws ≡ length vs = length-map locations (λ l. value_at l first) ∙ sym count ∙ sym (length-map names (λ a. rtl_data.value_at a s.here)) in
          let cover = values_covered s.here first names locations count (used_hold (equations_of names locations) carried.uses) in
          let entered' = enters f c vs ws cover counted caller caller' (waits f names target n h locations location after m fits nodes change parts.1 carried) (length vs == length c.source.function.parameters) refl s' goes' in
          subst (λ x. Arrives s' (calls t first x ws caller' (option_map callee_of (slice_get targets x)))) number
          (subst (λ x. Arrives s' (calls t first f ws caller' (option_map callee_of x))) (sym c.is_target) entered')

      -- ---- any instruction

      body_goes : (i : Instruction) (b : Body) → ltl.BodyFits slots (length p.target.function.blocks) b → (o : Option Change) → change_of i b ≡ o → StandsFor p.lists es i (record { before = before; body = b }) o → (s' : rtl_frames.State) → rtl_meaning.instruction_step sources s (Some i) ≡ Goes s' → Arrives s' (body_step targets t first b)
      body_goes i b fits None is stands s' goes = absurd stands
      body_goes (Do a n) (body.Go b after m) fits (Some change) is stands s' goes =
          do_goes a n b after m fits.1.each change is stands (rtl_acts.does a s.here) refl s' goes
      body_goes (Call f names target n) (body.Call h locations location after m) fits (Some change) is stands s' goes =
          call_goes f names target n h locations location after m fits.1.each change is stands (slice_get sources f) refl s' goes
      body_goes (Branch test n o) (body.Branch other m p') fits (Some change) is stands s' goes =
          branch_goes test n o other m p' change is stands (rtl_acts.holds test s.here) refl s' goes
      body_goes (Return value) (body.Return location) fits (Some change) is stands s' goes =
          return_goes value location change is stands (rtl_frames.returned value s.here) refl s' goes
      body_goes _ _ fits (Some change) is stands s' goes = cc (is)

      -- only a return ends
      onward_runs : (n : ℕ) (o : Option rtl_data.Data) (result : ℕ) → rtl_frames.goes_to s n o ≡ Ends result → ⊥
      onward_runs n None result ends = cc (ends)
      onward_runs n (Some d) result ends = cc (ends)

      branch_runs : (n o : ℕ) (answer : Option Bool) (result : ℕ) → rtl_meaning.branches s n o answer ≡ Ends result → ⊥
      branch_runs n o None result ends = cc (ends)
      branch_runs n o (Some answer) result ends = cc (ends)

      call_runs : (f : ℕ) (vs : List (Option ℕ)) (caller : rtl_frames.Frame) (o : Option (Named rtl.FunctionData)) (result : ℕ) → rtl_meaning.calls s f vs caller o ≡ Ends result → ⊥
      call_runs f vs caller None result ends = cc (ends)
      call_runs f vs caller (Some c) result ends = at (length vs == length c.function.parameters) ends
        where
          at : (b : Bool) → cond b (Goes (rtl_meaning.begun s f c.function vs caller)) Fails ≡ Ends result → ⊥
          at true e = cc (e)
          at false e = cc (e)

      body_ends : (i : Instruction) (b : Body) (o : Option Change) → change_of i b ≡ o → StandsFor p.lists es i (record { before = before; body = b }) o → (result : ℕ) → rtl_meaning.instruction_step sources s (Some i) ≡ Ends result → body_step targets t first b ≡ Ends result
      body_ends i b None is stands result ends = absurd stands
      body_ends (Do a n) b (Some change) is stands result ends = absurd (onward_runs n (rtl_acts.does a s.here) result ends)
      body_ends (Call f names target n) b (Some change) is stands result ends =
          absurd (call_runs f (map (λ a. rtl_data.value_at a s.here) names) (rtl_meaning.waiting s target n) (slice_get sources f) result ends)
      body_ends (Branch test n o) b (Some change) is stands result ends = absurd (branch_runs n o (rtl_acts.holds test s.here) result ends)
      body_ends (Return value) (body.Return location) (Some change) is stands result ends =
          return_ends value location change is stands (rtl_frames.returned value s.here) refl result ends
      body_ends (Return value) _ (Some change) is stands result ends = cc (is)

    -- ---- a state

    source_step : (o : Option Instruction) → slice_get p.source.function.nodes s.place ≡ o → rtl_meaning.next sources s ≡ rtl_meaning.instruction_step sources s o
    source_step o e = ap (rtl_meaning.function_step sources s) p.is_source ∙ ap (rtl_meaning.instruction_step sources s) e

    target_step : (b : Block) → slice_get p.target.function.blocks s.place ≡ Some b → next targets t ≡ body_step targets t (all_moved b.before here) b.body
    target_step b e = ap (function_step targets t) p.is_target ∙ ap (block_step targets t) e

    pub state_goes : (o : Option Instruction) → slice_get p.source.function.nodes s.place ≡ o → (s' : rtl_frames.State) → rtl_meaning.next sources s ≡ Goes s' → Arrives s' (next targets t)
    state_goes None e s' goes = let fails : rtl_meaning.next sources s ≡ Fails = source_step None e in cc
    state_goes (Some i) e s' goes =
        let at = block_at p.source.function p.target.function p.lists p.sound s.place i e in
        let b = at.block in
        subst (Arrives s') (sym (target_step b at.stands))
        (body_goes b.before at.fits.before.each i b.body at.fits.body (change_of i b.body) refl at.right.stands s' (sym (source_step (Some i) e) ∙ goes))

    pub state_ends : (o : Option Instruction) → slice_get p.source.function.nodes s.place ≡ o → (result : ℕ) → rtl_meaning.next sources s ≡ Ends result → next targets t ≡ Ends result
    state_ends None e result ends = let fails : rtl_meaning.next sources s ≡ Fails = source_step None e in cc
    state_ends (Some i) e result ends =
        let at = block_at p.source.function p.target.function p.lists p.sound s.place i e in
        let b = at.block in
        target_step b at.stands
        ∙ body_ends b.before at.fits.before.each i b.body (change_of i b.body) refl at.right.stands result (sym (source_step (Some i) e) ∙ ends)
