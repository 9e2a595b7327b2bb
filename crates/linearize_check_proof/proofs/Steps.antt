-- Single steps: what each block does, its stretch of the code does.
use Rattle.std.proofs.Common.{◌≡◌, ℕ, suc, ◌+◌, ◌<◌, ◌≤◌, List, [], ◌∷◌, length, get_or, Option, Some, None, Bool, true, false, cond, drop, refl, sym, ap, ◌∙◌, subst, arith}
use Rattle.std.specs.Prelude.{◌==◌, slice_get, Contains, All}
use Rattle.std.specs.Option.{option_map}
use Rattle.std.proofs.lemmas.Bool.{eqb-true}
use Rattle.lang_base.specs.Machine.{Goes, Ends, Fails, showing, shows, Leads}
use Rattle.lang_base.specs.declared.program.Named.{Named}
use Rattle.lang_base.specs.declared.shown.Shown.TheVariants as shown
use Rattle.linear_language.specs.Location.{Location}
use Rattle.linear_language.specs.Move.{Move}
use Rattle.linear_language.specs.Act.{Act}
use Rattle.linear_language.specs.Test.{Test}
use Rattle.linear_language.specs.Data.{Data, moved, all_moved}
use Rattle.linear_language.specs.Acts.{holds}
use Rattle.linear_language.specs.Frames.{Frame, State, printed, goes_to, returned, comes_back, resumed}
use Rattle.linear_language.specs.Calls.{Callee, values_of, waiting, begun, calls}
use Rattle.ltl.proofs.Outputs.{output-all_moved}
use Rattle.ltl.specs.declared.block.Block.{Block}
use Rattle.ltl.specs.declared.block.Body.{Body}
use Rattle.ltl.specs.declared.block.Body.TheVariants as body
use Rattle.ltl.specs.Function as ltl
use Rattle.ltl.specs.Meaning as blocks
use Rattle.linear_language.specs.declared.instruction.Instruction.{Instruction}
use Rattle.linear_language.specs.declared.instruction.Instruction.TheVariants.{Do, Copy, Call, Branch, Return, Label, Goto}
use Rattle.linear_language.specs.Function as linear
use Rattle.linear_language.specs.Labels.{place_of}
use Rattle.linear_language.specs.Meaning as code
use Rattle.linearize_check_proof.specs.Layout.{copies, act_code, is_next, jump, body_code, stretch, order_code, successors, successors_of}
use Rattle.linearize_check_proof.specs.Rules.{IsLaidOut}
use Rattle.linearize_check_proof.proofs.Places.{slice_get-some, slice_get-drop, drop-behind, AreBlocks, finds-order}
use Rattle.linearize_check_proof.specs.Related.{Pair, HasPairs, FrameRelated, FramesRelated, Related}

-- no step, or more, lead from s to t
pub record Comes (targets : List (Named linear.FunctionData)) (s t : State) : Type 0 where
  pub by : (k : ℕ) → (j : ℕ) × (k ≤ j) × (shows (code.next targets) printed j s ≡ shows (code.next targets) printed k t)

-- what a listed node's order says of its successors
listed_successors : (f : ltl.FunctionData) (g : linear.FunctionData) (order : List ℕ) → IsLaidOut f g order → (n : ℕ) → Contains order n → (b : Block) → slice_get f.blocks n ≡ Some b → All (Contains order) (successors b.body)
listed_successors f g order laid n h b e =
    let at : All (Contains order) (successors_of (slice_get f.blocks (get_or order h.0 n))) = laid.allowed.closed h.0 n h.1 in
    subst (λ o. All (Contains order) (successors_of o)) e (subst (λ m. All (Contains order) (successors_of (slice_get f.blocks m))) h.2 at)

blocks_of_order : (f : ltl.FunctionData) (g : linear.FunctionData) (order : List ℕ) → IsLaidOut f g order → AreBlocks f.blocks order
blocks_of_order f g order laid = record {
  block = λ n h. slice_get-some f.blocks n (subst (λ m. m < length f.blocks) h.2 (laid.allowed.lists.nodes h.0 n h.1));
}

-- the first of an order
pub first_listed : (order : List ℕ) (n : ℕ) → slice_get order 0 ≡ Some n → Contains order n × ((behind : List ℕ) × (order ≡ n ∷ behind))
first_listed [] n e = cc
first_listed (m ∷ ms) n e =
    let same : m ≡ n = cc in
    ((0, omega arith, same), (ms, ap (λ k. k ∷ ms) same))

-- a call begins where as many arguments are passed as there are parameters
begins_where : (b : Bool) (t s' : State) → cond b (Goes t) Fails ≡ Goes s' → (b ≡ true) × (t ≡ s')
begins_where true t s' e = (refl, cc)
begins_where false t s' e = cc

call_never_ends : {A : Type 0} (s : State) (d : Data) (number : ℕ) (values : List (Option ℕ)) (caller : Frame) (callee : Option Callee) (result : ℕ) → calls s d number values caller callee ≡ Ends result → A
call_never_ends s d number values caller None result e = cc
call_never_ends {A} s d number values caller (Some callee) result e = at (length values == length callee.parameters) e
  where
    at : (b : Bool) → cond b (Goes (begun s d number callee values caller)) Fails ≡ Ends result → A
    at true e = cc
    at false e = cc

module _ (sources : List (Named ltl.FunctionData)) (targets : List (Named linear.FunctionData)) (pairs : HasPairs sources targets) where
  comes_none : (s : State) → Comes targets s s
  comes_none s = record { by = λ k. (k, omega arith, refl) }

  comes_comes : (s t u : State) → Comes targets s t → Comes targets t u → Comes targets s u
  comes_comes s t u p q = record {
    by = λ k. let j = q.by k in let i = p.by j.0 in (i.0, omega (arith, i.1, j.1), i.2 ∙ j.2);
  }

  leads_comes : (s t u : State) → code.next targets s ≡ Goes t → Comes targets t u → Leads (code.next targets) printed s u
  leads_comes s t u e q = record {
    by = λ k.
        let j = q.by k in
        (suc j.0, omega (arith, j.1), ap (λ x. showing x (shows (code.next targets) printed j.0) (printed s)) e ∙ j.2);
  }

  comes_step : (s t u : State) → code.next targets s ≡ Goes t → Comes targets t u → Comes targets s u
  comes_step s t u e q = record {
    by = λ k. let j = (leads_comes s t u e q).by k in (j.0, omega (arith, j.1), j.2);
  }

  module _ {number : ℕ} (p : Pair sources targets number) where
    abbrev the_code : List Instruction
    the_code = p.target.function.code

    abbrev the_blocks : List Block
    the_blocks = p.source.function.blocks

    -- the step of the instruction that stands at the place
    step_at : (t : State) (i : Instruction) (rest : List Instruction) → t.function ≡ number → drop t.place the_code ≡ i ∷ rest → code.next targets t ≡ code.instruction_step targets the_code t (Some i)
    step_at t i rest same e =
        ap (λ n. code.function_step targets t (slice_get targets n)) same
        ∙ ap (code.function_step targets t) p.is_target
        ∙ ap (code.instruction_step targets the_code t) (slice_get-drop the_code t.place i rest e)

    -- the moves are done one after the other
    copies_run : (ms : List Move) (rest : List Instruction) (t : State) → t.function ≡ number → drop t.place the_code ≡ copies ms rest → (place : ℕ) × (drop place the_code ≡ rest) × Comes targets t (record t { place = place; here = all_moved ms t.here })
    copies_run [] rest t same e = (t.place, e, comes_none t)
    copies_run (m ∷ ms) rest t same e =
        let after : State = record t { place = t.place + 1; here = moved m t.here } in
        let later = copies_run ms rest after same (drop-behind the_code t.place (Copy m) (copies ms rest) e) in
        (later.0, later.1, comes_step t after _ (step_at t (Copy m) (copies ms rest) same e) later.2)

    -- a jump to a listed node comes to its stretch
    jump_comes : (s : ℕ) (listed : Contains p.order s) (behind : List ℕ) (b : Bool) → is_next s behind ≡ b → (t : State) → t.function ≡ number → drop t.place the_code ≡ cond b (order_code the_blocks behind) (Goto s ∷ order_code the_blocks behind) → (place : ℕ) × (after : List ℕ) × (drop place the_code ≡ order_code the_blocks (s ∷ after)) × Comes targets t (record t { place = place })
    jump_comes s listed [] true next t same e = cc (next)
    jump_comes s listed (n ∷ ns) true next t same e =
        let is : s ≡ n = eqb-true s n next in
        (t.place, ns, subst (λ m. drop t.place the_code ≡ order_code the_blocks (m ∷ ns)) (sym is) e, comes_none t)
    jump_comes s listed behind false next t same e =
        let f = finds-order the_blocks p.order s (blocks_of_order p.source.function p.target.function p.order p.laid_out) listed in
        let found = f.1 in
        let to : State = record t { place = found.place } in
        let leads : place_of s the_code ≡ Some found.place = ap (place_of s) p.laid_out.code ∙ found.found in
        let stands : drop found.place the_code ≡ order_code the_blocks (s ∷ f.0) = ap (drop found.place) p.laid_out.code ∙ found.stands in
        (found.place, f.0, stands, comes_step t to to (step_at t (Goto s) (order_code the_blocks behind) same e ∙ ap (code.jumps t) leads) (comes_none to))

    -- the moves behind an instruction, and then the jump
    tail_comes : (ms : List Move) (s : ℕ) (listed : Contains p.order s) (behind : List ℕ) (t : State) → t.function ≡ number → drop t.place the_code ≡ copies ms (jump s behind (order_code the_blocks behind)) → (place : ℕ) × (after : List ℕ) × (drop place the_code ≡ order_code the_blocks (s ∷ after)) × Comes targets t (record t { place = place; here = all_moved ms t.here })
    tail_comes ms s listed behind t same e =
        let moved_on = copies_run ms (jump s behind (order_code the_blocks behind)) t same e in
        let t' : State = record t { place = moved_on.0; here = all_moved ms t.here } in
        let jumped = jump_comes s listed behind (is_next s behind) refl t' same moved_on.1 in
        (jumped.0, jumped.1, jumped.2, comes_comes t t' _ moved_on.2 jumped.3)

  -- what a step to s' is matched by, from t
  abbrev Matched : State → State → Type 0
  Matched s' t = (t' : State) × Related sources targets s' t' × Comes targets t t'

  -- a return to a caller, and what is still to be done behind its call
  return_goes : (fs gs : List Frame) → FramesRelated sources targets fs gs → (d : Data) (value : Option (Option ℕ)) (s' : State) → comes_back fs d value ≡ Goes s' → (t : State) × (comes_back gs d value ≡ Goes t) × Matched s' t
  return_goes fs gs related d None s' e = cc
  return_goes [] gs related d (Some None) s' e = cc
  return_goes [] gs related d (Some (Some w)) s' e = cc
  return_goes (f ∷ fs) [] related d (Some value) s' e = absurd related
  return_goes (f ∷ fs) (g ∷ gs) related d (Some value) s' e =
      let r = related.0 in
      let t : State = resumed value d (record f { place = g.place; moves = [] }) gs in
      let tail = tail_comes r.pair f.moves f.place r.listed r.behind t refl r.stands in
      let t' : State = record t { place = tail.0; here = all_moved f.moves t.here } in
      let back : Related sources targets (resumed value d f fs) t' =
      record { pair = r.pair; listed = r.listed; behind = tail.1; stands = tail.2; same = refl; callers = related.1 } in
      let is : resumed value d f fs ≡ s' = cc in
      (t, ap (λ x. Goes (resumed value d x gs)) r.same, subst (λ x. Matched x t) is (t', back, tail.3))

  return_ends : (fs gs : List Frame) → FramesRelated sources targets fs gs → (d : Data) (value : Option (Option ℕ)) (result : ℕ) → comes_back fs d value ≡ Ends result → comes_back gs d value ≡ Ends result
  return_ends fs gs related d None result e = cc
  return_ends [] gs related d (Some None) result e = cc
  return_ends [] [] related d (Some (Some w)) result e = e
  return_ends [] (g ∷ gs) related d (Some (Some w)) result e = absurd related
  return_ends (f ∷ fs) gs related d (Some value) result e = cc

  module _ (s : State) (p : Pair sources targets s.function) (callers : List Frame) (related : FramesRelated sources targets s.callers callers) where
    -- the second program within the stretch: at a place of the same function, with this data
    abbrev at : ℕ → Data → State
    at place d = record s { place = place; here = d; callers = callers }

    at_node : (n : ℕ) → Contains p.order n → (d : Data) (place : ℕ) (behind : List ℕ) → drop place (the_code p) ≡ order_code (the_blocks p) (n ∷ behind) → Related sources targets (record s { place = n; here = d }) (at place d)
    at_node n listed d place behind e =
        record { pair = p; listed = listed; behind = behind; stands = e; same = refl; callers = related }

    -- the moves behind an instruction and the jump come to the node
    tail_goes : (after : List Move) (n : ℕ) → Contains p.order n → (behind : List ℕ) (d : Data) (place : ℕ) → drop place (the_code p) ≡ copies after (jump n behind (order_code (the_blocks p) behind)) → Matched (record s { place = n; here = all_moved after d }) (at place d)
    tail_goes after n listed behind d place e =
        let tail = tail_comes p after n listed behind (at place d) refl e in
        (at tail.0 (all_moved after d), at_node n listed (all_moved after d) tail.0 tail.1 tail.2, tail.3)

    act_goes : (act : Option Act) (o : Option Data) (after : List Move) (n : ℕ) → Contains p.order n → (behind : List ℕ) (d : Data) (place : ℕ) (s' : State) → blocks.does_any act d ≡ o → goes_to s n (option_map (all_moved after) o) ≡ Goes s' → drop place (the_code p) ≡ act_code act (copies after (jump n behind (order_code (the_blocks p) behind))) → Matched s' (at place d)
    act_goes act None after n listed behind d place s' does_it goes e = cc (goes)
    act_goes None (Some d1) after n listed behind d place s' does_it goes e =
        let is : record s { place = n; here = all_moved after d } ≡ s' = cc in
        subst (λ x. Matched x (at place d)) is (tail_goes after n listed behind d place e)
    act_goes (Some act) (Some d1) after n listed behind d place s' does_it goes e =
        let rest = copies after (jump n behind (order_code (the_blocks p) behind)) in
        let is : record s { place = n; here = all_moved after d1 } ≡ s' = cc in
        let tail = tail_goes after n listed behind d1 (place + 1) (drop-behind (the_code p) place (Do act) rest e) in
        let step : code.next targets (at place d) ≡ Goes (at (place + 1) d1) =
        step_at p (at place d) (Do act) rest refl e ∙ ap (goes_to (at place d) (place + 1)) does_it in
        subst (λ x. Matched x (at place d)) is (tail.0, tail.1, comes_step (at place d) (at (place + 1) d1) tail.0 step tail.2)

    branch_goes : (o : Option Bool) (test : Test) (taken other : ℕ) → Contains p.order taken → Contains p.order other → (behind : List ℕ) (d : Data) (place : ℕ) (s' : State) → holds test d ≡ o → blocks.branches s d taken other o ≡ Goes s' → drop place (the_code p) ≡ Branch test taken ∷ jump other behind (order_code (the_blocks p) behind) → Matched s' (at place d)
    branch_goes None test taken other t_listed o_listed behind d place s' answer goes e = cc (goes)
    branch_goes (Some true) test taken other t_listed o_listed behind d place s' answer goes e =
        let rest = jump other behind (order_code (the_blocks p) behind) in
        let f = finds-order (the_blocks p) p.order taken (blocks_of_order p.source.function p.target.function p.order p.laid_out) t_listed in
        let leads : place_of taken (the_code p) ≡ Some f.1.place = ap (place_of taken) p.laid_out.code ∙ f.1.found in
        let stands : drop f.1.place (the_code p) ≡ order_code (the_blocks p) (taken ∷ f.0) = ap (drop f.1.place) p.laid_out.code ∙ f.1.stands in
        let step : code.next targets (at place d) ≡ Goes (at f.1.place d) =
        step_at p (at place d) (Branch test taken) rest refl e
        ∙ ap (code.branches (at place d) (place_of taken (the_code p))) answer
        ∙ ap (code.jumps (at place d)) leads in
        let is : record s { place = taken; here = d } ≡ s' = cc in
        subst (λ x. Matched x (at place d)) is (at f.1.place d, at_node taken t_listed d f.1.place f.0 stands, comes_step (at place d) (at f.1.place d) _ step (comes_none _))
    branch_goes (Some false) test taken other t_listed o_listed behind d place s' answer goes e =
        let rest = jump other behind (order_code (the_blocks p) behind) in
        let step : code.next targets (at place d) ≡ Goes (at (place + 1) d) =
        step_at p (at place d) (Branch test taken) rest refl e
        ∙ ap (code.branches (at place d) (place_of taken (the_code p))) answer in
        let tail = tail_goes [] other o_listed behind d (place + 1) (drop-behind (the_code p) place (Branch test taken) rest e) in
        let is : record s { place = other; here = d } ≡ s' = cc in
        subst (λ x. Matched x (at place d)) is (tail.0, tail.1, comes_step (at place d) (at (place + 1) d) tail.0 step tail.2)

    -- a call: the callee's code begins with its entry, and the moves and the jump stand behind the call
    begun_related : (function : ℕ) (q : Pair sources targets function) (values : List (Option ℕ)) (target : Option Location) (after : List Move) (n : ℕ) → Contains p.order n → (behind : List ℕ) (d : Data) (place : ℕ) → drop (place + 1) (the_code p) ≡ copies after (jump n behind (order_code (the_blocks p) behind)) → Related sources targets (begun s d function (blocks.callee_of q.source) values (waiting s d target n after)) (begun (at place d) d function (code.callee_of q.target) values (waiting (at place d) d target (place + 1) []))
    begun_related function q values target after n listed behind d place e =
        let first = first_listed q.order q.source.function.entry q.laid_out.allowed.lists.entry in
        let caller : FrameRelated sources targets (waiting s d target n after) (waiting (at place d) d target (place + 1) []) =
        record { pair = p; listed = listed; behind = behind; stands = e; same = refl } in
        let frame = q.laid_out.frame in
        let same : begun (at place d) d function (code.callee_of q.target) values (waiting (at place d) d target (place + 1) []) ≡ record (begun s d function (blocks.callee_of q.source) values (waiting s d target n after)) { place = 0; callers = waiting (at place d) d target (place + 1) [] ∷ callers } =
        λ i. begun (at place d) d function (record { parameters = frame.parameters i; slots = frame.slots i; place = 0 }) values (waiting (at place d) d target (place + 1) []) in
        record {
          pair = q;
          listed = first.0;
          behind = first.1.0;
          stands = q.laid_out.code ∙ ap (order_code q.source.function.blocks) first.1.1;
          same = same;
          callers = (caller, related);
        }

    call_goes : (function : ℕ) (o : Option (Named ltl.FunctionData)) (arguments : List Location) (target : Option Location) (after : List Move) (n : ℕ) → Contains p.order n → (behind : List ℕ) (d : Data) (place : ℕ) (s' : State) → slice_get sources function ≡ o → calls s d function (values_of arguments d) (waiting s d target n after) (option_map blocks.callee_of o) ≡ Goes s' → drop place (the_code p) ≡ Call function arguments target ∷ copies after (jump n behind (order_code (the_blocks p) behind)) → Matched s' (at place d)
    call_goes function None arguments target after n listed behind d place s' found goes e = cc (goes)
    call_goes function (Some f) arguments target after n listed behind d place s' found goes e =
        let pair = pairs function f found in
        let q = pair.0 in
        let values = values_of arguments d in
        let rest = copies after (jump n behind (order_code (the_blocks p) behind)) in
        let caller = waiting (at place d) d target (place + 1) [] in
        let to : State = begun (at place d) d function (code.callee_of q.target) values caller in
        let begins = begun_related function q values target after n listed behind d place (drop-behind (the_code p) place (Call function arguments target) rest e) in
        let began = begins_where (length values == length q.source.function.parameters) (begun s d function (blocks.callee_of q.source) values (waiting s d target n after)) s' (subst (λ g. calls s d function values (waiting s d target n after) (Some (blocks.callee_of g)) ≡ Goes s') (sym pair.1) goes) in
        let counted : (length values == length q.target.function.parameters) ≡ true = ap (λ ps. length values == length ps) q.laid_out.frame.parameters ∙ began.0 in
        let step : code.next targets (at place d) ≡ Goes to =
        step_at p (at place d) (Call function arguments target) rest refl e
        ∙ ap (λ o. calls (at place d) d function values caller (option_map code.callee_of o)) q.is_target
        ∙ ap (λ b. cond b (Goes to) Fails) counted in
        subst (λ x. Matched x (at place d)) began.1 (to, begins, comes_step (at place d) to to step (comes_none to))

    body_goes : (b : Body) → All (Contains p.order) (successors b) → (behind : List ℕ) (d : Data) (place : ℕ) (s' : State) → blocks.body_step sources s d b ≡ Goes s' → drop place (the_code p) ≡ body_code b behind (order_code (the_blocks p) behind) → Matched s' (at place d)
    body_goes (body.Go act after n) listed behind d place s' goes e =
        act_goes act (blocks.does_any act d) after n (listed 0 n (omega arith)) behind d place s' refl goes e
    body_goes (body.Call function arguments target after n) listed behind d place s' goes e =
        call_goes function (slice_get sources function) arguments target after n (listed 0 n (omega arith)) behind d place s' refl goes e
    body_goes (body.Branch test taken other) listed behind d place s' goes e =
        branch_goes (holds test d) test taken other (listed 0 taken (omega arith)) (listed 1 other (omega arith)) behind d place s' refl goes e
    body_goes (body.Return value) listed behind d place s' goes e =
        let back = return_goes s.callers callers related d (returned value d) s' goes in
        let step : code.next targets (at place d) ≡ Goes back.0 =
        step_at p (at place d) (Return value) (order_code (the_blocks p) behind) refl e ∙ back.1 in
        let matched = back.2 in
        (matched.0, matched.1, comes_step (at place d) back.0 matched.0 step matched.2)

    -- only a return ends
    body_ends : (b : Body) (behind : List ℕ) (d : Data) (place : ℕ) (result : ℕ) → blocks.body_step sources s d b ≡ Ends result → drop place (the_code p) ≡ body_code b behind (order_code (the_blocks p) behind) → code.next targets (at place d) ≡ Ends result
    body_ends (body.Go act after n) behind d place result ends e = never_ends s n (option_map (all_moved after) (blocks.does_any act d)) ends
      where
        never_ends : (s : State) (n : ℕ) (o : Option Data) → goes_to s n o ≡ Ends result → code.next targets (at place d) ≡ Ends result
        never_ends s n None ends = cc
        never_ends s n (Some d) ends = cc
    body_ends (body.Call function arguments target after n) behind d place result ends e =
        call_never_ends s d function (values_of arguments d) (waiting s d target n after) (option_map blocks.callee_of (slice_get sources function)) result ends
    body_ends (body.Branch test taken other) behind d place result ends e = never_ends (holds test d) ends
      where
        never_ends : (o : Option Bool) → blocks.branches s d taken other o ≡ Ends result → code.next targets (at place d) ≡ Ends result
        never_ends None ends = cc
        never_ends (Some b) ends = cc
    body_ends (body.Return value) behind d place result ends e =
        step_at p (at place d) (Return value) (order_code (the_blocks p) behind) refl e
        ∙ return_ends s.callers callers related d (returned value d) result ends

    -- the label and the first moves of a stretch
    front_runs : (b : Block) (behind : List ℕ) (place : ℕ) → drop place (the_code p) ≡ Label s.place ∷ copies b.before (body_code b.body behind (order_code (the_blocks p) behind)) → (place' : ℕ) × (drop place' (the_code p) ≡ body_code b.body behind (order_code (the_blocks p) behind)) × Leads (code.next targets) printed (at place s.here) (at place' (all_moved b.before s.here))
    front_runs b behind place e =
        let rest = copies b.before (body_code b.body behind (order_code (the_blocks p) behind)) in
        let labelled : code.next targets (at place s.here) ≡ Goes (at (place + 1) s.here) = step_at p (at place s.here) (Label s.place) rest refl e in
        let moves = copies_run p b.before (body_code b.body behind (order_code (the_blocks p) behind)) (at (place + 1) s.here) refl (drop-behind (the_code p) place (Label s.place) rest e) in
        (moves.0, moves.1, leads_comes (at place s.here) (at (place + 1) s.here) _ labelled moves.2)

    -- the step of the first program
    block_of : (b : Block) → slice_get (the_blocks p) s.place ≡ Some b → blocks.next sources s ≡ blocks.body_step sources s (all_moved b.before s.here) b.body
    block_of b e = ap (blocks.function_step sources s) p.is_source ∙ ap (blocks.block_step sources s) e

    the_block : Contains p.order s.place → (b : Block) × (slice_get (the_blocks p) s.place ≡ Some b)
    the_block listed = (blocks_of_order p.source.function p.target.function p.order p.laid_out).block s.place listed

    stretch_of : (b : Block) → slice_get (the_blocks p) s.place ≡ Some b → (behind : List ℕ) (place : ℕ) → drop place (the_code p) ≡ order_code (the_blocks p) (s.place ∷ behind) → drop place (the_code p) ≡ Label s.place ∷ copies b.before (body_code b.body behind (order_code (the_blocks p) behind))
    stretch_of b e behind place stands = stands ∙ ap (λ o. stretch s.place o behind (order_code (the_blocks p) behind)) e

    pub block_goes : Contains p.order s.place → (behind : List ℕ) (place : ℕ) → drop place (the_code p) ≡ order_code (the_blocks p) (s.place ∷ behind) → (s' : State) → blocks.next sources s ≡ Goes s' → (t' : State) × Related sources targets s' t' × Leads (code.next targets) printed (at place s.here) t'
    block_goes listed behind place stands s' goes =
        let b = the_block listed in
        let successors_listed = listed_successors p.source.function p.target.function p.order p.laid_out s.place listed b.0 b.1 in
        let front = front_runs b.0 behind place (stretch_of b.0 b.1 behind place stands) in
        let d = all_moved b.0.before s.here in
        let matched = body_goes b.0.body successors_listed behind d front.0 s' (sym (block_of b.0 b.1) ∙ goes) front.1 in (
          matched.0,
          matched.1,
          record {
            by = λ k.
                let j = matched.2.by k in
                let i = front.2.by j.0 in
                (i.0, omega (arith, i.1, j.1), i.2 ∙ j.2);
          },
        )

    pub block_ends : Contains p.order s.place → (behind : List ℕ) (place : ℕ) → drop place (the_code p) ≡ order_code (the_blocks p) (s.place ∷ behind) → (result : ℕ) → blocks.next sources s ≡ Ends result → (j : ℕ) × (shows (code.next targets) printed j (at place s.here) ≡ record { shown = shown.Ended result; output = printed s })
    block_ends listed behind place stands result ends =
        let b = the_block listed in
        let front = front_runs b.0 behind place (stretch_of b.0 b.1 behind place stands) in
        let d = all_moved b.0.before s.here in
        let step = body_ends b.0.body behind d front.0 result (sym (block_of b.0 b.1) ∙ ends) front.1 in
        let i = front.2.by 1 in
        (i.0, i.2 ∙ ap (λ x. showing x (shows (code.next targets) printed 0) d.output) step ∙ ap (λ o. record { shown = shown.Ended result; output = o }) (output-all_moved b.0.before s.here))
