-- What the pass accepts keeps the meaning of whole programs.
use Rattle.std.proofs.Common.{◌≡◌, ℕ, suc, List, [], ◌∷◌, get_or, Option, Some, None, cond, ◌&&◌, refl, sym, ap, ◌∙◌, subst}
use Rattle.std.specs.Prelude.{All, slice_get, ◌==◌, codes}
use Rattle.std.specs.Str.{bytes_eq}
use Rattle.std.proofs.lemmas.List.{length-replicate}
use Rattle.std.proofs.lemmas.List.Elements.{All-head, All-tail}
use Rattle.lang_base.specs.Keeps.{Keeps}
use Rattle.lang_base.specs.Machine.{showing, shows, Leads, Matches}
use Rattle.lang_base.specs.declared.program.Global.{Global}
use Rattle.lang_base.specs.declared.program.Named.{Named}
use Rattle.lang_base.specs.declared.program.Program.{Program}
use Rattle.lang_base.specs.Soundness.{AllFit, Accepted, AcceptedInTurn}
use Rattle.lang_base.specs.declared.shown.Shown.TheVariants as shown
use Rattle.lang_base.proofs.Simulation.{leads-step, keeps-matches}
use Rattle.rtl_acts.specs.Data as rtl_data
use Rattle.rtl_language.specs.Function as rtl
use Rattle.rtl_language.specs.Frames as rtl_frames
use Rattle.rtl_language.specs.Meaning as rtl_meaning
use Rattle.machine.specs.Data.{value_at}
use Rattle.machine.specs.Frames.{State, printed, main_number, begins}
use Rattle.ltl.specs.Function as ltl
use Rattle.ltl.specs.Meaning.{takes_none, next, entry_of, slots_of, run}
use Rattle.ltl.specs.Growth.{grows}
use Rattle.alloc_check_rules.specs.Rules.{equations_at}
use Rattle.alloc_check_fill.specs.Right.{AreRight}
use Rattle.alloc_check_proof.specs.Allocated.{filled, IsAllocated}
use Rattle.alloc_check_proof.proofs.Right.{right_from}
use Rattle.alloc_check_proof.specs.Related.{IsSound, Pair, Related}
use Rattle.alloc_check_rules.proofs.Locations.{covers_none}
use Rattle.alloc_check_rules.proofs.Entries.{nothing_there}
use Rattle.alloc_check_proof.proofs.Steps.{pair_of, state_goes, state_ends}

-- each step of the first program is matched by one step of the second
matched : (sources : List (Named rtl.FunctionData)) (targets : List (Named ltl.FunctionData)) → AcceptedInTurn IsSound sources targets → Matches (rtl_meaning.next sources) rtl_frames.printed (next targets) printed (Related sources targets)
matched sources targets accepted = record {
  goes = λ s s' t r goes.
      let m = state_goes sources targets accepted s r.pair t.here t.callers r.agrees r.callers (slice_get r.pair.source.function.nodes s.place) refl s' goes in
      subst (λ x. (t' : State) × Related sources targets s' t' × Leads (next targets) printed x t') (sym r.same) (m.0, m.2, leads-step m.1);
  ends = λ s t result r ends.
      let e = state_ends sources targets accepted s r.pair t.here t.callers r.agrees r.callers (slice_get r.pair.source.function.nodes s.place) refl result ends in
      subst (λ x. (j : ℕ) × (shows (next targets) printed j x ≡ record { shown = shown.Ended result; output = rtl_frames.printed s })) (sym r.same)
      (1, ap (λ x. showing x (shows (next targets) printed 0) t.here.output) e ∙ ap (λ o. record { shown = shown.Ended result; output = o }) r.agrees.output);
  same = λ s t r. sym r.agrees.output;
}

-- main has the same number in both
main_number_same : (fs : List (Named rtl.FunctionData)) (gs : List (Named ltl.FunctionData)) → AcceptedInTurn IsSound fs gs → main_number rtl_meaning.takes_none fs ≡ main_number takes_none gs
main_number_same [] [] accepted = refl
main_number_same [] (g ∷ gs) accepted = absurd accepted
main_number_same (f ∷ fs) [] accepted = absurd accepted
main_number_same (f ∷ fs) (g ∷ gs) accepted =
    let sound = accepted.0.1.1 in
    let takes : rtl_meaning.takes_none f.function ≡ takes_none g.function = ap (λ n. n == 0) (sym sound.allocated.shape.parameters) in
    ap (λ n. cond (bytes_eq n (codes "main") && rtl_meaning.takes_none f.function) 0 (suc (main_number rtl_meaning.takes_none fs))) accepted.0.0
    ∙ ap (λ b. cond (bytes_eq g.name (codes "main") && b) 0 (suc (main_number rtl_meaning.takes_none fs))) takes
    ∙ ap (λ n. cond (bytes_eq g.name (codes "main") && takes_none g.function) 0 (suc n)) (main_number_same fs gs accepted.1)

-- where main is, both programs begin related: nothing is defined in the first
main_starts : (globals : List Global) (fs : List (Named rtl.FunctionData)) (gs : List (Named ltl.FunctionData)) → AcceptedInTurn IsSound fs gs → (number : ℕ) (p : Pair fs gs number) → Keeps (λ n. shows (rtl_meaning.next fs) rtl_frames.printed n (rtl_meaning.begins globals number (Some p.source))) (λ n. shows (next gs) printed n (begins globals number p.target.function.entry p.target.function.slots))
main_starts globals fs gs accepted number p =
    let s : rtl_frames.State = rtl_meaning.begins globals number (Some p.source) in
    let t : State = begins globals number p.target.function.entry p.target.function.slots in
    let related : Related fs gs s t =
    record {
      pair = p;
      same = λ i. record { function = number; place = p.sound.allocated.shape.entry i; here = t.here; callers = [] };
      agrees = record {
        frame = record { registers = length-replicate {A = Option ℕ} 8 None; slots = length-replicate {A = Option ℕ} p.target.function.slots None };
        globals = refl;
        output = refl;
        holds = λ k q below.
            let x = get_or (equations_at p.lists p.source.function.entry) k q in
            covers_none (rtl_data.value_at x.register s.here) (value_at x.location t.here) (nothing_there p.source.function.registers x.register);
      };
      callers = tt;
    } in
    keeps-matches (rtl_meaning.next fs) rtl_frames.printed (next gs) printed (Related fs gs) (matched fs gs accepted) (grows gs) s t related

starts : (globals : List Global) (fs : List (Named rtl.FunctionData)) (gs : List (Named ltl.FunctionData)) → AcceptedInTurn IsSound fs gs → (number : ℕ) (o : Option (Named rtl.FunctionData)) → slice_get fs number ≡ o → Keeps (λ n. shows (rtl_meaning.next fs) rtl_frames.printed n (rtl_meaning.begins globals number o)) (λ n. shows (next gs) printed n (begins globals number (entry_of (slice_get gs number)) (slots_of (slice_get gs number))))
starts globals fs gs accepted number None e =
    λ never. absurd (never 1 (ap (λ x. (showing (rtl_meaning.function_step fs (rtl_meaning.begins globals number None) x) (shows (rtl_meaning.next fs) rtl_frames.printed 0) []).shown) e))
starts globals fs gs accepted number (Some f) e =
    let found = pair_of fs gs accepted number f e in
    let p = found.0 in
    let both = main_starts globals fs gs accepted number p in
    subst (λ x. Keeps (λ n. shows (rtl_meaning.next fs) rtl_frames.printed n (rtl_meaning.begins globals number (Some f))) (λ n. shows (next gs) printed n (begins globals number (entry_of x) (slots_of x)))) (sym p.is_target)
    (subst (λ x. Keeps (λ n. shows (rtl_meaning.next fs) rtl_frames.printed n (rtl_meaning.begins globals number (Some x))) (λ n. shows (next gs) printed n (begins globals number p.target.function.entry p.target.function.slots))) found.1 both)

-- functions that stand for each other and are in range
all_sound : (fs : List (Named rtl.FunctionData)) (gs : List (Named ltl.FunctionData)) → All (λ f. rtl.IsFunction f.function) fs → All (λ g. ltl.IsFunction g.function) gs → AcceptedInTurn AreRight fs gs → AcceptedInTurn IsSound fs gs
all_sound [] [] fits also accepted = tt
all_sound [] (g ∷ gs) fits also accepted = absurd accepted
all_sound (f ∷ fs) [] fits also accepted = absurd accepted
all_sound (f ∷ fs) (g ∷ gs) fits also accepted =
    let one = accepted.0.1 in (
      (accepted.0.0, (one.0, record { input = All-head (λ f. rtl.IsFunction f.function) f fs fits; output = All-head (λ g. ltl.IsFunction g.function) g gs also; allocated = one.1 })),
      all_sound fs gs (All-tail (λ f. rtl.IsFunction f.function) f fs fits) (All-tail (λ g. ltl.IsFunction g.function) g gs also) accepted.1,
    )

pub right_keep : (p : Program rtl.FunctionData) (q : Program ltl.FunctionData) → AllFit rtl.IsFunction p → AllFit ltl.IsFunction q → Accepted AreRight p q → Keeps (rtl_meaning.run p) (run q)
right_keep p q fits also accepted =
    let sounds = all_sound p.functions q.functions fits also accepted.functions in
    let number = main_number rtl_meaning.takes_none p.functions in
    let both = starts p.globals p.functions q.functions sounds number (slice_get p.functions number) refl in
    let at_same : Keeps (rtl_meaning.run p) (λ n. shows (next q.functions) printed n (begins p.globals (main_number takes_none q.functions) (entry_of (slice_get q.functions (main_number takes_none q.functions))) (slots_of (slice_get q.functions (main_number takes_none q.functions))))) =
    subst (λ k. Keeps (rtl_meaning.run p) (λ n. shows (next q.functions) printed n (begins p.globals k (entry_of (slice_get q.functions k)) (slots_of (slice_get q.functions k))))) (main_number_same p.functions q.functions sounds) both in
    subst (λ globals. Keeps (rtl_meaning.run p) (λ n. shows (next q.functions) printed n (begins globals (main_number takes_none q.functions) (entry_of (slice_get q.functions (main_number takes_none q.functions))) (slots_of (slice_get q.functions (main_number takes_none q.functions)))))) accepted.globals at_same

-- accepted rows tell lists that are right
all_right : (fs : List (Named rtl.FunctionData)) (gs : List (Named ltl.FunctionData)) → All (λ f. rtl.IsFunction f.function) fs → All (λ g. ltl.IsFunction g.function) gs → AcceptedInTurn IsAllocated fs gs → AcceptedInTurn AreRight fs gs
all_right [] [] fits also accepted = tt
all_right [] (g ∷ gs) fits also accepted = absurd accepted
all_right (f ∷ fs) [] fits also accepted = absurd accepted
all_right (f ∷ fs) (g ∷ gs) fits also accepted =
    let one = accepted.0.1 in (
      (accepted.0.0, (filled f.function g.function one.0, right_from f.function g.function one.0 (All-head (λ f. rtl.IsFunction f.function) f fs fits) (All-head (λ g. ltl.IsFunction g.function) g gs also) one.1)),
      all_right fs gs (All-tail (λ f. rtl.IsFunction f.function) f fs fits) (All-tail (λ g. ltl.IsFunction g.function) g gs also) accepted.1,
    )

pub sound : (p : Program rtl.FunctionData) (q : Program ltl.FunctionData) → AllFit rtl.IsFunction p → AllFit ltl.IsFunction q → Accepted IsAllocated p q → Keeps (rtl_meaning.run p) (run q)
sound p q fits also accepted =
    right_keep p q fits also (record { globals = accepted.globals; functions = all_right p.functions q.functions fits also accepted.functions })
