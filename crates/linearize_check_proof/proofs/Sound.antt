-- What the pass accepts keeps the meaning of whole programs.
use Rattle.std.proofs.Common.{◌≡◌, ℕ, zero, suc, List, [], ◌∷◌, length, Option, Some, None, cond, ◌&&◌, refl, sym, ap, ◌∙◌, subst}
use Rattle.std.specs.Prelude.{slice_get, ◌==◌, codes}
use Rattle.std.specs.Str.{bytes_eq}
use Rattle.lang_base.specs.Keeps.{Keeps}
use Rattle.lang_base.specs.Machine.{showing, shows, Leads, Matches}
use Rattle.lang_base.specs.declared.program.Global.{Global}
use Rattle.lang_base.specs.declared.program.Named.{Named}
use Rattle.lang_base.specs.declared.program.Program.{Program}
use Rattle.lang_base.specs.Soundness.{Accepted, AcceptedInTurn}
use Rattle.lang_base.specs.declared.shown.Shown.TheVariants as shown
use Rattle.lang_base.proofs.Simulation.{keeps-matches}
use Rattle.linear_language.specs.Frames.{State, printed, main_number, begins}
use Rattle.ltl.specs.Function as ltl
use Rattle.ltl.specs.Meaning as blocks
use Rattle.linear_language.specs.Function as linear
use Rattle.linear_language.specs.Meaning as code
use Rattle.linear_language.specs.Growth as growth
use Rattle.linearize_check_proof.specs.Layout.{order_code}
use Rattle.linearize_check_proof.specs.Rules.{IsLaidOut}
use Rattle.linearize_check_proof.specs.Related.{Pair, HasPairs, Related}
use Rattle.linearize_check_proof.proofs.Steps.{first_listed, block_goes, block_ends}

-- each step of the program is matched by its stretch of the code
matched : (sources : List (Named ltl.FunctionData)) (targets : List (Named linear.FunctionData)) → HasPairs sources targets → Matches (blocks.next sources) printed (code.next targets) printed (Related sources targets)
matched sources targets pairs = record {
  goes = λ s s' t r goes.
      let m = block_goes sources targets pairs s r.pair t.callers r.callers r.listed r.behind t.place r.stands s' goes in
      subst (λ x. (t' : State) × Related sources targets s' t' × Leads (code.next targets) printed x t') (sym r.same) m;
  ends = λ s t result r ends.
      let m = block_ends sources targets pairs s r.pair t.callers r.callers r.listed r.behind t.place r.stands result ends in
      subst (λ x. (j : ℕ) × (shows (code.next targets) printed j x ≡ record { shown = shown.Ended result; output = printed s })) (sym r.same) m;
  same = λ s t r. ap printed (sym r.same);
}

-- the functions of a number, accepted
pair_of : (fs : List (Named ltl.FunctionData)) (gs : List (Named linear.FunctionData)) → AcceptedInTurn IsLaidOut fs gs → (k : ℕ) (f : Named ltl.FunctionData) → slice_get fs k ≡ Some f → (p : Pair fs gs k) × (p.source ≡ f)
pair_of [] gs accepted k f e = cc
pair_of (f' ∷ fs) [] accepted k f e = absurd accepted
pair_of (f' ∷ fs) (g ∷ gs) accepted zero f e =
    let same : f' ≡ f = cc in
    let one = accepted.0.1 in
    (record { source = f'; target = g; order = one.0; is_source = refl; is_target = refl; laid_out = one.1 }, same)
pair_of (f' ∷ fs) (g ∷ gs) accepted (suc k) f e =
    let p = pair_of fs gs accepted.1 k f e in
    let q = p.0 in
    (record { source = q.source; target = q.target; order = q.order; is_source = q.is_source; is_target = q.is_target; laid_out = q.laid_out }, p.1)

-- main has the same number in both
main_number_same : (fs : List (Named ltl.FunctionData)) (gs : List (Named linear.FunctionData)) → AcceptedInTurn IsLaidOut fs gs → main_number blocks.takes_none fs ≡ main_number code.takes_none gs
main_number_same [] [] accepted = refl
main_number_same [] (g ∷ gs) accepted = absurd accepted
main_number_same (f ∷ fs) [] accepted = absurd accepted
main_number_same (f ∷ fs) (g ∷ gs) accepted =
    let laid = accepted.0.1.1 in
    let takes : blocks.takes_none f.function ≡ code.takes_none g.function = ap (λ ps. length ps == 0) (sym laid.frame.parameters) in
    ap (λ n. cond (bytes_eq n (codes "main") && blocks.takes_none f.function) 0 (suc (main_number blocks.takes_none fs))) accepted.0.0
    ∙ ap (λ b. cond (bytes_eq g.name (codes "main") && b) 0 (suc (main_number blocks.takes_none fs))) takes
    ∙ ap (λ n. cond (bytes_eq g.name (codes "main") && code.takes_none g.function) 0 (suc n)) (main_number_same fs gs accepted.1)

-- where main is, both programs start at its entry
main_starts : (globals : List Global) (fs : List (Named ltl.FunctionData)) (gs : List (Named linear.FunctionData)) (number : ℕ) (p : Pair fs gs number) → HasPairs fs gs → Keeps (λ n. shows (blocks.next fs) printed n (begins globals number p.source.function.entry p.source.function.slots)) (λ n. shows (code.next gs) printed n (begins globals number 0 (code.slots_of (slice_get gs number))))
main_starts globals fs gs number p pairs =
    let first = first_listed p.order p.source.function.entry p.laid_out.allowed.lists.entry in
    let slots : code.slots_of (slice_get gs number) ≡ p.source.function.slots = ap code.slots_of p.is_target ∙ p.laid_out.frame.slots in
    let s : State = begins globals number p.source.function.entry p.source.function.slots in
    let t : State = begins globals number 0 (code.slots_of (slice_get gs number)) in
    let related : Related fs gs s t =
    record {
      pair = p;
      listed = first.0;
      behind = first.1.0;
      stands = p.laid_out.code ∙ ap (order_code p.source.function.blocks) first.1.1;
      same = ap (begins globals number 0) slots;
      callers = tt;
    } in
    keeps-matches (blocks.next fs) printed (code.next gs) printed (Related fs gs) (matched fs gs pairs) (growth.grows gs) s t related

starts : (globals : List Global) (fs : List (Named ltl.FunctionData)) (gs : List (Named linear.FunctionData)) (number : ℕ) → AcceptedInTurn IsLaidOut fs gs → (o : Option (Named ltl.FunctionData)) → slice_get fs number ≡ o → Keeps (λ n. shows (blocks.next fs) printed n (begins globals number (blocks.entry_of o) (blocks.slots_of o))) (λ n. shows (code.next gs) printed n (begins globals number 0 (code.slots_of (slice_get gs number))))
starts globals fs gs number accepted None e =
    λ never. absurd (never 1 (ap (λ x. (showing (blocks.function_step fs (begins globals number 0 0) x) (shows (blocks.next fs) printed 0) []).shown) e))
starts globals fs gs number accepted (Some f) e =
    let found = pair_of fs gs accepted number f e in
    subst (λ x. Keeps (λ n. shows (blocks.next fs) printed n (begins globals number x.function.entry x.function.slots)) (λ n. shows (code.next gs) printed n (begins globals number 0 (code.slots_of (slice_get gs number))))) found.1 (main_starts globals fs gs number found.0 (pair_of fs gs accepted))

pub sound : (p : Program ltl.FunctionData) (q : Program linear.FunctionData) → Accepted IsLaidOut p q → Keeps (blocks.run p) (code.run q)
sound p q accepted =
    let number = main_number blocks.takes_none p.functions in
    let both = starts p.globals p.functions q.functions number accepted.functions (slice_get p.functions number) refl in
    let at_same : Keeps (blocks.run p) (λ n. shows (code.next q.functions) printed n (begins p.globals (main_number code.takes_none q.functions) 0 (code.slots_of (slice_get q.functions (main_number code.takes_none q.functions))))) =
    subst (λ k. Keeps (blocks.run p) (λ n. shows (code.next q.functions) printed n (begins p.globals k 0 (code.slots_of (slice_get q.functions k))))) (main_number_same p.functions q.functions accepted.functions) both in
    subst (λ globals. Keeps (blocks.run p) (λ n. shows (code.next q.functions) printed n (begins globals (main_number code.takes_none q.functions) 0 (code.slots_of (slice_get q.functions (main_number code.takes_none q.functions)))))) accepted.globals at_same
