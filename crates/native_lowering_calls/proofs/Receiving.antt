-- All parameters are received: their locations have what the caller passed.
use Rattle.std.proofs.Common.{◌≡◌, ℕ, zero, suc, ◌+◌, ◌<◌, ◌≤◌, List, [], ◌∷◌, ◌++◌, length, drop, Option, Some, refl, sym, ap, subst, ◌∙◌, arith, length-append}
use Rattle.std.specs.Prelude.{slice_index}
use Rattle.std.specs.List.{AllByRecursion}
use Rattle.lang_base.specs.declared.program.Named.{Named}
use Rattle.locations.specs.declared.location.Location.{Location}
use Rattle.locations.specs.declared.location.Location.TheVariants.{InRegister}
use Rattle.machine.specs.Calls.{with_arguments}
use Rattle.machine.specs.Data.{Data, put_at}
use Rattle.machine.specs.Fits.{LocationFits}
use Rattle.linear_language.specs.Function.{FunctionData}
use Rattle.x86_syntax.specs.Registers.{number_of}
use Rattle.x86_syntax.specs.declared.function.Function.{Function}
use Rattle.x86_syntax.specs.declared.instruction.Instruction.{Instruction}
use Rattle.x86_syntax.specs.declared.register.Register.{Register}
use Rattle.x86_state.specs.Cells.{word_at}
use Rattle.x86_state.specs.State.{State, Goes}
use Rattle.x86_state.specs.declared.cell.Cell.{Cell}
use Rattle.x86_state.specs.declared.cell.Cell.TheVariants.{Back}
use Rattle.x86_state.specs.declared.cell.Spot.{Spot}
use Rattle.native_lowering_definition.specs.Frames.{Frame, frame_of, argument_cell}
use Rattle.native_lowering_definition.specs.Locations.{passing}
use Rattle.native_lowering_definition.specs.Moving.{puts, takes, puts_each, takes_each, receives}
use Rattle.native_lowering_definition.specs.Operating.{Block}
use Rattle.native_lowering_relation.specs.Agreeing.{Agrees}
use Rattle.native_lowering_relation.specs.Standing.{Held, Holds, IsFull, laid}
use Rattle.native_lowering_relation.proofs.Kept.{Among}
use Rattle.native_lowering_relation.proofs.Standing.{above_past}
use Rattle.native_lowering_runs.proofs.Blocks.{walks_then}
use Rattle.native_lowering_runs.proofs.Saved.{or_same, or_then, written_saved, parameter_written}
use Rattle.native_lowering_passing.specs.Moved.{with_frame}
use Rattle.native_lowering_passing.proofs.Receiving.{Received, puts_received, takes_received}
use Rattle.native_lowering_calls.specs.Given.{AgreeIn, AgreeFrom, first_given}
use Rattle.native_lowering_calls.proofs.Lists.{all_from, all_drop}

-- the function saves the register, if the location is one of r4 to r7
abbrev pub IsSaved : FunctionData → Location → Type 0
IsSaved f l = (r : ℕ) → l ≡ InRegister r → 4 ≤ r → r < 8 → Among r (frame_of f).saved

pub parameters_saved : (f : FunctionData) → AllByRecursion (IsSaved f) f.parameters
parameters_saved f = all_from (IsSaved f) f.parameters (λ k l at r e low high. written_saved f r (parameter_written f k r (at ∙ ap (λ x. Some x) e)) low high)

-- a register past eax
abbrev IsPast : Register → Type 0
IsPast r = 8 < number_of r

passing_past : AllByRecursion IsPast passing
unfolding number_of
passing_past = (omega arith, (omega arith, (omega arith, (omega arith, tt))))

agree_in_same : (rs : List Register) (vs : List (Option ℕ)) (words words' : List ℕ) → AllByRecursion IsPast rs → ((r : ℕ) → 8 < r → slice_index words' r ≡ slice_index words r)
    → AgreeIn rs vs words → AgreeIn rs vs words'
agree_in_same [] vs words words' past same agree = tt
agree_in_same (r ∷ rs) [] words words' past same agree = tt
agree_in_same (r ∷ rs) (v ∷ vs) words words' past same agree =
    (subst (Agrees v) (sym (same (number_of r) past.0)) agree.0, agree_in_same rs vs words words' past.1 same agree.1)

-- the first arguments, then the others
given_all : (rs : List Register) (ls : List Location) (vs : List (Option ℕ)) (d : Data) → length vs ≡ length ls
    → with_arguments (drop (length rs) ls) (drop (length rs) vs) (first_given rs ls vs d) ≡ with_arguments ls vs d
given_all [] ls vs d count = refl
given_all (r ∷ rs) [] vs d count = refl
given_all (r ∷ rs) (l ∷ ls) [] d count = absurd (omega arith)
given_all (r ∷ rs) (l ∷ ls) (v ∷ vs) d count = given_all rs ls vs (put_at l v d) (omega arith)

-- a cell of the caller's frame
pub argument_at : (frame : Frame) (held : Held) (back : Option Spot) (under : List Cell) (j : ℕ) → IsFull frame held → word_at (laid held back under) (argument_cell frame j) ≡ word_at under j
argument_at frame held back under j full =
    above_past held.outs _ (length held.slots + (length held.saved + suc j)) (argument_cell frame j) (omega (arith, full.outs, full.slots, full.saved))
    ∙ above_past held.slots _ (length held.saved + suc j) (length held.slots + (length held.saved + suc j)) refl
    ∙ above_past held.saved (Back back ∷ under) (suc j) (length held.saved + suc j) refl

module _ (functions : List (Named Function)) (room : Option ℕ) (code : List Instruction) (f : FunctionData) (t : State) (back : Option Spot) (under : List Cell) where
  abbrev At : ℕ → List ℕ → Held → State
  At = with_frame t back under

  abbrev Receives : Block → ℕ → List ℕ → Held → Data → Type 0
  Receives = Received functions room code f t back under

  pub none : (place : ℕ) (words : List ℕ) (held : Held) (d : Data) → Holds f d.registers d.slots words held → Receives [] place words held d
  none place words held d holds = record {
    words' = words;
    held' = held;
    walk = ap (λ k. Goes (At k words held)) (omega arith);
    holds = holds;
    saved = refl;
    kept = or_same (frame_of f).saved words words refl;
    past = λ r high. refl;
  }

  both : (b c : Block) (place : ℕ) (words : List ℕ) (held : Held) (d e : Data) (first : Receives b place words held d) → Receives c (place + length b) first.words' first.held' e
      → Receives (b ++ c) place words held e
  both b c place words held d e first second =
      let far : place + length b + length c ≡ place + length (b ++ c) = rw length-append (omega arith) in
      record {
        words' = second.words';
        held' = second.held';
        walk = walks_then functions room code b c (At place words held) (At (place + length b) first.words' first.held') (Goes (At (place + length b + length c) second.words' second.held')) first.walk second.walk
            ∙ ap (λ k. Goes (At k second.words' second.held')) far;
        holds = second.holds;
        saved = second.saved ∙ first.saved;
        kept = or_then (frame_of f).saved words first.words' second.words' first.kept second.kept;
        past = λ r high. second.past r high ∙ first.past r high;
      }

  puts_each_received : (ls : List Location) (rs : List Register) (vs : List (Option ℕ)) (place : ℕ) (words : List ℕ) (held : Held) (d : Data) → Holds f d.registers d.slots words held
      → AllByRecursion (LocationFits f.slots) ls → AllByRecursion (IsSaved f) ls → AllByRecursion IsPast rs → length vs ≡ length ls → AgreeIn rs vs words
      → Receives (puts_each (frame_of f) ls rs) place words held (first_given rs ls vs d)
  puts_each_received [] [] vs place words held d holds fits saved past count agree = none place words held d holds
  puts_each_received [] (r ∷ rs) vs place words held d holds fits saved past count agree = none place words held d holds
  puts_each_received (l ∷ ls) [] vs place words held d holds fits saved past count agree = none place words held d holds
  puts_each_received (l ∷ ls) (r ∷ rs) [] place words held d holds fits saved past count agree = absurd (omega arith)
  puts_each_received (l ∷ ls) (r ∷ rs) (v ∷ vs) place words held d holds fits saved past count agree =
      let one = puts_received functions room code f t back under l r v place words held d holds fits.0 saved.0 agree.0 in
      both (puts (frame_of f) l r) (puts_each (frame_of f) ls rs) place words held (put_at l v d) (first_given rs ls vs (put_at l v d)) one
      (puts_each_received ls rs vs (place + length (puts (frame_of f) l r)) one.words' one.held' (put_at l v d) one.holds fits.1 saved.1 past.1 (omega arith)
      (agree_in_same rs vs words one.words' past.1 one.past agree.1))

  takes_each_received : (ls : List Location) (j : ℕ) (vs : List (Option ℕ)) (place : ℕ) (words : List ℕ) (held : Held) (d : Data) → Holds f d.registers d.slots words held
      → AllByRecursion (LocationFits f.slots) ls → AllByRecursion (IsSaved f) ls → length vs ≡ length ls → AgreeFrom j vs under
      → Receives (takes_each (frame_of f) j ls) place words held (with_arguments ls vs d)
  takes_each_received [] j vs place words held d holds fits saved count agree = none place words held d holds
  takes_each_received (l ∷ ls) j [] place words held d holds fits saved count agree = absurd (omega arith)
  takes_each_received (l ∷ ls) j (v ∷ vs) place words held d holds fits saved count agree =
      let cell = argument_cell (frame_of f) j in
      let one = takes_received functions room code f t back under l cell agree.0.word v place words held d holds fits.0 saved.0
      (argument_at (frame_of f) held back under j holds.full ∙ agree.0.there) agree.0.agrees in
      both (takes (frame_of f) l cell) (takes_each (frame_of f) (j + 1) ls) place words held (put_at l v d) (with_arguments ls vs (put_at l v d)) one
      (takes_each_received ls (j + 1) vs (place + length (takes (frame_of f) l cell)) one.words' one.held' (put_at l v d) one.holds fits.1 saved.1 (omega arith) agree.1)

  pub all_received : (vs : List (Option ℕ)) (place : ℕ) (words : List ℕ) (held : Held) (d : Data) → Holds f d.registers d.slots words held → AllByRecursion (LocationFits f.slots) f.parameters
      → length vs ≡ length f.parameters → AgreeIn passing vs words → AgreeFrom 0 (drop 4 vs) under → Receives (receives (frame_of f) f.parameters) place words held (with_arguments f.parameters vs d)
  all_received vs place words held d holds fits count first others =
      let ls = f.parameters in
      let one = puts_each_received ls passing vs place words held d holds fits (parameters_saved f) passing_past count first in
      let c = puts_each (frame_of f) ls passing in
      subst (λ e. Receives (receives (frame_of f) ls) place words held e) (given_all passing ls vs d count)
      (both c (takes_each (frame_of f) 0 (drop 4 ls)) place words held (first_given passing ls vs d) (with_arguments (drop 4 ls) (drop 4 vs) (first_given passing ls vs d)) one
      (takes_each_received (drop 4 ls) 0 (drop 4 vs) (place + length c) one.words' one.held' (first_given passing ls vs d) one.holds
      (all_drop (LocationFits f.slots) 4 ls fits) (all_drop (IsSaved f) 4 ls (parameters_saved f)) (dropped 4 vs ls count) others))
    where
      dropped : (n : ℕ) (vs : List (Option ℕ)) (ls : List Location) → length vs ≡ length ls → length (drop n vs) ≡ length (drop n ls)
      dropped zero vs ls e = e
      dropped (suc n) [] [] e = refl
      dropped (suc n) [] (l ∷ ls) e = absurd (omega arith)
      dropped (suc n) (v ∷ vs) [] e = absurd (omega arith)
      dropped (suc n) (v ∷ vs) (l ∷ ls) e = dropped n vs ls (omega arith)
