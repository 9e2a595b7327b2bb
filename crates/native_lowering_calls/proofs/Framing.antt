-- The opening of a function: a frame is made, registers are saved, parameters received.
use Rattle.std.proofs.Common.{◌≡◌, ℕ, zero, suc, ◌+◌, ◌<◌, ◌≤◌, Bool, true, false, List, [], ◌∷◌, ◌++◌, length, replicate, Option, None, refl, sym, ap, subst, ◌∙◌, arith, length-append}
use Rattle.std.specs.Prelude.{nat_eq, if◌then◌else◌}
use Rattle.std.specs.List.{AllByRecursion}
use Rattle.std.proofs.lemmas.Bool.{eqb-true}
use Rattle.std.proofs.lemmas.List.{length-replicate}
use Rattle.lang_base.specs.declared.program.Named.{Named}
use Rattle.machine.specs.Calls.{with_arguments}
use Rattle.machine.specs.Data.{Data}
use Rattle.machine.specs.Fits.{LocationFits}
use Rattle.linear_language.specs.Function.{FunctionData}
use Rattle.x86_syntax.specs.declared.function.Function.{Function}
use Rattle.x86_syntax.specs.declared.instruction.Instruction.{Instruction}
use Rattle.x86_syntax.specs.declared.instruction.Instruction.TheVariants.{Grow}
use Rattle.x86_state.specs.State.{State, Goes}
use Rattle.x86_state.specs.declared.cell.Cell.{Cell}
use Rattle.x86_state.specs.declared.cell.Cell.TheVariants.{Back}
use Rattle.x86_state.specs.declared.cell.Spot.{Spot}
use Rattle.native_lowering_definition.specs.Blocks.{saves, grows, opening}
use Rattle.native_lowering_definition.specs.Frames.{frame_of, writes, size_of, saved_cell}
use Rattle.native_lowering_definition.specs.Moving.{receives}
use Rattle.native_lowering_relation.specs.Agreeing.{AgreeEach}
use Rattle.native_lowering_relation.specs.Standing.{Held, Holds, IsFull, above, laid, put_back}
use Rattle.native_lowering_relation.proofs.Kept.{SameKept}
use Rattle.native_lowering_walks.specs.Walks.{walks}
use Rattle.native_lowering_runs.proofs.Blocks.{walks_then}
use Rattle.native_lowering_passing.specs.Moved.{with_frame, drawn, behind, words_of, written_from}
use Rattle.native_lowering_passing.proofs.Opening.{cells_drawn, length-drawn, as_held, held_laid, held_full, saves_goes}
use Rattle.native_lowering_calls.specs.Given.{Given}
use Rattle.native_lowering_calls.proofs.Lists.{all_filter, written_all, length-words_of, put_back_same}
use Rattle.native_lowering_calls.proofs.Receiving.{all_received}

-- ---- nothing is defined at the beginning

none_agree : (n : ℕ) (ws : List ℕ) → n ≤ length ws → AgreeEach (replicate n None) ws
none_agree zero ws few = tt
none_agree (suc n) [] few = absurd (omega arith)
none_agree (suc n) (w ∷ ws) few = (tt, none_agree n ws (omega arith))

-- the data of a function with so many slots that begins
abbrev pub undefined : ℕ → Data → Data
undefined slots d = record d { registers = replicate 8 None; slots = replicate slots None }

begins_so : (f : FunctionData) (d : Data) (words : List ℕ) (held : Held) → length words ≡ 13 → IsFull (frame_of f) held
    → Holds f (undefined f.slots d).registers (undefined f.slots d).slots words held
begins_so f d words held thirteen full = record {
  eight = refl;
  thirteen = thirteen;
  agree = none_agree 8 words (omega (arith, thirteen));
  count = length-replicate f.slots None;
  agree_slots = let count : length held.slots ≡ f.slots = full.slots in none_agree f.slots held.slots (omega (arith, count));
  full = full;
}

-- r4 to r7 are registers
pub saved_fit : (f : FunctionData) → AllByRecursion (λ r. r < 8) (frame_of f).saved
saved_fit f = all_filter (λ r. r < 8) (writes f) (4 ∷ 5 ∷ 6 ∷ 7 ∷ []) (omega arith, (omega arith, (omega arith, (omega arith, tt))))

length-saves : (cell : ℕ) (rs : List ℕ) → length (saves cell rs) ≡ length rs
length-saves cell [] = refl
length-saves cell (r ∷ rs) = ap suc (length-saves (cell + 1) rs)

length_three : (xs ys zs : List Instruction) → length (xs ++ (ys ++ zs)) ≡ length xs + (length ys + length zs)
length_three xs ys zs = length-append xs (ys ++ zs) ∙ ap (λ n. length xs + n) (length-append ys zs)

module _ (functions : List (Named Function)) (code : List Instruction) where
  -- n cells more, if any
  abbrev larger : ℕ → ℕ → State → State
  larger n place s = record s { place = place; stack = above (drawn n s.junk []) s.stack; junk = behind n s.junk }

  grows_goes : (n : ℕ) (s : State) → s.flags ≡ None → walks functions None code (grows n) s ≡ Goes (larger n (s.place + length (grows n)) s)
  grows_goes n s e = by (nat_eq n 0) refl
    where
      by : (b : Bool) → nat_eq n 0 ≡ b → walks functions None code (if b then [] else Grow n ∷ []) s ≡ Goes (larger n (s.place + length (if b then [] else Grow n ∷ [])) s)
      by true nothing = let zero_it : n ≡ 0 = eqb-true n 0 nothing in
          subst (λ m. Goes s ≡ Goes (larger m (s.place + 0) s)) (sym zero_it) (ap (λ k. Goes (record s { place = k })) (omega arith))
      by false some = ap (λ (x : State). Goes (record x { flags = None; place = x.place + 1 })) (cells_drawn n s [] s.stack refl)
          ∙ ap (λ (x : Option (ℕ × ℕ)). Goes (record s { place = s.place + 1; flags = x; stack = above (drawn n s.junk []) s.stack; junk = behind n s.junk })) (sym e)

  module _ (f : FunctionData) (u : State) (back : Option Spot) (under : List Cell) where
    -- what the opening leaves
    pub record Opened (vs : List (Option ℕ)) (d : Data) : Type 0 where
      pub words : List ℕ
      pub held : Held
      pub junk : ℕ → ℕ
      pub walk : walks functions None code (opening (frame_of f) f.parameters) u
          ≡ Goes (record u { place = length (opening (frame_of f) f.parameters); registers = words; flags = None; stack = laid held back under; junk = junk })
      pub holds : Holds f (with_arguments f.parameters vs (undefined f.slots d)).registers (with_arguments f.parameters vs (undefined f.slots d)).slots words held
      pub kept : SameKept u.registers (put_back (frame_of f).saved held.saved words)

    pub opens : (vs : List (Option ℕ)) (d : Data) → u.place ≡ 0 → u.stack ≡ Back back ∷ under → length u.registers ≡ 13 → AllByRecursion (LocationFits f.slots) f.parameters
        → length vs ≡ length f.parameters → Given vs u.registers under → Opened vs d
    opens vs d start stands thirteen fits count given =
        let frame = frame_of f in
        let size = size_of frame in
        let first = grows size in
        let second = saves (saved_cell frame) frame.saved in
        let third = receives frame f.parameters in
        let u0 = record u { place = u.place + 1; flags = None } in
        let ws = drawn size u.junk [] in
        let enough : length ws ≡ size = length-drawn size u.junk [] ∙ omega arith in
        let held0 = as_held frame ws in
        let full0 = held_full frame ws enough in
        let t = record u { flags = None; junk = behind size u.junk } in
        let here = u.place + 1 + length first in
        let held1 = record held0 { saved = written_from 0 (words_of frame.saved u.registers) held0.saved } in
        let saved_is : held1.saved ≡ words_of frame.saved u.registers =
        written_all (words_of frame.saved u.registers) held0.saved (full0.saved ∙ sym (length-words_of frame.saved u.registers)) in
        let full1 : IsFull frame held1 = record { outs = full0.outs; slots = full0.slots; saved = ap length saved_is ∙ length-words_of frame.saved u.registers } in
        let below = here + length frame.saved in
        let received = all_received functions None code f t back under vs below u.registers held1 (undefined f.slots d)
        (begins_so f d u.registers held1 thirteen full1) fits count given.first given.others in
        let there : State = with_frame t back under (below + length third) received.words' received.held' in
        let far : below + length third ≡ length (opening frame f.parameters) =
        omega (arith, start, length-saves (saved_cell frame) frame.saved, length_three first second third) in
        let growing : walks functions None code first u0 ≡ Goes (with_frame t back under here u.registers held0) = grows_goes size u0 refl
        ∙ ap (λ cells. Goes (record t { place = here; stack = cells })) (ap (above ws) stands ∙ held_laid frame ws back under) in
        let saving : walks functions None code second (with_frame t back under here u.registers held0) ≡ Goes (with_frame t back under below u.registers held1) =
        saves_goes functions None code frame t back under frame.saved 0 (saved_cell frame) here u.registers held0 full0 (omega arith) (omega arith) (saved_fit f) in
        let rest : walks functions None code (first ++ (second ++ third)) u0 ≡ Goes there =
        walks_then functions None code first (second ++ third) u0 (with_frame t back under here u.registers held0) (Goes there) growing
        (walks_then functions None code second third (with_frame t back under here u.registers held0) (with_frame t back under below u.registers held1) (Goes there) saving received.walk) in
        record {
          words = received.words';
          held = received.held';
          junk = behind size u.junk;
          walk = rest ∙ ap (λ k. Goes (record there { place = k })) far;
          holds = received.holds;
          kept = subst (λ xs. SameKept u.registers (put_back frame.saved xs received.words')) (sym (received.saved ∙ saved_is))
              (put_back_same frame.saved u.registers received.words' received.holds.thirteen received.kept);
        }
