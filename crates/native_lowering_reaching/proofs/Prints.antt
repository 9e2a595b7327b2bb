-- A byte is printed. The registers that a call may change are left open, but for r8d to r11d and the result.
use Rattle.std.proofs.Common.{◌≡◌, ℕ, ◌+◌, ◌%◌, ◌<◌, List, [], ◌∷◌, ◌++◌, Option, Some, None, refl, ap, ◌∙◌, arith}
use Rattle.std.specs.Prelude.{slice_get, slice_index, slice_set}
use Rattle.std.proofs.lemmas.List.{get_or-set_same, get_or-set_other, length-set}
use Rattle.lang_base.specs.declared.program.Program.{Program}
use Rattle.locations.specs.declared.location.Location.TheVariants.{InRegister}
use Rattle.machine.specs.Acts.{printing}
use Rattle.machine.specs.Data.{value_at}
use Rattle.machine.specs.Fits.{ValueFits}
use Rattle.machine.specs.Frames.{State}
use Rattle.machine.specs.declared.act.Act.TheVariants.{Put}
use Rattle.linear_language.specs.declared.instruction.Instruction.TheVariants as l
use Rattle.linear_language.specs.Function.{FunctionData}
use Rattle.x86_syntax.specs.Registers.{number_of}
use Rattle.x86_syntax.specs.declared.instruction.Instruction.TheVariants as n
use Rattle.x86_syntax.specs.declared.register.Register.TheVariants.{Eax, Edi}
use Rattle.x86_state.specs.State.{State as Native, Goes}
use Rattle.native_lowering_definition.specs.Frames.{frame_of}
use Rattle.native_lowering_definition.specs.Layout.{facts_in}
use Rattle.native_lowering_definition.specs.Lowering.{lowered, code_of}
use Rattle.native_lowering_definition.specs.Locations.{register_of}
use Rattle.native_lowering_relation.specs.Related.{Related}
use Rattle.native_lowering_relation.proofs.Agreeing.{agrees_itself}
use Rattle.native_lowering_relation.proofs.Knowing.{so_left, so_without}
use Rattle.native_lowering_walks.specs.Walks.{walks}
use Rattle.native_lowering_walks.proofs.Straight.{copy_below, put_below}
use Rattle.native_lowering_runs.specs.Reaching.{Reaches}
use Rattle.native_lowering_runs.proofs.Below.{goes_below}
use Rattle.native_lowering_runs.proofs.Blocks.{block_runs}
use Rattle.native_lowering_runs.proofs.Held.{register_written}
use Rattle.native_lowering_runs.proofs.Registers.{number_is}
use Rattle.native_lowering_runs.proofs.Saved.{or_written, or_then, written_saved, target_written}
use Rattle.native_lowering_moves.proofs.Branches.{defined_word}
use Rattle.native_lowering_operators.proofs.Scratched.{IsScratched, not_scratched, one_scratched}

-- the registers once a byte was printed, and four are open
abbrev pub left_open : List ℕ → (ℕ → ℕ) → ℕ → ℕ → List ℕ
left_open words junk x byte =
    slice_set (slice_set (slice_set (slice_set (slice_set (slice_set words 12 x) 8 byte) 9 (junk 0)) 10 (junk (0 + 1))) 11 (junk (0 + 1 + 1))) 12 (junk (0 + 1 + 1 + 1))

module _ (p : Program FunctionData) (room : Option ℕ) (s : State) (t : Native) (related : Related p s t) where
  abbrev f : FunctionData
  f = related.named.function

  abbrev words : ℕ → List ℕ
  words x = left_open t.registers t.junk x (x % 256)

  abbrev printed_there : ℕ → ℕ → List ℕ → Native
  printed_there count x registers = record t {
    place = t.place + count;
    registers = registers;
    flags = None;
    output = t.output ++ x % 256 ∷ [];
    junk = λ k. t.junk (k + 1 + 1 + 1 + 1);
  }

  open_ones : (x : ℕ) → IsScratched f s.here.registers s.here.slots related.held t.registers (words x)
  open_ones x =
      let none = not_scratched f s.here.registers s.here.slots related.held t.registers related.holds in
      let more = one_scratched f s.here.registers s.here.slots related.held t.registers in
      more _ 12 _ (omega arith) (more _ 11 _ (omega arith) (more _ 10 _ (omega arith) (more _ 9 _ (omega arith) (more _ 8 _ (omega arith) (more t.registers 12 x (omega arith) none)))))

  eax_is : (x : ℕ) → slice_index (words x) 8 ≡ x % 256
  eax_is x =
      let one = slice_set t.registers 12 x in
      let two = slice_set one 8 (x % 256) in
      let three = slice_set two 9 (t.junk 0) in
      let four = slice_set three 10 (t.junk (0 + 1)) in
      let five = slice_set four 11 (t.junk (0 + 1 + 1)) in
      get_or-set_other five 12 8 (t.junk (0 + 1 + 1 + 1)) 0 (λ e. omega (arith, e))
      ∙ get_or-set_other four 11 8 (t.junk (0 + 1 + 1)) 0 (λ e. omega (arith, e))
      ∙ get_or-set_other three 10 8 (t.junk (0 + 1)) 0 (λ e. omega (arith, e))
      ∙ get_or-set_other two 9 8 (t.junk 0) 0 (λ e. omega (arith, e))
      ∙ get_or-set_same one 8 (x % 256) 0 (omega (arith, length-set t.registers 12 x, related.holds.thirteen))

  edi_is : (x : ℕ) → slice_index (slice_set t.registers 12 x) 12 % 256 ≡ x % 256
  edi_is x = ap (λ k. k % 256) (get_or-set_same t.registers 12 x 0 (omega (arith, related.holds.thirteen)))

  abbrev After : Option ℕ → ℕ → Type 0
  After target x = Reaches p room (record s { place = s.place + 1; here = printing target s.here x }) t

  pub print_reaches : (source x : ℕ) (target : Option ℕ) → slice_get f.code s.place ≡ Some (l.Do (Put source target)) → source < 8 → ValueFits target → value_at (InRegister source) s.here ≡ Some x → After target x
  unfolding number_of
  print_reaches source x None at near fits defined =
      let u = printed_there 2 x (words x) in
      let b = n.Copy Edi (register_of source) ∷ n.Put ∷ [] in
      let two : t.place + 1 + 1 ≡ t.place + 2 = omega arith in
      let is = defined_word p room s t related source x near defined in
      record {
        more = 1;
        to = u;
        go = block_runs p related.named room s.place (l.Do (Put source None)) b t (Goes u) (ap (slice_get p.functions) related.function ∙ related.there) at related.place refl
            (copy_below Edi (register_of source), tt)
            (ap (λ k. walks (lowered p).functions room (code_of p f) (n.Put ∷ []) (record t { place = t.place + 1; registers = slice_set t.registers 12 k })) is
            ∙ (λ j. Goes (record t {
              place = two j;
              registers = left_open t.registers t.junk x (edi_is x j);
              flags = None;
              output = t.output ++ edi_is x j ∷ [];
              junk = λ k. t.junk (k + 1 + 1 + 1 + 1);
            })));
        related = goes_below p s t related (l.Do (Put source None)) b (printing None s.here x) u related.held (record {
          at = at;
          is_it = refl;
          function = refl;
          place = refl;
          globals = related.globals;
          output = ap (λ o. o ++ x % 256 ∷ []) related.output;
          stands = related.stands;
          saved = refl;
          holds = (open_ones x).holds;
          known = so_without (facts_in f s.place) s.here.registers t.flags None t.registers (words x) related.known;
          kept = (open_ones x).kept;
        });
      }
  print_reaches source x (Some r) at near fits defined =
      let ws = slice_set (words x) r (x % 256) in
      let u = printed_there 3 x ws in
      let b = n.Copy Edi (register_of source) ∷ n.Put ∷ n.Copy (register_of r) Eax ∷ [] in
      let three : t.place + 1 + 1 + 1 ≡ t.place + 3 = omega arith in
      let is = defined_word p room s t related source x near defined in
      record {
        more = 2;
        to = u;
        go = block_runs p related.named room s.place (l.Do (Put source (Some r))) b t (Goes u) (ap (slice_get p.functions) related.function ∙ related.there) at related.place refl
            (copy_below Edi (register_of source), (put_below, tt))
            (ap (λ k. walks (lowered p).functions room (code_of p f) (n.Put ∷ n.Copy (register_of r) Eax ∷ []) (record t { place = t.place + 1; registers = slice_set t.registers 12 k })) is
            ∙ (λ j. Goes (record t {
              place = t.place + 1 + 1 + 1;
              registers = slice_set (left_open t.registers t.junk x (edi_is x j)) (number_of (register_of r)) (slice_index (left_open t.registers t.junk x (edi_is x j)) 8);
              flags = None;
              output = t.output ++ edi_is x j ∷ [];
              junk = λ k. t.junk (k + 1 + 1 + 1 + 1);
            }))
            ∙ (λ j. Goes (record t {
              place = three j;
              registers = slice_set (words x) (number_is r fits j) (eax_is x j);
              flags = None;
              output = t.output ++ x % 256 ∷ [];
              junk = λ k. t.junk (k + 1 + 1 + 1 + 1);
            })));
        related = goes_below p s t related (l.Do (Put source (Some r))) b (printing (Some r) s.here x) u related.held (record {
          at = at;
          is_it = refl;
          function = refl;
          place = refl;
          globals = related.globals;
          output = ap (λ o. o ++ x % 256 ∷ []) related.output;
          stands = related.stands;
          saved = refl;
          holds = register_written f s.here.registers s.here.slots (words x) related.held (open_ones x).holds r (x % 256) (Some (x % 256)) (agrees_itself (x % 256));
          known = so_left (facts_in f s.place) s.here.registers t.flags None t.registers ws r (Some (x % 256)) None related.known tt;
          kept = or_then (frame_of f).saved t.registers (words x) ws (open_ones x).kept
              (or_written (frame_of f).saved (words x) r (x % 256) (written_saved f r (target_written f s.place r (l.Do (Put source (Some r))) at refl)));
        });
      }
