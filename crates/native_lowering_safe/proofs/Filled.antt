-- The state of Linear where each register that was undefined has the word of its native register: native code stands for it as well.
use Rattle.std.proofs.Common.{◌≡◌, ℕ, zero, suc, ◌<◌, ◌^◌, List, [], ◌∷◌, length, Option, Some, None, refl, ap, subst, ◌∙◌, arith}
use Rattle.std.specs.Prelude.{slice_index, slice_index_or}
use Rattle.lang_base.specs.declared.program.Program.{Program}
use Rattle.machine.specs.Frames.{State}
use Rattle.linear_language.specs.Function.{FunctionData}
use Rattle.x86_state.specs.State.{State as Native}
use Rattle.native_lowering_definition.specs.Layout.{facts_in}
use Rattle.native_lowering_ranges.specs.InRange.{InRange}
use Rattle.native_lowering_ranges.specs.Range.{AreWords}
use Rattle.native_lowering_ranges.proofs.Words.{same_some}
use Rattle.native_lowering_relation.specs.Agreeing.{Agrees, AgreeEach}
use Rattle.native_lowering_relation.specs.Knowing.{Knows, KnowsEach}
use Rattle.native_lowering_relation.specs.Related.{Related}
use Rattle.native_lowering_relation.proofs.Agreeing.{word_is}
use Rattle.native_lowering_safe_words.specs.InWords.{InWords, AreSmall}
use Rattle.native_lowering_safe_stops.specs.Halting.{AreDefined}

-- these, each defined
abbrev pub filled : List (Option ℕ) → List ℕ → List (Option ℕ)
filled [] words = []
filled (v ∷ vs) [] = v ∷ vs
filled (v ∷ vs) (w ∷ words) = Some w ∷ filled vs words

pub length-filled : (vs : List (Option ℕ)) (words : List ℕ) → length (filled vs words) ≡ length vs
length-filled [] words = refl
length-filled (v ∷ vs) [] = refl
length-filled (v ∷ vs) (w ∷ words) = ap suc (length-filled vs words)

filled_at : (vs : List (Option ℕ)) (words : List ℕ) (r : ℕ) → r < length vs → r < length words → slice_index_or (filled vs words) r None ≡ Some (slice_index words r)
filled_at [] words r h k = absurd (omega (arith, h))
filled_at (v ∷ vs) [] r h k = absurd (omega (arith, k))
filled_at (v ∷ vs) (w ∷ words) zero h k = refl
filled_at (v ∷ vs) (w ∷ words) (suc r) h k = filled_at vs words r (omega (arith, h)) (omega (arith, k))

filled_agree : (vs : List (Option ℕ)) (words : List ℕ) → AgreeEach vs words → AgreeEach (filled vs words) words
filled_agree [] words agree = tt
filled_agree (v ∷ vs) [] agree = absurd agree
filled_agree (v ∷ vs) (w ∷ words) agree = (refl, filled_agree vs words agree.1)

filled_known : (k v : Option ℕ) (w : ℕ) → Knows k v → Agrees v w → Knows k (Some w)
filled_known None v w knows agrees = tt
filled_known (Some x) v w knows agrees = ap (λ n. Some n) (word_is v w x agrees knows)

filled_knows : (ks vs : List (Option ℕ)) (words : List ℕ) → KnowsEach ks vs → AgreeEach vs words → KnowsEach ks (filled vs words)
filled_knows [] vs words knows agree = tt
filled_knows (k ∷ ks) [] words knows agree = absurd knows
filled_knows (k ∷ ks) (v ∷ vs) [] knows agree = absurd agree
filled_knows (k ∷ ks) (v ∷ vs) (w ∷ words) knows agree = (filled_known k v w knows.0 agree.0, filled_knows ks vs words knows.1 agree.1)

filled_words : (vs : List (Option ℕ)) (words : List ℕ) → AreSmall words → AreWords vs → AreWords (filled vs words)
filled_words vs words small each = λ r x e. by vs words small each r x e
  where
    by : (vs : List (Option ℕ)) (words : List ℕ) → AreSmall words → AreWords vs → (r x : ℕ) → slice_index_or (filled vs words) r None ≡ Some x → x < 2 ^ 32
    by [] words small each r x e = each r x e
    by (v ∷ vs) [] small each r x e = each r x e
    by (v ∷ vs) (w ∷ words) small each zero x e = subst (λ y. y < 2 ^ 32) (same_some w x e) (small 0)
    by (v ∷ vs) (w ∷ words) small each (suc r) x e = by vs words (λ k. small (suc k)) (λ k y h. each (suc k) y h) r x e

module _ (p : Program FunctionData) (s : State) (t : Native) (related : Related p s t) where
  abbrev pub filled_state : State
  filled_state = record s { here = record s.here { registers = filled s.here.registers t.registers } }

  pub filled_related : Related p filled_state t
  filled_related = record {
    named = related.named;
    held = related.held;
    back = related.back;
    under = related.under;
    there = related.there;
    function = related.function;
    place = related.place;
    globals = related.globals;
    output = related.output;
    known = record {
      known = filled_knows (facts_in related.named.function s.place).words s.here.registers t.registers related.known.known related.holds.agree;
      answers = related.known.answers;
    };
    holds = record {
      eight = length-filled s.here.registers t.registers ∙ related.holds.eight;
      thirteen = related.holds.thirteen;
      agree = filled_agree s.here.registers t.registers related.holds.agree;
      count = related.holds.count;
      agree_slots = related.holds.agree_slots;
      full = related.holds.full;
    };
    stands = related.stands;
    callers = related.callers;
  }

  pub filled_defined : AreDefined filled_state.here t.registers
  filled_defined = λ r near. filled_at s.here.registers t.registers r (omega (arith, near, related.holds.eight)) (omega (arith, near, related.holds.thirteen))

  pub filled_range : (count : ℕ) → InRange p.globals s → InWords count t → InRange p.globals filled_state
  filled_range count range words = record {
    here = record {
      registers = filled_words s.here.registers t.registers words.registers range.here.registers;
      slots = range.here.slots;
      globals = range.here.globals;
      declared_so = range.here.declared_so;
    };
    callers = range.callers;
  }
