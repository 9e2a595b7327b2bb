-- What is known stays so.
use Rattle.std.proofs.Common.{◌≡◌, ◌≢◌, ℕ, zero, suc, Bool, true, false, not, List, [], ◌∷◌, length, replicate, Option, Some, None, refl, sym, ap, ◌∙◌, arith}
use Rattle.std.specs.Prelude.{if◌then◌else◌, nat_eq, slice_index_or, slice_set}
use Rattle.std.proofs.lemmas.Bool.{false≢true, eq-eqb}
use Rattle.std.proofs.lemmas.List.{get_or-set_other}
use Rattle.x86_syntax.specs.declared.condition.Condition.{Condition}
use Rattle.native_lowering_definition.specs.Facts.{Facts, no_facts, unless, set, left, without_flag}
use Rattle.native_lowering_relation.specs.Knowing.{Knows, KnowsEach, Answers, IsSo}

-- ---- words

nothing_known : (n : ℕ) (vs : List (Option ℕ)) → length vs ≡ n → KnowsEach (replicate n None) vs
nothing_known zero vs e = tt
nothing_known (suc n) [] e = absurd (omega arith)
nothing_known (suc n) (v ∷ vs) e = (tt, nothing_known n vs (omega arith))

pub knows_at : (ks vs : List (Option ℕ)) (r : ℕ) → KnowsEach ks vs → Knows (slice_index_or ks r None) (slice_index_or vs r None)
knows_at [] vs zero knows = tt
knows_at [] vs (suc r) knows = tt
knows_at (k ∷ ks) [] r knows = absurd knows
knows_at (k ∷ ks) (v ∷ vs) zero knows = knows.0
knows_at (k ∷ ks) (v ∷ vs) (suc r) knows = knows_at ks vs r knows.1

pub knows_word : (k v : Option ℕ) (w : ℕ) → Knows k v → k ≡ Some w → v ≡ Some w
knows_word None v w knows e = cc
knows_word (Some x) v w knows e = let same : x ≡ w = cc in knows ∙ ap (λ n. Some n) same

knows_set : (ks vs : List (Option ℕ)) (r : ℕ) (k v : Option ℕ) → KnowsEach ks vs → Knows k v → KnowsEach (slice_set ks r k) (slice_set vs r v)
knows_set [] vs zero k v knows one = tt
knows_set [] vs (suc r) k v knows one = tt
knows_set (x ∷ ks) [] r k v knows one = absurd knows
knows_set (x ∷ ks) (y ∷ vs) zero k v knows one = (one, knows.1)
knows_set (x ∷ ks) (y ∷ vs) (suc r) k v knows one = (knows.0, knows_set ks vs r k v knows.1 one)

-- ---- the flags

-- the words of other registers stay
other_answers : (b : Bool) (p : ℕ × Condition) (q : ℕ × ℕ) (r w : ℕ) (words : List ℕ) → nat_eq p.0 r ≡ b → Answers (Some p) (Some q) words
    → Answers (if b then None else Some p) (Some q) (slice_set words r w)
other_answers true p q r w words e answers = tt
other_answers false p q r w words e answers =
    let apart : p.0 ≢ r = λ same. false≢true (sym e ∙ eq-eqb p.0 r same) in
    answers ∙ ap (λ n. not (nat_eq n 0)) (sym (get_or-set_other words r p.0 w 0 apart))

answers_unless : (o : Option (ℕ × Condition)) (flags : Option (ℕ × ℕ)) (r w : ℕ) (words : List ℕ) → Answers o flags words → Answers (unless r o) flags (slice_set words r w)
answers_unless None flags r w words answers = tt
answers_unless (Some p) None r w words answers = absurd answers
answers_unless (Some p) (Some q) r w words answers = other_answers (nat_eq p.0 r) p q r w words refl answers

-- ---- both

pub nothing_so : (registers : List (Option ℕ)) (flags : Option (ℕ × ℕ)) (words : List ℕ) → length registers ≡ 8 → IsSo no_facts registers flags words
nothing_so registers flags words eight = record { known = nothing_known 8 registers eight; answers = tt }

-- a register becomes a word that is known, or not, in both; the flags stay
pub so_set : (facts : Facts) (registers : List (Option ℕ)) (flags : Option (ℕ × ℕ)) (words : List ℕ) (r w : ℕ) (k v : Option ℕ)
    → IsSo facts registers flags words → Knows k v → IsSo (set r k facts) (slice_set registers r v) flags (slice_set words r w)
so_set facts registers flags words r w k v so knows = record {
  known = knows_set facts.words registers r k v so.known knows;
  answers = answers_unless facts.flag flags r w words so.answers;
}

-- the flags tell of what they may
pub so_left : (facts : Facts) (registers : List (Option ℕ)) (flags flags' : Option (ℕ × ℕ)) (words words' : List ℕ) (r : ℕ) (v : Option ℕ) (flag : Option (ℕ × Condition))
    → IsSo facts registers flags words → Answers flag flags' words' → IsSo (left r flag facts) (slice_set registers r v) flags' words'
so_left facts registers flags flags' words words' r v flag so answers = record {
  known = knows_set facts.words registers r None v so.known tt;
  answers = answers;
}

pub so_without : (facts : Facts) (registers : List (Option ℕ)) (flags flags' : Option (ℕ × ℕ)) (words words' : List ℕ)
    → IsSo facts registers flags words → IsSo (without_flag facts) registers flags' words'
so_without facts registers flags flags' words words' so = record { known = so.known; answers = tt }
