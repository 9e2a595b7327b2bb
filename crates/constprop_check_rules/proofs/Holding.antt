-- Where facts hold, what is known behind an instruction holds of what it leaves.
use Rattle.std.proofs.Common.{◌≡◌, ◌≢◌, ℕ, suc, ◌<◌, ◌%◌, List, [], ◌∷◌, ◌++◌, length, Option, Some, None, Bool, true, false, cond, eqb, refl, ap, ◌∙◌, subst, arith}
use Rattle.std.specs.Prelude.{option_and_then, slice_get, slice_set, nat_lt, All}
use Rattle.std.specs.Option.{option_map}
use Rattle.std.proofs.lemmas.Bool.{eqb-true, eq-eqb}
use Rattle.std.proofs.lemmas.List.{get_or-set_same, get_or-set_other}
use Rattle.ints.specs.MachineTable.{machine_table}
use Rattle.ints.specs.CondTable.{cond_table}
use Rattle.rtl_passes_filled.specs.Arguments.{Arguments}
use Rattle.rtl_passes_filled.specs.Arguments.TheVariants.{One, Two}
use Rattle.rtl_passes_filled.specs.Act.{Act}
use Rattle.rtl_passes_filled.specs.Act.TheVariants.{Nop, Constant, Move, Operate, Load, Store, Put}
use Rattle.rtl_passes_filled.specs.Test.{Test}
use Rattle.rtl_passes_filled.specs.Data.{Data, value_at, put_at}
use Rattle.rtl_passes_filled.specs.Acts.{pair_of, words_of, given, with_result, changed, stored, printing, does, holds}
use Rattle.constprop_check_rules.specs.declared.fact.Fact.{Fact}
use Rattle.constprop_check_rules.specs.Known.{fact_at, known_words, known_value, target_of, known_behind, decided}

-- each register of which a fact speaks has the fact's word
abbrev pub FactsHold : List Fact → Data → Type 0
FactsHold facts d = (r w : ℕ) → fact_at facts r ≡ Some w → value_at r d ≡ Some w

-- what is said of each fact is said of the one that speaks of a register
pub fact_among : (P : Fact → Type 0) (facts : List Fact) → All P facts → (r w : ℕ) → fact_at facts r ≡ Some w → P (record { register = r; word = w })
fact_among P [] all r w e = cc
fact_among P (fact ∷ facts) all r w e = at (eqb fact.register r) refl e (fact_among P facts (λ k d below. all (suc k) d (omega (arith, below))) r w)
  where
    at : (b : Bool) → eqb fact.register r ≡ b → cond b (Some fact.word) (fact_at facts r) ≡ Some w → (fact_at facts r ≡ Some w → P (record { register = r; word = w })) → P (record { register = r; word = w })
    at true same e later =
        let word : fact.word ≡ w = cc in
        let register : fact.register ≡ r = eqb-true fact.register r same in
        let is : fact ≡ record { register = r; word = w } = λ i. record { register = register i; word = word i } in
        subst P is (all 0 fact (omega arith))
    at false same e later = later e

module _ (facts : List Fact) (d : Data) (hold : FactsHold facts d) where
  pair_known : (a b : ℕ) (x y : Option ℕ) → fact_at facts a ≡ x → fact_at facts b ≡ y → (ws : List ℕ) → pair_of x y ≡ Some ws → pair_of (value_at a d) (value_at b d) ≡ Some ws
  pair_known a b None y ex ey ws e = cc (e)
  pair_known a b (Some x) None ex ey ws e = cc (e)
  pair_known a b (Some x) (Some y) ex ey ws e = rw (hold a x ex, hold b y ey) e

  one_known : (a : ℕ) (x : Option ℕ) → fact_at facts a ≡ x → (ws : List ℕ) → option_map (λ w. w ∷ []) x ≡ Some ws → option_map (λ w. w ∷ []) (value_at a d) ≡ Some ws
  one_known a None ex ws e = cc (e)
  one_known a (Some x) ex ws e = rw (hold a x ex) e

  -- known words are the arguments' words
  words_known : (arguments : Arguments) (ws : List ℕ) → known_words arguments facts ≡ Some ws → words_of arguments d ≡ Some ws
  words_known (One a) ws e = one_known a (fact_at facts a) refl ws e
  words_known (Two a b) ws e = pair_known a b (fact_at facts a) (fact_at facts b) refl refl ws e

  -- a decided test answers so
  pub decided_holds : (test : Test) (answer : Bool) → decided test facts ≡ Some answer → holds test d ≡ Some answer
  decided_holds test answer e = at (known_words test.arguments facts) refl e
    where
      at : (o : Option (List ℕ)) → known_words test.arguments facts ≡ o → option_map (cond_table test.condition) o ≡ Some answer → holds test d ≡ Some answer
      at None known e = cc (e)
      at (Some ws) known e = ap (option_map (cond_table test.condition)) (words_known test.arguments ws known) ∙ e

  -- a known value is what an operator gives
  pub operate_known : (arguments : Arguments) (f : List ℕ → Option ℕ) (w : ℕ) → option_and_then f (known_words arguments facts) ≡ Some w → option_and_then f (words_of arguments d) ≡ Some w
  operate_known arguments f w e = at (known_words arguments facts) refl e
    where
      at : (o : Option (List ℕ)) → known_words arguments facts ≡ o → option_and_then f o ≡ Some w → option_and_then f (words_of arguments d) ≡ Some w
      at None known e = cc (e)
      at (Some ws) known e = ap (option_and_then f) (words_known arguments ws known) ∙ e

  -- a register was written, with a known word perhaps
  pub write_known : (target : ℕ) (v value : Option ℕ) → ((w : ℕ) → value ≡ Some w → v ≡ Some w) → (e : Data) → e.registers ≡ d.registers → (r w : ℕ) → r < length d.registers → known_behind (Some target) value facts r ≡ Some w → value_at r (put_at target v e) ≡ Some w
  write_known target v value right e same r w below known = at (eqb target r) refl known
    where
      at : (b : Bool) → eqb target r ≡ b → cond b value (fact_at facts r) ≡ Some w → value_at r (put_at target v e) ≡ Some w
      at true is known =
          let register : target ≡ r = eqb-true target r is in
          rw (same, register, get_or-set_same d.registers r v None below) (right w known)
      at false is known =
          let other : r ≢ target = λ (e : r ≡ target). let yes : eqb target r ≡ true = rw e (eq-eqb target target refl) in cc in
          rw (same, get_or-set_other d.registers target r v None other) (hold r w known)

  -- what is known behind an act
  abbrev ActKnown : Act → Option Data → Type 0
  ActKnown act None = Unit {0}
  ActKnown act (Some e) = (r w : ℕ) → r < length d.registers → known_behind (target_of act) (known_value act facts) facts r ≡ Some w → value_at r e ≡ Some w

  nothing_known : (v : Option ℕ) (w : ℕ) → None ≡ Some w → v ≡ Some w
  nothing_known v w e = cc (e)

  given_known : (act : Act) (target : ℕ) (o : Option ℕ) → target_of act ≡ Some target → ((w : ℕ) → known_value act facts ≡ Some w → o ≡ Some w) → ActKnown act (given target d o)
  given_known act target None is right = tt
  given_known act target (Some v) is right = λ r w below known.
      write_known target (Some v) (known_value act facts) right d refl r w below (subst (λ x. known_behind x (known_value act facts) facts r ≡ Some w) is known)

  changed_known : (global index source i w : ℕ) (cells : Option (List ℕ)) → ActKnown (Store global index source) (changed d global i w cells)
  changed_known global index source i w None = tt
  changed_known global index source i w (Some cells) = at (nat_lt i (length cells))
    where
      at : (b : Bool) → ActKnown (Store global index source) (cond b (Some (record d { globals = slice_set d.globals global (slice_set cells i w) })) None)
      at true = λ r w below known. hold r w known
      at false = tt

  stored_known : (global index source : ℕ) (i w : Option ℕ) → ActKnown (Store global index source) (stored d global i w)
  stored_known global index source None w = tt
  stored_known global index source (Some i) None = tt
  stored_known global index source (Some i) (Some w) = changed_known global index source i w (slice_get d.globals global)

  put_known : (source : ℕ) (target : Option ℕ) (w : Option ℕ) → ActKnown (Put source target) (option_map (printing target d) w)
  put_known source target None = tt
  put_known source None (Some v) = λ r w below known. hold r w known
  put_known source (Some t) (Some v) = λ r w below known. write_known t (Some (v % 256)) None (λ x. nothing_known (Some (v % 256)) x) (record d { output = d.output ++ v % 256 ∷ [] }) refl r w below known

  pub act_known : (act : Act) → ActKnown act (does act d)
  act_known Nop = λ r w below known. hold r w known
  act_known (Constant target word) = λ r w below known. write_known target (Some word) (Some word) (λ x e. e) d refl r w below known
  act_known (Move target source) = λ r w below known. write_known target (value_at source d) (fact_at facts source) (hold source) d refl r w below known
  act_known (Operate op target arguments) = given_known (Operate op target arguments) target _ refl (operate_known arguments (machine_table op))
  act_known (Load target global index) = given_known (Load target global index) target _ refl (λ x. nothing_known _ x)
  act_known (Store global index source) = stored_known global index source (value_at index d) (value_at source d)
  act_known (Put source target) = put_known source target (value_at source d)

  -- what is known behind a call, of whatever result
  pub call_known : (target value : Option ℕ) (e : Data) → e.registers ≡ d.registers → (r w : ℕ) → r < length d.registers → known_behind target None facts r ≡ Some w → value_at r (with_result target value e) ≡ Some w
  call_known None value e same r w below known = rw same (hold r w known)
  call_known (Some t) value e same r w below known = write_known t value None (λ x. nothing_known _ x) e same r w below known
