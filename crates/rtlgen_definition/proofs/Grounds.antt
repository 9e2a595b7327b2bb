-- The ground that code runs on, and when the words of a running function of RTL are those of one of Cminor.
use Rattle.std.proofs.Common.{◌≡◌, ◌≢◌, ℕ, ◌<◌, ◌≤◌, List, length, Option, Some, None, refl, sym, ap, ◌∙◌, ⊎_elim, arith}
use Rattle.std.specs.Prelude.{slice_get, slice_index_or, slice_set}
use Rattle.std.proofs.lemmas.Bool.{cases_eq}
use Rattle.std.proofs.lemmas.List.{length-set, get_or-set_same, get_or-set_other}
use Rattle.lang_base.specs.declared.program.Named.{Named}
use Rattle.rtl_acts.specs.Data.{Data, value_at, put_at}
use Rattle.rtl_language.specs.declared.instruction.Instruction.{Instruction}
use Rattle.rtl_language.specs.Function.{FunctionData}
use Rattle.rtl_language.specs.Frames.{Frame, State}
use Rattle.rtl_language.specs.Meaning.{instruction_step, function_step, next}
use Rattle.cminor_syntax.specs.State as C

-- the running function's number, its nodes, its variables and registers, and its callers
pub record Ground : Type 0 where
  pub number : ℕ
  pub nodes : List Instruction
  pub variables : ℕ
  pub registers : ℕ
  pub callers : List Frame

-- the state at a node, with this data
abbrev pub at_node : Ground → ℕ → Data → State
at_node c place d = record { function = c.number; place = place; here = d; callers = c.callers }

-- the function of that number has those nodes
pub record IsThere (functions : List (Named FunctionData)) (c : Ground) : Type 0 where
  pub named : Named FunctionData
  pub found : slice_get functions c.number ≡ Some named
  pub nodes : named.function.nodes ≡ c.nodes

-- a step is that of the node
pub node_step : (functions : List (Named FunctionData)) (c : Ground) → IsThere functions c → (place : ℕ) (d : Data) (i : Instruction) → slice_get c.nodes place ≡ Some i →
    next functions (at_node c place d) ≡ instruction_step functions (at_node c place d) (Some i)
node_step functions c there place d i e =
    ap (function_step functions (at_node c place d)) there.found
    ∙ ap (λ nodes. instruction_step functions (at_node c place d) (slice_get nodes place)) there.nodes
    ∙ ap (instruction_step functions (at_node c place d)) e

-- the registers begin with the variables
pub record Sees (c : Ground) (s : C.State) (d : Data) : Type 0 where
  pub holds : (v : ℕ) → v < c.variables → value_at v d ≡ C.held v s
  pub count : length s.variables ≡ c.variables
  pub space : length d.registers ≡ c.registers
  pub within : c.variables ≤ c.registers
  pub globals : d.globals ≡ s.globals
  pub output : d.output ≡ s.output

-- the registers below one are as they were, and so is all else but temporaries
pub record Kept (r : ℕ) (d d' : Data) : Type 0 where
  pub below : (q : ℕ) → q < r → value_at q d' ≡ value_at q d
  pub space : length d'.registers ≡ length d.registers
  pub globals : d'.globals ≡ d.globals
  pub output : d'.output ≡ d.output

pub kept_same : (r : ℕ) (d : Data) → Kept r d d
kept_same r d = record { below = λ q h. refl; space = refl; globals = refl; output = refl }

pub kept_kept : (r r' : ℕ) (d d' d'' : Data) → r ≤ r' → Kept r d d' → Kept r' d' d'' → Kept r d d''
kept_kept r r' d d' d'' le p q = record {
  below = λ n h. q.below n (omega (arith, le, h)) ∙ p.below n h;
  space = q.space ∙ p.space;
  globals = q.globals ∙ p.globals;
  output = q.output ∙ p.output;
}

pub sees_kept : (c : Ground) (s : C.State) (r : ℕ) (d d' : Data) → c.variables ≤ r → Sees c s d → Kept r d d' → Sees c s d'
sees_kept c s r d d' le sees kept = record {
  holds = λ v h. kept.below v (omega (arith, le, h)) ∙ sees.holds v h;
  count = sees.count;
  space = kept.space ∙ sees.space;
  within = sees.within;
  globals = kept.globals ∙ sees.globals;
  output = kept.output ∙ sees.output;
}

-- a register has a value, and those below `r` besides it are as they were
pub record Gives (r target : ℕ) (x : Option ℕ) (d d' : Data) : Type 0 where
  pub value : value_at target d' ≡ x
  pub below : (q : ℕ) → q < r → q ≢ target → value_at q d' ≡ value_at q d
  pub space : length d'.registers ≡ length d.registers
  pub globals : d'.globals ≡ d.globals
  pub output : d'.output ≡ d.output

-- a register is set last of all
pub gives_put : (r target : ℕ) (x : Option ℕ) (d d' : Data) → target < length d.registers → Kept r d d' → Gives r target x d (put_at target x d')
gives_put r target x d d' space kept = record {
  value = get_or-set_same d'.registers target x None (rw kept.space space);
  below = λ q h other. get_or-set_other d'.registers target q x None other ∙ kept.below q h;
  space = length-set d'.registers target x ∙ kept.space;
  globals = kept.globals;
  output = kept.output;
}

-- a value is given behind what only changed temporaries
pub gives_kept : (r target : ℕ) (x : Option ℕ) (d d' d'' : Data) → Kept r d d' → Gives r target x d' d'' → Gives r target x d d''
gives_kept r target x d d' d'' kept gives = record {
  value = gives.value;
  below = λ q h other. gives.below q h other ∙ kept.below q h;
  space = gives.space ∙ kept.space;
  globals = gives.globals ∙ kept.globals;
  output = gives.output ∙ kept.output;
}

-- a temporary is none of the registers below it
pub kept_gives : (r : ℕ) (x : Option ℕ) (d d' : Data) → Gives r r x d d' → Kept r d d'
kept_gives r x d d' gives = record {
  below = λ q h. gives.below q h (λ e. omega (arith, h, e));
  space = gives.space;
  globals = gives.globals;
  output = gives.output;
}

-- a variable is given a value in both
pub sees_gives : (c : Ground) (s : C.State) (r v : ℕ) (x : Option ℕ) (d d' : Data) → c.variables ≤ r → v < c.variables → Sees c s d → Gives r v x d d' → Sees c (C.given (Some v) x s) d'
sees_gives c s r v x d d' le fits sees gives = record {
  holds = λ q h. ⊎_elim (λ e. same q e) (λ other. another q h other) (cases_eq q v);
  count = length-set s.variables v x ∙ sees.count;
  space = gives.space ∙ sees.space;
  within = sees.within;
  globals = gives.globals ∙ sees.globals;
  output = gives.output ∙ sees.output;
}
  where
    same : (q : ℕ) → q ≡ v → value_at q d' ≡ C.held q (C.given (Some v) x s)
    same q e = ap (λ n. value_at n d') e ∙ gives.value ∙ sym (get_or-set_same s.variables v x None (rw sees.count fits)) ∙ ap (λ n. slice_index_or (slice_set s.variables v x) n None) (sym e)

    another : (q : ℕ) → q < c.variables → q ≢ v → value_at q d' ≡ C.held q (C.given (Some v) x s)
    another q h other = gives.below q (omega (arith, le, h)) other ∙ sees.holds q h ∙ sym (get_or-set_other s.variables v q x None other)

-- the same words, with other globals and another output
pub sees_with : (c : Ground) (s : C.State) (d : Data) (globals : List (List ℕ)) (output : List ℕ) → Sees c s d →
    Sees c (record { variables = s.variables; globals = globals; output = output }) (record { registers = d.registers; globals = globals; output = output })
sees_with c s d globals output sees = record { holds = sees.holds; count = sees.count; space = sees.space; within = sees.within; globals = refl; output = refl }
