-- Code that is laid out from a function in range is in range: its instructions are, its labels are the
-- listed nodes, and a stretch has at most 514 instructions.
use Rattle.std.proofs.Common.{◌≡◌, ◌≢◌, ℕ, zero, suc, ◌+◌, ◌*◌, ◌<◌, ◌≤◌, ◌^◌, List, [], ◌∷◌, length, get_or, Option, Some, None, Bool, true, false, cond, refl, sym, ap, subst, ◌∙◌, arith}
use Rattle.std.specs.Prelude.{slice_get}
use Rattle.std.specs.List.{AllByRecursion}
use Rattle.locations.specs.declared.location.Move.{Move}
use Rattle.machine.specs.declared.act.Act.{Act}
use Rattle.machine.specs.Fits.{MoveFits, AreDistinct}
use Rattle.ltl.specs.declared.block.Block.{Block}
use Rattle.ltl.specs.declared.block.Body.{Body}
use Rattle.ltl.specs.declared.block.Body.TheVariants as body
use Rattle.ltl.specs.Function as ltl
use Rattle.linearize_check_proof.specs.Instruction.{Instruction}
use Rattle.linearize_check_proof.specs.Instruction.TheVariants.{Goto}
use Rattle.linearize_check_proof.specs.Function as linear
use Rattle.linearize_check_proof.specs.Labels.{labels_of}
use Rattle.linearize_check_proof.specs.Layout.{copies, act_code, is_next, jump, body_code, stretch, order_code}

-- ---- each instruction is in range

module _ (slots nodes : ℕ) (few : nodes ≤ 65535) where
  abbrev Fit : List Instruction → Type 0
  Fit is = AllByRecursion (linear.InstructionFits slots) is

  copies_fit : (ms : List Move) (rest : List Instruction) → AllByRecursion (MoveFits slots) ms → Fit rest → Fit (copies ms rest)
  copies_fit [] rest fits h = h
  copies_fit (m ∷ ms) rest fits h = (fits.0, copies_fit ms rest fits.1 h)

  jump_when_fits : (b : Bool) (s : ℕ) (rest : List Instruction) → s < nodes → Fit rest → Fit (cond b rest (Goto s ∷ rest))
  jump_when_fits true s rest below h = h
  jump_when_fits false s rest below h = (omega arith, h)

  act_code_fits : (act : Option Act) (rest : List Instruction) → ltl.MaybeActFits act → Fit rest → Fit (act_code act rest)
  act_code_fits None rest fits h = h
  act_code_fits (Some act) rest fits h = (fits, h)

  body_code_fits : (b : Body) (behind : List ℕ) (rest : List Instruction) → ltl.BodyFits slots nodes b → Fit rest → Fit (body_code b behind rest)
  body_code_fits (body.Go act after s) behind rest fits h =
      act_code_fits act _ fits.0 (copies_fit after _ fits.1.each (jump_when_fits (is_next s behind) s rest fits.2 h))
  body_code_fits (body.Call function arguments target after s) behind rest fits h =
      (fits.0, copies_fit after _ fits.1.each (jump_when_fits (is_next s behind) s rest fits.2 h))
  body_code_fits (body.Branch test taken other) behind rest fits h =
      let below : taken < 2 ^ 16 = omega (arith, fits.1) in
      ((fits.0, below), jump_when_fits (is_next other behind) other rest fits.2 h)
  body_code_fits (body.Return value) behind rest fits h = (fits, h)

  stretch_fits : (n : ℕ) (o : Option Block) (behind : List ℕ) (rest : List Instruction) → n < 2 ^ 16 → ((b : Block) → o ≡ Some b → ltl.BlockFits slots nodes b) → Fit rest → Fit (stretch n o behind rest)
  stretch_fits n None behind rest below fits h = h
  stretch_fits n (Some b) behind rest below fits h =
      (below, copies_fit b.before _ (fits b refl).before.each (body_code_fits b.body behind rest (fits b refl).body h))

  each_at : (bs : List Block) → AllByRecursion (ltl.BlockFits slots nodes) bs → (n : ℕ) (b : Block) → slice_get bs n ≡ Some b → ltl.BlockFits slots nodes b
  each_at [] fits n b e = cc (e)
  each_at (b' ∷ bs) fits zero b e = let same : b' ≡ b = cc (e) in subst (ltl.BlockFits slots nodes) same fits.0
  each_at (b' ∷ bs) fits (suc n) b e = each_at bs fits.1 n b e

  order_code_fits : (bs : List Block) → AllByRecursion (ltl.BlockFits slots nodes) bs → (order : List ℕ) → AllByRecursion (λ n. n < 2 ^ 16) order → Fit (order_code bs order)
  order_code_fits bs fits [] below = tt
  order_code_fits bs fits (n ∷ ns) below =
      stretch_fits n (slice_get bs n) ns (order_code bs ns) below.0 (each_at bs fits n) (order_code_fits bs fits ns below.1)

-- ---- how long the code is

length-copies : (ms : List Move) (rest : List Instruction) → length (copies ms rest) ≡ length ms + length rest
length-copies [] rest = omega arith
length-copies (m ∷ ms) rest = omega (arith, length-copies ms rest)

jump_when_long : (b : Bool) (s : ℕ) (rest : List Instruction) → length (cond b rest (Goto s ∷ rest)) ≤ length rest + 1
jump_when_long true s rest = omega arith
jump_when_long false s rest = omega arith

act_code_long : (act : Option Act) (rest : List Instruction) → length (act_code act rest) ≤ length rest + 1
act_code_long None rest = omega arith
act_code_long (Some act) rest = omega arith

body_code_long : (slots nodes : ℕ) (b : Body) (behind : List ℕ) (rest : List Instruction) → ltl.BodyFits slots nodes b → length (body_code b behind rest) ≤ length rest + 257
body_code_long slots nodes (body.Go act after s) behind rest fits =
    let one = act_code_long act (copies after (jump s behind rest)) in
    let two = length-copies after (jump s behind rest) in
    let three = jump_when_long (is_next s behind) s rest in
    let few = fits.1.few in
    omega arith
body_code_long slots nodes (body.Call function arguments target after s) behind rest fits =
    let one = length-copies after (jump s behind rest) in
    let two = jump_when_long (is_next s behind) s rest in
    let few = fits.1.few in
    omega arith
body_code_long slots nodes (body.Branch test taken other) behind rest fits =
    let one = jump_when_long (is_next other behind) other rest in omega arith
body_code_long slots nodes (body.Return value) behind rest fits = omega arith

stretch_long : (slots nodes n : ℕ) (o : Option Block) (behind : List ℕ) (rest : List Instruction) → ((b : Block) → o ≡ Some b → ltl.BlockFits slots nodes b) → length (stretch n o behind rest) ≤ length rest + 514
stretch_long slots nodes n None behind rest fits = omega arith
stretch_long slots nodes n (Some b) behind rest fits =
    let one = length-copies b.before (body_code b.body behind rest) in
    let two = body_code_long slots nodes b.body behind rest (fits b refl).body in
    let few = (fits b refl).before.few in
    omega arith

order_code_long : (slots nodes : ℕ) (few : nodes ≤ 65535) (bs : List Block) → AllByRecursion (ltl.BlockFits slots nodes) bs → (order : List ℕ) → length (order_code bs order) ≤ 514 * length order
order_code_long slots nodes few bs fits [] = omega arith
order_code_long slots nodes few bs fits (n ∷ ns) =
    let one = stretch_long slots nodes n (slice_get bs n) ns (order_code bs ns) (each_at slots nodes few bs fits n) in
    let rest = order_code_long slots nodes few bs fits ns in
    omega arith

-- ---- the labels are listed nodes

labels-copies : (ms : List Move) (rest : List Instruction) → labels_of (copies ms rest) ≡ labels_of rest
labels-copies [] rest = refl
labels-copies (m ∷ ms) rest = labels-copies ms rest

labels-jump_when : (b : Bool) (s : ℕ) (rest : List Instruction) → labels_of (cond b rest (Goto s ∷ rest)) ≡ labels_of rest
labels-jump_when true s rest = refl
labels-jump_when false s rest = refl

labels-act_code : (act : Option Act) (rest : List Instruction) → labels_of (act_code act rest) ≡ labels_of rest
labels-act_code None rest = refl
labels-act_code (Some act) rest = refl

labels-body_code : (b : Body) (behind : List ℕ) (rest : List Instruction) → labels_of (body_code b behind rest) ≡ labels_of rest
labels-body_code (body.Go act after s) behind rest =
    labels-act_code act (copies after (jump s behind rest)) ∙ labels-copies after (jump s behind rest) ∙ labels-jump_when (is_next s behind) s rest
labels-body_code (body.Call function arguments target after s) behind rest =
    labels-copies after (jump s behind rest) ∙ labels-jump_when (is_next s behind) s rest
labels-body_code (body.Branch test taken other) behind rest = labels-jump_when (is_next other behind) other rest
labels-body_code (body.Return value) behind rest = refl

-- a label in front of the rest's, where the node is one
abbrev label_if : Option Block → ℕ → List ℕ → List ℕ
label_if None n ls = ls
label_if (Some b) n ls = n ∷ ls

labels-stretch : (n : ℕ) (o : Option Block) (behind : List ℕ) (rest : List Instruction) → labels_of (stretch n o behind rest) ≡ label_if o n (labels_of rest)
labels-stretch n None behind rest = refl
labels-stretch n (Some b) behind rest = ap (λ ls. n ∷ ls) (labels-copies b.before (body_code b.body behind rest) ∙ labels-body_code b.body behind rest)

all_if : (P : ℕ → Type 0) (o : Option Block) (n : ℕ) (ls : List ℕ) → P n → AllByRecursion P ls → AllByRecursion P (label_if o n ls)
all_if P None n ls here h = h
all_if P (Some b) n ls here h = (here, h)

labels_all : (P : ℕ → Type 0) (bs : List Block) (order : List ℕ) → AllByRecursion P order → AllByRecursion P (labels_of (order_code bs order))
labels_all P bs [] h = tt
labels_all P bs (n ∷ ns) h =
    subst (AllByRecursion P) (sym (labels-stretch n (slice_get bs n) ns (order_code bs ns))) (all_if P (slice_get bs n) n _ h.0 (labels_all P bs ns h.1))

distinct_if : (o : Option Block) (n : ℕ) (ls : List ℕ) → AllByRecursion (λ k. n ≢ k) ls → AreDistinct ls → AreDistinct (label_if o n ls)
distinct_if None n ls other h = h
distinct_if (Some b) n ls other h = (other, h)

labels_distinct : (bs : List Block) (order : List ℕ) → AreDistinct order → AreDistinct (labels_of (order_code bs order))
labels_distinct bs [] h = tt
labels_distinct bs (n ∷ ns) h =
    subst AreDistinct (sym (labels-stretch n (slice_get bs n) ns (order_code bs ns)))
    (distinct_if (slice_get bs n) n _ (labels_all (λ k. n ≢ k) bs ns h.0) (labels_distinct bs ns h.1))

-- ---- the whole

pub order_code-in_range : (f : ltl.FunctionData) (order : List ℕ) → ltl.IsFunction f → length order < 2 ^ 16 → AllByRecursion (λ n. n < 2 ^ 16) order → AreDistinct order → linear.IsFunction (record { parameters = f.parameters; slots = f.slots; code = order_code f.blocks order })
order_code-in_range f order fits few below distinct = record {
  parameters = fits.parameters;
  slots = fits.slots;
  count = let long = order_code_long f.slots (length f.blocks) fits.nodes f.blocks fits.each order in omega arith;
  each = order_code_fits f.slots (length f.blocks) fits.nodes f.blocks fits.each order below;
  labels = labels_distinct f.blocks order distinct;
}

-- numbers of 16 bits
pub all_below : (ns : List ℕ) → ((k : ℕ) → get_or ns k 0 < 2 ^ 16) → AllByRecursion (λ n. n < 2 ^ 16) ns
all_below [] h = tt
all_below (n ∷ ns) h = (h 0, all_below ns (λ k. h (suc k)))
