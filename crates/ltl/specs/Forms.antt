-- The reading of LTL is a form: each spelling is read again, and nothing else is read.
use Rattle.std.proofs.Common.{◌≡◌, ℕ, ◌<◌, ◌≤◌, ◌^◌, List, ◌++◌, Some, None, Ok, refl, arith}
use Rattle.std.specs.Int.{w16, to_be_bytes}
use Rattle.std.specs.List.{flat_map}
use Rattle.lang_base.specs.Reading.{both, follow}
use Rattle.lang_base.proofs.Forms.{IsForm}
use Rattle.lang_helpers.specs.Graphs.{node}
use Rattle.lang_helpers.proofs.Graphs.{node_form, TwoNodesFit, two_nodes_form, AllNodesFit, GraphFits, nodes_form, graph_of_form}
use Rattle.lang_base.proofs.Parts.{made_takes, made_again, made_form, both_form}
use Rattle.lang_base.proofs.Lists.{HasCode, TakesBehind, follow_form, coded_form, tagged_form}
use Rattle.machine.specs.Location.{Location}
use Rattle.machine.specs.Move.{Move}
use Rattle.machine.specs.declared.act.Act.{Act}
use Rattle.machine.specs.declared.act.Act.TheVariants.{Constant, Operate, Load, Store, Put}
use Rattle.machine.specs.declared.test.Test.{Test}
use Rattle.machine.specs.Fits.{MovesFit, ActFits, TestFits}
use Rattle.machine.specs.Spelling.{act_code, act_body, call_text, moves_text, test_text, frame_text}
use Rattle.machine.specs.Reading.{moves, call, asked, value, act, frame}
use Rattle.machine.proofs.Forms.{moves_form, call_form, CallParts, CallPartsFit, test_form, value_form, act_form, FrameFits, frame_form}
use Rattle.ltl.specs.declared.block.Block.{Block}
use Rattle.ltl.specs.declared.block.Body.{Body}
use Rattle.ltl.specs.declared.block.Body.TheVariants.{Go, Call, Branch, Return}
use Rattle.ltl.specs.Function.{FunctionData, BodyFits, BlockFits, IsFunction}
use Rattle.ltl.specs.Spelling.{going_text, body_code, body_body, body_text, block_text, graph_text, tag, spelling}
use Rattle.ltl.specs.Reading.{going, calling, branch, bodies, plain, body, block, blocks, graph, parts, function}

-- ---- a body

abbrev GoingFits : ℕ → ℕ → ℕ × List Move → Type 0
GoingFits slots nodes p = (p.0 < nodes) × MovesFit slots p.1

going_form : (slots nodes : ℕ) → slots ≤ 2 ^ 16 → nodes ≤ 2 ^ 16 → IsForm (going slots nodes) going_text (GoingFits slots nodes)
unfolding going
going_form slots nodes few_slots few =
    both_form (node nodes) (to_be_bytes w16) (λ n. n < nodes) (node_form nodes few) (λ s. moves slots) (λ s. moves_text) (λ s. MovesFit slots) (λ s fits. moves_form slots few_slots)

abbrev CallingParts : Type 0
CallingParts = CallParts × (ℕ × List Move)

abbrev calling_of : CallingParts → Body
calling_of p = Call p.0.0 p.0.1.0 p.0.1.1 p.1.1 p.1.0

abbrev calling_text : CallingParts → List ℕ
calling_text p = call_text p.0 ++ going_text p.1

abbrev CallingFits : ℕ → ℕ → CallingParts → Type 0
CallingFits slots nodes p = CallPartsFit slots p.0 × GoingFits slots nodes p.1

calling_parts : (slots nodes : ℕ) → slots ≤ 2 ^ 16 → nodes ≤ 2 ^ 16 → IsForm (both (call slots) (λ c. going slots nodes)) calling_text (CallingFits slots nodes)
calling_parts slots nodes few_slots few =
    both_form (call slots) call_text (CallPartsFit slots) (call_form slots few_slots) (λ c. going slots nodes) (λ c. going_text) (λ c. GoingFits slots nodes) (λ c fits. going_form slots nodes few_slots few)

calling_takes : (slots nodes : ℕ) → slots ≤ 2 ^ 16 → nodes ≤ 2 ^ 16 → TakesBehind body_code body_body (BodyFits slots nodes) 6 (calling slots nodes)
unfolding calling
calling_takes slots nodes few_slots few =
    made_takes calling_of (calling_parts slots nodes few_slots few) body_body (HasCode body_code body_body (BodyFits slots nodes) 6) (λ p fits. (refl, ((fits.0, fits.1.1, fits.1.0), refl)))

abbrev BranchParts : Type 0
BranchParts = Test × (ℕ × ℕ)

abbrev branch_text : BranchParts → List ℕ
branch_text p = test_text p.0 ++ (to_be_bytes w16 p.1.0 ++ to_be_bytes w16 p.1.1)

abbrev BranchFits : ℕ → BranchParts → Type 0
BranchFits nodes p = TestFits p.0 × TwoNodesFit nodes p.1

branch_parts : (nodes : ℕ) → nodes ≤ 2 ^ 16 → IsForm (both asked (λ t. both (node nodes) (λ taken. node nodes))) branch_text (BranchFits nodes)
branch_parts nodes few =
    both_form asked test_text TestFits test_form (λ t. both (node nodes) (λ taken. node nodes)) (λ t p. to_be_bytes w16 p.0 ++ to_be_bytes w16 p.1) (λ t. TwoNodesFit nodes) (λ t fits. two_nodes_form nodes few)

abbrev PlainParts : Type 0
PlainParts = Act × (ℕ × List Move)

abbrev plain_text : PlainParts → List ℕ
plain_text p = act_body p.0 ++ going_text p.1

abbrev PlainFits : ℕ → ℕ → ℕ → PlainParts → Type 0
PlainFits slots nodes code p = HasCode act_code act_body ActFits code p.0 × GoingFits slots nodes p.1

plain_parts : (slots nodes code : ℕ) → slots ≤ 2 ^ 16 → nodes ≤ 2 ^ 16 → IsForm (both (act code) (λ a. going slots nodes)) plain_text (PlainFits slots nodes code)
plain_parts slots nodes code few_slots few =
    both_form (act code) act_body (HasCode act_code act_body ActFits code) (act_form code) (λ a. going slots nodes) (λ a. going_text) (λ a. GoingFits slots nodes) (λ a fits. going_form slots nodes few_slots few)

plain_takes : (slots nodes : ℕ) → slots ≤ 2 ^ 16 → nodes ≤ 2 ^ 16 → (code : ℕ) → TakesBehind body_code body_body (BodyFits slots nodes) code (plain slots nodes code)
unfolding plain
plain_takes slots nodes few_slots few code =
    made_takes (λ (p : PlainParts). Go (Some p.0) p.1.1 p.1.0) (plain_parts slots nodes code few_slots few) body_body (HasCode body_code body_body (BodyFits slots nodes) code)
    (λ p fits. (refl, ((fits.0.0, fits.1.1, fits.1.0), fits.0.1)))

plain_again : (slots nodes : ℕ) → slots ≤ 2 ^ 16 → nodes ≤ 2 ^ 16 → (a : Act) (after : List Move) (successor : ℕ) (rest : List ℕ) → BodyFits slots nodes (Go (Some a) after successor) → plain slots nodes (act_code a) ((act_body a ++ going_text (successor, after)) ++ rest) ≡ Ok (Go (Some a) after successor, rest)
unfolding plain
plain_again slots nodes few_slots few a after successor rest fits =
    made_again (λ (p : PlainParts). Go (Some p.0) p.1.1 p.1.0) (plain_parts slots nodes (act_code a) few_slots few) (a, (successor, after)) rest ((fits.0, refl), (fits.2, fits.1))

body_again : (slots nodes : ℕ) → slots ≤ 2 ^ 16 → nodes ≤ 2 ^ 16 → (b : Body) (rest : List ℕ) → BodyFits slots nodes b → follow (bodies slots nodes) (plain slots nodes) (body_code b) (body_body b ++ rest) ≡ Ok (b, rest)
unfolding calling branch
body_again slots nodes few_slots few (Go None after successor) rest fits =
    made_again (λ (p : ℕ × List Move). Go None p.1 p.0) (going_form slots nodes few_slots few) (successor, after) rest (fits.2, fits.1)
body_again slots nodes few_slots few (Go (Some (Constant target word)) after successor) rest fits = plain_again slots nodes few_slots few (Constant target word) after successor rest fits
body_again slots nodes few_slots few (Go (Some (Operate op target arguments)) after successor) rest fits = plain_again slots nodes few_slots few (Operate op target arguments) after successor rest fits
body_again slots nodes few_slots few (Go (Some (Load target global index)) after successor) rest fits = plain_again slots nodes few_slots few (Load target global index) after successor rest fits
body_again slots nodes few_slots few (Go (Some (Store global index source)) after successor) rest fits = plain_again slots nodes few_slots few (Store global index source) after successor rest fits
body_again slots nodes few_slots few (Go (Some (Put source target)) after successor) rest fits = plain_again slots nodes few_slots few (Put source target) after successor rest fits
body_again slots nodes few_slots few (Call function arguments target after successor) rest fits =
    made_again calling_of (calling_parts slots nodes few_slots few) ((function, (arguments, target)), (successor, after)) rest (fits.0, (fits.2, fits.1))
body_again slots nodes few_slots few (Branch test taken other) rest fits =
    made_again (λ (p : BranchParts). Branch p.0 p.1.0 p.1.1) (branch_parts nodes few) (test, (taken, other)) rest (fits.0, (fits.1, fits.2))
body_again slots nodes few_slots few (Return value) rest fits = made_again (λ v. Return v) value_form value rest fits

branch_takes : (slots nodes : ℕ) → nodes ≤ 2 ^ 16 → TakesBehind body_code body_body (BodyFits slots nodes) 8 (branch nodes)
unfolding branch
branch_takes slots nodes few =
    made_takes (λ (p : BranchParts). Branch p.0 p.1.0 p.1.1) (branch_parts nodes few) body_body (HasCode body_code body_body (BodyFits slots nodes) 8) (λ p fits. (refl, ((fits.0, fits.1.0, fits.1.1), refl)))

body_form : (slots nodes : ℕ) → slots ≤ 2 ^ 16 → nodes ≤ 2 ^ 16 → IsForm (body slots nodes) body_text (BodyFits slots nodes)
unfolding body
body_form slots nodes few_slots few =
    let at = HasCode body_code body_body (BodyFits slots nodes) in
    coded_form body_code body_body (BodyFits slots nodes) (follow (bodies slots nodes) (plain slots nodes))
    (follow_form body_code body_body (BodyFits slots nodes) (bodies slots nodes) (plain slots nodes) (
      made_takes (λ (p : ℕ × List Move). Go None p.1 p.0) (going_form slots nodes few_slots few) body_body (at 0) (λ p fits. (refl, ((tt, fits.1, fits.0), refl))),
      (
        calling_takes slots nodes few_slots few,
        (
          branch_takes slots nodes few,
          (made_takes (λ v. Return v) value_form body_body (at 9) (λ v fits. (refl, (fits, refl))), tt),
        ),
      ),
    )
    (plain_takes slots nodes few_slots few)
    (body_again slots nodes few_slots few))

-- ---- a block

block_form : (slots nodes : ℕ) → slots ≤ 2 ^ 16 → nodes ≤ 2 ^ 16 → IsForm (block slots nodes) block_text (BlockFits slots nodes)
unfolding block
block_form slots nodes few_slots few =
    made_form (λ (p : List Move × Body). record { before = p.0; body = p.1 })
    (both_form (moves slots) moves_text (MovesFit slots) (moves_form slots few_slots) (λ m. body slots nodes) (λ m. body_text) (λ m. BodyFits slots nodes) (λ m fits. body_form slots nodes few_slots few))
    block_text (BlockFits slots nodes)
    (λ p fits. (refl, record { before = fits.0; body = fits.1 }))
    (λ b fits. ((b.before, b.body), (fits.before, fits.body), refl))

-- ---- the graph

blocks_form : (slots nodes : ℕ) → slots ≤ 2 ^ 16 → nodes ≤ 2 ^ 16 → IsForm (blocks slots nodes) (flat_map block_text) (AllNodesFit (BlockFits slots) nodes)
unfolding blocks
blocks_form slots nodes few_slots few = nodes_form (block slots nodes) block_text (BlockFits slots) nodes (block_form slots nodes few_slots few)

graph_form : (slots : ℕ) → slots ≤ 2 ^ 16 → IsForm (graph slots) graph_text (GraphFits (BlockFits slots))
unfolding graph
graph_form slots few_slots = graph_of_form (blocks slots) block_text (BlockFits slots) (λ nodes few. blocks_form slots nodes few_slots few)

-- ---- the function

abbrev Parts : Type 0
Parts = (List Location × ℕ) × (ℕ × List Block)

abbrev pub function_of : Parts → FunctionData
function_of p = record { parameters = p.0.0; slots = p.0.1; entry = p.1.0; blocks = p.1.1 }

abbrev PartsFit : Parts → Type 0
PartsFit p = FrameFits p.0 × GraphFits (BlockFits p.0.1) p.1

abbrev parts_text : Parts → List ℕ
parts_text p = frame_text p.0 ++ graph_text p.1

pub parts_form : IsForm parts parts_text PartsFit
unfolding parts
parts_form = both_form frame frame_text FrameFits frame_form (λ f. graph f.1) (λ f. graph_text) (λ f. GraphFits (BlockFits f.1)) (λ f fits. let few : f.1 ≤ 2 ^ 16 = omega (arith, fits.1) in graph_form f.1 few)

pub parts_fit : (p : Parts) → PartsFit p → IsFunction (function_of p)
parts_fit p fits = record { parameters = fits.0.0; slots = fits.0.1; entry = fits.1.entry; nodes = omega (arith, fits.1.nodes); each = fits.1.each }

fit_parts : (f : FunctionData) → IsFunction f → PartsFit ((f.parameters, f.slots), (f.entry, f.blocks))
fit_parts f fits = ((fits.parameters, fits.slots), record { entry = fits.entry; nodes = omega (arith, fits.nodes); each = fits.each })

pub function_form : IsForm function spelling IsFunction
unfolding function
function_form =
    tagged_form tag
    (made_form function_of parts_form (λ f. frame_text (f.parameters, f.slots) ++ graph_text (f.entry, f.blocks)) IsFunction
    (λ p fits. (refl, parts_fit p fits))
    (λ f fits. (((f.parameters, f.slots), (f.entry, f.blocks)), fit_parts f fits, refl)))
