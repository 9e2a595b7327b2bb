-- A stretch in front of what follows: each part of the code is its own instructions, and then the rest.
use Rattle.std.proofs.Common.{◌≡◌, ℕ, ◌+◌, ◌<◌, get_or, take, length, List, [], ◌∷◌, ◌++◌, Option, Some, None, Bool, true, false, cond, refl, sym, ap, ◌∙◌, append_assoc, append-nil}
use Rattle.std.specs.Prelude.{slice_get}
use Rattle.std.proofs.lemmas.List.{take_more}
use Rattle.locations.specs.declared.location.Location.{Location}
use Rattle.locations.specs.declared.location.Move.{Move}
use Rattle.machine.specs.declared.act.Act.{Act}
use Rattle.ltl.specs.declared.block.Block.{Block}
use Rattle.ltl.specs.declared.block.Body.{Body}
use Rattle.ltl.specs.declared.block.Body.TheVariants as body
use Rattle.linearize_check_proof.specs.Instruction.{Instruction}
use Rattle.linearize_check_proof.specs.Instruction.TheVariants.{Copy, Call, Branch, Label, Goto}
use Rattle.linearize_check_proof.specs.Layout.{copies, act_code, is_next, jump, body_code, stretch, order_code}

pub copies-append : (ms : List Move) (rest : List Instruction) → copies ms rest ≡ copies ms [] ++ rest
copies-append [] rest = refl
copies-append (m ∷ ms) rest = ap (λ is. Copy m ∷ is) (copies-append ms rest)

pub act_code-append : (act : Option Act) (rest : List Instruction) → act_code act rest ≡ act_code act [] ++ rest
act_code-append None rest = refl
act_code-append (Some act) rest = refl

jump_when : (b : Bool) (s : ℕ) (rest : List Instruction) → cond b rest (Goto s ∷ rest) ≡ cond b [] (Goto s ∷ []) ++ rest
jump_when true s rest = refl
jump_when false s rest = refl

pub jump-append : (s : ℕ) (behind : List ℕ) (rest : List Instruction) → jump s behind rest ≡ jump s behind [] ++ rest
jump-append s behind rest = jump_when (is_next s behind) s rest

-- the moves behind an instruction, and the jump
tail-append : (after : List Move) (s : ℕ) (behind : List ℕ) (rest : List Instruction) → copies after (jump s behind rest) ≡ copies after (jump s behind []) ++ rest
tail-append after s behind rest =
    copies-append after (jump s behind rest)
    ∙ ap (λ is. copies after [] ++ is) (jump-append s behind rest)
    ∙ sym (append_assoc (copies after []) (jump s behind []) rest)
    ∙ ap (λ is. is ++ rest) (sym (copies-append after (jump s behind [])))

pub body_code-append : (b : Body) (behind : List ℕ) (rest : List Instruction) → body_code b behind rest ≡ body_code b behind [] ++ rest
body_code-append (body.Go act after s) behind rest =
    act_code-append act (copies after (jump s behind rest))
    ∙ ap (λ is. act_code act [] ++ is) (tail-append after s behind rest)
    ∙ sym (append_assoc (act_code act []) (copies after (jump s behind [])) rest)
    ∙ ap (λ is. is ++ rest) (sym (act_code-append act (copies after (jump s behind []))))
body_code-append (body.Call function arguments target after s) behind rest = ap (λ is. Call function arguments target ∷ is) (tail-append after s behind rest)
body_code-append (body.Branch test taken other) behind rest = ap (λ is. Branch test taken ∷ is) (jump-append other behind rest)
body_code-append (body.Return value) behind rest = refl

pub stretch-append : (n : ℕ) (b : Option Block) (behind : List ℕ) (rest : List Instruction) → stretch n b behind rest ≡ stretch n b behind [] ++ rest
stretch-append n None behind rest = refl
stretch-append n (Some b) behind rest =
    ap (λ is. Label n ∷ is) (
    copies-append b.before (body_code b.body behind rest)
    ∙ ap (λ is. copies b.before [] ++ is) (body_code-append b.body behind rest)
    ∙ sym (append_assoc (copies b.before []) (body_code b.body behind []) rest)
    ∙ ap (λ is. is ++ rest) (sym (copies-append b.before (body_code b.body behind [])))
    )

-- the forms in which the writers cite these

-- one more move
pub copies_more : (first was now : List Instruction) (ms : List Move) (i : ℕ) (d : Move) → now ≡ was ++ Copy (get_or ms i d) ∷ [] → was ≡ first ++ copies (take i ms) [] → i < length ms → now ≡ first ++ copies (take (i + 1) ms) []
copies_more first was now ms i d e1 e2 below =
    e1 ∙ ap (λ is. is ++ Copy (get_or ms i d) ∷ []) e2 ∙ append_assoc first (copies (take i ms) []) (Copy (get_or ms i d) ∷ [])
    ∙ ap (λ is. first ++ is) (sym (pushed (take i ms) (get_or ms i d)) ∙ ap (λ ns. copies ns []) (sym (take_more ms i d below)))
  where
    pushed : (ms : List Move) (m : Move) → copies (ms ++ m ∷ []) [] ≡ copies ms [] ++ Copy m ∷ []
    pushed [] m = refl
    pushed (n ∷ ns) m = ap (λ is. Copy n ∷ is) (pushed ns m)

pub go_code : (was now moved jumped : List Instruction) (act : Option Act) (after : List Move) (s : ℕ) (behind : List ℕ) → now ≡ was ++ act_code act [] → moved ≡ now ++ copies after [] → jumped ≡ moved ++ jump s behind [] → jumped ≡ was ++ body_code (body.Go act after s) behind []
go_code was now moved jumped act after s behind e1 e2 e3 =
    e3 ∙ ap (λ is. is ++ jump s behind []) (e2 ∙ ap (λ is. is ++ copies after []) e1)
    ∙ append_assoc (was ++ act_code act []) (copies after []) (jump s behind [])
    ∙ append_assoc was (act_code act []) (copies after [] ++ jump s behind [])
    ∙ ap (λ is. was ++ is) (sym (act_code-append act (copies after (jump s behind [])) ∙ ap (λ is. act_code act [] ++ is) (copies-append after (jump s behind []))))

pub call_code : (was called moved jumped : List Instruction) (function : ℕ) (arguments : List Location) (target : Option Location) (after : List Move) (s : ℕ) (behind : List ℕ) → called ≡ was ++ Call function arguments target ∷ [] → moved ≡ called ++ copies after [] → jumped ≡ moved ++ jump s behind [] → jumped ≡ was ++ body_code (body.Call function arguments target after s) behind []
call_code was called moved jumped function arguments target after s behind e1 e2 e3 =
    e3 ∙ ap (λ is. is ++ jump s behind []) (e2 ∙ ap (λ is. is ++ copies after []) e1)
    ∙ append_assoc (was ++ Call function arguments target ∷ []) (copies after []) (jump s behind [])
    ∙ append_assoc was (Call function arguments target ∷ []) (copies after [] ++ jump s behind [])
    ∙ ap (λ is. was ++ Call function arguments target ∷ is) (sym (copies-append after (jump s behind [])))

pub stretch_parts : (was labelled moved whole : List Instruction) (n : ℕ) (b : Block) (behind : List ℕ) (o : Option Block) → Some b ≡ o → labelled ≡ was ++ Label n ∷ [] → moved ≡ labelled ++ copies b.before [] → whole ≡ moved ++ body_code b.body behind [] → whole ≡ was ++ stretch n o behind []
stretch_parts was labelled moved whole n b behind o is e1 e2 e3 =
    e3 ∙ ap (λ is. is ++ body_code b.body behind []) (e2 ∙ ap (λ is. is ++ copies b.before []) e1)
    ∙ append_assoc (was ++ Label n ∷ []) (copies b.before []) (body_code b.body behind [])
    ∙ append_assoc was (Label n ∷ []) (copies b.before [] ++ body_code b.body behind [])
    ∙ ap (λ is. was ++ Label n ∷ is) (sym (copies-append b.before (body_code b.body behind [])))
    ∙ ap (λ o. was ++ stretch n o behind []) is

pub stretch_none : (was : List Instruction) (n : ℕ) (behind : List ℕ) (o : Option Block) → None ≡ o → was ≡ was ++ stretch n o behind []
stretch_none was n behind o is = sym (append-nil was) ∙ ap (λ o. was ++ stretch n o behind []) is

-- one more node of the order
pub order_code_more : (was now whole : List Instruction) (blocks : List Block) (n : ℕ) (behind : List ℕ) → now ≡ was ++ stretch n (slice_get blocks n) behind [] → was ++ order_code blocks (n ∷ behind) ≡ whole → now ++ order_code blocks behind ≡ whole
order_code_more was now whole blocks n behind e1 e2 =
    ap (λ js. js ++ order_code blocks behind) e1
    ∙ append_assoc was (stretch n (slice_get blocks n) behind []) (order_code blocks behind)
    ∙ ap (λ js. was ++ js) (sym (stretch-append n (slice_get blocks n) behind (order_code blocks behind)))
    ∙ e2
