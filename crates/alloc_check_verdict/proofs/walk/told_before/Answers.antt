-- Why `told_before` meets its clauses `keeps` and `needed`.
use Rattle.std.proofs.Common.{◌≡◌, Bool, true, false, List, refl, sym, ◌∙◌}
use Rattle.rtl_language.specs.declared.instruction.Instruction.{Instruction}
use Rattle.ltl.specs.declared.block.Block.{Block}
use Rattle.alloc_check_rules.specs.declared.equation.Equation.{Equation}
use Rattle.alloc_check_rules.specs.Pairs.{change_of}
use Rattle.alloc_check_proof.specs.Fill.{needed}
use Rattle.alloc_check_proof.specs.Needed.{KeepsEquations, IsNeeded}
use Rattle.alloc_check_proof.proofs.Blocks.{broken_none}
use Rattle.alloc_check_verdict.proofs.walk.told_before.Goals as goal

kept : (i : Instruction) (b : Block) (es found : List Equation) (keeps : Bool) → keeps ≡ true → IsNeeded i b es found keeps → KeepsEquations i b es × (found ≡ needed i b es)
kept i b es found true is told = told
kept i b es found false is told = absurd (let impossible : false ≡ true = is in cc)

broken : (i : Instruction) (b : Block) (es found : List Equation) (keeps : Bool) → keeps ≡ false → IsNeeded i b es found keeps → ¬ KeepsEquations i b es
broken i b es found true is told = absurd (let impossible : true ≡ false = is in cc)
broken i b es found false is told = told

pub returns-then-keeps-clause-keeps : goal.returns-then-keeps-clause-keeps
returns-then-keeps-clause-keeps c =
    let parts = kept c.args.instruction.now c.args.block.now c.args.found.now c.needed_before.new.out.items c.in_ok-keeps.keeps c.if-keeps.true c.in_ok-keeps.ensures in
    (λ yes. parts.0, λ keeps. refl)

pub returns-then-keeps-clause-needed : goal.returns-then-keeps-clause-needed
returns-then-keeps-clause-needed c =
    (kept c.args.instruction.now c.args.block.now c.args.found.now c.needed_before.new.out.items c.in_ok-keeps.keeps c.if-keeps.true c.in_ok-keeps.ensures).1

pub returns-clause-keeps : goal.returns-clause-keeps
returns-clause-keeps c =
    let other = broken c.args.instruction.now c.args.block.now c.args.found.now c.needed_before.new.out.items c.in_ok-keeps.keeps c.if-keeps.false c.in_ok-keeps.ensures in
    (λ no. absurd (let impossible : false ≡ true = no in cc), λ keeps. absurd (other keeps))

pub returns-clause-needed : goal.returns-clause-needed
returns-clause-needed c =
    let i = c.args.instruction.now in
    let b = c.args.block.now in
    let other = broken i b c.args.found.now c.needed_before.new.out.items c.in_ok-keeps.keeps c.if-keeps.false c.in_ok-keeps.ensures in
    c.clear.ensures.items ∙ sym (broken_none i b (change_of i b.body) c.args.found.now other)
