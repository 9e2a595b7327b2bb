-- What is written of records behind a gate: the first one's block, and those of the others, each behind a gate of its own.
use Rattle.std.proofs.Common.{◌≡◌, ◌≢◌, ℕ, suc, List, [], ◌∷◌, ◌++◌, length, sym, ap, ◌∙◌, subst, append_assoc, arith}
use Rattle.std.specs.Prelude.{All}
use Rattle.acceptor_log_form.specs.declared.record.Record.{Record}
use Rattle.acceptor_log_form.specs.Text.{block_text, blocks, Fits, HasLength}
use Rattle.acceptor_log_writing.specs.Written.{behind_gate}
use Rattle.acceptor_log_writing.proofs.Crash.{length-behind, length-blocks}
use Rattle.acceptor_log_writing.proofs.putting.blocks_behind.Goals as goal

first_has_length : (entries others : List Record) (first : Record) → entries ≡ first ∷ others → All Fits entries → HasLength first
first_has_length entries others first is fit = (subst (λ (l : List Record). All Fits l) is fit 0 first (omega arith)).1

others_have_length : (entries others : List Record) (first : Record) → entries ≡ first ∷ others → All Fits entries → All HasLength others
others_have_length entries others first is fit k d lt = (subst (λ (l : List Record). All Fits l) is fit (suc k) d (omega (arith, lt))).1

pub record_bytes-requires : goal.record_bytes-requires
record_bytes-requires c = first_has_length c.args.entries.now c.in-Some.others.now c.in-Some.first.now c.in-Some.ensures.cases.0 (c.has_space.ensures.fit c.if-not-has_space.false)

pub write_blocks-requires : goal.write_blocks-requires
write_blocks-requires c = others_have_length c.args.entries.now c.in-Some.others.now c.in-Some.first.now c.in-Some.ensures.cases.0 (c.has_space.ensures.fit c.if-not-has_space.false)

pub returns-clause-text : goal.returns-clause-text
returns-clause-text c =
    let first = c.in-Some.first.now in
    let others = c.in-Some.others.now in
    c.in_ok-push.ensures.items
    ∙ ap (λ (l : List ℕ). l ++ 0 ∷ []) (c.in_ok-write_blocks.ensures ∙ ap (λ (l : List ℕ). l ++ blocks others) c.in_ok-block.ensures)
    ∙ append_assoc (block_text first) (blocks others) (0 ∷ [])
    ∙ ap (λ (l : List Record). behind_gate l) (sym c.in-Some.ensures.cases.0)

pub returns-clause-space : goal.returns-clause-space
returns-clause-space c =
    let entries = c.args.entries.now in
    let text = ap length (returns-clause-text c) in
    let some : entries ≢ [] = λ none. omega (arith, c.requires, ap length none) in
    omega (arith, text, length-behind entries some, c.has_space.ensures.space c.if-not-has_space.false)

pub returns-clause-fewer : goal.returns-clause-fewer
returns-clause-fewer c =
    let entries = c.args.entries.now in
    let text = ap length (returns-clause-text c) in
    let some : entries ≢ [] = λ none. omega (arith, c.requires, ap length none) in
    omega (arith, text, length-behind entries some, length-blocks entries)
