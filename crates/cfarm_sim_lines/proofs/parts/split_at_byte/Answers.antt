-- Why `split_at_byte` meets its clauses `none` and `first`.
use Rattle.std.proofs.Common.{◌≡◌, take, get_or, true, sym, ap, ◌∙◌, arith, rules}
use Rattle.std.proofs.lemmas.List.Sums.{position_or_len_is}
use Rattle.cfarm_sim_lines.specs.Texts.{is_byte}
use Rattle.cfarm_sim_lines.proofs.Decimals.{take_all}
use Rattle.cfarm_sim_lines.proofs.parts.split_at_byte.Goals as goal
use Rattle.cfarm_sim_lines.proofs.parts.split_at_byte.Goals.{then-loop-length-test+else-bytes-length, else-loop-length-test}

pub returns-then-length-bytes-clause-none : goal.returns-then-length-bytes-clause-none
returns-then-length-bytes-clause-none c = λ _.
    let bytes = c.args.bytes.now in
    let at = c.if-length-bytes.true in
    ap (λ n. take n bytes) (position_or_len_is (is_byte c.args.byte) bytes c.loop-length.length 0 c.loop-length.invariant.within c.loop-length.invariant.others (λ h. absurd (omega arith)) ∙ at)
    ∙ take_all bytes

pub returns-clause-first : goal.returns-clause-first
returns-clause-first c =
    let bytes = c.args.bytes.now in
    let n = c.loop-length.length in
    let inside = c.if-length-bytes.false in
    let within = c.loop-length.invariant.within in
    let found : is_byte c.args.byte (get_or bytes n 0) ≡ true = elim c.loop-length-test.branch [
      | then-loop-length-test+else-bytes-length w ↦ search rules
      | else-loop-length-test w ↦ absurd (let no = w.loop-length-test.false in omega arith)
    ] in
    c.split_at.ensures.front ∙ ap (λ k. take k bytes) (sym (position_or_len_is (is_byte c.args.byte) bytes n 0 within c.loop-length.invariant.others (λ _. found)))
