-- A front of the bytes.
use Rattle.std.proofs.Common.{◌≡◌, ◌<◌, ◌≤◌, [], length, take, drop, Ok, sym, ◌∙◌, arith}
use Rattle.bundle_form.proofs.Taken.{short, taken}
use Rattle.bundle_form.proofs.reading.read_bytes.Goals as goal

pub returns-then-bytes-count : goal.returns-then-bytes-count
returns-then-bytes-count c = λ memory.
    let few : length c.args.bytes.now.now < c.args.count = omega (arith, c.if-bytes-count.true) in
    short [] c.args.bytes.now.now c.args.count few

pub returns : goal.returns
returns c =
    let bytes = c.args.bytes.now.now in
    let n = c.args.count in
    let enough : n ≤ length bytes = omega (arith, c.if-bytes-count.false) in
    let front : take n bytes ≡ c.from_vec.result = sym (c.from_vec.ensures ∙ c.in_ok-block.ensures.items ∙ c.split_at.ensures.front) in
    let behind : drop n bytes ≡ c.split_at.result.1.now = sym c.split_at.ensures.back in
    taken [] bytes n enough ∙ λ i. Ok (front i, behind i)
