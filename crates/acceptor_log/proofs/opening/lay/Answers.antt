-- What was written stands at the front, and a closed gate behind it.
use Rattle.std.proofs.Common.{◌≡◌, ℕ, List, [], ◌∷◌, ◌++◌, length, sym, ap, ◌∙◌, arith}
use Rattle.durable_model.specs.Writes.{overwritten}
use Rattle.acceptor_log_form.specs.Text.{header_text, header_size}
use Rattle.acceptor_log_writing.proofs.Crash.{stands-created}
use Rattle.acceptor_log.proofs.opening.lay.Goals as goal

pub returns-in-Ok-clause-bytes : goal.returns-in-Ok-clause-bytes
returns-in-Ok-clause-bytes g c honest =
    let are : c.as_slice.result.now ≡ header_text c.args.header.now ++ 0 ∷ [] = c.as_slice.ensures.value ∙ c.in_ok-push.ensures.items ∙ ap (λ (l : List ℕ). l ++ 0 ∷ []) c.in_ok-bytes.ensures.text in
    c.in-Ok.ensures.written honest ∙ ap (λ (l : List ℕ). overwritten (g.D.Disk.seen c.args.disk.now) 0 l) are

pub returns-in-Ok-clause-rests : goal.returns-in-Ok-clause-rests
returns-in-Ok-clause-rests g c honest =
    let h = c.args.header.now in
    let long : length (header_text h) ≡ header_size = sym (ap length c.in_ok-bytes.ensures.text) ∙ c.in_ok-bytes.ensures.len in
    let are : c.as_slice.result.now ≡ header_text h ++ 0 ∷ [] = c.as_slice.ensures.value ∙ c.in_ok-push.ensures.items ∙ ap (λ (l : List ℕ). l ++ 0 ∷ []) c.in_ok-bytes.ensures.text in
    record {
      honest = c.write_durably.ensures.honest.1 honest;
      stands = stands-created header_size (header_text h) (g.D.Disk.seen c.args.disk.now) c.as_slice.result.now (g.D.Disk.seen c.write_durably.new.disk) long are (c.in-Ok.ensures.written honest);
      at_gate = omega arith;
      durable = c.in-Ok.ensures.durable honest;
    }
