-- Why the loop of `write_blocks` over `entry` keeps the invariant.
use Rattle.std.proofs.Common.{◌≡◌, ℕ, ◌+◌, List, [], ◌∷◌, ◌++◌, take, sym, ap, ◌∙◌, append_assoc, arith}
use Rattle.std.proofs.lemmas.List.{take_more}
use Rattle.acceptor_log_form.specs.declared.record.Record.{Record}
use Rattle.acceptor_log_form.specs.Text.{blocks, block_text}
use Rattle.acceptor_log_form.proofs.Blocks.{blocks-push}
use Rattle.acceptor_log_writing.proofs.putting.write_blocks.Goals as goal

one_more : (was bytes gate out : List ℕ) (rs more : List Record) (r : Record) → bytes ≡ was ++ blocks rs → gate ≡ bytes ++ 1 ∷ [] → out ≡ gate ++ block_text r → more ≡ rs ++ r ∷ [] → out ≡ was ++ blocks more
one_more was bytes gate out rs more r so_far pushed written are =
    written ∙ ap (λ (l : List ℕ). l ++ block_text r) (pushed ∙ ap (λ (l : List ℕ). l ++ 1 ∷ []) so_far)
    ∙ append_assoc (was ++ blocks rs) (1 ∷ []) (block_text r) ∙ append_assoc was (blocks rs) (1 ∷ block_text r)
    ∙ ap (λ (l : List ℕ). was ++ l) (sym (blocks-push rs r)) ∙ ap (λ l. was ++ blocks l) (sym are)

pub loop-entry-preserved : goal.loop-entry-preserved
loop-entry-preserved c =
    let rs = c.args.records.now in
    let r = c.entry-item.result in
    one_more c.args.out.now.items c.loop-entry.out.items c.push.new.self.items c.write_record.new.out.items
    (take c.loop-entry.entry-index rs) (take (c.loop-entry.entry-index + 1) rs) r
    c.loop-entry.invariant c.in_ok-push.ensures.items c.in_ok-write_record.ensures
    (take_more rs c.loop-entry.entry-index r (omega arith) ∙ ap (λ x. take c.loop-entry.entry-index rs ++ x ∷ []) (sym c.entry-item.is))
