-- Why `written` meets its clauses `text` and `fewer`.
use Rattle.std.proofs.Common.{◌≡◌, ℕ, List, length, sym, ap, ◌∙◌, subst, arith}
use Rattle.acceptor_log_form.specs.Text.{header_text, header_size}
use Rattle.acceptor_log_old.specs.Migrated.{migrated_below}
use Rattle.acceptor_log_translating.specs.Translating.{IsAdded}
use Rattle.acceptor_log_translating.proofs.Written.{gate_added, gate_at}
use Rattle.acceptor_log_translating.proofs.translating.written.Goals as goal

pub returns-clause-text : goal.returns-clause-text
returns-clause-text c rs each =
    let h = c.args.header.now in
    let text = c.write_rooms.new.out.items in
    let all = migrated_below rs (length c.args.rooms.now) in
    let count = c.in_ok-count.count in
    let long : length (header_text h) ≡ header_size = sym (ap length c.in_ok-text.ensures.text) ∙ c.in_ok-text.ensures.len in
    let added : IsAdded (header_text h) text all count = subst (λ (l : List ℕ). IsAdded l text all count) c.in_ok-text.ensures.text (c.in_ok-count.ensures.added rs each) in
    record {
      bytes_are = gate_added h text c.push.new.self.items all count added c.in_ok-push.ensures.items;
      head = long;
      fits = added.fits;
      counted = added.counted;
      at_gate = omega (arith, c.len-gate.ensures, c.write_rooms.new.out.ok.0, gate_at h text all count long added);
    }

pub returns-clause-fewer : goal.returns-clause-fewer
returns-clause-fewer c = omega (arith, c.len-gate.ensures, c.write_rooms.new.out.ok.0, c.in_ok-count.ensures.grown)
