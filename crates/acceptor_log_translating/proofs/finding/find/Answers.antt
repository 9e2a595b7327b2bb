-- What was read stands in front of what is left.
use Rattle.std.proofs.Common.{◌≡◌, List, ℕ, [], ◌++◌, length, refl, sym, ap, ◌∙◌, subst, arith}
use Rattle.std.proofs.lemmas.Bool.{eqb-false, eqb-true}
use Rattle.std.proofs.lemmas.List.{nil_from_length}
use Rattle.std.proofs.lemmas.List.Elements.{All-nil}
use Rattle.std.proofs.lemmas.Result.{err_from_is_err_and}
use Rattle.acceptor_log_form.specs.Text.{Fits, blocks}
use Rattle.acceptor_log_reading.proofs.ReadBlocks.{records_behind-cut, records_behind-no_gate, stands_behind}
use Rattle.acceptor_log_translating.proofs.FoundNext.{nothing_read}
use Rattle.acceptor_log_translating.proofs.finding.find.Goals as goal

pub loop-behind-init : goal.loop-behind-init
loop-behind-init c = record {
  found = (
    [],
    refl,
    All-nil Fits,
    record {
      sound = λ is. nothing_read c.args.header.now.nodes c.args.header.now.node c.args.bytes.now c.new.result.items c.new.ensures.items;
      broken = λ is. absurd cc;
    },
  );
  short = omega arith;
}

pub note_first-requires-clause-within : goal.note_first-requires-clause-within
note_first-requires-clause-within c = omega (arith, c.loop-behind.invariant.short, ap length c.in-Some.ensures.opened)

pub returns-in_err-rest-clause-refused : goal.returns-in_err-rest-clause-refused
returns-in_err-rest-clause-refused c =
    let p = err_from_is_err_and c.from_residual.result c.from_residual.ensures.1 in
    let i = c.loop-behind.invariant.found in
    rw (p.1, p.2) (λ memory.
    let refused = c.in_err-rest.ensures.refused memory in
    (refused.0, records_behind-cut c.args.bytes.now c.loop-behind.rest.now c.in-Some.behind.now i.0 i.1 i.2 c.in-Some.ensures.opened refused.1))

pub loop-behind-preserved : goal.loop-behind-preserved
loop-behind-preserved c =
    let i = c.loop-behind.invariant in
    let f = i.found in
    let opened = c.in-Some.ensures.opened in
    let bytes = c.args.bytes.now in
    record {
      found = c.in_ok-rest.ensures.noted f.0 (subst (λ (l : List ℕ). bytes ≡ blocks f.0 ++ l) opened f.1) f.2 f.3;
      short = omega (arith, i.short, ap length opened, c.in_ok-rest.ensures.shorter);
    }

pub returns-then-is_empty-clause-refused : goal.returns-then-is_empty-clause-refused
returns-then-is_empty-clause-refused c memory =
    let i = c.loop-behind.invariant.found in
    let nothing : c.loop-behind.rest.now ≡ [] = nil_from_length _ (eqb-true (length c.loop-behind.rest.now) 0 (sym c.is_empty.ensures ∙ c.if-is_empty.true)) in
    (refl, records_behind-no_gate c.args.bytes.now c.loop-behind.rest.now i.0 i.1 i.2 nothing)

pub returns-clause-found : goal.returns-clause-found
returns-clause-found c =
    let i = c.loop-behind.invariant.found in (
      i.0,
      stands_behind c.args.bytes.now c.loop-behind.rest.now i.0 i.1 i.2 c.in_default.ensures.closed
          (λ nothing. eqb-false (length c.loop-behind.rest.now) 0 (sym c.is_empty.ensures ∙ c.if-is_empty.false) (ap length nothing)),
      i.3,
    )
