-- Why the loop of `read` over `at` keeps the invariant.
use Rattle.std.proofs.Common.{List, ◌++◌, ◌∷◌, [], ◌+◌, sym, subst, drop}
use Rattle.c_syntax.specs.declared.token.Token.{Token}
use Rattle.c_lexer.specs.Texts.{ReadsTo}
use Rattle.c_lexer.proofs.Lexed.{none_left}
use Rattle.c_lexer.proofs.Sequences.{found_len, read_token, read_gap}
use Rattle.c_lexer.proofs.lexer.read.Goals as goal

pub loop-at-preserved-in_ok-push : goal.loop-at-preserved-in_ok-push
loop-at-preserved-in_ok-push c =
    let text = c.args.text.now in
    let inv = c.loop-at.invariant in
    let at = c.loop-at.at in
    let end = c.loop-at.at + c.in_ok-found.found.len in
    let next = read_token text c.loop-at.tokens.items at c.in_ok-found.found inv.reads c.in_ok-found.ensures c.in-Some.kind c.in-Some.is in
    record {
      in_range = found_len text c.loop-at.tokens.items at c.in_ok-found.found inv.reads c.in_ok-found.ensures inv.in_range;
      reads = subst (λ (l : List Token). ReadsTo text l end (drop end text)) (sym c.in_ok-push.ensures.items)
          (subst (λ k. ReadsTo text (c.loop-at.tokens.items ++ record { kind = k; start = at; end = end } ∷ []) end (drop end text)) (sym c.in-Some.kind-is) next);
    }

pub loop-at-preserved : goal.loop-at-preserved
loop-at-preserved c =
    let text = c.args.text.now in
    let inv = c.loop-at.invariant in
    record {
      in_range = found_len text c.loop-at.tokens.items c.loop-at.at c.in_ok-found.found inv.reads c.in_ok-found.ensures inv.in_range;
      reads = read_gap text c.loop-at.tokens.items c.loop-at.at c.in_ok-found.found inv.reads c.in_ok-found.ensures (none_left c.in_ok-found.found.kind c.in_default.not-Some);
    }
