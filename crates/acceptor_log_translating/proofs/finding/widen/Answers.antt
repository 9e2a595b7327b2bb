-- Why `widen` meets its contract, and its loop over `rooms` keeps the invariant.
use Rattle.std.proofs.Common.{◌∷◌, [], inl, inr, length, sym, ap, ◌∙◌, arith}
use Rattle.std.specs.Prelude.{slice_get}
use Rattle.std.proofs.lemmas.List.{length-append}
use Rattle.acceptor_log_old.proofs.InOrder.{pushed_get}
use Rattle.acceptor_log_translating.proofs.finding.widen.Goals as goal

pub loop-rooms-init : goal.loop-rooms-init
loop-rooms-init c = record { no_less = omega arith; no_more = inl (omega arith); each = λ m x got. inl got }

pub loop-rooms-preserved : goal.loop-rooms-preserved
loop-rooms-preserved c =
    let i = c.loop-rooms.invariant in
    let was = c.loop-rooms.rooms.items in
    let now = c.in_ok-push.ensures.items in
    record {
      no_less = omega (arith, i.no_less, ap length now, length-append was (c.new_room.result ∷ []));
      no_more = inr (omega (arith, c.loop-rooms.rooms.ok.0, ap length now, length-append was (c.new_room.result ∷ [])));
      each = λ m x got. elim (pushed_get was c.new_room.result x m (ap (λ l. slice_get l m) (sym now) ∙ got)) [
        | inl earlier ↦ i.each m x earlier
        | inr last ↦ inr (omega (arith, i.no_less, last.0), sym last.1 ∙ c.new_room.ensures)
      ];
    }

pub returns : goal.returns
returns c =
    let i = c.loop-rooms.invariant in
    record { there = omega (arith, c.loop-rooms.rooms.ok.0); no_less = i.no_less; no_more = i.no_more; each = i.each }
