-- Why `turn` meets its clauses `asked`, `served`, `stopped`, `others` and 3 more.
use Rattle.std.proofs.Common.{◌≡◌, length, Option, None, Ok, Err, refl, sym, ap, ◌∙◌, subst, arith}
use Rattle.std.proofs.Math.Nat.{ℕ_set}
use Rattle.std.specs.Arc.{arc_value}
use Rattle.farm_nodes_turn_function.specs.Numbers.{pass_of}
use Rattle.farm_nodes_turn_node.specs.declared.halted.Halted.{Halted}
use Rattle.farm_nodes_turn_function.specs.Fours.{four_of, fours_of}
use Rattle.farm_nodes_turn_node.specs.Told.{failure_of}
use Rattle.farm_nodes_turn_function.specs.Fault.{Fault}
use Rattle.farm_nodes_turn_function.specs.Halted.{HasHaltCause}
use Rattle.farm_nodes_turn_function.specs.Texts.{pass_texts}
use Rattle.farm_nodes_turn_function.specs.Turned.{IsTooLargeFor}
use Rattle.farm_nodes_turn_node.specs.Held.{fault_in, pending_in, IsSoundNode}
use Rattle.farm_nodes_turn_node.specs.Stood.{TurnsInto}
use Rattle.farm_nodes_turn_node.specs.Waiting.{IsWaiting}
use Rattle.farm_nodes_turn_node.proofs.Whole.{into, no_cause, none_of, not_none, sound_now, stops_for, told_now, went_on}
use Rattle.farm_nodes_turn_node.proofs.farm_node.FarmNode.turn.Goals as goal

pub returns-in-Ok-clause-asked : goal.returns-in-Ok-clause-asked
returns-in-Ok-clause-asked g c =
    let disk = g.D.Disk in
    let none : c.args.self.now.halted ≡ None = none_of c.args.self.now.halted (sym c.is_some.ensures ∙ c.if-is_some.false) in (
      subst (λ (h : Option Halted). IsSoundNode disk c.turn_in.new.log (fours_of c.turn_in.new.seats.items) h) (sym none)
          (sound_now pass_texts disk four_of c.args.self.now.log c.turn_in.new.log c.args.room
          c.args.self.now.seats.items c.turn_in.new.seats.items c.args.self.now.halted c.turn_in.ensures.served c.requires.asked.0 c.requires.room none
          c.turn_in.ensures.count c.turn_in.ensures.others (λ x y p q. (c.turn_in.ensures.leaves x y p q).others)
          (λ x y p q. (c.turn_in.ensures.leaves x y p q).stays)
          (Ok c.in-Ok.progress) c.in-Ok.ensures.journal c.in-Ok.ensures.going),
      subst (λ (h : Option Halted). IsWaiting c.turn_in.new.seats.items h) (sym none) tt,
    )

pub returns-in-Err-clause-asked : goal.returns-in-Err-clause-asked
returns-in-Err-clause-asked g c =
    let disk = g.D.Disk in
    let none : c.args.self.now.halted ≡ None = none_of c.args.self.now.halted (sym c.is_some.ensures ∙ c.if-is_some.false) in (
      sound_now pass_texts disk four_of c.args.self.now.log c.turn_in.new.log c.args.room
          c.args.self.now.seats.items c.turn_in.new.seats.items c.args.self.now.halted c.turn_in.ensures.served c.requires.asked.0 c.requires.room none
          c.turn_in.ensures.count c.turn_in.ensures.others (λ x y p q. (c.turn_in.ensures.leaves x y p q).others)
          (λ x y p q. (c.turn_in.ensures.leaves x y p q).stays)
          (Err c.in-Err.halt) c.in-Err.ensures.journal tt,
      c.in-Err.ensures.left,
    )

pub returns-then-is_some-clause-asked : goal.returns-then-is_some-clause-asked
returns-then-is_some-clause-asked g c = c.requires.asked

pub returns-in-Ok-clause-served : goal.returns-in-Ok-clause-served
returns-in-Ok-clause-served g c = c.turn_in.ensures.served

pub returns-in-Err-clause-served : goal.returns-in-Err-clause-served
returns-in-Err-clause-served g c = c.turn_in.ensures.served

pub returns-then-is_some-clause-served : goal.returns-then-is_some-clause-served
returns-then-is_some-clause-served g c = record { sound = c.requires.asked.0.journal; honest = (λ h. h, λ h. h); header = refl; later = omega arith }

pub returns-in-Ok-clause-stopped : goal.returns-in-Ok-clause-stopped
returns-in-Ok-clause-stopped g c halted =
    let none : c.args.self.now.halted ≡ None = none_of c.args.self.now.halted (sym c.is_some.ensures ∙ c.if-is_some.false) in
    absurd (halted none)

pub returns-in-Err-clause-stopped : goal.returns-in-Err-clause-stopped
returns-in-Err-clause-stopped g c halted =
    let none : c.args.self.now.halted ≡ None = none_of c.args.self.now.halted (sym c.is_some.ensures ∙ c.if-is_some.false) in
    absurd (halted none)

pub returns-then-is_some-clause-stopped : goal.returns-then-is_some-clause-stopped
returns-then-is_some-clause-stopped g c halted =
    let now = c.args.self.now in (
      refl,
      ap (λ (h : length now.seats.items ≡ length (arc_value now.program).functions). record now { covers = h })
          (ℕ_set _ _ c.self-1.given.0 now.covers),
    )

pub returns-in-Ok-clause-others : goal.returns-in-Ok-clause-others
returns-in-Ok-clause-others g c = record { seats = c.turn_in.ensures.others; program = refl }

pub returns-in-Err-clause-others : goal.returns-in-Err-clause-others
returns-in-Err-clause-others g c = record { seats = c.turn_in.ensures.others; program = refl }

pub returns-then-is_some-clause-others : goal.returns-then-is_some-clause-others
returns-then-is_some-clause-others g c = record { seats = λ f other. refl; program = refl }

pub returns-in-Ok-clause-leaves : goal.returns-in-Ok-clause-leaves
returns-in-Ok-clause-leaves g c = record {
  function = λ was named is x y p q.
      let made = c.turn_in.ensures.leaves x y p q in
      rw (c.function_in.ensures named (rw c.deref.ensures is)) at made;
  after = λ was. c.in-Ok.ensures.after;
  draws = λ was. c.turn_in.ensures.draws;
}

pub returns-in-Err-clause-leaves : goal.returns-in-Err-clause-leaves
returns-in-Err-clause-leaves g c = record {
  function = λ was named is x y p q.
      let made = c.turn_in.ensures.leaves x y p q in
      rw (c.function_in.ensures named (rw c.deref.ensures is)) at made;
  after = λ e. absurd (cc);
  draws = λ was. c.turn_in.ensures.draws;
}

pub returns-then-is_some-clause-leaves : goal.returns-then-is_some-clause-leaves
returns-then-is_some-clause-leaves g c = record {
  function = λ was. absurd (not_none c.args.self.now.halted (sym c.is_some.ensures ∙ c.if-is_some.true) was);
  after = λ was. absurd (not_none c.args.self.now.halted (sym c.is_some.ensures ∙ c.if-is_some.true) was);
  draws = λ was. absurd (not_none c.args.self.now.halted (sym c.is_some.ensures ∙ c.if-is_some.true) was);
}

pub returns-in-Ok-clause-tells : goal.returns-in-Ok-clause-tells
returns-in-Ok-clause-tells g c =
    let disk = g.D.Disk in
    let none : c.args.self.now.halted ≡ None = none_of c.args.self.now.halted (sym c.is_some.ensures ∙ c.if-is_some.false) in
    record {
      fault = λ was. ap failure_of c.of.ensures ∙ (went_on c.in-Ok.progress ∙ sym (ap fault_in was));
      cause = λ was named is x y p q.
          no_cause (failure_of c.of.result)
          (λ (fault : Fault). HasHaltCause disk
          (IsTooLargeFor named.function (pass_of c.args.room) (four_of x))
          c.args.self.now.log c.turn_in.new.log (pending_in (fours_of c.turn_in.new.seats.items) c.args.self.now.halted) fault)
          (ap failure_of c.of.ensures ∙ went_on c.in-Ok.progress);
      value = λ honest was x y p q.
          c.of.ensures
          ∙ told_now pass_texts disk four_of c.args.self.now.log c.turn_in.new.log c.args.room
          c.args.self.now.seats.items c.turn_in.new.seats.items c.args.self.now.halted c.turn_in.ensures.served c.requires.asked.0 c.requires.room none
          c.turn_in.ensures.count c.turn_in.ensures.others (λ x y p q. (c.turn_in.ensures.leaves x y p q).others)
          (λ x y p q. (c.turn_in.ensures.leaves x y p q).stays)
          c.in-Ok.progress c.in-Ok.ensures.journal honest x y p q;
    }

pub returns-in-Err-clause-tells : goal.returns-in-Err-clause-tells
returns-in-Err-clause-tells g c =
    let disk = g.D.Disk in
    let none : c.args.self.now.halted ≡ None = none_of c.args.self.now.halted (sym c.is_some.ensures ∙ c.if-is_some.false) in
    record {
      fault = λ was. refl;
      cause = λ was named is x y p q.
          let cause = c.in-Err.ensures.cause (c.requires.asked.0.going none) x y p q in
          stops_for disk four_of
          (IsTooLargeFor named.function (pass_of c.args.room) (four_of x))
          c.args.self.now.log c.turn_in.new.log c.args.room c.turn_in.new.seats.items c.in-Err.halt y q
          (rw (c.function_in.ensures named (rw c.deref.ensures is)) at cause);
      value = λ honest e. absurd (cc);
    }

pub returns-then-is_some-clause-tells : goal.returns-then-is_some-clause-tells
returns-then-is_some-clause-tells g c = record {
  fault = λ was. absurd (not_none c.args.self.now.halted (sym c.is_some.ensures ∙ c.if-is_some.true) was);
  cause = λ was. absurd (not_none c.args.self.now.halted (sym c.is_some.ensures ∙ c.if-is_some.true) was);
  value = λ honest was. absurd (not_none c.args.self.now.halted (sym c.is_some.ensures ∙ c.if-is_some.true) was);
}

pub returns-in-Ok-clause-into : goal.returns-in-Ok-clause-into
returns-in-Ok-clause-into g c honest was =
    let disk = g.D.Disk in
    let none : c.args.self.now.halted ≡ None = none_of c.args.self.now.halted (sym c.is_some.ensures ∙ c.if-is_some.false) in
    subst (λ (h : Option Halted). TurnsInto disk c.args.self.now.log c.turn_in.new.log (fours_of c.turn_in.new.seats.items) h) (sym none)
    (into pass_texts disk four_of c.args.self.now.log c.turn_in.new.log c.args.room
    c.args.self.now.seats.items c.turn_in.new.seats.items c.args.self.now.halted c.turn_in.ensures.served c.requires.asked.0 c.requires.room none
    c.turn_in.ensures.count c.turn_in.ensures.others (λ x y p q. (c.turn_in.ensures.leaves x y p q).others)
    (λ x y p q. (c.turn_in.ensures.leaves x y p q).stays)
    (Ok c.in-Ok.progress) c.in-Ok.ensures.journal honest)

pub returns-in-Err-clause-into : goal.returns-in-Err-clause-into
returns-in-Err-clause-into g c honest was =
    let disk = g.D.Disk in
    let none : c.args.self.now.halted ≡ None = none_of c.args.self.now.halted (sym c.is_some.ensures ∙ c.if-is_some.false) in
    into pass_texts disk four_of c.args.self.now.log c.turn_in.new.log c.args.room
    c.args.self.now.seats.items c.turn_in.new.seats.items c.args.self.now.halted c.turn_in.ensures.served c.requires.asked.0 c.requires.room none
    c.turn_in.ensures.count c.turn_in.ensures.others (λ x y p q. (c.turn_in.ensures.leaves x y p q).others)
    (λ x y p q. (c.turn_in.ensures.leaves x y p q).stays)
    (Err c.in-Err.halt) c.in-Err.ensures.journal honest

pub returns-then-is_some-clause-into : goal.returns-then-is_some-clause-into
returns-then-is_some-clause-into g c honest was = absurd (not_none c.args.self.now.halted (sym c.is_some.ensures ∙ c.if-is_some.true) was)
