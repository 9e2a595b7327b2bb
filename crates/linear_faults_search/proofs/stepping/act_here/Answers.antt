-- Why `act_here` meets its clause `stays`.
use Rattle.std.proofs.Common.{◌≡◌, map, length, ap, ◌∙◌}
use Rattle.std.proofs.lemmas.List.{with_items_is}
use Rattle.std.specs.Vec.{with_items}
use Rattle.linear_faults_run.specs.Standing.{frame_of}
use Rattle.linear_faults_search.proofs.stepping.act_here.Goals as goal

pub returns-in-Failed-clause-stays : goal.returns-in-Failed-clause-stays
returns-in-Failed-clause-stays c = λ output.
    let r = c.args.run.now in
    let e = c.in-Failed.ensures in
    let registers : (with_items r.words.registers c.do_act.new.registers).items ≡ r.words.registers.items =
    with_items_is r.words.registers c.do_act.new.registers (ap length e.registers ∙ c.deref_mut.ensures.len) ∙ e.registers ∙ c.deref_mut.ensures.value in
    let globals : (with_items r.globals c.do_act.new.globals).items ≡ r.globals.items =
    with_items_is r.globals c.do_act.new.globals (ap length e.globals ∙ c.deref_mut-2.ensures.len) ∙ e.globals ∙ c.deref_mut-2.ensures.value in
    λ i. record {
      function = r.function;
      place = r.place;
      here = record { registers = registers i; slots = r.words.slots.items; globals = globals i; output = output };
      callers = map frame_of r.callers;
    }
