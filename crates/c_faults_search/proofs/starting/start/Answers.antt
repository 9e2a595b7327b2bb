-- Why `start` meets its contract: main's body is all that is left.
use Rattle.std.proofs.Common.{◌++◌, ◌∷◌, None, map, ap, ◌∙◌}
use Rattle.std.specs.Prelude.{replicate}
use Rattle.c_program.specs.Views.{function_tree}
use Rattle.c_program.specs.Meaning.{cells_of}
use Rattle.c_faults.specs.Places.{others, own}
use Rattle.c_faults_step.specs.declared.item.Item.TheVariants.{Do}
use Rattle.c_faults_step.specs.Piles.{pending}
use Rattle.c_faults_step.proofs.Going.{main_goes_on}
use Rattle.c_faults_search.proofs.starting.start.Goals as goal

pub returns : goal.returns
returns c =
    main_goes_on c.args.places.now (map function_tree c.args.functions.now) (pending c.push.new.self) c.args.bound c.args.number c.own.result c.args.main.now
    c.as_slice.result c.others.result c.push_blank.new.locals.items (map cells_of c.args.globals.now) c.in_ok-cells.cells.items
    (c.own.ensures ∙ ap own c.places_in-own_places.ensures)
    (c.others.ensures ∙ ap others c.places_in-own_places.ensures)
    c.as_slice.ensures
    (c.in_ok-push.ensures ∙ ap (λ l. Do c.args.bound c.as_slice.result c.others.result ∷ l) c.new-items.ensures)
    (c.in_ok-push_blank.ensures ∙ ap (λ l. l ++ replicate c.saturating_sub.result None) c.new-locals.ensures.items ∙ ap (λ k. replicate k None) c.saturating_sub.ensures)
    c.in_ok-cells.ensures
