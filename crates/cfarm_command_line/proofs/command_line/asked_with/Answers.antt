-- Why `asked_with` meets its clauses `asks`, `none`, `right` and `refused`.
use Rattle.std.specs.Prelude.{List, map, string_bytes}
use Rattle.std.proofs.Common.{ap, subst, sym, ◌∙◌}
use Rattle.std.proofs.lemmas.Option.{IfSome_then}
use Rattle.std.proofs.lemmas.Result.{err_from_is_err_and}
use Rattle.clap.specs.Words.{App, HasKind, Text, fault_of, is_simple, is_simple_and_free, subcommand_of, takes}
use Rattle.cfarm_command_line_tasks.specs.Words.{AsksNothingBy, IsAskedBy}
use Rattle.cfarm_command_line.proofs.Bounds.{free, simple}
use Rattle.cfarm_command_line.proofs.command_line.asked_with.Goals as goal

pub returns-clause-asks : goal.returns-clause-asks
returns-clause-asks c =
    let words : List Text = map string_bytes c.args.words.now in
    let farm = c.in_ok-command.ensures.0 in
    let found = (c.in_ok-matches.ensures.matches (ap is_simple farm ∙ simple c.args.bounds c.args.choices)).1 in
    IfSome_then c.asked_of.result c.asked_of.ensures.some (λ a h. subst (λ o. IsAskedBy o a.task a.path.now) (found ∙ ap (λ (x : App). subcommand_of x words) farm) h)

pub returns-clause-none : goal.returns-clause-none
returns-clause-none c =
    let words : List Text = map string_bytes c.args.words.now in
    let farm = c.in_ok-command.ensures.0 in
    let found = (c.in_ok-matches.ensures.matches (ap is_simple farm ∙ simple c.args.bounds c.args.choices)).1 in
    λ none. subst AsksNothingBy (found ∙ ap (λ (x : App). subcommand_of x words) farm) (c.asked_of.ensures.none none)

pub returns-clause-right : goal.returns-clause-right
returns-clause-right c =
    let words : List Text = map string_bytes c.args.words.now in
    let farm = c.in_ok-command.ensures.0 in
    ap (λ (x : App). fault_of x words) (sym farm) ∙ c.in_ok-matches.ensures.kinds (ap is_simple_and_free farm ∙ free c.args.bounds c.args.choices)

pub returns-in_err-matches-clause-right : goal.returns-in_err-matches-clause-right
returns-in_err-matches-clause-right c =
    let words : List Text = map string_bytes c.args.words.now in
    let farm = c.in_ok-command.ensures.0 in
    let p = err_from_is_err_and c.from_residual-in_err-matches.result c.from_residual-in_err-matches.ensures.1 in
    rw (p.1, p.2) (subst (λ k. HasKind k c.in_err-matches.field-0.0) (ap (λ (x : App). fault_of x words) farm) (c.in_err-matches.ensures.kinds (ap is_simple_and_free farm ∙ free c.args.bounds c.args.choices)))

pub returns-in_err-matches-clause-refused : goal.returns-in_err-matches-clause-refused
returns-in_err-matches-clause-refused c =
    let words : List Text = map string_bytes c.args.words.now in
    let p = err_from_is_err_and c.from_residual-in_err-matches.result c.from_residual-in_err-matches.ensures.1 in
    rw (p.1, p.2) (λ taken. c.in_err-matches.ensures.passes (ap (λ (x : App). takes x words) c.in_ok-command.ensures.0 ∙ taken))
