-- One character more is written.
use Rattle.std.proofs.Common.{◌≡◌, ℕ, List, [], ◌++◌, sym, ap, ◌∙◌, refl, rules, append_assoc, append-nil}
use Rattle.std.proofs.Output.{has_written_append, has_written_of_eq}
use Rattle.std.proofs.lemmas.List.{nil_from_length}
use Rattle.std.proofs.lemmas.Str.{IsUtf8-past_char}
use Rattle.cfarm_shown_paths.specs.Shown.{shown_char, shown_path}
use Rattle.cfarm_shown_paths.proofs.Characters.{shown_end, shown_next}
use Rattle.cfarm_shown_paths.proofs.shown.ShownPathDisplay.fmt.Goals as goal

pub loop-c-init : goal.loop-c-init
loop-c-init g c = (search rules, λ plain. ([], search rules, search rules))

pub loop-c-preserved : goal.loop-c-preserved
loop-c-preserved g c =
    let held = c.loop-c.invariant in
    let ch = c.in-Some.c in
    let parts = c.in-Some.ensures.steps.0 in (
      IsUtf8-past_char _ _ ch held.0 parts,
      λ plain.
          let so_far = held.1 plain in (
            so_far.0 ++ shown_char ch,
            has_written_append _ _ _ _ _ _ so_far.1 (search rules),
            append_assoc so_far.0 (shown_char ch) _ ∙ ap (λ (l : List ℕ). so_far.0 ++ l) (sym (shown_next _ _ ch held.0 parts)) ∙ so_far.2,
          ),
    )

pub returns-clause-writes : goal.returns-clause-writes
returns-clause-writes g c = λ plain _.
    let so_far = c.loop-c.invariant.1 plain in
    let none = nil_from_length _ c.in-None.ensures.steps.0.0 in
    has_written_of_eq _ _ _ _ _ (sym (append-nil so_far.0) ∙ ap (λ (l : List ℕ). so_far.0 ++ l) (sym (shown_end _ none)) ∙ so_far.2) so_far.1
