-- Why `find_saved` meets its contract.
use Rattle.std.proofs.Common.{[], ◌∷◌, ◌++◌, ap, ◌∙◌}
use Rattle.std.specs.List.{filter}
use Rattle.native_lowering_definition.specs.Frames.{writes}
use Rattle.native_lowering_frames.proofs.Saved.{four}
use Rattle.native_lowering_frames.proofs.frame.find_saved.Goals as goal

pub returns : goal.returns
returns c =
    let p = writes c.args.function.now in
    c.from_vec.ensures
    ∙ four p 4 5 6 7 c.save.new.saved.items c.save-2.new.saved.items c.save-3.new.saved.items c.save-4.new.saved.items
    (c.in_ok-save.ensures ∙ ap (λ xs. xs ++ filter p (4 ∷ [])) c.new-saved.ensures.items) c.in_ok-save-2.ensures c.in_ok-save-3.ensures c.in_ok-save-4.ensures
