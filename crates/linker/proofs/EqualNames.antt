-- Lists of equal names have equal names at each place.
use Rattle.std.proofs.Common.{◌≡◌, ℕ, ◌<◌, List, [], length, get_or, sym, ap, ◌∙◌}
use Rattle.std.proofs.lemmas.List.{get_or-map}
use Rattle.lang_base.specs.declared.program.Named as code
use Rattle.linker.specs.declared.chain.Named.{Named}
use Rattle.linker.specs.Chains.{names_beside, names_of}

pub same_name_at : {F O1 O2 O3 O4 : Type 0} (functions : List (code.Named F)) (named : List (Named O1 O2 O3 O4)) (i : ℕ) (f : code.Named F) (n : Named O1 O2 O3 O4)
    → i < length functions → i < length named → names_beside named ≡ names_of functions → (get_or functions i f).name ≡ (get_or named i n).name.now
same_name_at functions named i f n in_functions in_named e =
    sym (get_or-map (λ g. g.name) functions i f [] in_functions)
    ∙ ap (λ names. get_or names i []) (sym e)
    ∙ get_or-map (λ g. g.name.now) named i n [] in_named
