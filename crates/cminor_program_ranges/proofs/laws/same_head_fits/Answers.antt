-- What is known of the program, of its globals' words and of the functions, put together.
use Rattle.std.proofs.Common.{◌<◌, ◌^◌, All, sym, subst}
use Rattle.std.specs.List.{AllByRecursion}
use Rattle.cminor_lowering.specs.Programs.{low}
use Rattle.cminor_program_ranges.specs.Heads.{HasHeadOf}
use Rattle.cminor_program_ranges.specs.Names.{HaveNames}
use Rattle.cminor_program_ranges.proofs.Heads.{head_fits}
use Rattle.cminor_program_ranges.proofs.Rows.{by_recursion}
use Rattle.cminor_program_ranges.proofs.laws.same_head_fits.Goals as goal

pub returns : goal.returns
returns g c head names =
    let k = c.known.ensures in
    let made = c.args.made.now in
    let words = subst (λ xs. All (λ x. AllByRecursion (λ w. w < 2 ^ 32) x.first_words) xs) c.globals.ensures c.globals_words.ensures in
    let each_word = by_recursion _ c.args.program.now.globals words in
    let fits = subst (λ xs. All (λ f. g.L.Language.fits f.function) xs) c.as_slice.ensures c.all_known.ensures in
    head_fits g.L.Language.fits k.0 k.2 (subst HaveNames k.3 names) (subst (λ q. AllByRecursion (λ x. AllByRecursion (λ w. w < 2 ^ 32) x.first_words) q.globals) k.3 each_word)
    made (subst (λ q. HasHeadOf (low q) made) k.3 head) (by_recursion _ made.functions fits)
