-- Why `push_each_word` meets its contract.
use Rattle.std.proofs.Common.{subst}
use Rattle.lang_base.specs.Texts.{Appends}
use Rattle.text_keys.proofs.Lines.{spaced_map}
use Rattle.text_keys.proofs.writing.push_each_word.Goals as goal

pub returns : goal.returns
returns g c = subst (λ t. Appends c.push_each_spaced.result t c.args.out.now.items c.push_each_spaced.new.out.items) (spaced_map g.S.SpacedWord.word c.args.items.now) c.push_each_spaced.ensures
