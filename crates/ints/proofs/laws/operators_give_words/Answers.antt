-- Why `operators_give_words` meets its contract.
use Rattle.ints.proofs.Bounds.{gives_words}
use Rattle.ints.proofs.laws.operators_give_words.Goals as goal

pub returns : goal.returns
returns c = gives_words
