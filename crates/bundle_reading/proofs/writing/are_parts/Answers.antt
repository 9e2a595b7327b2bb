-- Why `are_parts` meets its clauses `form` and `short`.
use Rattle.bundle_reading.proofs.Blocks.{all_short, each_byte}
use Rattle.bundle_reading.proofs.writing.are_parts.Goals as goal

pub returns-clause-form : goal.returns-clause-form
returns-clause-form c = record {
  digest = c.requires.digest;
  bytes = each_byte c.args.digest.now (λ i. c.are_bytes.ensures i);
  few = c.requires.few;
  functions = c.requires.blocks;
}

pub returns-clause-short : goal.returns-clause-short
returns-clause-short c = record { few = c.requires.few; functions = all_short c.args.functions.now c.requires.blocks }
