-- Beginnings of a text that are printed.
use Rattle.std.proofs.Common.{ℕ, List, Option}
use Rattle.std.specs.Io.KnownBytes.{Appends, Keeps}
use Rattle.std.proofs.KnownBytes.{Appends-kept}
use Rattle.lang_base.proofs.Beginnings.{IsBeginningOf-refl}
use Rattle.cfarm_output.specs.Begun.{IsBegun}

pub begun_by : (text : List ℕ) (before after : Option (List ℕ)) → Appends before after text → IsBegun text before after
begun_by text before after more = (text, IsBeginningOf-refl text, more)

pub begun_kept : (text : List ℕ) (before mid after : Option (List ℕ)) → Appends before mid text → Keeps mid after → IsBegun text before after
begun_kept text before mid after more kept = begun_by text before after (Appends-kept before mid after text more kept)
