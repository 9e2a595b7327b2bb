-- Lists whose keys are distinct, of the crate below.
pub use Rattle.locations.proofs.Distinct.{all_append, all_parts, each_both, both_each, none_same, same_none, key_before, keys_of, IsNewKey, each_distinct, distinct_each}
