-- Why `pair_at` meets its contract.
use Rattle.std.proofs.Common.{◌<◌, ◌≤◌, length, sym, arith}
use Rattle.std.proofs.lemmas.Option.{slice_get_past, slice_get-get_or}
use Rattle.alloc_check_fill.proofs.Pairs.{pair_got, no_name, no_location}
use Rattle.alloc_check_fill.proofs.uses.pair_at.Goals as goal

pub returns : goal.returns
returns c =
    let names = c.args.names.now in
    let locations = c.args.locations.now in
    let k = c.args.k in
    let name : k < length names = omega (arith, c.if-k-names.false) in
    let location : k < length locations = omega (arith, c.if-k-locations.false) in
    sym (pair_got names locations k _ _ (slice_get-get_or names k _ name) (slice_get-get_or locations k _ location))

pub returns-then-k-names : goal.returns-then-k-names
returns-then-k-names c =
    let past : length c.args.names.now ≤ c.args.k = omega (arith, c.if-k-names.true) in
    sym (no_name c.args.names.now c.args.locations.now c.args.k (slice_get_past c.args.names.now c.args.k past))

pub returns-then-k-locations : goal.returns-then-k-locations
returns-then-k-locations c =
    let past : length c.args.locations.now ≤ c.args.k = omega (arith, c.if-k-locations.true) in
    sym (no_location c.args.names.now c.args.locations.now c.args.k (slice_get_past c.args.locations.now c.args.k past))
