-- What is found of each function, at its number.
use Rattle.std.proofs.Common.{◌≡◌, ◌<◌, length, drop, map, subst, sym, arith}
use Rattle.bundle_reading.specs.Read as read
use Rattle.bundle_reading.proofs.Readings.{all_found}
use Rattle.bundle_reading.proofs.Places.{got, written}
use Rattle.bundle_offers.specs.Found.{IsToldAlone}
use Rattle.bundle_offers.proofs.Standings.{all_alone}
use Rattle.bundle_offers.proofs.reading.found_all.Goals as goal

pub gathered-requires : goal.gathered-requires
gathered-requires g c =
    let functions = c.args.functions.now in
    let places = c.in-Ok.found in
    let before = c.deref_mut.result.now in
    let after = c.found_each.new.found in
    let whole : length after ≡ places.len = omega (arith, c.found_each.auto.found, c.deref_mut.ensures.len) in
    let many : length after ≡ length functions = omega (arith, whole, c.in-Ok.ensures.many, places.ok.0) in
    let found = all_found functions after many
    (λ i one e.
    let it = got after i one one e in
    let below : i < length before = omega (arith, it.0, c.found_each.auto.found) in
    subst (λ r. read.IsFoundAt functions i (read.four_in r)) it.1 (c.found_each.ensures i one below).0) in
    subst (λ l. read.AreFound functions (map read.four_in l)) (sym (written after (drop (length after) places.items) places.len whole)) found

pub returns-in-Ok-gathered-clause-alone : goal.returns-in-Ok-gathered-clause-alone
returns-in-Ok-gathered-clause-alone g c =
    let places = c.in-Ok.found in
    let before = c.deref_mut.result.now in
    let after = c.found_each.new.found in
    let all = c.in-Ok-gathered.all in
    let whole : length after ≡ places.len = omega (arith, c.found_each.auto.found, c.deref_mut.ensures.len) in
    let are = subst (λ l. read.AreGathered l all.0.items all.1.items) (written after (drop (length after) places.items) places.len whole) c.in-Ok-gathered.ensures.told in
    all_alone after all.0.items all.1.items
    (λ i one e.
    let it = got after i one one e in
    let below : i < length before = omega (arith, it.0, c.found_each.auto.found) in
    subst IsToldAlone it.1 (c.found_each.ensures i one below).1) are
