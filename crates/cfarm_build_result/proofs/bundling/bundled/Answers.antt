-- The texts of all functions' offers, and the bundle of them.
use Rattle.std.proofs.Common.{arith}
use Rattle.std.proofs.lemmas.List.{length-map}
use Rattle.farm_nodes_link.specs.Learned.{learned_by, learned_four}
use Rattle.cfarm_build_result.proofs.Learned.{all_blocks, as_many, is_bundle, links_learned}
use Rattle.cfarm_build_result.proofs.bundling.bundled.Goals as goal

pub written-requires-clause-few : goal.written-requires-clause-few
written-requires-clause-few g c =
    let many = as_many (learned_by c.args.seats.now) c.in_ok-texts.texts.items c.in_ok-texts.ensures in
    omega (arith, many, length-map c.args.seats.now learned_four, c.requires.few)

pub written-requires-clause-blocks : goal.written-requires-clause-blocks
written-requires-clause-blocks g c = all_blocks (learned_by c.args.seats.now) c.in_ok-texts.texts.items c.in_ok-texts.ensures

pub returns-in-Ok-clause-bundle : goal.returns-in-Ok-clause-bundle
returns-in-Ok-clause-bundle g c =
    is_bundle c.in-Ok.bytes.items c.args.digest.now (learned_by c.args.seats.now) c.in_ok-texts.texts.items c.in_ok-texts.ensures c.in-Ok.ensures.form c.in-Ok.ensures.text

pub returns-in-Ok-clause-links : goal.returns-in-Ok-clause-links
returns-in-Ok-clause-links g c =
    links_learned c.in-Ok.bytes.items c.args.digest.now (learned_by c.args.seats.now) c.in_ok-texts.texts.items c.in_ok-texts.ensures c.in-Ok.ensures.form c.in-Ok.ensures.text
