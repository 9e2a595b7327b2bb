-- The four passes, one behind the other.
use Rattle.std.proofs.lemmas.List.Elements.{recursion_from_All}
use Rattle.bundle_reading.specs.Read.{offers_in, offers_of}
use Rattle.cfarm_verify_comparing.specs.Ranges.{AreInRange}
use Rattle.cfarm_verify_comparing.proofs.Between.{as_offers, keeps_by}
use Rattle.cfarm_verify_comparing.proofs.keeping.linked_keeps.Goals as goal

pub returns : goal.returns
returns c =
    let fours = c.args.fours.now in
    keeps_by c.args.begun.now (offers_in fours) c.requires
    (as_offers fours (recursion_from_All (λ four. AreInRange (offers_of four)) fours c.all_in_range.ensures))
    c.keeps_all.ensures c.keeps_all-2.ensures c.keeps_all-3.ensures c.keeps_all-4.ensures
