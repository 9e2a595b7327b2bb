-- The old disk is read, and then the journal opens that counts.
use Rattle.std.proofs.Common.{◌≡◌, ◌≢◌, Err, [], sym, ap, ◌∙◌, subst, arith}
use Rattle.durable_pair.specs.Images.{IsSpent}
use Rattle.farm_nodes_open_old.specs.OnPairs.{IsOldDisk}
use Rattle.farm_nodes_open_old.specs.declared.old.OldDisk.{OldDisk}
use Rattle.farm_nodes_open_old.specs.declared.old.OldDisk.TheVariants.{Counts, Empty, Spent}
use Rattle.farm_nodes_open_journals.proofs.Behind.{unread, opened_new, refused_new, opened_old, refused_old}
use Rattle.farm_nodes_open_journals.proofs.pair.open_pair.Goals as goal

pub returns-in-Err : goal.returns-in-Err
returns-in-Err g c =
    unread g.P.Disk g.P.Pair c.args.header.now c.args.pair c.old_disk.new.pair c.in-Err.fault c.old_disk.ensures.whole (λ is. c.old_disk.ensures.same is)
    (λ p t im shown both shows. g.met.P.Pair.shown p t im shown both shows) (λ p t image left. g.met.P.Pair.of_both p t image left) (λ is. c.old_disk.ensures.any_moment is)
    c.in-Err.ensures.faults (λ device. c.old_disk.ensures.failed (c.in-Err.is ∙ ap (λ e. Err e) device))
    (λ other. c.old_disk.ensures.unfailed (λ bad. let both = sym c.in-Err.is ∙ bad in other (cc)))

pub returns-in-Ok : goal.returns-in-Ok
returns-in-Ok g c =
    let o = c.in-Ok.ensures in
    opened_old g.P.Disk g.P.Pair c.args.header.now c.args.pair c.old_disk.new.pair c.old_disk.ensures.whole (λ is. c.old_disk.ensures.same is)
    (λ p is. g.met.P.Pair.honest_whole p is) (λ is. c.old_disk.ensures.any_moment is) (λ is. c.in-Ok-Counts.ensures.synced is)
    (λ is. subst (λ (found : OldDisk). IsOldDisk (g.P.Pair.old_seen c.args.pair) found) c.in-Ok-Counts.field-0-is (c.in-Ok-Counts.ensures.told is))
    (c.old_disk.ensures.unfailed (λ bad. let both = sym c.in-Ok-Counts.is ∙ bad in absurd (cc)))
    c.in-Ok.opened.0 c.in-Ok.opened.1.items o.sound o.ok o.whole o.honest o.acknowledged o.moved o.turned o.any_moment o.unfailed

pub returns-in-Err-open_old : goal.returns-in-Err-open_old
returns-in-Err-open_old g c =
    let o = c.in-Err-open_old.ensures in
    refused_old g.P.Disk g.P.Pair c.args.header.now c.args.pair c.old_disk.new.pair c.old_disk.ensures.whole (λ is. c.old_disk.ensures.same is)
    (λ p is. g.met.P.Pair.honest_whole p is) (λ is. c.old_disk.ensures.any_moment is) (λ is. c.in-Ok-Counts.ensures.synced is)
    (λ is. subst (λ (found : OldDisk). IsOldDisk (g.P.Pair.old_seen c.args.pair) found) c.in-Ok-Counts.field-0-is (c.in-Ok-Counts.ensures.told is))
    (c.old_disk.ensures.unfailed (λ bad. let both = sym c.in-Ok-Counts.is ∙ bad in absurd (cc)))
    c.in-Err-open_old.refused.0 c.in-Err-open_old.refused.1 o.whole o.refused o.unwritten o.any_moment o.stays o.failed o.unfailed_refused

pub returns-in-Ok-open_journal : goal.returns-in-Ok-open_journal
returns-in-Ok-open_journal g c =
    let o = c.in-Ok-open_journal.ensures in
    let pair = g.P.Pair in
    let law = g.met.P.Pair in
    let p = c.args.pair in
    let same = c.old_disk.ensures.same in
    let none : pair.is_whole p → pair.old_seen p ≡ [] = λ is. subst (λ (found : OldDisk). IsOldDisk (pair.old_seen p) found) c.in-Ok-Empty.field-0-is (c.in-Ok-Empty.ensures.told is) in
    opened_new g.P.Disk pair c.args.header.now p c.old_disk.new.pair c.old_disk.ensures.whole (λ is. same is)
    (λ p t im image both shows. law.shown p t im image both shows) (λ p t image left. law.of_both p t image left)
    (λ p is. law.honest_whole p is) (λ p d is left. law.honest_spent p d is left) (λ p image is left. law.only_new p image is left) (λ p is. law.both_as_seen p is)
    (λ is. c.old_disk.ensures.any_moment is) (λ is. c.in-Ok-Empty.ensures.honest is (λ bad. let both = sym c.in-Ok-Empty.field-0-is ∙ bad in absurd (cc)))
    (λ is. subst IsSpent (sym (none is)) (λ bad. absurd (omega (arith, bad))))
    (c.old_disk.ensures.unfailed (λ bad. let both = sym c.in-Ok-Empty.is ∙ bad in absurd (cc)))
    (g.P.Disk.seen c.old_disk.new.pair ≢ []) (λ is new some. new.1 (sym (same is).new_same ∙ some, none is))
    c.in-Ok-open_journal.opened.0 c.in-Ok-open_journal.opened.1.items o.sound o.ok o.honest o.acknowledged
    (λ is both. o.begun (c.in-Ok-Empty.ensures.honest is (λ bad. let both = sym c.in-Ok-Empty.field-0-is ∙ bad in absurd (cc))) ((same is).new_same ∙ both.0))
    o.listed (λ is some. (o.unchanged is some)) (λ is some. (o.any_moment is some)) o.unfailed

pub returns-in-Err-open_journal : goal.returns-in-Err-open_journal
returns-in-Err-open_journal g c =
    let o = c.in-Err-open_journal.ensures in
    let pair = g.P.Pair in
    let law = g.met.P.Pair in
    let p = c.args.pair in
    let same = c.old_disk.ensures.same in
    let honest : pair.is_whole p → g.P.Disk.is_honest c.old_disk.new.pair = λ is. c.in-Ok-Empty.ensures.honest is (λ bad. let both = sym c.in-Ok-Empty.field-0-is ∙ bad in absurd (cc)) in
    let none : pair.is_whole p → pair.old_seen p ≡ [] = λ is. subst (λ (found : OldDisk). IsOldDisk (pair.old_seen p) found) c.in-Ok-Empty.field-0-is (c.in-Ok-Empty.ensures.told is) in
    refused_new g.P.Disk pair c.args.header.now p c.old_disk.new.pair c.old_disk.ensures.whole (λ is. same is)
    (λ p t im image both shows. law.shown p t im image both shows) (λ p t image left. law.of_both p t image left)
    (λ p is. law.honest_whole p is) (λ p d is left. law.honest_spent p d is left) (λ p image is left. law.only_new p image is left) (λ p is. law.both_as_seen p is)
    (λ is. c.old_disk.ensures.any_moment is) (λ is. honest is)
    (λ is. subst IsSpent (sym (none is)) (λ bad. absurd (omega (arith, bad))))
    (c.old_disk.ensures.unfailed (λ bad. let both = sym c.in-Ok-Empty.is ∙ bad in absurd (cc)))
    (g.P.Disk.seen c.old_disk.new.pair ≢ []) (λ is new some. new.1 (sym (same is).new_same ∙ some, none is))
    c.in-Err-open_journal.refused.0 c.in-Err-open_journal.refused.1 o.honest
    (λ is memory device both. (o.refused (honest is) memory device).0 ((same is).new_same ∙ both.0))
    (λ is memory device. (o.refused is memory device).1) (λ is device. (o.unwritten is device).same) (λ is some. (o.any_moment is some)) o.failed o.unfailed_refused

pub returns-in-Ok-open : goal.returns-in-Ok-open
returns-in-Ok-open g c =
    let o = c.in-Ok-open.ensures in
    let pair = g.P.Pair in
    let law = g.met.P.Pair in
    let p = c.args.pair in
    let same = c.old_disk.ensures.same in
    let is_spent : pair.is_whole p → IsSpent (pair.old_seen p) × (pair.old_seen p ≢ []) = λ is. subst (λ (found : OldDisk). IsOldDisk (pair.old_seen p) found) c.in-Ok-Spent.field-0-is (c.in-Ok-Spent.ensures.told is) in
    opened_new g.P.Disk pair c.args.header.now p c.old_disk.new.pair c.old_disk.ensures.whole (λ is. same is)
    (λ p t im image both shows. law.shown p t im image both shows) (λ p t image left. law.of_both p t image left)
    (λ p is. law.honest_whole p is) (λ p d is left. law.honest_spent p d is left) (λ p image is left. law.only_new p image is left) (λ p is. law.both_as_seen p is)
    (λ is. c.old_disk.ensures.any_moment is) (λ is. c.in-Ok-Spent.ensures.honest is (λ bad. let both = sym c.in-Ok-Spent.field-0-is ∙ bad in absurd (cc)))
    (λ is. (is_spent is).0)
    (c.old_disk.ensures.unfailed (λ bad. let both = sym c.in-Ok-Spent.is ∙ bad in absurd (cc)))
    (Unit {0}) (λ is new. tt)
    c.in-Ok-open.opened.0 c.in-Ok-open.opened.1.items o.sound o.ok o.honest o.acknowledged
    (λ is both. absurd ((is_spent is).1 both.1))
    (λ is new. o.listed is) (λ is new. o.unchanged is) (λ is new. o.any_moment is) o.unfailed

pub returns-in-Err-open : goal.returns-in-Err-open
returns-in-Err-open g c =
    let o = c.in-Err-open.ensures in
    let pair = g.P.Pair in
    let law = g.met.P.Pair in
    let p = c.args.pair in
    let same = c.old_disk.ensures.same in
    let is_spent : pair.is_whole p → IsSpent (pair.old_seen p) × (pair.old_seen p ≢ []) = λ is. subst (λ (found : OldDisk). IsOldDisk (pair.old_seen p) found) c.in-Ok-Spent.field-0-is (c.in-Ok-Spent.ensures.told is) in
    refused_new g.P.Disk pair c.args.header.now p c.old_disk.new.pair c.old_disk.ensures.whole (λ is. same is)
    (λ p t im image both shows. law.shown p t im image both shows) (λ p t image left. law.of_both p t image left)
    (λ p is. law.honest_whole p is) (λ p d is left. law.honest_spent p d is left) (λ p image is left. law.only_new p image is left) (λ p is. law.both_as_seen p is)
    (λ is. c.old_disk.ensures.any_moment is) (λ is. c.in-Ok-Spent.ensures.honest is (λ bad. let both = sym c.in-Ok-Spent.field-0-is ∙ bad in absurd (cc)))
    (λ is. (is_spent is).0)
    (c.old_disk.ensures.unfailed (λ bad. let both = sym c.in-Ok-Spent.is ∙ bad in absurd (cc)))
    (Unit {0}) (λ is new. tt)
    c.in-Err-open.refused.0 c.in-Err-open.refused.1 o.honest (λ is memory device both. absurd ((is_spent is).1 both.1))
    (λ is memory device. o.refused is memory device) (λ is device. (o.unchanged is).same) (λ is new. o.any_moment is) o.failed o.unfailed
