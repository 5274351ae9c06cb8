use Rattle.std.proofs.Common.{sym, ◌∙◌}
use Rattle.std.proofs.lemmas.Bool.{or_left, or_right, or_from}
use Rattle.study.proofs.Listings.{once_stops, once_goes_on}
use Rattle.study.proofs.listing.once.Goals as goal

pub returns-then-stands_before : goal.returns-then-stands_before
returns-then-stands_before c other =
    sym c.loop-place.invariant ∙ once_stops c.args.kind c.args.own.now.entries.now c.args.entries.now c.loop-place.place c.index-entries-place.result c.name-name.result c.loop-place-test.true c.index-entries-place.is c.name-name.ensures
    (or_left _ _ (sym (rw (c.in_ok-listed.ensures, c.bytes.ensures) at c.stands_before.ensures) ∙ c.if-stands_before.true))

pub returns-then-is_in_both : goal.returns-then-is_in_both
returns-then-is_in_both c other =
    sym c.loop-place.invariant ∙ once_stops c.args.kind c.args.own.now.entries.now c.args.entries.now c.loop-place.place c.index-entries-place.result c.name-name.result c.loop-place-test.true c.index-entries-place.is c.name-name.ensures
    (or_right _ _ (sym c.is_in_both.ensures ∙ c.if-is_in_both.true))

pub loop-place-preserved : goal.loop-place-preserved
loop-place-preserved c =
    once_goes_on c.args.kind c.args.own.now.entries.now c.args.entries.now c.loop-place.place c.index-entries-place.result c.name-name.result c.loop-place-test.true c.index-entries-place.is c.name-name.ensures
    (or_from _ _ (sym (rw (c.in_ok-listed.ensures, c.bytes.ensures) at c.stands_before.ensures) ∙ c.if-stands_before.false) (sym c.is_in_both.ensures ∙ c.if-is_in_both.false)) ∙ c.loop-place.invariant
