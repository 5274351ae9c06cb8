use Rattle.std.proofs.Common.{◌-◌, arith}
use Rattle.lists.proofs.JoinLaws.{joined_4, joined_6, joined_10}
use Rattle.vocab.proofs.Ranges.{goes_on}
use Rattle.story_pages.specs.Homes.{story_item, inner_at}
use Rattle.story_pages.proofs.PlaceLemmas.{one_less}
use Rattle.story_pages.proofs.homes.+within.Goals as goal

pub put_inner_at-returns : goal.put_inner_at-returns
put_inner_at-returns t c =
    rw (one_less c.args.space.now c.args.axioms.now c.args.story.now c.args.told.now c.args.depth (c.args.depth - 1) c.args.place (omega (arith, c.if-depth-eq0.false))) c.put_inner_of.ensures

pub put_inner-returns : goal.put_inner-returns
put_inner-returns t c = joined_10 _ _ _ _ _ _ _ _ _ _ _ _ _ _ _ _ _ _ _ _ _ c.in_ok-append.ensures.ok c.in_ok-put_columns_of.ensures c.in_ok-append-2.ensures.ok c.in_ok-put_claimed_by.ensures c.in_ok-append-3.ensures.ok c.in_ok-put_suppose.ensures c.in_ok-put_body.ensures c.in_ok-append-4.ensures.ok c.in_ok-put_table.ensures c.in_ok-append-5.ensures.ok

pub put_body-returns : goal.put_body-returns
put_body-returns t c =
    joined_6 _ _ _ _ _ _ _ _ _ _ _ _ _ c.in_ok-append.ensures.ok c.in_ok-put_story_items.ensures c.in_ok-append-2.ensures.ok (rw c.held_by-held.ensures at c.in_ok-put_held.ensures) c.in_ok-append-3.ensures.ok c.in_ok-put_end_of.ensures

pub put_story_items-loop-number-preserved : goal.put_story_items-loop-number-preserved
put_story_items-loop-number-preserved t c =
    goes_on (story_item c.args.space.now c.args.axioms.now c.args.told.now (inner_at c.args.space.now c.args.axioms.now c.args.story.now c.args.told.now c.args.depth) c.args.home c.args.telling.now) _ _ _ _ c.loop-number.invariant c.in_ok-put_story_item.ensures

pub put_story_item-returns : goal.put_story_item-returns
put_story_item-returns t c = joined_4 _ _ _ _ _ _ _ _ _ c.in_ok-append.ensures.ok (rw c.as_slice-steps.ensures at c.in_ok-put_held_steps.ensures) c.in_ok-put_sentence_at.ensures c.in_ok-append-2.ensures.ok
