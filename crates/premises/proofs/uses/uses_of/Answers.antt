use Rattle.std.proofs.Common.{refl, sym, ◌∙◌}
use Rattle.std.proofs.lemmas.Option.{slice_get_read}
use Rattle.premises.proofs.UseLemmas.{counted_more}
use Rattle.premises.proofs.uses.uses_of.Goals as goal

pub loop-place-preserved : goal.loop-place-preserved
loop-place-preserved c = record {
  all = c.count_all.ensures.size ∙ c.loop-place.invariant.all;
  each = λ j lt.
      counted_more c.args.story.now c.args.tellings.now c.loop-place.uses.items c.count_all.new.uses.items c.loop-place.place j c.index-story-place.result c.index-tellings-place.result
      (slice_get_read c.args.story.now _ c.loop-place.place c.index-story-place.result refl c.loop-place-test.true c.index-story-place.is)
      (slice_get_read c.args.tellings.now _ c.loop-place.place c.index-tellings-place.result (sym c.requires) c.loop-place-test.true c.index-tellings-place.is)
      c.count_all.ensures.named (c.loop-place.invariant.each j lt);
}
