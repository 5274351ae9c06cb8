use Rattle.std.proofs.Common.{◌≡◌, ◌∙◌, ◌<◌, ◌≤◌, ap, length, take, map, arith, length-set}
use Rattle.std.proofs.lemmas.List.{take_all}
use Rattle.meaning.specs.Space.{ranking}
use Rattle.meaning.specs.Texts.{letter}
use Rattle.profiles.proofs.TableLemmas.{take-filled, length-letters}
use Rattle.profiles.proofs.tables.spelled.Goals as goal

pub loop-place-preserved : goal.loop-place-preserved
loop-place-preserved c =
    let spelling = map letter (ranking c.args.order.alternatives.number c.args.order.place) in
    let inner : c.loop-place.place < length spelling = omega (arith, length-letters c.args.order.alternatives.number c.args.order.place c.args.order.listed) in
    record {
      size = length-set c.loop-place.letters c.loop-place.place _ ∙ c.loop-place.invariant.size;
      front = take-filled c.loop-place.letters spelling c.loop-place.place _ (omega arith) inner c.loop-place.invariant.front c.letter_at.ensures;
    }

pub returns : goal.returns
returns c =
    let spelling = map letter (ranking c.args.order.alternatives.number c.args.order.place) in
    let whole : length spelling ≤ c.loop-place.place = omega (arith, length-letters c.args.order.alternatives.number c.args.order.place c.args.order.listed) in
    let all : c.args.order.alternatives.number ≡ c.loop-place.place = omega arith in
    ap (λ k. take k c.loop-place.letters) all ∙ c.loop-place.invariant.front ∙ take_all c.loop-place.place spelling whole
