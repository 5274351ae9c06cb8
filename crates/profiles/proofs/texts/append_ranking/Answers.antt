use Rattle.std.proofs.Common.{◌∙◌, ◌<◌, ◌≤◌, ◌++◌, ◌∷◌, [], ap, length, map, arith, length-append}
use Rattle.std.proofs.lemmas.List.{take_all}
use Rattle.meaning.specs.Space.{ranking}
use Rattle.meaning.specs.Texts.{letter}
use Rattle.profiles.proofs.TableLemmas.{append-take, length-letters}
use Rattle.profiles.proofs.texts.append_ranking.Goals as goal

pub loop-place-preserved : goal.loop-place-preserved
loop-place-preserved c =
    let spelling = map letter (ranking c.args.order.alternatives.number c.args.order.place) in
    let inner : c.loop-place.place < length spelling = omega (arith, length-letters c.args.order.alternatives.number c.args.order.place c.args.order.listed) in
    record {
      text = c.push.ensures ∙ append-take c.args.text.now spelling c.loop-place.text c.loop-place.place c.letter_at.result inner c.loop-place.invariant.text c.letter_at.ensures;
      short = omega (arith, ap length c.push.ensures, length-append c.loop-place.text (c.letter_at.result ∷ []), c.loop-place.invariant.short);
    }

pub returns-clause-value : goal.returns-clause-value
returns-clause-value c =
    let spelling = map letter (ranking c.args.order.alternatives.number c.args.order.place) in
    let whole : length spelling ≤ c.loop-place.place = omega (arith, length-letters c.args.order.alternatives.number c.args.order.place c.args.order.listed) in
    c.loop-place.invariant.text ∙ ap (λ t. c.args.text.now ++ t) (take_all c.loop-place.place spelling whole)
