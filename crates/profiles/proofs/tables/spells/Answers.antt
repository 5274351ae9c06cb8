use Rattle.std.proofs.Common.{◌∙◌, ◌<◌, ◌≤◌, sym, length, map, arith}
use Rattle.std.proofs.lemmas.List.{take_all}
use Rattle.meaning.specs.Space.{ranking}
use Rattle.meaning.specs.Texts.{letter}
use Rattle.profiles.proofs.TableLemmas.{take-same, length-letters}
use Rattle.profiles.proofs.tables.spells.Goals as goal

pub loop-place-preserved : goal.loop-place-preserved
loop-place-preserved c =
    let spelling = map letter (ranking c.args.order.alternatives.number c.args.order.place) in
    let inner : c.loop-place.place < length spelling = omega (arith, length-letters c.args.order.alternatives.number c.args.order.place c.args.order.listed) in
    let within : c.loop-place.place < length c.args.text.now = omega arith in
    take-same c.args.text.now spelling c.loop-place.place within inner c.loop-place.invariant (c.if-text-place.false ∙ c.letter_at.ensures)

pub returns-clause-same : goal.returns-clause-same
returns-clause-same c =
    let spelling = map letter (ranking c.args.order.alternatives.number c.args.order.place) in
    let whole : length spelling ≤ c.loop-place.place = omega (arith, length-letters c.args.order.alternatives.number c.args.order.place c.args.order.listed) in
    let all : length c.args.text.now ≤ c.loop-place.place = omega arith in
    sym (take_all c.loop-place.place c.args.text.now all) ∙ c.loop-place.invariant ∙ take_all c.loop-place.place spelling whole
