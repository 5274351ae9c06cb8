use Rattle.std.proofs.Common.{◌<◌, ◌+◌, ◌∙◌, ap, length}
use Rattle.std.proofs.lemmas.List.{length_push}
use Rattle.grounding.proofs.ChosenLemmas.{wide-found, wide-further}
use Rattle.grounding.proofs.making.measure_chosen.Goals as goal

pub returns-in-Some-clause-err : goal.returns-in-Some-clause-err
returns-in-Some-clause-err g c =
    let study = c.args.chosen.now.study.now in
    let places = c.args.chosen.now.places.now in
    let k = c.loop-k.k in
    let here : k < length places = rw c.as_slice-places.ensures at c.loop-k-test.true in
    rw c.get-groundable.ensures.place
    (wide-found study.size study.axioms places k c.get-groundable.result.named.now here c.get-groundable.ensures.named c.loop-k.invariant.rest c.in-Some.wide (rw (← c.get-groundable.ensures.kind) (rw c.in-Some.is at c.in-Ok.ensures)))

pub loop-k-preserved : goal.loop-k-preserved
loop-k-preserved g c =
    let study = c.args.chosen.now.study.now in
    let places = c.args.chosen.now.places.now in
    let k = c.loop-k.k in
    let here : k < length places = rw c.as_slice-places.ensures at c.loop-k-test.true in
    record {
      rest = wide-further study.size study.axioms places k c.get-groundable.result.named.now here c.get-groundable.ensures.named c.loop-k.invariant.rest (rw (← c.get-groundable.ensures.kind) (rw c.in_default-found.is at c.in-Ok.ensures));
      len = ap length c.in-Ok-push.ensures.ok ∙ length_push c.loop-k.all _ ∙ ap (λ n. n + 1) c.loop-k.invariant.len;
    }
