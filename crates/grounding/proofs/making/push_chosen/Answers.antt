use Rattle.std.proofs.Common.{◌≡◌, ◌<◌, ◌+◌, ◌∙◌, ◌++◌, List, Some, Err, true, false, ap, length, slice_index_or, take, subst, sym}
use Rattle.vocab.specs.Limits.{instance_count}
use Rattle.vocab.specs.Size.{Extent}
use Rattle.meaning.specs.StudyClauses.{Sourced, from_axiom, study_clauses}
use Rattle.clause_form.specs.Refusals.{is_over_limits}
use Rattle.clause_form.specs.Sources.{clauses_in, sourced}
use Rattle.clause_form.proofs.SourceLaws.{clauses-sourced}
use Rattle.grounding.specs.Pieces.{AreNarrow}
use Rattle.grounding.proofs.ChosenLemmas.{chosen-narrow, full-found, full-further, study-next}
use Rattle.grounding.proofs.KeptLaws.{within-not_over}
use Rattle.grounding.proofs.making.push_chosen.Goals as goal

pub add_axiom-requires-clause-narrow : goal.add_axiom-requires-clause-narrow
add_axiom-requires-clause-narrow g c κs within =
    let study = c.args.chosen.now.study.now in
    let places = c.args.chosen.now.places.now in
    let k = c.loop-k.k in
    let named = c.get-groundable.result.named.now in
    let here : k < length places = rw c.as_slice-places.ensures at c.loop-k-test.true in
    subst (λ (s : Extent). AreNarrow s named.sentence 0 (instance_count s named.sentence)) (sym c.get-groundable.ensures.kind) (chosen-narrow study.size study.axioms places k named c.requires.none here c.get-groundable.ensures.named)

pub returns-in-Err-Full-clause-err : goal.returns-in-Err-Full-clause-err
returns-in-Err-Full-clause-err g c =
    let study = c.args.chosen.now.study.now in
    let places = c.args.chosen.now.places.now in
    let k = c.loop-k.k in
    let place = slice_index_or places k 0 in
    let named = c.get-groundable.result.named.now in
    let here : k < length places = rw c.as_slice-places.ensures at c.loop-k-test.true in
    let over : is_over_limits (clauses_in (sourced c.loop-k.out.clauses c.loop-k.out.origins ++ from_axiom study.size place (Some named))) ≡ true =
    rw (c.get-groundable.ensures.kind, c.get-groundable.ensures.place) at (c.in-Err-Full.ensures.full (ap Err c.in-Err-Full.field-0-is)) in
    rw c.get-groundable.ensures.place
    (full-found study.size study.axioms places k named here c.get-groundable.ensures.named c.loop-k.invariant.rest
    (subst (λ (ss : List Sourced). is_over_limits (clauses_in (ss ++ from_axiom study.size place (Some named))) ≡ true) c.loop-k.invariant.made over))

pub loop-k-preserved : goal.loop-k-preserved
loop-k-preserved g c =
    let study = c.args.chosen.now.study.now in
    let places = c.args.chosen.now.places.now in
    let k = c.loop-k.k in
    let place = slice_index_or places k 0 in
    let named = c.get-groundable.result.named.now in
    let at = c.get-groundable.ensures.named in
    let here : k < length places = rw c.as_slice-places.ensures at c.loop-k-test.true in
    let out = c.add_axiom.new.out in
    let limits = c.len-within.ensures.limits in
    let added : sourced out.clauses out.origins ≡ sourced c.loop-k.out.clauses c.loop-k.out.origins ++ from_axiom study.size place (Some named) =
    rw (c.get-groundable.ensures.kind, c.get-groundable.ensures.place) at c.in-Ok.ensures.made in
    let made : sourced out.clauses out.origins ≡ study_clauses study.size study.axioms (take (k + 1) places) =
    added
    ∙ ap (λ (ss : List Sourced). ss ++ from_axiom study.size place (Some named)) c.loop-k.invariant.made
    ∙ sym (study-next study.size study.axioms places k named here at) in
    let within : is_over_limits (clauses_in (study_clauses study.size study.axioms (take (k + 1) places))) ≡ false =
    ap (λ (ss : List Sourced). is_over_limits (clauses_in ss)) (sym made)
    ∙ ap is_over_limits (clauses-sourced out.clauses out.origins limits.origins)
    ∙ within-not_over out.clauses limits.few_clauses limits.few_literals in
    record {
      made = made;
      rest = full-further study.size study.axioms places k named here at c.loop-k.invariant.rest within;
    }
