use Rattle.std.proofs.Common.{◌≡◌, ◌<◌, ◌≤◌, ◌+◌, ◌∙◌, ap, arith, fold, length, sym, take, ℕ, List}
use Rattle.std.specs.Prelude.{Some, slice_get}
use Rattle.std.proofs.lemmas.List.{take_all}
use Rattle.std.proofs.lemmas.List.Sums.{fold_more}
use Rattle.cnf.specs.Sat.{Clause}
use Rattle.meaning.specs.StudyClauses.{Sourced}
use Rattle.clause_form.specs.Sources.{clauses_in, origin_of_number, origins_in}
use Rattle.grounding.specs.Distinct.{kept_with}
use Rattle.grounding.specs.Parts.{with_origin}
use Rattle.grounding.proofs.KeptLaws.{full-step, kept-as, kept-step, over-as, over-part}
use Rattle.grounding.proofs.PartLaws.{source-there}
use Rattle.grounding.proofs.merging.keep_all.Goals as goal

-- what is kept with one clause more
next : (part kept : List Sourced) (k : ℕ) (clause : Clause) (origin : ℕ) → k < length part → slice_get (clauses_in part) k ≡ Some clause → slice_get (origins_in part) k ≡ Some (origin_of_number origin)
    → kept_with (fold kept_with kept (take k part)) (with_origin clause origin) ≡ fold kept_with kept (take (k + 1) part)
next part kept k clause origin within here there =
    let d : Sourced = with_origin clause origin in
    ap (kept_with (fold kept_with kept (take k part))) (sym (source-there part k d clause origin here there))
    ∙ sym (fold_more kept_with kept part k d within)

pub loop-k-preserved : goal.loop-k-preserved
loop-k-preserved c = λ before kept is.
    let part = c.args.part.now in
    let so_far = fold kept_with kept (take c.loop-k.k part) in
    let made = c.loop-k.invariant before kept is in
    kept-as (next part kept c.loop-k.k c.clause.result.now c.origin.result (omega arith) c.clause.ensures c.origin.ensures)
    (kept-step _ c.loop-k.out before so_far c.clause.result.now c.origin.result made _ _ (c.in-Ok.ensures.kept (clauses_in so_far) made.codes) (c.in-Ok.ensures.seen (clauses_in so_far) made.codes))

pub returns-clause-kept : goal.returns-clause-kept
returns-clause-kept c = λ before kept is.
    let part = c.args.part.now in
    let whole : length part ≤ c.loop-k.k = omega arith in
    kept-as (ap (fold kept_with kept) (take_all c.loop-k.k part whole)) (c.loop-k.invariant before kept is)

pub returns-in-Err-clause-full : goal.returns-in-Err-clause-full
returns-in-Err-clause-full c = λ is-full before kept is.
    let part = c.args.part.now in
    let so_far = fold kept_with kept (take c.loop-k.k part) in
    let made = c.loop-k.invariant before kept is in
    let full = c.in-Err.ensures.full is-full (clauses_in so_far) made.codes in
    over-part before kept part (c.loop-k.k + 1)
    (over-as before (next part kept c.loop-k.k c.clause.result.now c.origin.result (omega arith) c.clause.ensures c.origin.ensures)
    (full-step _ c.loop-k.out before so_far c.clause.result.now c.origin.result made full.0 full.1))
