use Rattle.std.proofs.Common.{◌<◌, ◌∙◌, ap, arith, length, sym}
use Rattle.std.specs.Prelude.{Some, slice_get}
use Rattle.std.proofs.lemmas.List.{get_or_read}
use Rattle.clause_form.specs.Sources.{origin_of_number, origins_in, sourced}
use Rattle.clause_form.proofs.SourceLaws.{length-sourced, origin-sourced}
use Rattle.grounding.proofs.part.Part.origin.Goals as goal

pub index-requires : goal.index-requires
index-requires c =
    let long = length-sourced c.self.inside.clauses c.self.inside.origins.items c.self.invariant.0 in
    let seen = ap length c.self.view_is in
    omega (arith, c.requires, long, seen, c.self.invariant.0)

pub returns : goal.returns
returns c =
    let clauses = c.self.inside.clauses in
    let numbers = c.self.inside.origins.items in
    let long = length-sourced clauses numbers c.self.invariant.0 in
    let seen = ap length c.self.view_is in
    let within : c.args.k < length (sourced clauses numbers) = omega (arith, c.requires, seen) in
    ap (λ ss. slice_get (origins_in ss) c.args.k) (sym c.self.view_is)
    ∙ origin-sourced clauses numbers c.args.k within
    ∙ ap (λ n. Some (origin_of_number n)) (sym (get_or_read numbers c.args.k c.index.result.now (omega (arith, within, long, c.self.invariant.0)) c.index.ensures 0))
