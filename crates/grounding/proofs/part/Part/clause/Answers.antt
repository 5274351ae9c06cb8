use Rattle.std.proofs.Common.{◌<◌, ◌∙◌, [], ap, arith, length, sym}
use Rattle.std.proofs.lemmas.Option.{slice_get-get_or}
use Rattle.std.specs.Prelude.{Some, slice_get}
use Rattle.clause_form.specs.Sources.{clauses_in}
use Rattle.clause_form.proofs.SourceLaws.{clauses-sourced, length-sourced}
use Rattle.grounding.proofs.part.Part.clause.Goals as goal

pub get-requires : goal.get-requires
get-requires c =
    let long = length-sourced c.self.inside.clauses c.self.inside.origins.items c.self.invariant.0 in
    let seen = ap length c.self.view_is in
    omega (arith, c.requires, long, seen)

pub returns : goal.returns
returns c =
    let clauses = c.self.inside.clauses in
    let long = length-sourced clauses c.self.inside.origins.items c.self.invariant.0 in
    let seen = ap length c.self.view_is in
    let within : c.args.k < length clauses = omega (arith, c.requires, long, seen) in
    ap (λ cs. slice_get cs c.args.k) (ap clauses_in (sym c.self.view_is) ∙ clauses-sourced clauses c.self.inside.origins.items c.self.invariant.0)
    ∙ slice_get-get_or clauses c.args.k [] within
    ∙ ap Some (sym c.get.ensures)
