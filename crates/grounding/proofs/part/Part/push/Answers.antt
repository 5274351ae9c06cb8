use Rattle.std.proofs.Common.{◌∙◌, ◌++◌, ◌∷◌, [], ap, ap₂, ℕ, List}
use Rattle.meaning.specs.StudyClauses.{Sourced}
use Rattle.clause_form.specs.Sources.{sourced}
use Rattle.clause_form.proofs.SourceLaws.{sourced-append}
use Rattle.grounding.specs.Parts.{with_origin}
use Rattle.grounding.proofs.part.Part.push.Goals as goal

pub returns : goal.returns
returns c = record {
  ok =
      ap₂ sourced c.in_ok-push.ensures.ok (c.push_reserved.ensures.items ∙ ap (λ (ns : List ℕ). ns ++ c.args.origin ∷ []) c.in_ok-reserve.ensures.items)
      ∙ sourced-append c.self.inside.clauses c.self.inside.origins.items c.args.clause.now c.args.origin c.self.invariant.0
      ∙ ap (λ (ss : List Sourced). ss ++ with_origin c.args.clause.now c.args.origin ∷ []) c.self.view_is;
}
