use Rattle.std.proofs.Common.{◌∙◌, sym}
use Rattle.clause_form.proofs.SourceLaws.{length-sourced}
use Rattle.grounding.proofs.part.Part.len.Goals as goal

pub returns : goal.returns
returns c = rw (← c.self.view_is) (c.len.ensures ∙ sym (length-sourced c.self.inside.clauses c.self.inside.origins.items c.self.invariant.0))
