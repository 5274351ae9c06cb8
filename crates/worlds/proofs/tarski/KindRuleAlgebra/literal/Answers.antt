use Rattle.std.proofs.Common.{◌∙◌, sym, ap, ℕ}
use Rattle.std.specs.Prelude.{slice_index}
use Rattle.std.proofs.lemmas.Option.{get_or_from_slice_get}
use Rattle.meaning.specs.Truth.{holds_of}
use Rattle.meaning.proofs.RuleLaws.{rule_outcome}
use Rattle.worlds.proofs.tarski.KindRuleAlgebra.literal.Goals as goal

pub holds-requires-clause-outcome : goal.holds-requires-clause-outcome
holds-requires-clause-outcome g c = rw c.from.ensures (rule_outcome (g.K.OutcomeKind.size c.args.self.now.kind.now) c.args.self.now.table.now c.profile_of.result c.get-outcome.result.now c.args.self.now.rule c.get-outcome.ensures)

pub returns-clause-ok : goal.returns-clause-ok
returns-clause-ok g c =
    c.holds.ensures
    ∙ ap (λ (o : ℕ). holds_of (g.K.OutcomeKind.size c.args.self.now.kind.now) o c.args.literal.now) (c.from.ensures ∙ sym (get_or_from_slice_get c.args.self.now.table.now c.profile_of.result c.get-outcome.result.now 0 c.get-outcome.ensures) ∙ ap (λ (p : ℕ). slice_index c.args.self.now.table.now p) c.profile_of.ensures)
