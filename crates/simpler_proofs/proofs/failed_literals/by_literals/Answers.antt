use Rattle.std.proofs.Common.{subst, sym, ◌∙◌, ◌≡◌, ℕ, List}
use Rattle.cnf.specs.Fresh.{AreOver, is_over}
use Rattle.cnf.specs.declared.derivations.Line.{Line}
use Rattle.simpler_proofs.specs.Made.{EachPasses, has_at_most}
use Rattle.simpler_proofs.proofs.Passing.{passes_made}
use Rattle.simpler_proofs.proofs.failed_literals.by_literals.Goals as goal

pub returns-then-ended-clause-over : goal.returns-then-ended-clause-over
returns-then-ended-clause-over c =
    let new = c.rounds.new.search in
    let n : ℕ = c.args.formula.now.variables in
    let same : new.draft.marked.trail.variables ≡ n = c.in_ok-ended.ensures.same.variables ∙ c.in_ok-new.ensures.variables in
    let over : AreOver n new.draft.lines.items = subst (λ (v : ℕ). AreOver v new.draft.lines.items) same new.over in
    passes_made c.in_ok-made.made (is_over n) c.into_lines.result.lines (subst (λ (lines : List Line). AreOver n lines) (sym c.into_lines.ensures) over) c.in_ok-made.ensures.passes

pub returns-then-ended-clause-short : goal.returns-then-ended-clause-short
returns-then-ended-clause-short c =
    let new = c.rounds.new.search in
    let most : ℕ = c.args.most in
    let short : EachPasses (has_at_most most) new.draft.lines.items = subst (λ (n : ℕ). EachPasses (has_at_most n) new.draft.lines.items) c.in_ok-ended.ensures.same.most new.short in
    passes_made c.in_ok-made.made (has_at_most most) c.into_lines.result.lines (subst (EachPasses (has_at_most most)) (sym c.into_lines.ensures) short) c.in_ok-made.ensures.passes
