use Rattle.std.proofs.Common.{subst, sym, ℕ, List}
use Rattle.cnf.specs.Fresh.{AreOver, is_over}
use Rattle.cnf.specs.declared.derivations.Line.{Line}
use Rattle.simpler_proofs.proofs.Passing.{passes_made}
use Rattle.simpler_proofs.proofs.vivification.by_vivification.Goals as goal

pub returns-then-branch-clause-over : goal.returns-then-branch-clause-over
returns-then-branch-clause-over c =
    let new = c.shorten_all.new.self in
    let n : ℕ = c.args.given.now.formula.now.variables in
    let over : AreOver n new.draft.lines.items = rw c.in_ok-shorten_all.ensures.given at new.over in
    passes_made c.in_ok-made.made (is_over n) c.into_lines.result.lines (subst (λ (lines : List Line). AreOver n lines) (sym c.into_lines.ensures) over) c.in_ok-made.ensures.passes
