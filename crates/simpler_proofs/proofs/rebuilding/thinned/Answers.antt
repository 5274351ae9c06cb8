use Rattle.std.proofs.Common.{subst, ℕ}
use Rattle.cnf.specs.Fresh.{AreOver, is_over}
use Rattle.simpler_proofs.proofs.Passing.{passes_made}
use Rattle.simpler_proofs.proofs.rebuilding.thinned.Goals as goal

pub returns-clause-over : goal.returns-clause-over
returns-clause-over c =
    let singles = c.in_ok-singles.singles in
    let over = subst (λ (n : ℕ). AreOver n singles.made.lines) c.in_ok-singles.ensures.variables singles.over in
    passes_made c.in_ok-proof.proof (is_over c.args.variables) singles.made.lines over c.in_ok-proof.ensures.passes
