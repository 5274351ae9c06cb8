use Rattle.std.proofs.Common.{◌≡◌, ◌++◌, ◌∙◌, ℕ, List, ap, ap₂, subst, arith, drop, length, length-append}
use Rattle.std.proofs.Math.Seq.{drop-append_seam}
use Rattle.vocab.specs.Tree.{tree_of}
use Rattle.cnf.specs.Sat.{Clause}
use Rattle.meaning.specs.Clauses.{plus}
use Rattle.meaning.specs.Written.{write_out}
use Rattle.clause_form.specs.Wide.{numbered}
use Rattle.grounding.specs.Parts.{KeepSame, from_rows}
use Rattle.grounding.proofs.parts.push_formula.Goals as goal

pub push_sorted-requires : goal.push_sorted-requires
push_sorted-requires g c =
    let size = g.K.OutcomeKind.size c.args.kind.now in
    let more = numbered size (plus (write_out size (tree_of c.args.formula.now) c.args.env.now)) in
    let long = ap length c.in_ok-untold_clauses.ensures ∙ length-append c.args.buffers.now.rows more in
    let start = c.len-start.ensures in
    omega (arith, long, start)

pub returns : goal.returns
returns g c =
    let size = g.K.OutcomeKind.size c.args.kind.now in
    let more = numbered size (plus (write_out size (tree_of c.args.formula.now) c.args.env.now)) in
    let fresh : drop c.len-start.result c.untold_clauses.new.out ≡ more =
    ap₂ (λ (n : ℕ) (r : List Clause). drop n r) c.len-start.ensures c.in_ok-untold_clauses.ensures ∙ drop-append_seam c.args.buffers.now.rows more in
    subst (λ (r : List Clause). KeepSame c.push_sorted.new.out (c.args.part.now ++ from_rows c.args.origin r)) fresh c.in_ok-push_sorted.ensures
