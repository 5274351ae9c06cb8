use Rattle.std.proofs.Common.{◌≡◌, ◌≤◌, ◌∙◌, ℕ, List, ap, sym, subst, replicate, arith, rules}
use Rattle.std.specs.Prelude.{All}
use Rattle.std.proofs.lemmas.List.Elements.{All-replicate}
use Rattle.cdcl.specs.Seen.{marks_of}
use Rattle.cdcl.proofs.Stamps.{none_marked_at_first}
use Rattle.cdcl.proofs.seen.Seen.new.Goals as goal

pub invariant_of-result : goal.invariant_of-result
invariant_of-result c =
    let is : c.in_ok-vec.field-0.items ≡ replicate c.args.variables 0 = search rules in
    subst (λ (xs : List ℕ). All (λ s. s ≤ 1) xs) (sym is) (All-replicate (λ s. s ≤ 1) c.args.variables 0 (omega arith))

pub returns : goal.returns
returns c =
    let is : c.in_ok-vec.field-0.items ≡ replicate c.args.variables 0 = search rules in
    ap (λ (xs : List ℕ). marks_of 1 xs) is ∙ none_marked_at_first c.args.variables
