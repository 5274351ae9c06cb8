use Rattle.std.proofs.Common.{arith, ◌≡◌, ◌+◌, ◌<◌, ◌∙◌, ◌/◌, ℕ, List, sym, subst, ap, get_or, set, map}
use Rattle.std.specs.Prelude.{All}
use Rattle.std.proofs.lemmas.Bool.{le-ltb}
use Rattle.std.proofs.lemmas.List.{get_or_default}
use Rattle.cdcl.specs.Order.{risen}
use Rattle.cdcl.proofs.OrderLemmas.{halved_low}
use Rattle.cdcl.proofs.order.add_one.Goals as goal

pub returns : goal.returns
returns c =
    let was : List ℕ = c.args.activity.now.items in
    let at : c.index.result.now ≡ get_or was c.args.v 0 = c.index.ensures ∙ get_or_default was c.args.v c.index.result.now 0 c.requires.v in
    let is : c.halve.new.activity.items ≡ map (λ x. x / 2) (risen was c.args.v) = c.halve.ensures ∙ ap (λ (n : ℕ). map (λ x. x / 2) (set was c.args.v (n + 1))) at in
    record {
      activity = rw (le-ltb (get_or was c.args.v 0 + 1) 4611686018427387904 (omega (arith, c.if-more-lt-MOST.false, at))) is;
      low = subst (λ (xs : List ℕ). All (λ x. x < 4611686018427387904) xs) (sym is) (halved_low was c.args.v c.requires.v c.requires.low);
      risen = λ no. absurd (cc);
    }
