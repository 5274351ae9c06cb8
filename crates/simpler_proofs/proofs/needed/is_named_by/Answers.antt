use Rattle.std.proofs.Common.{arith, subst, ◌≡◌, ℕ, get_or}
use Rattle.std.specs.List.{Contains}
use Rattle.std.proofs.lemmas.Option.{get_or_from_slice_get}
use Rattle.std.proofs.lemmas.List.Elements.{Contains-get_or}
use Rattle.simpler_proofs.proofs.needed.is_named_by.Goals as goal

pub returns-then-names : goal.returns-then-names
returns-then-names c = λ _.
    let id : ℕ = c.get-id.result.now in
    let at : get_or c.args.hints.now c.loop-k.k id ≡ id = get_or_from_slice_get c.args.hints.now c.loop-k.k id id c.get-id.ensures in
    let less = c.loop-k-test.true in
    let end = c.len-k-end.ensures in
    record {
      id = id;
      hint = subst (λ (x : ℕ). Contains c.args.hints.now x) at (Contains-get_or c.args.hints.now c.loop-k.k id (omega (arith, less, end)));
      literal = c.names.ensures c.if-names.true;
    }
