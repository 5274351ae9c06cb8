use Rattle.std.proofs.Common.{arith, ap, sym, subst, ◌∙◌, ◌≡◌, ◌-◌, ◌<◌, ◌≤◌, ℕ, true, false, List, length, get_or, take}
use Rattle.std.specs.Prelude.{All, Bool}
use Rattle.std.proofs.lemmas.List.{get_or-set_same, length-set, take_all}
use Rattle.std.proofs.lemmas.List.Elements.{All-more, All-weaker}
use Rattle.cnf.specs.Signed.{Signed}
use Rattle.cdcl.specs.Analysis.{is_marked_variable}
use Rattle.cdcl.proofs.Roots.{set_more}
use Rattle.cdcl.proofs.analysis.mark_all.Goals as goal

pub loop-lit-preserved : goal.loop-lit-preserved
loop-lit-preserved c =
    let l : Signed = c.lit-item.result in
    let old : List Bool = c.loop-lit.seen in
    let new : List Bool = c.mark.new.self in
    let i : ℕ = c.variable.result - 1 in
    let here : c.loop-lit.lit-index < length c.args.clause.now = omega arith in
    let most : l.variable ≤ length c.args.seen.now = subst (λ (x : Signed). x.variable ≤ length c.args.seen.now) (sym c.lit-item.is) (c.requires c.loop-lit.lit-index l here).up_to in
    let within : i < length old = omega (arith, most, c.loop-lit.invariant.variables, c.variable.ensures.value, c.variable.ensures.low) in
    let more : (j : ℕ) → get_or old j false ≡ true → get_or new j false ≡ true = λ j e. rw c.mark.ensures (set_more old i j within e) in
    let at : l.variable - 1 ≡ i = omega (arith, c.variable.ensures.value) in
    let marked : is_marked_variable new l.variable ≡ true = rw (at, c.mark.ensures) (get_or-set_same old i true false within) in
    record {
      variables = ap (λ (bs : List Bool). length bs) c.mark.ensures ∙ length-set old i true ∙ c.loop-lit.invariant.variables;
      more = λ j e. more j (c.loop-lit.invariant.more j e);
      marked = All-more (λ (n : Signed). is_marked_variable new n.variable ≡ true) c.args.clause.now c.loop-lit.lit-index l here
          (All-weaker (λ (n : Signed). is_marked_variable old n.variable ≡ true) (λ (n : Signed). is_marked_variable new n.variable ≡ true) (λ n e. more (n.variable - 1) e) (take c.loop-lit.lit-index c.args.clause.now) c.loop-lit.invariant.marked)
          (subst (λ (x : Signed). is_marked_variable new x.variable ≡ true) c.lit-item.is marked);
    }

pub returns-clause-marked : goal.returns-clause-marked
returns-clause-marked c =
    subst (λ (ls : List Signed). All (λ (n : Signed). is_marked_variable c.loop-lit.seen n.variable ≡ true) ls) (take_all c.loop-lit.lit-index c.args.clause.now (omega arith)) c.loop-lit.invariant.marked
