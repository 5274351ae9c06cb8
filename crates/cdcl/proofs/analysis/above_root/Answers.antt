use Rattle.std.proofs.Common.{arith, ap, sym, subst, ◌∙◌, ◌≡◌, ◌-◌, ◌<◌, ℕ, true, false, List, length, get_or, ◌∷◌, []}
use Rattle.std.specs.Prelude.{Bool}
use Rattle.std.proofs.lemmas.List.{get_or-set_same, length-set, take_all}
use Rattle.std.proofs.lemmas.List.Elements.{All-more, All-push}
use Rattle.cnf.specs.Signed.{Signed}
use Rattle.propagate.specs.Values.{AllFail, FailsIn}
use Rattle.propagate.specs.TrailState.{TrailState}
use Rattle.cdcl.specs.Analysis.{IsBelow}
use Rattle.cdcl.proofs.Tracing.{All-append_left, All-at_end}
use Rattle.cdcl.proofs.Roots.{set_more, RootHolds-more, fails_at_root, below_within}
use Rattle.cdcl.proofs.analysis.above_root.Goals as goal
use Rattle.cdcl.proofs.analysis.above_root.Goals.{then-is_at_root, else-is_at_root+in_ok-push}

pub mark-requires : goal.mark-requires
mark-requires c =
    let here : c.loop-lit.lit-index < length c.args.lower.now = omega arith in
    let below : IsBelow c.args.trail.now c.lit-item.result = subst (λ (x : Signed). IsBelow c.args.trail.now x) (sym c.lit-item.is) (c.requires.below c.loop-lit.lit-index c.lit-item.result here) in
    omega (arith, below_within c.args.trail.now c.lit-item.result c.requires.marks.form below, c.loop-lit.invariant.variables, c.variable-then-is_at_root.ensures.value, c.variable-then-is_at_root.ensures.low)

pub loop-lit-preserved : goal.loop-lit-preserved
loop-lit-preserved c =
    let t : TrailState = c.args.trail.now in
    let l : Signed = c.lit-item.result in
    let here : c.loop-lit.lit-index < length c.args.lower.now = omega arith in
    let below : IsBelow t l = subst (λ (x : Signed). IsBelow t x) (sym c.lit-item.is) (c.requires.below c.loop-lit.lit-index l here) in
    elim c.if-is_at_root.branch [
      | then-is_at_root w ↦
          let old : List Bool = c.loop-lit.seen in
          let new : List Bool = w.mark.new.self in
          let i : ℕ = w.variable-then-is_at_root.result - 1 in
          let within : i < length old = omega (arith, below_within t l c.requires.marks.form below, c.loop-lit.invariant.variables, w.variable-then-is_at_root.ensures.value, w.variable-then-is_at_root.ensures.low) in
          let more : (j : ℕ) → get_or old j false ≡ true → get_or new j false ≡ true = λ j e. rw w.mark.ensures (set_more old i j within e) in
          let at : l.variable - 1 ≡ i = omega (arith, w.variable-then-is_at_root.ensures.value) in
          let marked : get_or new (l.variable - 1) false ≡ true = rw (at, w.mark.ensures) (get_or-set_same old i true false within) in
          let root : below.by.level ≡ 0 = c.is_at_root.ensures.yes below.by (rw c.variable.ensures.value below.entry) w.if-is_at_root.true in
          record {
            variables = rw w.seen-is (ap (λ (bs : List Bool). length bs) w.mark.ensures ∙ length-set old i true ∙ c.loop-lit.invariant.variables);
            below = rw w.kept-is c.loop-lit.invariant.below;
            fails = rw (w.seen-is, w.kept-is) (λ k f r.
                All-more (FailsIn k) c.args.lower.now c.loop-lit.lit-index l here (c.loop-lit.invariant.fails k f (RootHolds-more k t (length t.entries) old new more r))
                (subst (λ (x : Signed). FailsIn k x) c.lit-item.is (fails_at_root k t new l below r root marked)));
          }
      | else-is_at_root+in_ok-push w ↦ record {
        variables = rw w.seen-is c.loop-lit.invariant.variables;
        below = rw (w.kept-is, w.in_ok-push.ensures.items) (All-push (IsBelow t) c.loop-lit.kept.items l c.loop-lit.invariant.below below);
        fails = rw (w.seen-is, w.kept-is, w.in_ok-push.ensures.items) (λ k f r.
            All-more (FailsIn k) c.args.lower.now c.loop-lit.lit-index l here (c.loop-lit.invariant.fails k (All-append_left (FailsIn k) c.loop-lit.kept.items (l ∷ []) f) r)
            (subst (λ (x : Signed). FailsIn k x) c.lit-item.is (All-at_end (FailsIn k) c.loop-lit.kept.items l f)));
      }
    ]

pub returns-clause-fails : goal.returns-clause-fails
returns-clause-fails c = λ k f r. subst (λ (ls : List Signed). AllFail k ls) (take_all c.loop-lit.lit-index c.args.lower.now (omega arith)) (c.loop-lit.invariant.fails k f r)
