use Rattle.std.proofs.Common.{arith, length, ◌≡◌, ◌<◌, ◌≤◌, ◌∙◌, ◌+◌, ◌∷◌, ◌++◌, [], false, ap, sym, subst, ℕ}
use Rattle.propagate.specs.TrailState.{TrailState, IsTrail}
use Rattle.propagate.proofs.TrailLemmas.{forced}
use Rattle.propagate.proofs.Visits.{ForcingUnwatched, ForcingUnwatched-start, ForcingUnwatched-watched, ForcingUnwatched-rest, ForcingUnwatched-forced}
use Rattle.propagate.proofs.visiting.force_unwatched.Goals as goal
use Rattle.propagate.proofs.visiting.force_unwatched.Goals.{then-owner-eq0+in-LastLeft, then-owner-eq0+in-AtRest, else-owner-eq0}

pub loop-k-init : goal.loop-k-init
loop-k-init c = record { state = ForcingUnwatched-start c.args.assignment.now c.args.watchers.now c.args.visited c.args.from c.requires.watching; end = c.clause_count-k-end.ensures }

pub loop-k-preserved : goal.loop-k-preserved
loop-k-preserved c =
    let t : TrailState = c.loop-k.assignment in
    let k : ℕ = c.loop-k.k in
    let within : k < length t.clauses = omega (arith, c.loop-k.invariant.end) in
    let low : c.args.from ≤ k = omega (arith, c.loop-k.auto.k) in
    let h : ForcingUnwatched c.args.assignment.now t c.args.watchers.now c.args.visited c.args.from k = c.loop-k.invariant.state in
    elim c.if-owner-eq0.branch [
      | then-owner-eq0+in-LastLeft w ↦
          let next : TrailState = record t { entries = t.entries ++ forced t w.in-LastLeft.lit k ∷ []; propagated = false } in
          let is : c.if-owner-eq0.assignment ≡ next = w.assignment-is ∙ w.force.ensures.state in
          record {
            state = subst (λ (x : TrailState). ForcingUnwatched c.args.assignment.now x c.args.watchers.now c.args.visited c.args.from (k + 1)) (sym is)
                (ForcingUnwatched-forced c.args.assignment.now t c.args.watchers.now c.args.visited c.args.from k h within low (sym c.owner.ensures ∙ w.if-owner-eq0.true) w.in-LastLeft.lit w.in-LastLeft.ensures (subst IsTrail w.force.ensures.state w.force.ensures.form));
            end = c.loop-k.invariant.end ∙ sym (ap (λ (x : TrailState). length x.clauses) is);
          }
      | then-owner-eq0+in-AtRest w ↦ record {
        state = subst (λ (x : TrailState). ForcingUnwatched c.args.assignment.now x c.args.watchers.now c.args.visited c.args.from (k + 1)) (sym w.assignment-is)
            (ForcingUnwatched-rest c.args.assignment.now t c.args.watchers.now c.args.visited c.args.from k h within low (sym c.owner.ensures ∙ w.if-owner-eq0.true) w.in-AtRest.ensures);
        end = c.loop-k.invariant.end ∙ sym (ap (λ (x : TrailState). length x.clauses) w.assignment-is);
      }
      | else-owner-eq0 w ↦ record {
        state = subst (λ (x : TrailState). ForcingUnwatched c.args.assignment.now x c.args.watchers.now c.args.visited c.args.from (k + 1)) (sym w.assignment-is)
            (ForcingUnwatched-watched c.args.assignment.now t c.args.watchers.now c.args.visited c.args.from k h within (λ e. w.if-owner-eq0.false (c.owner.ensures ∙ e)));
        end = c.loop-k.invariant.end ∙ sym (ap (λ (x : TrailState). length x.clauses) w.assignment-is);
      }
    ]
