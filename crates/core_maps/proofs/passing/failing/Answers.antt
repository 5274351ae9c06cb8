use Rattle.std.proofs.Common.{◌≡◌, sym, ◌∙◌, ap, ℕ, ◌<◌, Bool, not, ◌&&◌, List, [], length, arith, Some}
use Rattle.std.specs.Prelude.{slice_index_or}
use Rattle.cnf.specs.Assignment.{value_of}
use Rattle.cnf.specs.Sat.{Clause}
use Rattle.clause_form.specs.Cited.{is_of_axiom}
use Rattle.clause_form.specs.Sources.{clauses_in}
use Rattle.core_reduce.proofs.PartLaws.{count_of}
use Rattle.core_maps.proofs.PassLaws.{now_false, still_true}
use Rattle.core_maps.proofs.passing.failing.Goals as goal
use Rattle.core_maps.proofs.passing.failing.Goals.{then-not-is_true, else-not-is_true}

pub loop-k-preserved : goal.loop-k-preserved
loop-k-preserved c =
    let v : ℕ → Bool = value_of c.args.bits.now in
    let n : c.len-k-end.result ≡ length c.args.ground.now = count_of c.args.ground.now c.clauses-list.result.now.clauses c.len-k-end.result c.clauses-list.ensures.clauses c.len-k-end.ensures.value in
    let lt : c.loop-k.k < length c.args.ground.now = omega (arith, n) in
    let same : slice_index_or (clauses_in c.args.ground.now) c.loop-k.k [] ≡ c.get.result.now = ap (λ (cs : List Clause). slice_index_or cs c.loop-k.k []) c.clauses-list.ensures.clauses ∙ sym c.get.ensures in
    let count = c.loop-k.invariant.count in
    elim c.if-not-is_true.branch [
      | then-not-is_true w ↦ rw w.gone-is record {
        count = w.leave_out.ensures.count ∙ count;
        kept = λ a in_a.
            w.leave_out.ensures.flags a (omega (arith, in_a, count))
            ∙ ap (λ (b : Bool). b && not (is_of_axiom a (Some w.origin.result))) (c.loop-k.invariant.kept a in_a)
            ∙ sym (now_false v c.args.ground.now c.loop-k.k lt c.get.result.now same a (sym c.is_true.ensures ∙ w.if-not-is_true.true) w.origin.result w.origin.ensures);
      }
      | else-not-is_true w ↦ rw w.gone-is record {
        count = count;
        kept = λ a in_a. c.loop-k.invariant.kept a in_a ∙ sym (still_true v c.args.ground.now c.loop-k.k lt c.get.result.now same a (sym c.is_true.ensures ∙ w.if-not-is_true.false));
      }
    ]
