use Rattle.std.proofs.Common.{◌<◌, ◌^◌, ◌-◌, Ok, sym, ap, ◌∙◌, arith}
use Rattle.std.proofs.lemmas.Nat.{one_shl, pow_pos}
use Rattle.meaning.proofs.SpaceLaws.{factorial_small}
use Rattle.study.proofs.ballots.ballots_in.Goals as goal

pub overflow_shl-result : goal.overflow_shl-result
overflow_shl-result c = omega (arith, factorial_small c.args.alternatives.number c.args.alternatives.few, c.ranking_count.ensures)

pub overflow_sub-result : goal.overflow_sub-result
overflow_sub-result c =
    let within : c.ranking_count.result < 128 = omega (arith, factorial_small c.args.alternatives.number c.args.alternatives.few, c.ranking_count.ensures) in
    omega (arith, one_shl c.ranking_count.result 128 within, pow_pos c.ranking_count.result)

pub returns-in-None : goal.returns-in-None
returns-in-None c =
    let within : c.ranking_count.result < 128 = omega (arith, factorial_small c.args.alternatives.number c.args.alternatives.few, c.ranking_count.ensures) in
    rw c.in-None.is (sym (ap (λ n. Ok (n - 1)) (one_shl c.ranking_count.result 128 within ∙ ap (λ k. 2 ^ k) c.ranking_count.ensures)))
