use Rattle.std.proofs.Common.{◌≡◌, ◌+◌, ◌-◌, ◌*◌, ◌^◌, ◌<◌, ◌∙◌, sym, ap, min, take, length, get_or, arith}
use Rattle.std.proofs.lemmas.List.{take_more}
use Rattle.verdicts.specs.Numbers.{value_after, saturated}
use Rattle.verdicts.proofs.NumberLaws.{saturated_more}
use Rattle.verdicts.proofs.numbers.value.Goals as goal

pub loop-digit-preserved : goal.loop-digit-preserved
loop-digit-preserved c =
    let word = c.args.word.now in
    let i = c.loop-digit.digit-index in
    let digit = get_or word i 0 in
    let before : c.loop-digit.value ≡ saturated (value_after 0 (take i word)) = c.loop-digit.invariant in
    let within : i < length word = omega arith in
    let sum : c.saturating_add-value.result ≡ min (c.saturating_mul.result + (digit - 48)) (2 ^ 64 - 1) = c.saturating_add-value.ensures ∙ ap (λ k. min (c.saturating_mul.result + k) (2 ^ 64 - 1)) (c.from.ensures ∙ c.saturating_sub.ensures) in
    sum
    ∙ ap (λ k. min (k + (digit - 48)) (2 ^ 64 - 1)) (c.saturating_mul.ensures ∙ ap (λ k. min (k * 10) (2 ^ 64 - 1)) before)
    ∙ saturated_more (take i word) digit
    ∙ ap (λ t. saturated (value_after 0 t)) (sym (take_more word i 0 within))
