use Rattle.std.proofs.Common.{◌≡◌, cond, refl, ◌∙◌, ◌<◌, ◌+◌, ◌-◌, ◌/◌, ◌++◌, ap, length, drop, replicate, set, arith, ◌≤◌}
use Rattle.std.proofs.lemmas.List.{take_all}
use Rattle.vocab.specs.Range.{product}
use Rattle.meaning.specs.Space.{cast_bases}
use Rattle.meaning.proofs.SpaceLaws.{cast_positive}
use Rattle.meaning.proofs.DigitLaws.{lists_are}
use Rattle.profiles.specs.Weights.{place_values}
use Rattle.profiles.proofs.DigitChanges.{byte_of}
use Rattle.profiles.proofs.DigitPlaces.{some_list, next_weight, filled_weights, length-place_values, length-bases}
use Rattle.profiles.proofs.space.weights_of.Goals as goal

pub loop-i-init : goal.loop-i-init
loop-i-init c = record { weight = lists_are c.args.size c.sort_len.result c.from.result (some_list c.args.size c.requires) c.sort_len.ensures (c.from.ensures ∙ byte_of c.absent.result ∙ ap (λ b. cond b 1 0) c.absent.ensures); weights = refl }

pub nonzero_div-weight : goal.nonzero_div-weight
nonzero_div-weight c = rw c.cast_count_of-casts.ensures.value (cast_positive c.args.size c.requires)

pub loop-i-preserved : goal.loop-i-preserved
loop-i-preserved c =
    let inner : c.loop-i.i < c.args.size.voters = omega arith in
    let next : c.loop-i.weight / c.cast_count_of-casts.result ≡ product (drop (c.loop-i.i + 1) (cast_bases c.args.size)) = ap (λ b. c.loop-i.weight / b) c.cast_count_of-casts.ensures.value ∙ next_weight c.args.size c.loop-i.i c.loop-i.weight c.requires inner c.loop-i.invariant.weight in
    record {
      weight = next;
      weights = ap (λ ws. set ws c.loop-i.i (c.loop-i.weight / c.cast_count_of-casts.result)) c.loop-i.invariant.weights ∙ filled_weights c.args.size c.loop-i.i _ c.requires inner next;
    }

pub returns : goal.returns
returns c =
    let values = place_values (cast_bases c.args.size) in
    let whole : c.loop-i.i ≡ length values = omega (arith, length-place_values (cast_bases c.args.size), length-bases c.args.size) in
    let short : length values ≤ c.loop-i.i = omega arith in
    c.loop-i.invariant.weights ∙ ap (λ xs. xs ++ replicate (8 - c.loop-i.i) 0) (take_all c.loop-i.i values short) ∙ ap (λ k. values ++ replicate (8 - k) 0) whole
