use Rattle.std.proofs.Common.{◌≡◌, ◌∙◌, ap, Bool, cond, arith}
use Rattle.clause_form.specs.Sources.{origins_in}
use Rattle.study_text.specs.Shares.{is_from}
use Rattle.study_text.proofs.CountLemmas.{byte_is, count_more, once}
use Rattle.study_text.proofs.kept.kept_of.Goals as goal

pub loop-k-preserved : goal.loop-k-preserved
loop-k-preserved c =
    let bit : c.from-kept.result ≡ cond (is_from c.args.place c.origin.result) 1 0 = c.from-kept.ensures ∙ byte_is c.is_from.result ∙ ap (λ (b : Bool). cond b 1 0) c.is_from.ensures in
    let few = once (is_from c.args.place c.origin.result) in (
      rw bit (count_more c.args.place (origins_in c.args.ground.now) c.loop-k.k c.loop-k.kept c.origin.result c.origin.ensures c.loop-k.invariant.0),
      omega (arith, bit, few, c.loop-k.invariant.1),
    )
