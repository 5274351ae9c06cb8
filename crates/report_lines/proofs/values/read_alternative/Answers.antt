use Rattle.std.proofs.Common.{Some, ◌∙◌, arith, ap, ◌∷◌, []}
use Rattle.report_lines.proofs.ValueLemmas.{one_byte, alternative_none_of, alternative_long, alternative_found}
use Rattle.report_lines.proofs.values.read_alternative.Goals as goal

pub returns-then-word-ne1 : goal.returns-then-word-ne1
returns-then-word-ne1 c = alternative_long c.args.space.now c.spaces_have_sizes.ensures c.args.word.now (omega arith)

pub returns-in-Some : goal.returns-in-Some
returns-in-Some c = ap Some c.from.ensures ∙ alternative_found c.args.space.now c.spaces_have_sizes.ensures c.args.word.now c.in-Some.alternative c.in-Some.ensures.0 (one_byte c.args.word.now (omega arith) ∙ ap (λ b. b ∷ []) c.in-Some.ensures.1)

pub returns-in-None : goal.returns-in-None
returns-in-None c = alternative_none_of c.args.space.now c.spaces_have_sizes.ensures c.args.word.now (omega arith) c.in-None.ensures
