use Rattle.vocab.specs.Size.{Extent}
use Rattle.std.proofs.Common.{◌∙◌, inl, inr, arith, sym, ap}
use Rattle.report_lines.proofs.ValueLemmas.{voter_none, voter_out, voter_found}
use Rattle.report_lines.proofs.values.read_voter.Goals as goal

pub returns-in_default : goal.returns-in_default
returns-in_default c = voter_none c.args.space.now c.spaces_have_sizes.ensures c.args.word.now (sym c.in_default.is ∙ c.read_number.ensures)

pub returns-then-number-eq0 : goal.returns-then-number-eq0
returns-then-number-eq0 c = voter_out c.args.space.now c.spaces_have_sizes.ensures c.args.word.now c.in-Some.number c.in-Some.ensures (inl c.if-number-eq0.true)

pub returns-then-voters-number : goal.returns-then-voters-number
returns-then-voters-number c = voter_out c.args.space.now c.spaces_have_sizes.ensures c.args.word.now c.in-Some.number c.in-Some.ensures (inr (omega (arith, ap (λ (s : Extent). s.voters) c.size.ensures)))

pub returns : goal.returns
returns c = voter_found c.args.space.now c.spaces_have_sizes.ensures c.args.word.now c.in-Some.number c.in-Some.ensures (omega arith) (omega (arith, ap (λ (s : Extent). s.voters) c.size.ensures))
