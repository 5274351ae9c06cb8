use Rattle.std.proofs.Common.{◌∙◌, sym}
use Rattle.verdicts.specs.Texts.{words_of}
use Rattle.report_lines.specs.declared.places.Place.TheVariants as held
use Rattle.report_lines.proofs.PlaceLemmas.{at_place}
use Rattle.report_lines.proofs.reading.read_at.Goals as goal

pub returns-in-AtTitle : goal.returns-in-AtTitle
returns-in-AtTitle g c = at_place c.args.study.now c.args.place held.AtTitle c.args.number (words_of c.args.text.now) c.read_title.result c.in-AtTitle.is (c.read_title.ensures c.args.study.now c.args.number)

pub returns-in-AtKind : goal.returns-in-AtKind
returns-in-AtKind g c = at_place c.args.study.now c.args.place held.AtKind c.args.number (words_of c.args.text.now) c.read_kind.result c.in-AtKind.is (c.read_kind.ensures c.args.study.now c.args.number)

pub returns-in-AtVoters : goal.returns-in-AtVoters
returns-in-AtVoters g c = at_place c.args.study.now c.args.place held.AtVoters c.args.number (words_of c.args.text.now) c.read_voters.result c.in-AtVoters.is (c.read_voters.ensures c.args.study.now c.args.number)

pub returns-in-AtAlternatives : goal.returns-in-AtAlternatives
returns-in-AtAlternatives g c = at_place c.args.study.now c.args.place held.AtAlternatives c.args.number (words_of c.args.text.now) c.read_alternatives.result c.in-AtAlternatives.is (c.read_alternatives.ensures c.args.study.now c.args.number)

pub returns-in-AtBallots : goal.returns-in-AtBallots
returns-in-AtBallots g c = at_place c.args.study.now c.args.place held.AtBallots c.args.number (words_of c.args.text.now) c.read_ballots.result c.in-AtBallots.is (c.read_ballots.ensures c.args.study.now c.args.number (c.requires ∙ sym c.space-space.ensures))

pub returns-in-AtAbsent : goal.returns-in-AtAbsent
returns-in-AtAbsent g c = at_place c.args.study.now c.args.place held.AtAbsent c.args.number (words_of c.args.text.now) c.read_absent.result c.in-AtAbsent.is (c.read_absent.ensures c.args.study.now c.args.number)

pub returns-in-AtAxioms : goal.returns-in-AtAxioms
returns-in-AtAxioms g c = at_place c.args.study.now c.args.place held.AtAxioms c.args.number (words_of c.args.text.now) c.read_axioms.result c.in-AtAxioms.is (c.read_axioms.ensures c.args.number)

pub returns-in-AtVerdict : goal.returns-in-AtVerdict
returns-in-AtVerdict g c = at_place c.args.study.now c.args.place held.AtVerdict c.args.number (words_of c.args.text.now) c.read_verdict.result c.in-AtVerdict.is (c.read_verdict.ensures c.args.study.now c.args.number)

pub returns-in-AtLimit : goal.returns-in-AtLimit
returns-in-AtLimit g c = at_place c.args.study.now c.args.place held.AtLimit c.args.number (words_of c.args.text.now) c.read_limit.result c.in-AtLimit.is (c.read_limit.ensures c.args.study.now c.args.number)

pub returns-in-AtRule : goal.returns-in-AtRule
returns-in-AtRule g c = at_place c.args.study.now c.args.place held.AtRule c.args.number (words_of c.args.text.now) c.read_rule.result c.in-AtRule.is (c.read_rule.ensures c.args.study.now c.args.number)

pub returns-in-AtRow : goal.returns-in-AtRow
returns-in-AtRow g c = at_place c.args.study.now c.args.place held.AtRow c.args.number (words_of c.args.text.now) c.read_row.result c.in-AtRow.is (c.read_row.ensures c.args.study.now c.args.number c.requires)

pub returns-in-AtCore : goal.returns-in-AtCore
returns-in-AtCore g c = at_place c.args.study.now c.args.place held.AtCore c.args.number (words_of c.args.text.now) c.read_core_line.result c.in-AtCore.is (c.read_core_line.ensures c.args.study.now c.args.number)

pub returns-in-AtLemmas : goal.returns-in-AtLemmas
returns-in-AtLemmas g c = at_place c.args.study.now c.args.place held.AtLemmas c.args.number (words_of c.args.text.now) c.read_lemmas.result c.in-AtLemmas.is (c.read_lemmas.ensures c.args.study.now c.args.number)

pub returns-in-AtLemma : goal.returns-in-AtLemma
returns-in-AtLemma g c = at_place c.args.study.now c.args.place held.AtLemma c.args.number (words_of c.args.text.now) c.read_heading.result c.in-AtLemma.is (c.read_heading.ensures c.args.study.now)

pub returns-in-AtSuppose : goal.returns-in-AtSuppose
returns-in-AtSuppose g c = at_place c.args.study.now c.args.place held.AtSuppose c.args.number (words_of c.args.text.now) c.read_suppose_or_step.result c.in-AtSuppose.is (c.read_suppose_or_step.ensures c.args.number)

pub returns-in-AtStep : goal.returns-in-AtStep
returns-in-AtStep g c = at_place c.args.study.now c.args.place held.AtStep c.args.number (words_of c.args.text.now) c.read_step.result c.in-AtStep.is (c.read_step.ensures c.args.number)

pub returns-in-AtWitness : goal.returns-in-AtWitness
returns-in-AtWitness g c = at_place c.args.study.now c.args.place held.AtWitness c.args.number (words_of c.args.text.now) c.read_witness.result c.in-AtWitness.is (c.read_witness.ensures c.args.study.now c.args.number)

pub returns-in-AtWitnessRow : goal.returns-in-AtWitnessRow
returns-in-AtWitnessRow g c = at_place c.args.study.now c.args.place held.AtWitnessRow c.args.number (words_of c.args.text.now) c.read_row-in-AtWitnessRow.result c.in-AtWitnessRow.is (c.read_row-in-AtWitnessRow.ensures c.args.study.now c.args.number c.requires)

pub returns-in-AtEnd : goal.returns-in-AtEnd
returns-in-AtEnd g c = at_place c.args.study.now c.args.place (held.AtEnd c.in-AtEnd.field-0) c.args.number (words_of c.args.text.now) c.read_end.result c.in-AtEnd.is (c.read_end.ensures c.args.study.now c.args.number c.in-AtEnd.field-0)
