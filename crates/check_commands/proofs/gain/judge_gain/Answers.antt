use Rattle.std.proofs.Common.{◌∙◌, ap, sym, subst, ℕ, List, Option}
use Rattle.std.specs.Prelude.{IfSome, option_map}
use Rattle.vocab.specs.Size.{Extent}
use Rattle.vocab.specs.Study.{Question}
use Rattle.report_files.specs.Files.{IsWorthOf}
use Rattle.answers.specs.Gain.{rule_gain_text}
use Rattle.check_commands.proofs.CheckLemmas.{worth_low}
use Rattle.check_commands.proofs.GainLemmas.{confirmed_file, refused_file, rules_told}
use Rattle.check_commands.proofs.gain.judge_gain.Goals as goal

pub returns-in-Confirmed-clause-said : goal.returns-in-Confirmed-clause-said
returns-in-Confirmed-clause-said g c =
    let told = g.S.Shelf.files c.args.shelf.now in
    let study = c.args.topic.now.study.now in
    let report = c.args.report.now in
    let worth = c.in_ok-worth.worth in
    let claim = c.in-Confirmed.field-0 in
    let rule : Option (List ℕ) = option_map (λ table. table.now) c.table.result in
    confirmed_file study told report worth claim c.said_of_rule.result rule c.in-Confirmed.is
    (subst (λ (q : Question). IfSome told (λ files. IsWorthOf q files report worth)) c.in_ok-reader.ensures.study c.in_ok-worth.ensures.worth)
    (rules_told told c.worth_of.new.reader study report worth claim rule c.in-Confirmed.is (c.worth_of.ensures.study ∙ c.in_ok-reader.ensures.study)
    c.in_ok-worth.ensures.whole c.table.ensures.value)
    c.said_of_rule.ensures.run
    (c.said_of_rule.ensures.text ∙ ap (λ (s : Extent). rule_gain_text s rule) (sym c.args.topic.now.same))

pub returns : goal.returns
returns g c =
    let told = g.S.Shelf.files c.args.shelf.now in
    let report = c.args.report.now in
    let worth = c.in_ok-worth.worth in
    record {
      said = refused_file c.args.topic.now.study.now told report worth c.in_default.not-Confirmed
          (subst (λ (q : Question). IfSome told (λ files. IsWorthOf q files report worth)) c.in_ok-reader.ensures.study c.in_ok-worth.ensures.worth);
      status = worth_low worth;
      has_text = tt;
      fault = λ e. absurd (cc);
      others = c.in_ok-worth.ensures.others;
    }
