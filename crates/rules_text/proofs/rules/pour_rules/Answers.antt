use Rattle.std.proofs.Common.{◌≡◌, sym, ap, ap₂, ℕ, List, ◌++◌, length}
use Rattle.std.specs.Prelude.{codes}
use Rattle.vocab.specs.Size.{Extent}
use Rattle.verdicts.specs.Report.{own_version}
use Rattle.report_text.specs.Pieces.{about_lines, lines_text}
use Rattle.texts.specs.Spelled.{spelled}
use Rattle.texts.proofs.PourLemmas.{renamed}
use Rattle.rules_text.specs.RulesText.{ending_text, rule_text}
use Rattle.rules_text.proofs.rules.pour_rules.Goals as goal

pub returns : goal.returns
returns g c =
    let study = c.args.setting.now.study.now in
    let front : List ℕ = codes "bench rules 1\n" ++ lines_text study (about_lines study (own_version study)) in
    let count : length c.as_slice-2.result.now ≡ length c.args.list.now.tables = ap length c.as_slice-2.ensures in
    let tables : spelled (rule_text (g.K.OutcomeKind.size c.args.setting.now.kind.now)) 1 c.as_slice.result.now ≡ spelled (rule_text study.size) 1 c.args.list.now.tables =
    ap₂ (λ (e : Extent) (ts : List (List ℕ)). spelled (rule_text e) 1 ts) (sym c.args.setting.now.same) c.as_slice.ensures in
    let end : ending_text c.args.list.now.ending (length c.as_slice-2.result.now) ++ codes "end\n" ≡ ending_text c.args.list.now.ending (length c.args.list.now.tables) ++ codes "end\n" =
    ap (λ (n : ℕ). ending_text c.args.list.now.ending n ++ codes "end\n") count in
    renamed _ _ _ _ _ _ c.pour.result _ _ (ap₂ (λ (a b : List ℕ). front ++ (a ++ b)) tables end) c.pour.ensures
