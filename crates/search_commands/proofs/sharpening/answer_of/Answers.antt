use Rattle.std.proofs.Common.{refl}
use Rattle.verdicts.specs.declared.verdicts.Verdict.TheVariants.{Possible, Undecided}
use Rattle.search_commands.proofs.DecideLemmas.{reported_text}
use Rattle.search_commands.proofs.SharpenLemmas.{decided_row}
use Rattle.search_commands.proofs.sharpening.answer_of.Goals as goal

pub returns-in-Possible : goal.returns-in-Possible
returns-in-Possible g c =
    let right = rw c.in-Possible.is at c.requires.decision.finding in
    record {
      row = decided_row c.args.whole.study c.args.decision.logs (Possible c.in-Possible.table) c.requires.total (right, tt) c.requires.decision.logs refl;
      has_text = reported_text c.args.whole.study c.args.decision.logs (Possible c.in-Possible.table) c.args.whole.reportable (right, tt);
    }

pub returns-in-Undecided : goal.returns-in-Undecided
returns-in-Undecided g c =
    let spent = rw c.in-Undecided.is at c.requires.decision.finding in
    record {
      row = decided_row c.args.whole.study c.args.decision.logs Undecided c.requires.total spent c.requires.decision.logs refl;
      has_text = reported_text c.args.whole.study c.args.decision.logs Undecided c.args.whole.reportable spent;
    }
