use Rattle.std.proofs.Common.{rules, refl}
use Rattle.command_parts.proofs.OpenLemmas.{refuses_bytes, reportable, listed}
use Rattle.command_parts.proofs.studies.open_study.Goals as goal

pub invariant_of-result : goal.invariant_of-result
invariant_of-result g c = record {
  reportable = reportable _ c.in-Ok-read_study.study c.in-Ok-read_study.ensures.ok;
  listed = listed _ c.in-Ok-read_study.study c.in-Ok-read_study.ensures.ok;
}

pub returns-clause-opened : goal.returns-clause-opened
returns-clause-opened g c = record {
  bare = record { ends = refl; no_verdict = refl; no_logs = refl; no_sharp = refl };
  has_text = tt;
  line = refuses_bytes (g.S.Shelf.files c.args.shelf.now) c.args.name.now c.in-Ok.bytes _ c.in-Err.fault c.in-Ok.ensures.bytes c.in-Ok.ensures.within
      (rw c.as_slice.ensures at (c.in-Err.ensures.refused (λ e. search rules))) refl;
}
