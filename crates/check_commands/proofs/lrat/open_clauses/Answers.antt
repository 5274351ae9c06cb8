use Rattle.std.proofs.Common.{rules, refl}
use Rattle.clause_text.specs.ReadDimacs.{read_dimacs}
use Rattle.check_commands.proofs.LratLemmas.{cnf_refused, refuses_cnf}
use Rattle.check_commands.proofs.lrat.open_clauses.Goals as goal

pub returns : goal.returns
returns g c = record {
  given = record {
    bare = record { ends = refl; no_verdict = refl; no_logs = refl; no_sharp = refl };
    has_text = tt;
    line = refuses_cnf (g.S.Shelf.files c.args.shelf.now) c.args.name.now c.in-Ok.bytes _ c.in-Err.fault c.in-Ok.ensures.bytes c.in-Ok.ensures.within
        (rw c.as_slice.ensures at (cnf_refused c.in-Err.fault (read_dimacs c.as_slice.result.now) (λ e. search rules) c.in-Err.ensures.err)) refl;
  };
  fault = λ e. absurd (cc);
  same = c.read_all.ensures.same;
  others = c.read_all.ensures.others;
  none_fell = c.read_all.ensures.none_fell;
}
