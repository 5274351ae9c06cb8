use Rattle.std.proofs.Common.{length, ap, ◌∙◌, sym, subst, arith, length-append}
use Rattle.core_reduce.specs.Reducing.{AreMarked}
use Rattle.core_reduce.proofs.CoreLaws.{marked_push}
use Rattle.core_reduce.proofs.reduction.with_rule.Goals as goal

pub returns : goal.returns
returns c =
    let r = c.args.reduction in
    let h = c.requires.reducing in
    let items = c.in_ok-push.ensures.items in
    let long = ap length items ∙ length-append r.witnesses.items _ in
    record {
      reducing = record {
        core = h.core;
        clauses = h.clauses;
        trimmed = h.trimmed;
        over = h.over;
        few = h.few;
        marked = subst (AreMarked c.args.study.now r.logs r.core r.core) (sym items) (marked_push c.args.study.now r.logs r.core r.core r.witnesses.items _ h.marked c.requires.open record { witness = c.requires.table; evidence = tt });
        logs = h.logs;
      };
      part = λ test t. t;
      fewer = omega (arith, long, c.requires.open);
    }
