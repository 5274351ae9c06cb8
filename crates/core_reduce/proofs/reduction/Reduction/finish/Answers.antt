use Rattle.std.proofs.Common.{◌≡◌, true, List, ap, sym, subst}
use Rattle.std.proofs.lemmas.Bool.{and_from}
use Rattle.cnf.specs.Derived.{IsAccepted}
use Rattle.cnf.specs.Sat.{Clause}
use Rattle.cnf.specs.Trimmed.{is_trimmed}
use Rattle.cnf.proofs.TrimmedLaws.{trimmed_accepted}
use Rattle.meaning.specs.declared.cores.Witness.{Witness}
use Rattle.meaning.specs.StudyClauses.{clauses_for}
use Rattle.meaning.specs.Cores.{is_core_right}
use Rattle.clause_form.specs.Sources.{clauses_in}
use Rattle.search_logs.specs.Spent.{HaveEvidence}
use Rattle.core_reduce.proofs.FinishLaws.{marked_right, marked_evidence, no_rule_satisfies}
use Rattle.core_reduce.proofs.reduction.Reduction.finish.Goals as goal

pub returns-clause-refutation : goal.returns-clause-refutation
returns-clause-refutation c =
    let s = c.args.study.now in
    let r = c.args.self in
    let h = c.requires.reducing in
    let cs : List Clause = clauses_for s.size s.axioms r.core in
    let trimmed : is_trimmed cs r.proof ≡ true = subst (λ (xs : List Clause). is_trimmed xs r.proof ≡ true) (ap clauses_in h.clauses) h.trimmed in
    let accepted : IsAccepted cs r.proof = trimmed_accepted cs r.proof trimmed in
    record {
      core = subst (λ (ws : List Witness). is_core_right s.size s.axioms s.conflicts r.core ws ≡ true) (sym c.in_ok-list.ensures) (and_from _ _ h.core (marked_right s r.logs r.core r.core r.witnesses.items h.marked c.requires.whole));
      clauses = h.clauses;
      trimmed = trimmed;
      accepted = accepted;
      over = h.over;
      few = h.few;
      no_rule = no_rule_satisfies s.size s.axioms c.axioms-axioms.ensures.study.sentences r.core h.core r.proof accepted;
      logged = subst (HaveEvidence s r.logs r.core r.core) (sym c.in_ok-list.ensures) (marked_evidence s r.logs r.core r.core r.witnesses.items h.marked);
    }
