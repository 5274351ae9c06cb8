use Rattle.std.proofs.Common.{arith, ◌≡◌, ◌∙◌, ap, sym, subst, ℕ, List, Bool, length}
use Rattle.std.proofs.lemmas.List.{length-map}
use Rattle.vocab.specs.Study.{Question}
use Rattle.cnf.specs.declared.derivations.Line.{Line}
use Rattle.meaning.specs.StudyClauses.{Sourced}
use Rattle.retell.specs.Cited.{HaveInstances}
use Rattle.retell.proofs.Sources.{study_sourced}
use Rattle.renumbering.specs.Renumbered.{AreFlags}
use Rattle.instance_cores.specs.Cores.{AreCodes}
use Rattle.instance_cores.proofs.CitingLaws.{cited_made}
use Rattle.instance_cores.proofs.citing.instances_cited.Goals as goal

pub codes_of-requires-clause-instances : goal.codes_of-requires-clause-instances
codes_of-requires-clause-instances g c =
    let study : Question = c.args.refuted.now.setting.now.study.now in
    subst (HaveInstances study.size study.axioms) (sym c.args.refuted.now.trimmed.clauses) (study_sourced study.size study.axioms c.args.refuted.now.refutation.now.core)

pub returns : goal.returns
returns g c =
    let study : Question = c.args.refuted.now.setting.now.study.now in
    let sources : List Sourced = c.args.refuted.now.refutation.now.clauses in
    let lines : List Line = c.args.refuted.now.refutation.now.proof in
    let have : HaveInstances study.size study.axioms sources = subst (HaveInstances study.size study.axioms) (sym c.args.refuted.now.trimmed.clauses) (study_sourced study.size study.axioms c.args.refuted.now.refutation.now.core) in
    let count : c.len-count.result ≡ length sources = c.len-count.ensures.value ∙ ap length (sym c.clauses.ensures.clauses) ∙ length-map sources (λ (s : Sourced). s.clause) in
    cited_made study c.axioms-axioms.ensures.study sources lines c.in_ok-flags.flags.items c.in_ok-codes.codes.items c.in_ok-instances.instances (let few = c.len-count.ensures.limits.few_clauses in let value = c.len-count.ensures.value in omega (arith, few, value, count)) c.in_ok-instances.ensures.few have
    (subst (λ (n : ℕ). AreFlags n lines c.in_ok-flags.flags.items) count (subst (λ (ls : List Line). AreFlags c.len-count.result ls c.in_ok-flags.flags.items) c.as_slice.ensures c.in_ok-flags.ensures))
    (subst (λ (fs : List Bool). AreCodes study sources fs (length sources) c.in_ok-codes.codes.items) c.as_slice-2.ensures.value c.in_ok-codes.ensures)
    c.in_ok-instances.ensures.rising c.in_ok-instances.ensures.small c.in_ok-instances.ensures.has
