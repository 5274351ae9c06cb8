use Rattle.std.proofs.Common.{◌≡◌, ◌∙◌, ap, ap₂, sym, subst, ℕ, ◌+◌, ◌*◌, ◌-◌, ◌^◌, min, false, Some, arith}
use Rattle.std.specs.Prelude.{slice_get}
use Rattle.std.proofs.lemmas.Nat.{mul-le}
use Rattle.vocab.specs.Formula.{body_of}
use Rattle.vocab.specs.Limits.{instance_count}
use Rattle.vocab.specs.Size.{Extent}
use Rattle.vocab.specs.Titled.{Titled}
use Rattle.vocab.specs.Tree.{Tree, tree_of}
use Rattle.meaning.specs.declared.clauses.Counts.{Counts}
use Rattle.meaning.specs.Instances.{instance_values}
use Rattle.meaning.specs.Measure.{measure_of}
use Rattle.meaning.specs.Written.{write_out}
use Rattle.clause_form.specs.Bounds.{IsWithin}
use Rattle.sharp_verdicts.specs.Totals.{counts_of_instance, passes_clause_limits}
use Rattle.instance_stories.proofs.AllInstances.{counts_within}
use Rattle.instance_totals.specs.Sums.{instance_at}
use Rattle.instance_totals.proofs.SumLemmas.{count_is, counted}
use Rattle.instance_totals.proofs.TotalLemmas.{within_limits}
use Rattle.instance_totals.proofs.bounds.with_axiom.Goals as goal

pub overflow_mul-after : goal.overflow_mul-after
overflow_mul-after g c =
    let study = c.args.setting.now.study.now in
    let size : Extent = g.K.OutcomeKind.size c.args.setting.now.kind.now in
    let a : Titled = c.get.result.now in
    let at : slice_get study.axioms c.args.place ≡ Some a = rw c.axioms.ensures.axioms at c.get.ensures in
    let cut : c.instance_count-count.result ≡ min (instance_count size a.sentence) (2 ^ 64 - 1) = rw (c.space.ensures, c.sentence-sentence.ensures) at c.instance_count-count.ensures in
    let same = count_is study size c.args.setting.now.same c.axioms.ensures.study c.args.place a at c.instance_count-count.result cut in
    let few = counts_within study c.axioms.ensures.study c.args.place in
    let most = c.most_counts-most.result in
    let over : passes_clause_limits most ≡ false = sym c.passes_clause_limits.ensures ∙ c.if-passes_clause_limits.false in
    let within = within_limits most over in
    let product = mul-le c.instance_count-count.result most.clauses 40000000 4000000 (omega (arith, same, few)) within.0 in
    omega (arith, product)

pub overflow_add-after : goal.overflow_add-after
overflow_add-after g c =
    let study = c.args.setting.now.study.now in
    let size : Extent = g.K.OutcomeKind.size c.args.setting.now.kind.now in
    let a : Titled = c.get.result.now in
    let at : slice_get study.axioms c.args.place ≡ Some a = rw c.axioms.ensures.axioms at c.get.ensures in
    let cut : c.instance_count-count.result ≡ min (instance_count size a.sentence) (2 ^ 64 - 1) = rw (c.space.ensures, c.sentence-sentence.ensures) at c.instance_count-count.ensures in
    let same = count_is study size c.args.setting.now.same c.axioms.ensures.study c.args.place a at c.instance_count-count.result cut in
    let few = counts_within study c.axioms.ensures.study c.args.place in
    let most = c.most_counts-most.result in
    let over : passes_clause_limits most ≡ false = sym c.passes_clause_limits.ensures ∙ c.if-passes_clause_limits.false in
    let within = within_limits most over in
    let before = within_limits c.args.before c.requires.before in
    let product = mul-le c.instance_count-count.result most.clauses 40000000 4000000 (omega (arith, same, few)) within.0 in
    omega (arith, product, before.0)

pub overflow_mul-after-2 : goal.overflow_mul-after-2
overflow_mul-after-2 g c =
    let study = c.args.setting.now.study.now in
    let size : Extent = g.K.OutcomeKind.size c.args.setting.now.kind.now in
    let a : Titled = c.get.result.now in
    let at : slice_get study.axioms c.args.place ≡ Some a = rw c.axioms.ensures.axioms at c.get.ensures in
    let cut : c.instance_count-count.result ≡ min (instance_count size a.sentence) (2 ^ 64 - 1) = rw (c.space.ensures, c.sentence-sentence.ensures) at c.instance_count-count.ensures in
    let same = count_is study size c.args.setting.now.same c.axioms.ensures.study c.args.place a at c.instance_count-count.result cut in
    let few = counts_within study c.axioms.ensures.study c.args.place in
    let most = c.most_counts-most.result in
    let over : passes_clause_limits most ≡ false = sym c.passes_clause_limits.ensures ∙ c.if-passes_clause_limits.false in
    let within = within_limits most over in
    let product = mul-le c.instance_count-count.result most.literals 40000000 60000000 (omega (arith, same, few)) within.1 in
    omega (arith, product)

pub overflow_add-after-2 : goal.overflow_add-after-2
overflow_add-after-2 g c =
    let study = c.args.setting.now.study.now in
    let size : Extent = g.K.OutcomeKind.size c.args.setting.now.kind.now in
    let a : Titled = c.get.result.now in
    let at : slice_get study.axioms c.args.place ≡ Some a = rw c.axioms.ensures.axioms at c.get.ensures in
    let cut : c.instance_count-count.result ≡ min (instance_count size a.sentence) (2 ^ 64 - 1) = rw (c.space.ensures, c.sentence-sentence.ensures) at c.instance_count-count.ensures in
    let same = count_is study size c.args.setting.now.same c.axioms.ensures.study c.args.place a at c.instance_count-count.result cut in
    let few = counts_within study c.axioms.ensures.study c.args.place in
    let most = c.most_counts-most.result in
    let over : passes_clause_limits most ≡ false = sym c.passes_clause_limits.ensures ∙ c.if-passes_clause_limits.false in
    let within = within_limits most over in
    let before = within_limits c.args.before c.requires.before in
    let product = mul-le c.instance_count-count.result most.literals 40000000 60000000 (omega (arith, same, few)) within.1 in
    omega (arith, product, before.1)

pub returns : goal.returns
returns g c =
    let study = c.args.setting.now.study.now in
    let size : Extent = g.K.OutcomeKind.size c.args.setting.now.kind.now in
    let place = c.args.place in
    let a : Titled = c.get.result.now in
    let at : slice_get study.axioms place ≡ Some a = rw c.axioms.ensures.axioms at c.get.ensures in
    let cut : c.instance_count-count.result ≡ min (instance_count size a.sentence) (2 ^ 64 - 1) = rw (c.space.ensures, c.sentence-sentence.ensures) at c.instance_count-count.ensures in
    let same = count_is study size c.args.setting.now.same c.axioms.ensures.study place a at c.instance_count-count.result cut in
    let most = c.most_counts-most.result in
    let body : tree_of c.body.result.now ≡ body_of a.sentence = c.body.ensures ∙ ap body_of c.sentence-sentence.ensures in
    let sizes : c.space-2.result.now ≡ study.size = c.space-2.ensures ∙ sym c.args.setting.now.same in
    record {
      most = most;
      each = λ n. (
          let values = instance_values study.size a.sentence n in
          let here : measure_of (write_out c.space-2.result.now (tree_of c.body.result.now) values) ≡ counts_of_instance study (instance_at place n) =
          ap₂ (λ (e : Extent) (f : Tree). measure_of (write_out e f values)) sizes body ∙ sym (counted study (instance_at place n) a at) in
          subst (λ (x : Counts). IsWithin x most) here (c.most_counts-most.ensures values));
      clauses = ap (λ (k : ℕ). c.args.before.clauses + k * most.clauses) same;
      literals = ap (λ (k : ℕ). c.args.before.literals + k * most.literals) same;
      few = sym c.passes_clause_limits-2.ensures ∙ c.if-passes_clause_limits-2.false;
    }
