use Rattle.std.proofs.Common.{◌≡◌, ◌∙◌, refl, sym, true, false}
use Rattle.std.specs.List.{list_all}
use Rattle.vocab.specs.Literal.{has}
use Rattle.story.proofs.ReasonLemmas.{cited_fault, all_more, not_all, all_passed}
use Rattle.story.proofs.reasons.KnownLiterals.by_lemma.Goals as goal

pub loop-literal-init : goal.loop-literal-init
loop-literal-init g c = refl

pub returns-then-not-has : goal.returns-then-not-has
returns-then-not-has g c =
    let known = c.args.self.now.board.now.literals in
    let missing : list_all (has known) c.as_slice-literals.result.now ≡ false
    = not_all (has known) c.as_slice-literals.result.now c.loop-literal.literal-index _ c.loop-literal-test.true (sym c.has.ensures ∙ c.if-not-has.true) in
    cited_fault known c.args.self.now.grounds.now.lemmas.now c.args.place c.in-Some.lemma.now _ (c.in-Some.ensures.lookup.0) (c.in-Some.ensures.lookup.1) false (rw c.as_slice-literals.ensures at missing)

pub loop-literal-preserved : goal.loop-literal-preserved
loop-literal-preserved g c =
    all_more (has c.args.self.now.board.now.literals) c.as_slice-literals.result.now c.loop-literal.literal-index _ c.loop-literal-test.true c.loop-literal.invariant (sym c.has.ensures ∙ c.if-not-has.false)

pub returns : goal.returns
returns g c =
    let known = c.args.self.now.board.now.literals in
    let there : list_all (has known) c.as_slice-literals.result.now ≡ true
    = all_passed (has known) c.as_slice-literals.result.now c.loop-literal.literal-index c.loop-literal-test.false c.loop-literal.invariant in
    cited_fault known c.args.self.now.grounds.now.lemmas.now c.args.place c.in-Some.lemma.now _ (c.in-Some.ensures.lookup.0) (c.in-Some.ensures.lookup.1) true (rw c.as_slice-literals.ensures at there)
