use Rattle.std.proofs.Common.{◌≡◌, ◌<◌, ◌+◌, ◌*◌, ◌∷◌, [], ◌++◌, length, take, get_or, arith, refl, ℕ, List, sym, ◌∙◌, ap, ap₂, subst, Some}
use Rattle.std.specs.Prelude.{slice_get}
use Rattle.std.proofs.lemmas.Option.{slice_get_read}
use Rattle.vocab.specs.declared.kinds.Sort.TheVariants.{Profile}
use Rattle.vocab.specs.Size.{Extent, sort_count}
use Rattle.cnf.specs.declared.derivations.Line.{Line}
use Rattle.cnf.specs.Fresh.{added_by}
use Rattle.meaning.specs.declared.stories.Lemma.{Lemma}
use Rattle.retell.specs.Marked.{IsMarking}
use Rattle.retell.specs.Retold.{lemma_of, standing_of, hints_by}
use Rattle.retell.proofs.LineLaws.{AreLemmasUpTo, lemmas_more}
use Rattle.retell.proofs.TrimmedLines.{no_lemmas, told_right}
use Rattle.retell.proofs.stories.retell.Goals as goal

pub loop-i-init : goal.loop-i-init
loop-i-init g c =
    let size : Extent = g.K.OutcomeKind.size c.args.setting.now.kind.now in
    let stamp : c.in_ok-marks.marks.stamp ≡ 0 = c.in_ok-marks.ensures.stamp in
    record {
      room = subst (λ (n : ℕ). n < length c.in_ok-marks.marks.stamps.items) (ap₂ (λ (a b : ℕ). a * b) (c.sort_len.ensures ∙ ap (λ z. sort_count z Profile) (c.size.ensures ∙ c.space.ensures)) c.bits.ensures.value) c.in_ok-marks.ensures.room;
      stamp = omega (arith, stamp);
      lemmas = subst (AreLemmasUpTo size c.args.setting.now.study.now.axioms c.args.clauses.now c.args.proof.now 0) (sym c.in_ok-story.ensures) (no_lemmas c.args.setting.now.same c.requires);
    }

pub invariant_of-teller : goal.invariant_of-teller
invariant_of-teller g c = record { size = c.args.setting.now.same; sentences = c.axioms-axioms.ensures.study.sentences; trimmed = c.requires }

pub lemma-requires-clause-line : goal.lemma-requires-clause-line
lemma-requires-clause-line g c = λ κs out.
    let lines : List Line = c.as_slice-lines.result.now in
    let lt : c.loop-i.i < length lines = omega (arith, c.loop-i-test.true) in
    subst (λ ls. slice_get ls c.loop-i.i ≡ Some c.index-lines-i.result) c.as_slice-lines.ensures (slice_get_read lines (length lines) c.loop-i.i c.index-lines-i.result refl lt c.index-lines-i.is)

pub lemma-requires-clause-blank : goal.lemma-requires-clause-blank
lemma-requires-clause-blank g c = λ κs out.
    record {
      room = omega (arith, c.loop-i.invariant.room, c.begin.ensures.room);
      none = subst (λ (s : ℕ). IsMarking s c.begin.new.self.stamps.items []) (sym c.begin.ensures.stamp) c.begin.ensures.none;
    }

pub loop-i-preserved : goal.loop-i-preserved
loop-i-preserved g c =
    let size : Extent = g.K.OutcomeKind.size c.args.setting.now.kind.now in
    let axioms = c.args.setting.now.study.now.axioms in
    let sources = c.args.clauses.now in
    let lines : List Line = c.args.proof.now in
    let i : ℕ = c.loop-i.i in
    let count = ap (λ (ls : List Line). length ls) c.as_slice-lines.ensures in
    let lt : i < length lines = omega (arith, c.loop-i-test.true, count) in
    let is : c.index-lines-i.result ≡ get_or lines i c.index-lines-i.result = c.index-lines-i.is ∙ ap (λ (ls : List Line). get_or ls i c.index-lines-i.result) c.as_slice-lines.ensures in
    let l : c.in_ok-lemma.field-0 ≡ lemma_of size axioms sources (standing_of sources (take i lines)) (added_by (get_or lines i c.index-lines-i.result).step) (hints_by (get_or lines i c.index-lines-i.result).step) =
    c.in_ok-lemma.ensures.lemma ∙ ap (λ (l : Line). lemma_of size axioms sources (standing_of sources (take i lines)) (added_by l.step) (hints_by l.step)) is in
    record {
      room = omega (arith, c.loop-i.invariant.room, c.begin.ensures.room, c.lemma.ensures.room);
      stamp = omega (arith, c.begin.ensures.stamp, c.lemma.ensures.stamp);
      lemmas = subst (AreLemmasUpTo size axioms sources lines (i + 1)) (sym (c.in_ok-push.ensures.ok ∙ ap (λ (x : Lemma). c.loop-i.story ++ x ∷ []) l)) (lemmas_more size axioms sources lines i c.loop-i.story c.loop-i.invariant.lemmas c.index-lines-i.result lt);
    }

pub returns-clause-accepted : goal.returns-clause-accepted
returns-clause-accepted g c =
    let count = ap (λ (ls : List Line). length ls) c.as_slice-lines.ensures in
    (told_right c.args.setting.now.same c.requires c.axioms-axioms.ensures.study.sentences c.loop-i.i c.loop-i.story c.loop-i.invariant.lemmas (omega (arith, c.loop-i-test.false, count))).0

pub returns-clause-tidy : goal.returns-clause-tidy
returns-clause-tidy g c =
    let count = ap (λ (ls : List Line). length ls) c.as_slice-lines.ensures in
    (told_right c.args.setting.now.same c.requires c.axioms-axioms.ensures.study.sentences c.loop-i.i c.loop-i.story c.loop-i.invariant.lemmas (omega (arith, c.loop-i-test.false, count))).1
