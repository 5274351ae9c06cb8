use Rattle.std.proofs.Common.{◌≡◌, ◌∙◌, ◌+◌, ◌&&◌, Bool, sym, ap, drop}
use Rattle.std.specs.Cmp.Lexicographic.{pointwise}
use Rattle.std.specs.Str.{bytes_eq}
use Rattle.vocab.specs.Titled.{Titled}
use Rattle.report_lines.specs.Rest.{words_after}
use Rattle.report_lines.proofs.NameLemmas.{names_of, item_is, texts_more}
use Rattle.report_lines.proofs.all_axioms.are_all_axioms.Goals as goal

pub returns-then-not-is_same : goal.returns-then-not-is_same
returns-then-not-is_same c =
    let axioms = c.args.study.now.axioms in
    let item = item_is axioms c.axioms-axioms.result.now c.loop-k.k c.get.result.now c.axioms-axioms.ensures.axioms c.get.ensures in
    let same : c.is_same.result ≡ bytes_eq c.in-Some.word.now c.get.result.now.name = c.is_same.ensures ∙ ap (bytes_eq c.in-Some.word.now) (c.bytes.ensures ∙ c.name-name.ensures) in
    let more = texts_more (λ (a : Titled). a.name) axioms c.loop-k.k c.get.result.now (words_after c.loop-k.left.now) (words_after c.in-Some.more.now) c.in-Some.word.now c.is_same.result item c.in-Some.ensures.0 same in
    sym (c.loop-k.invariant ∙ more ∙ ap (λ (b : Bool). b && pointwise bytes_eq (words_after c.in-Some.more.now) (drop (c.loop-k.k + 1) (names_of axioms))) c.if-not-is_same.true)

pub loop-k-preserved : goal.loop-k-preserved
loop-k-preserved c =
    let axioms = c.args.study.now.axioms in
    let item = item_is axioms c.axioms-axioms.result.now c.loop-k.k c.get.result.now c.axioms-axioms.ensures.axioms c.get.ensures in
    let same : c.is_same.result ≡ bytes_eq c.in-Some.word.now c.get.result.now.name = c.is_same.ensures ∙ ap (bytes_eq c.in-Some.word.now) (c.bytes.ensures ∙ c.name-name.ensures) in
    let more = texts_more (λ (a : Titled). a.name) axioms c.loop-k.k c.get.result.now (words_after c.loop-k.left.now) (words_after c.in-Some.more.now) c.in-Some.word.now c.is_same.result item c.in-Some.ensures.0 same in
    c.loop-k.invariant ∙ more ∙ ap (λ (b : Bool). b && pointwise bytes_eq (words_after c.in-Some.more.now) (drop (c.loop-k.k + 1) (names_of axioms))) c.if-not-is_same.false
