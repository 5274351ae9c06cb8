use Rattle.std.proofs.Common.{◌≡◌, ◌<◌, ◌∙◌, Some, None, sym, length, arith}
use Rattle.std.specs.List.{position_from}
use Rattle.std.specs.Str.{bytes_eq}
use Rattle.verdicts.specs.Reading.{read_axiom}
use Rattle.report_lines.proofs.NameLemmas.{names_of, place_found, place_within}
use Rattle.report_lines.proofs.indexed.IndexedStudy.place_of.Goals as goal

pub overflow_cast-result : goal.overflow_cast-result
overflow_cast-result c =
    let axioms = c.args.self.now.axioms in
    let kept = c.self.inside.study.now.axioms in
    let told : Some c.in-Some.place ≡ position_from (λ n. bytes_eq n c.args.word.now) 0 (names_of kept) = c.in-Some.ensures 0 (names_of kept) c.self.invariant in
    let found : Some c.in-Some.place ≡ read_axiom axioms c.args.word.now = rw (← c.self.view_is) (told ∙ place_found kept c.args.word.now) in
    let within : c.in-Some.place < length axioms = place_within axioms c.args.word.now c.in-Some.place (sym found) in
    let few = c.axioms-axioms.ensures.study.few_axioms in
    omega (arith, within, few)

pub returns-in-Some-clause-value : goal.returns-in-Some-clause-value
returns-in-Some-clause-value c =
    let axioms = c.args.self.now.axioms in
    let kept = c.self.inside.study.now.axioms in
    let told : Some c.in-Some.place ≡ position_from (λ n. bytes_eq n c.args.word.now) 0 (names_of kept) = c.in-Some.ensures 0 (names_of kept) c.self.invariant in
    let found : Some c.in-Some.place ≡ read_axiom axioms c.args.word.now = rw (← c.self.view_is) (told ∙ place_found kept c.args.word.now) in
    found

pub returns-in-Some-clause-within : goal.returns-in-Some-clause-within
returns-in-Some-clause-within c =
    let axioms = c.args.self.now.axioms in
    let kept = c.self.inside.study.now.axioms in
    let told : Some c.in-Some.place ≡ position_from (λ n. bytes_eq n c.args.word.now) 0 (names_of kept) = c.in-Some.ensures 0 (names_of kept) c.self.invariant in
    let found : Some c.in-Some.place ≡ read_axiom axioms c.args.word.now = rw (← c.self.view_is) (told ∙ place_found kept c.args.word.now) in
    place_within axioms c.args.word.now c.in-Some.place (sym found)

pub returns-in-Some-clause-few : goal.returns-in-Some-clause-few
returns-in-Some-clause-few c =
    let axioms = c.args.self.now.axioms in
    let kept = c.self.inside.study.now.axioms in
    let told : Some c.in-Some.place ≡ position_from (λ n. bytes_eq n c.args.word.now) 0 (names_of kept) = c.in-Some.ensures 0 (names_of kept) c.self.invariant in
    let found : Some c.in-Some.place ≡ read_axiom axioms c.args.word.now = rw (← c.self.view_is) (told ∙ place_found kept c.args.word.now) in
    let within : c.in-Some.place < length axioms = place_within axioms c.args.word.now c.in-Some.place (sym found) in
    let few = c.axioms-axioms.ensures.study.few_axioms in
    omega (arith, within, few)

pub returns-in-None-clause-value : goal.returns-in-None-clause-value
returns-in-None-clause-value c =
    let kept = c.self.inside.study.now.axioms in
    let told : None ≡ position_from (λ n. bytes_eq n c.args.word.now) 0 (names_of kept) = c.in-None.ensures 0 (names_of kept) c.self.invariant in
    rw (← c.self.view_is) (told ∙ place_found kept c.args.word.now)
