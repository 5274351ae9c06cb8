use Rattle.std.proofs.Common.{◌≡◌, refl, ◌∙◌, ◌∷◌, true, ap, sym, List, ℕ}
use Rattle.vocab.specs.Name.{is_name}
use Rattle.verdicts.specs.Texts.{words_of}
use Rattle.report_lines.specs.Rest.{words_after}
use Rattle.report_lines.proofs.LineLemmas.{with_rule, with_open, with_neither}
use Rattle.report_lines.proofs.rules.read_witness.Goals as goal

pub returns-in-Some-read_next_count : goal.returns-in-Some-read_next_count
returns-in-Some-read_next_count c = λ study number.
    let more = words_after c.in-Some-next_word.more.now in
    let cut = c.in-Some-next_word.ensures.0 ∙ ap (λ (w : List ℕ). w ∷ more) (sym c.in-Some-new.ensures.value) in
    let named : is_name c.in-Some-new.name ≡ true = ap is_name c.in-Some-new.ensures.value ∙ c.in-Some-new.ensures.when.0 refl in
    with_rule study c.in-Some-new.name (words_of c.args.text.now) (words_after c.in-Some.rest.now) more c.in-Some-read_next_count.count c.in-Some.ensures cut named c.in-Some-read_next_count.ensures

pub returns-in-Some-read_next_count-2 : goal.returns-in-Some-read_next_count-2
returns-in-Some-read_next_count-2 c = λ study number.
    let more = words_after c.in-Some-next_word.more.now in
    let cut = c.in-Some-next_word.ensures.0 ∙ ap (λ (w : List ℕ). w ∷ more) (sym c.in-Some-new.ensures.value) in
    let named : is_name c.in-Some-new.name ≡ true = ap is_name c.in-Some-new.ensures.value ∙ c.in-Some-new.ensures.when.0 refl in
    with_open study c.in-Some-new.name (words_of c.args.text.now) (words_after c.in-Some.rest.now) more c.in-Some-read_next_count-2.limit c.in-Some.ensures cut named (sym c.in_default-read_next_count.is ∙ c.read_next_count.ensures) c.in-Some-read_next_count-2.ensures

pub returns-in-None : goal.returns-in-None
returns-in-None c = λ study number.
    let more = words_after c.in-Some-next_word.more.now in
    let cut = c.in-Some-next_word.ensures.0 ∙ ap (λ (w : List ℕ). w ∷ more) (sym c.in-Some-new.ensures.value) in
    let named : is_name c.in-Some-new.name ≡ true = ap is_name c.in-Some-new.ensures.value ∙ c.in-Some-new.ensures.when.0 refl in
    with_neither study c.in-Some-new.name (words_of c.args.text.now) (words_after c.in-Some.rest.now) more c.in-Some.ensures cut named (sym c.in_default-read_next_count.is ∙ c.read_next_count.ensures) c.in-None.ensures
