use Rattle.std.proofs.Common.{◌≡◌, ◌∙◌, ap₂, sym, ap, ◌∷◌, take, drop, ℕ, List}
use Rattle.report_lines.specs.Rest.{words_after}
use Rattle.report_lines.proofs.WordLemmas.{cut, end_of}
use Rattle.report_lines.proofs.words.cut_word.Goals as goal

pub returns-clause-words : goal.returns-clause-words
returns-clause-words c =
    let text = c.args.text.now in
    let front : take (end_of text) text ≡ c.split_at.result.0.now = ap (λ k. take k text) (sym c.end_of_word.ensures.place) ∙ sym c.split_at.ensures.front in
    let back : drop (end_of text) text ≡ c.split_at.result.1.now = ap (λ k. drop k text) (sym c.end_of_word.ensures.place) ∙ sym c.split_at.ensures.back in
    cut text ∙ ap₂ (λ (w r : List ℕ). w ∷ words_after r) front back
