-- The lines of a story.
use Rattle.std.proofs.Common.{◌≡◌, refl, sym, ap, ◌∙◌, ℕ, ◌+◌, List, [], ◌∷◌, ◌++◌, map, codes, append-nil, append_assoc}
use Rattle.std.proofs.lemmas.Grind.{flat_map-append}
use Rattle.vocab.specs.declared.literals.Literal.{Literal}
use Rattle.vocab.specs.Size.{Extent}
use Rattle.vocab.specs.Study.{Question}
use Rattle.meaning.specs.declared.stories.Reason.{Reason}
use Rattle.meaning.specs.declared.stories.Reason.TheVariants.{Axiom as ByAxiom, Outcome as ByOutcome, Lemma as ByLemma}
use Rattle.meaning.specs.declared.stories.StoryStep.{StoryStep}
use Rattle.verdicts.specs.Lines.{Line, Heading, Suppose, So, Clash, reason_words}
use Rattle.verdicts.specs.Report.{step_line, lemma_lines}
use Rattle.verdicts.specs.Texts.{joined_words, literal_text}
use Rattle.report_text.specs.Pieces.{count_text, ended_line, lines_text, reason_text}
use Rattle.texts.specs.Spelled.{spelled}

-- the word `by` and a reason
by_reason : (study : Question) (r : Reason) → joined_words (codes "by" ∷ reason_words study r) ≡ codes "by " ++ reason_text study r
by_reason study (ByAxiom k values) = refl
by_reason study (ByOutcome p) = refl
by_reason study (ByLemma j) = refl

pub clash_text : (study : Question) (r : Reason) → codes "clash by " ++ (reason_text study r ++ 10 ∷ []) ≡ ended_line study (Clash r)
clash_text study r = ap (λ (words : List ℕ). codes "clash " ++ (words ++ 10 ∷ [])) (sym (by_reason study r))

module _ (study : Question) (size : Extent) (same : study.size ≡ size) where
  pub suppose_text : (l : Literal) → codes "suppose " ++ (literal_text size l ++ 10 ∷ []) ≡ ended_line study (Suppose l)
  suppose_text l = ap (λ (e : Extent). codes "suppose " ++ (literal_text e l ++ 10 ∷ [])) (sym same)

  pub so_text : (l : Literal) (r : Reason) → codes "so " ++ (literal_text size l ++ (codes " by " ++ (reason_text study r ++ 10 ∷ []))) ≡ ended_line study (So l r)
  so_text l r =
      ap (λ (e : Extent). codes "so " ++ (literal_text e l ++ (codes " by " ++ (reason_text study r ++ 10 ∷ [])))) (sym same)
      ∙ ap (λ (rest : List ℕ). codes "so " ++ rest) (sym (append_assoc (literal_text study.size l) (codes " by " ++ reason_text study r) (10 ∷ [])))
      ∙ ap (λ (words : List ℕ). codes "so " ++ ((literal_text study.size l ++ (32 ∷ words)) ++ 10 ∷ [])) (sym (by_reason study r))

-- lines of items
pub lines_spelled : {X : Type 0} (study : Question) (f : X → Line) (n : ℕ) (xs : List X) → spelled (λ _ x. ended_line study (f x)) n xs ≡ lines_text study (map f xs)
lines_spelled study f n [] = refl
lines_spelled study f n (x ∷ xs) = ap (λ (rest : List ℕ). ended_line study (f x) ++ rest) (lines_spelled study f (n + 1) xs)

-- the lines of a lemma: the heading, what it supposes, its steps and its end
pub lemma_text : (study : Question) (number : ℕ) (suppose : List Literal) (steps : List StoryStep) (last : Reason) →
    count_text (codes "lemma ") number ++ (spelled (λ _ l. ended_line study (Suppose l)) 0 suppose ++ (spelled (λ _ step. ended_line study (step_line step)) 0 steps ++ (codes "clash by " ++ (reason_text study last ++ 10 ∷ []))))
    ≡ lines_text study (lemma_lines number (record { suppose = suppose; steps = steps; last = last }))
lemma_text study number suppose steps last =
    let end : codes "clash by " ++ (reason_text study last ++ 10 ∷ []) ≡ lines_text study (Clash last ∷ []) = clash_text study last ∙ sym (append-nil (ended_line study (Clash last))) in
    let supposed : spelled (λ _ l. ended_line study (Suppose l)) 0 suppose ≡ lines_text study (map Suppose suppose) = lines_spelled study Suppose 0 suppose in
    let so : spelled (λ _ step. ended_line study (step_line step)) 0 steps ≡ lines_text study (map step_line steps) = lines_spelled study step_line 0 steps in
    ap (λ (rest : List ℕ). ended_line study (Heading number) ++ rest)
    (rw (supposed, so, end, flat_map-append (ended_line study) (map Suppose suppose ++ map step_line steps) (Clash last ∷ []), flat_map-append (ended_line study) (map Suppose suppose) (map step_line steps))
    (sym (append_assoc (lines_text study (map Suppose suppose)) (lines_text study (map step_line steps)) (lines_text study (Clash last ∷ [])))))
