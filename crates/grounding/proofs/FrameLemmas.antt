-- The frames of profiles, one after another, are few.
use Rattle.std.proofs.Common.{◌≡◌, ◌<◌, ◌≤◌, ◌+◌, ◌*◌, ℕ, List, ◌++◌, length, map, sym, subst, ap, ap₂, ◌∙◌, arith, append-nil}
use Rattle.std.specs.Prelude.{sum_by}
use Rattle.std.proofs.lemmas.List.{length-append, length-map}
use Rattle.std.proofs.lemmas.List.Sums.{sum_by-append}
use Rattle.vocab.specs.Size.{Extent}
use Rattle.cnf.specs.ClauseList.{ClauseList}
use Rattle.meaning.specs.declared.clauses.Origin.TheVariants.{Frame}
use Rattle.meaning.specs.StudyClauses.{Sourced, from_frame}
use Rattle.outcomes.specs.Frames.{frame_clauses, with_clauses}
use Rattle.outcomes.specs.Laws.{AreFramesSmall}
use Rattle.clause_form.specs.Sources.{sourced}
use Rattle.grounding.specs.Pieces.{rows_from}
use Rattle.grounding.proofs.PieceLaws.{rows_from-add}
use Rattle.grounding.proofs.SourceLemmas.{frame-here, sourced-both, sourced-same}

-- a list has the frames of the profiles below a number, and so few clauses and literals
pub record AreFramesTo (size : Extent) (p : ℕ) (out : ClauseList) : Type 0 where
  pub sources : sourced out.clauses out.origins ≡ rows_from (from_frame size) 0 p
  pub pairs : length out.origins ≡ length out.clauses
  pub few : length out.clauses ≤ 20 * p
  pub short : sum_by length out.clauses ≤ 60 * p

module _ (size : Extent) (small : AreFramesSmall size) (p : ℕ) (below : p < 20000) (out : ClauseList) where
  with_frame : AreFramesTo size p out → AreFramesTo size (p + 1) (with_clauses out (frame_clauses size p) p)
  with_frame is =
      let rows = frame_clauses size p in
      let clauses = small.few_clauses p in
      let literals = small.few_literals p in
      record {
        sources =
            sourced-both out.clauses rows out.origins (map (λ _. p) rows) is.pairs
            ∙ ap₂ (λ (ss ts : List Sourced). ss ++ ts) is.sources (sourced-same rows p (Frame p) (frame-here p (omega (arith, below))))
            ∙ ap (λ (ts : List Sourced). rows_from (from_frame size) 0 p ++ ts) (sym (append-nil (from_frame size p)) ∙ ap (λ i. rows_from (from_frame size) i 1) (let z : p ≡ 0 + p = omega arith in z))
            ∙ sym (rows_from-add (from_frame size) 0 p 1);
        pairs = length-append out.origins (map (λ _. p) rows) ∙ ap₂ (λ a b. a + b) is.pairs (length-map rows (λ _. p)) ∙ sym (length-append out.clauses rows);
        few = omega (arith, clauses, is.few, length-append out.clauses rows);
        short = omega (arith, literals, is.short, sum_by-append length out.clauses rows);
      }

  pub frames-more : (out_after : ClauseList) → out_after ≡ with_clauses out (frame_clauses size p) p → AreFramesTo size p out → AreFramesTo size (p + 1) out_after
  frames-more out_after e is = subst (AreFramesTo size (p + 1)) (sym e) (with_frame is)
