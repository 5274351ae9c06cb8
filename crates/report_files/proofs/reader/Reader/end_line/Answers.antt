use Rattle.std.proofs.Common.{rules, ◌≡◌, ap, sym, length, subst, ℕ, List, [], ◌∷◌, ◌++◌, ◌∙◌}
use Rattle.std.specs.Prelude.{◌==◌}
use Rattle.std.specs.Vec.{vec_len}
use Rattle.report_files.specs.Lines.{CheckerState, StandsForLines}
use Rattle.report_files.specs.Pieces.{head_of}
use Rattle.report_files.proofs.ReaderLemmas.{end_stands, on_ok, whole_stands}
use Rattle.report_files.proofs.reader.Reader.end_line.Goals as goal
use Rattle.std.proofs.lemmas.List.{nil_from_length}
use Rattle.std.proofs.lemmas.Bool.{eqb-true}

pub returns-clause-taken : goal.returns-clause-taken
returns-clause-taken g c = λ lines rest stands held.
    let old = c.args.self.now in
    let between = c.self-2.inside in
    let new = c.take-2.new.self in
    let same : between.checker ≡ old.checker = ap (λ r. r.checker) c.self-2.view_is ∙ c.hold.ensures.checker in
    let line : c.as_slice.result.now ≡ head_of (old.held ++ c.args.piece.now) = c.as_slice.ensures.value ∙ ap (λ r. r.held) c.self-2.view_is ∙ c.in_ok-hold.ensures.held in
    let taken : (ls : List (List ℕ)) → StandsForLines old.checker ls → StandsForLines new (ls ++ c.as_slice.result.now ∷ []) =
    subst (λ (q : CheckerState). (ls : List (List ℕ)) → StandsForLines q ls → StandsForLines new (ls ++ c.as_slice.result.now ∷ [])) same c.in_ok-take.ensures.taken in
    end_stands old.checker new lines rest c.args.piece.now old.held c.as_slice.result.now taken line held stands

pub returns-then-is_empty-clause-taken : goal.returns-then-is_empty-clause-taken
returns-then-is_empty-clause-taken g c =
    let held = c.self.inside.held in
    let counted : vec_len held ≡ length held.items = search rules in
    let empty : held.items ≡ [] = nil_from_length held.items (eqb-true _ _ (ap (λ n. n == 0) (sym counted) ∙ sym c.is_empty.ensures ∙ c.if-is_empty.true)) in
    rw (← c.self.view_is) (on_ok c.take.result c.take.ensures.taken (λ taken. whole_stands c.self.inside.checker c.take.new.self c.args.piece.now held.items empty taken))
