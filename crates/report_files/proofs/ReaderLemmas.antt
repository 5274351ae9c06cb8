-- What a reader stands for after more bytes.
use Rattle.std.proofs.Common.{◌≡◌, sym, ap, ◌∙◌, subst, ℕ, suc, ◌+◌, true, List, [], ◌∷◌, ◌++◌, length, take, arith, append_assoc, length-append, Result, Ok, Err, refl}
use Rattle.std.specs.Prelude.{OnOk}
use Rattle.verdicts.specs.Judge.{has_no_end, pieces, front, final}
use Rattle.report_files.specs.Lines.{CheckerState, StandsForLines}
use Rattle.report_files.specs.Pieces.{head_of, ReaderState, StandsForText}
use Rattle.report_files.proofs.CheckerLemmas.{head_taken}
use Rattle.report_files.proofs.PieceLemmas.{take_more, front_ended, final_ended, front_going, final_going}

-- the front of a line that is held, and what follows
pub head_more : (held rest w : List ℕ) → held ≡ head_of rest → head_of (held ++ w) ≡ head_of (rest ++ w)
head_more held rest w e = ap (λ t. head_of (t ++ w)) e ∙ take_more 4097 rest w

-- where no front is held there is no line
pub head_none : (rest : List ℕ) → [] ≡ head_of rest → rest ≡ []
head_none [] e = refl
head_none (x ∷ rest) e = absurd (let bad : 0 ≡ length (head_of (x ∷ rest)) = ap length e in let some : length (head_of (x ∷ rest)) ≡ suc (length (take 4096 rest)) = refl in let none : ⊥ = omega (arith, bad, some) in none)

-- a line that was held so far has ended
pub end_stands : (old new : CheckerState) (lines : List (List ℕ)) (rest w held line : List ℕ)
    → ((ls : List (List ℕ)) → StandsForLines old ls → StandsForLines new (ls ++ line ∷ []))
    → line ≡ head_of (held ++ w) → held ≡ head_of rest → StandsForLines old lines → StandsForLines new (lines ++ (rest ++ w) ∷ [])
end_stands old new lines rest w held line taken e h stands =
    head_taken new lines (rest ++ w) (subst (λ t. StandsForLines new (lines ++ t ∷ [])) (e ∙ head_more held rest w h) (taken lines stands))

-- a line of which nothing was held has ended
pub whole_stands : (old new : CheckerState) (line held : List ℕ) → held ≡ []
    → ((ls : List (List ℕ)) → StandsForLines old ls → StandsForLines new (ls ++ line ∷ []))
    → (lines : List (List ℕ)) (rest : List ℕ) → StandsForLines old lines → held ≡ head_of rest → StandsForLines new (lines ++ (rest ++ line) ∷ [])
whole_stands old new line held none taken lines rest stands e =
    subst (λ t. StandsForLines new (lines ++ (t ++ line) ∷ [])) (sym (head_none rest (sym none ∙ e))) (taken lines stands)

module _ (old new : ReaderState) where
  -- a line of a piece has ended
  pub piece_line : (text read line : List ℕ)
      → has_no_end line ≡ true
      → ((lines : List (List ℕ)) (rest : List ℕ) → StandsForLines old.checker lines → old.held ≡ head_of rest → StandsForLines new.checker (lines ++ (rest ++ line) ∷ []))
      → new.held ≡ [] → StandsForText old (text ++ read) → StandsForText new (text ++ (read ++ (line ++ 10 ∷ [])))
  piece_line text read line h taken e stands =
      let now : List ℕ = (text ++ read) ++ (line ++ 10 ∷ []) in
      let lines : StandsForLines new.checker (front (pieces now)) =
      subst (λ ls. StandsForLines new.checker ls) (sym (front_ended (text ++ read) line h)) (taken (front (pieces (text ++ read))) (final (pieces (text ++ read))) stands.0 stands.1) in
      subst (StandsForText new) (append_assoc text read (line ++ 10 ∷ [])) (lines, e ∙ ap head_of (sym (final_ended (text ++ read) line h)))

  -- what is left of a piece is held
  pub piece_rest : (text bytes read rest : List ℕ)
      → has_no_end rest ≡ true → bytes ≡ read ++ rest → new.checker ≡ old.checker → new.held ≡ head_of (old.held ++ rest)
      → StandsForText old (text ++ read) → StandsForText new (text ++ bytes)
  piece_rest text bytes read rest h cut is e stands =
      let now : List ℕ = (text ++ read) ++ rest in
      let lines : StandsForLines old.checker (front (pieces now)) = subst (λ ls. StandsForLines old.checker ls) (sym (front_going (text ++ read) rest h)) stands.0 in
      let held : new.held ≡ head_of (final (pieces now)) = e ∙ ap (λ t. head_of (t ++ rest)) stands.1 ∙ take_more 4097 (final (pieces (text ++ read))) rest ∙ ap head_of (sym (final_going (text ++ read) rest h)) in
      subst (StandsForText new) (append_assoc text read rest ∙ ap (λ t. text ++ t) (sym cut))
      (subst (λ (c : CheckerState). StandsForLines c (front (pieces now))) (sym is) lines, held)

-- of a piece with a line end in it, what is cut off and what is left
pub cut_more : (bytes read rest line after : List ℕ) → bytes ≡ read ++ rest → rest ≡ line ++ 10 ∷ after → bytes ≡ (read ++ (line ++ 10 ∷ [])) ++ after
cut_more bytes read rest line after e h =
    e ∙ ap (λ t. read ++ t) (h ∙ sym (append_assoc line (10 ∷ []) after)) ∙ sym (append_assoc read (line ++ 10 ∷ []) after)

pub cut_shorter : (rest line after : List ℕ) → rest ≡ line ++ 10 ∷ after → length rest ≡ length line + (1 + length after)
cut_shorter rest line after h =
    let parts : length rest ≡ length line + suc (length after) = ap length h ∙ length-append line (10 ∷ after) in
    omega (arith, parts)

-- what holds at `Ok`, and what follows from it
pub on_ok : {T E P Q : Type 0} (result : Result T E) → OnOk result P → (P → Q) → OnOk result Q
on_ok (Ok x) h f = f h
on_ok (Err e) h f = tt
