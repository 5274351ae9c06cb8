-- Texts that are cut at their line ends: a text that grows at its end.
use Rattle.std.proofs.Common.{◌≡◌, refl, sym, ap, ◌∙◌, ℕ, zero, suc, ◌+◌, ◌-◌, ◌≤◌, min, Bool, true, false, not, List, [], ◌∷◌, ◌++◌, length, take, arith, cond}
use Rattle.std.specs.Prelude.{◌==◌}
use Rattle.std.specs.List.{onto_first}
use Rattle.std.proofs.lemmas.Bool.{and_parts, not-true}
use Rattle.std.proofs.lemmas.List.Splits.{slice_split-cons_no}
use Rattle.verdicts.specs.Judge.{pieces, front, final}
use Rattle.verdicts.specs.Judge.{has_no_end}

-- ---- the front of a list

pub take_more : {A : Type 0} (n : ℕ) (xs ys : List A) → take n (take n xs ++ ys) ≡ take n (xs ++ ys)
take_more zero xs ys = refl
take_more (suc n) [] ys = refl
take_more (suc n) (x ∷ xs) ys = ap (λ zs. x ∷ zs) (take_more n xs ys)

pub take_room : {A : Type 0} (n c : ℕ) (xs ys : List A) → length xs ≤ n → c ≡ min (length ys) (n - length xs) → take n (xs ++ ys) ≡ xs ++ take c ys
take_room n c [] ys h e = by_min n ys c (e ∙ ap (λ m. min (length ys) m) (minus_none n))
  where
    minus_none : (n : ℕ) → n - 0 ≡ n
    minus_none n = omega arith

    by_min : {A : Type 0} (n : ℕ) (ys : List A) (c : ℕ) → c ≡ min (length ys) n → take n ys ≡ take c ys
    by_min zero ys c e = let none : c ≡ 0 = omega (arith, e) in ap (λ k. take k ys) (sym none)
    by_min (suc n) [] c e = let none : c ≡ 0 = omega (arith, e) in ap (λ k. take k []) (sym none)
    by_min (suc n) (y ∷ ys) c e =
        let more : c ≡ suc (min (length ys) n) = omega (arith, e) in
        ap (λ zs. y ∷ zs) (by_min n ys (min (length ys) n) refl) ∙ ap (λ k. take k (y ∷ ys)) (sym more)
take_room n c (x ∷ xs) ys h e = by_room n h e (λ m l d. take_room m c xs ys l d)
  where
    by_room : (n : ℕ) → length (x ∷ xs) ≤ n → c ≡ min (length ys) (n - length (x ∷ xs)) → ((m : ℕ) → length xs ≤ m → c ≡ min (length ys) (m - length xs) → take m (xs ++ ys) ≡ xs ++ take c ys) → take n (x ∷ (xs ++ ys)) ≡ x ∷ (xs ++ take c ys)
    by_room zero h e later = absurd (let bad : ⊥ = omega (arith, h) in bad)
    by_room (suc m) h e later = let same : m - length xs ≡ suc m - length (x ∷ xs) = omega arith in ap (λ zs. x ∷ zs) (later m (omega (arith, h)) (e ∙ ap (λ k. min (length ys) k) (sym same)))

-- ---- pieces

-- pieces after pieces: the last of the one and the first of the other are one
abbrev onto : List ℕ → List (List ℕ) → List (List ℕ)
onto p [] = p ∷ []
onto p (q ∷ qs) = (p ++ q) ∷ qs

abbrev seam : List (List ℕ) → List (List ℕ) → List (List ℕ)
seam [] qs = qs
seam (p ∷ []) qs = onto p qs
seam (p ∷ r ∷ ps) qs = p ∷ seam (r ∷ ps) qs

abbrev pub IsSome : List (List ℕ) → Type 0
IsSome [] = ⊥
IsSome (p ∷ ps) = Unit {0}

some_onto : (x : ℕ) (ps : List (List ℕ)) → IsSome (onto_first x ps)
some_onto x [] = tt
some_onto x (p ∷ ps) = tt

pub some_pieces : (text : List ℕ) → IsSome (pieces text)
some_pieces [] = tt
some_pieces (b ∷ text) = by_test (b == 10)
  where
    by_test : (t : Bool) → IsSome (cond t ([] ∷ pieces text) (onto_first b (pieces text)))
    by_test true = tt
    by_test false = some_onto b (pieces text)

seam_first : (x : ℕ) (ps qs : List (List ℕ)) → IsSome ps → IsSome qs → onto_first x (seam ps qs) ≡ seam (onto_first x ps) qs
seam_first x [] qs h k = absurd h
seam_first x (p ∷ []) [] h k = absurd k
seam_first x (p ∷ []) (q ∷ qs) h k = refl
seam_first x (p ∷ r ∷ ps) qs h k = refl

seam_none : (qs : List (List ℕ)) → IsSome qs → qs ≡ seam ([] ∷ []) qs
seam_none [] h = absurd h
seam_none (q ∷ qs) h = refl

seam_new : (ps qs : List (List ℕ)) → IsSome ps → [] ∷ seam ps qs ≡ seam ([] ∷ ps) qs
seam_new [] qs h = absurd h
seam_new (p ∷ ps) qs h = refl

pieces_append : (text more : List ℕ) → pieces (text ++ more) ≡ seam (pieces text) (pieces more)
pieces_append [] more = seam_none (pieces more) (some_pieces more)
pieces_append (b ∷ text) more = by_test (b == 10) (pieces_append text more)
  where
    by_test : (t : Bool) → pieces (text ++ more) ≡ seam (pieces text) (pieces more) → cond t ([] ∷ pieces (text ++ more)) (onto_first b (pieces (text ++ more))) ≡ seam (cond t ([] ∷ pieces text) (onto_first b (pieces text))) (pieces more)
    by_test true h = ap (λ ps. [] ∷ ps) h ∙ seam_new (pieces text) (pieces more) (some_pieces text)
    by_test false h = ap (onto_first b) h ∙ seam_first b (pieces text) (pieces more) (some_pieces text) (some_pieces more)

some_seam : (r : List ℕ) (ps qs : List (List ℕ)) → IsSome (seam (r ∷ ps) qs)
some_seam r [] [] = tt
some_seam r [] (q ∷ qs) = tt
some_seam r (p ∷ ps) qs = tt

front_cons : (p : List ℕ) (qs : List (List ℕ)) → IsSome qs → front (p ∷ qs) ≡ p ∷ front qs
front_cons p [] h = absurd h
front_cons p (q ∷ qs) h = refl

-- a text without a line end is one piece
pieces_one : (w : List ℕ) → has_no_end w ≡ true → pieces w ≡ w ∷ []
pieces_one [] h = refl
pieces_one (b ∷ w) h =
    let p = and_parts (not (b == 10)) (has_no_end w) h in
    slice_split-cons_no (λ c. c == 10) b w (not-true (b == 10) p.0) ∙ ap (onto_first b) (pieces_one w p.1)

pieces_line : (w : List ℕ) → has_no_end w ≡ true → pieces (w ++ 10 ∷ []) ≡ w ∷ [] ∷ []
pieces_line [] h = refl
pieces_line (b ∷ w) h =
    let p = and_parts (not (b == 10)) (has_no_end w) h in
    slice_split-cons_no (λ c. c == 10) b (w ++ 10 ∷ []) (not-true (b == 10) p.0) ∙ ap (onto_first b) (pieces_line w p.1)

front_line : (ps : List (List ℕ)) (w : List ℕ) → IsSome ps → front (seam ps (w ∷ [] ∷ [])) ≡ front ps ++ (final ps ++ w) ∷ []
front_line [] w h = absurd h
front_line (p ∷ []) w h = refl
front_line (p ∷ r ∷ ps) w h = front_cons p (seam (r ∷ ps) (w ∷ [] ∷ [])) (some_seam r ps (w ∷ [] ∷ [])) ∙ ap (λ qs. p ∷ qs) (front_line (r ∷ ps) w tt)

final_line : (ps : List (List ℕ)) (w : List ℕ) → IsSome ps → final (seam ps (w ∷ [] ∷ [])) ≡ []
final_line [] w h = absurd h
final_line (p ∷ []) w h = refl
final_line (p ∷ r ∷ []) w h = refl
final_line (p ∷ r ∷ q ∷ ps) w h = final_line (r ∷ q ∷ ps) w tt

front_one : (ps : List (List ℕ)) (w : List ℕ) → IsSome ps → front (seam ps (w ∷ [])) ≡ front ps
front_one [] w h = absurd h
front_one (p ∷ []) w h = refl
front_one (p ∷ r ∷ []) w h = refl
front_one (p ∷ r ∷ q ∷ ps) w h = ap (λ qs. p ∷ qs) (front_one (r ∷ q ∷ ps) w tt)

final_one : (ps : List (List ℕ)) (w : List ℕ) → IsSome ps → final (seam ps (w ∷ [])) ≡ final ps ++ w
final_one [] w h = absurd h
final_one (p ∷ []) w h = refl
final_one (p ∷ r ∷ []) w h = refl
final_one (p ∷ r ∷ q ∷ ps) w h = final_one (r ∷ q ∷ ps) w tt

-- a line ends
pub front_ended : (text w : List ℕ) → has_no_end w ≡ true → front (pieces (text ++ (w ++ 10 ∷ []))) ≡ front (pieces text) ++ (final (pieces text) ++ w) ∷ []
front_ended text w h = ap front (pieces_append text (w ++ 10 ∷ []) ∙ ap (seam (pieces text)) (pieces_line w h)) ∙ front_line (pieces text) w (some_pieces text)

pub final_ended : (text w : List ℕ) → has_no_end w ≡ true → final (pieces (text ++ (w ++ 10 ∷ []))) ≡ []
final_ended text w h = ap final (pieces_append text (w ++ 10 ∷ []) ∙ ap (seam (pieces text)) (pieces_line w h)) ∙ final_line (pieces text) w (some_pieces text)

-- a line goes on
pub front_going : (text w : List ℕ) → has_no_end w ≡ true → front (pieces (text ++ w)) ≡ front (pieces text)
front_going text w h = ap front (pieces_append text w ∙ ap (seam (pieces text)) (pieces_one w h)) ∙ front_one (pieces text) w (some_pieces text)

pub final_going : (text w : List ℕ) → has_no_end w ≡ true → final (pieces (text ++ w)) ≡ final (pieces text) ++ w
final_going text w h = ap final (pieces_append text w ∙ ap (seam (pieces text)) (pieces_one w h)) ∙ final_one (pieces text) w (some_pieces text)

-- there is one piece more than lines that ended
pub pieces_count : (text : List ℕ) → length (pieces text) ≡ length (front (pieces text)) + 1
pieces_count text = count (pieces text) (some_pieces text)
  where
    count : (ps : List (List ℕ)) → IsSome ps → length ps ≡ length (front ps) + 1
    count [] h = absurd h
    count (p ∷ []) h = refl
    count (p ∷ r ∷ ps) h = let later : length (r ∷ ps) ≡ length (front (r ∷ ps)) + 1 = count (r ∷ ps) tt in omega (arith, later)

-- more bytes leave the lines that have ended
pub front_more : (text more : List ℕ) → (lines : List (List ℕ)) × (front (pieces (text ++ more)) ≡ front (pieces text) ++ lines)
front_more text more =
    (front (onto (final (pieces text)) (pieces more)), ap front (pieces_append text more) ∙ front_seam (pieces text) (pieces more) (some_pieces text))
  where
    front_seam : (ps qs : List (List ℕ)) → IsSome ps → front (seam ps qs) ≡ front ps ++ front (onto (final ps) qs)
    front_seam [] qs h = absurd h
    front_seam (p ∷ []) qs h = refl
    front_seam (p ∷ r ∷ ps) qs h = front_cons p (seam (r ∷ ps) qs) (some_seam r ps qs) ∙ ap (λ ls. p ∷ ls) (front_seam (r ∷ ps) qs tt)
