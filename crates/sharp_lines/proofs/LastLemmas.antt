-- The words of a line, cut off its end.
use Rattle.std.proofs.Common.{◌≡◌, refl, sym, ap, ◌∙◌, ℕ, suc, ◌+◌, ◌-◌, ◌≤◌, Bool, true, false, not, List, [], ◌∷◌, ◌++◌, length, take, drop, drop-cons, arith}
use Rattle.std.specs.Prelude.{◌==◌}
use Rattle.std.specs.List.{list_all, onto_first}
use Rattle.std.proofs.lemmas.Bool.{and_parts, not-true}
use Rattle.std.proofs.lemmas.List.{take-append-drop, take_all, length-drop}
use Rattle.std.proofs.lemmas.List.Splits.{slice_split-cons_yes, slice_split-cons_no}
use Rattle.verdicts.specs.Texts.{words_of}
use Rattle.report_lines.specs.Rest.{words_after}
use Rattle.report_lines.proofs.WordLemmas.{end_of, cut}
use Rattle.sharp_lines.specs.Said.{HasNoBlank, IsLastBlank}

abbrev is_blank : ℕ → Bool
is_blank b = b == 32

-- ---- words

-- a text without a blank is one word
whole : (w : List ℕ) → HasNoBlank w → words_of w ≡ w ∷ []
whole [] h = refl
whole (c ∷ t) h =
    let e = and_parts (not (c == 32)) (list_all (λ b. not (b == 32)) t) h in
    slice_split-cons_no is_blank c t (not-true (c == 32) e.0) ∙ ap (onto_first c) (whole t e.1)

onto : (c : ℕ) (w x : List ℕ) (ws xs : List (List ℕ)) → ws ≡ x ∷ xs → onto_first c (ws ++ w ∷ []) ≡ onto_first c ws ++ w ∷ []
onto c w x ws xs e = ap (λ (v : List (List ℕ)). onto_first c (v ++ w ∷ [])) e ∙ sym (ap (λ (v : List (List ℕ)). onto_first c v ++ w ∷ []) e)

-- the word after the last blank follows those before it
split : (front w : List ℕ) → HasNoBlank w → words_of (front ++ 32 ∷ w) ≡ words_of front ++ w ∷ []
split [] w h = slice_split-cons_yes is_blank 32 w refl ∙ ap (λ (ws : List (List ℕ)). [] ∷ ws) (whole w h)
split (c ∷ t) w h = by_test (split t w h) (is_blank c) refl
  where
    by_test : words_of (t ++ 32 ∷ w) ≡ words_of t ++ w ∷ [] → (b : Bool) → is_blank c ≡ b → words_of (c ∷ (t ++ 32 ∷ w)) ≡ words_of (c ∷ t) ++ w ∷ []
    by_test ih true e =
        slice_split-cons_yes is_blank c (t ++ 32 ∷ w) e ∙ ap (λ (ws : List (List ℕ)). [] ∷ ws) ih
        ∙ sym (ap (λ (ws : List (List ℕ)). ws ++ w ∷ []) (slice_split-cons_yes is_blank c t e))
    by_test ih false e =
        slice_split-cons_no is_blank c (t ++ 32 ∷ w) e ∙ ap (onto_first c) ih
        ∙ onto c w (take (end_of t) t) (words_of t) (words_after (drop (end_of t) t)) (cut t)
        ∙ sym (ap (λ (ws : List (List ℕ)). ws ++ w ∷ []) (slice_split-cons_no is_blank c t e))

split_after : (front w : List ℕ) → HasNoBlank w → words_after (front ++ 32 ∷ w) ≡ words_after front ++ w ∷ []
split_after [] w h = whole w h
split_after (c ∷ t) w h = split t w h

-- at the last blank
cut_last : (text : List ℕ) (k : ℕ) → IsLastBlank text k → words_after text ≡ words_after (take k text) ++ drop (k + 1) text ∷ []
cut_last text k h =
    let up : suc k ≡ k + 1 = omega arith in
    let here : drop k text ≡ 32 ∷ drop (k + 1) text =
    drop-cons text k 0 h.0 ∙ ap (λ (b : ℕ). b ∷ drop (suc k) text) h.1 ∙ ap (λ (n : ℕ). 32 ∷ drop n text) up in
    let all : text ≡ take k text ++ 32 ∷ drop (k + 1) text = sym (take-append-drop k text) ∙ ap (λ (r : List ℕ). take k text ++ r) here in
    ap words_after all ∙ split_after (take k text) (drop (k + 1) text) h.2

-- as a slice is cut
pub cut_slice : (text : List ℕ) (k : ℕ) → IsLastBlank text k → words_after text ≡ words_after (take k text) ++ take (length text - (k + 1)) (drop (k + 1) text) ∷ []
cut_slice text k h =
    let n : length (drop (k + 1) text) ≡ length text - (k + 1) = length-drop (k + 1) text in
    let all = take_all (length text - (k + 1)) (drop (k + 1) text) (omega (arith, n)) in
    cut_last text k h ∙ ap (λ (w : List ℕ). words_after (take k text) ++ w ∷ []) (sym all)

-- without one there is at most one word
pub one_at_most : (text : List ℕ) → HasNoBlank text → length (words_after text) ≤ 1
one_at_most [] h = omega arith
one_at_most (c ∷ t) h =
    let e = and_parts (not (c == 32)) (list_all (λ b. not (b == 32)) t) h in
    let one : length (words_of t) ≡ 1 = ap length (whole t e.1) in
    omega (arith, one)
