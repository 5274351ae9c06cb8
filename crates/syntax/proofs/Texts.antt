-- The text of a list of terms, term by term.
use Rattle.std.proofs.Common.{◌≡◌, ℕ, zero, suc, ◌+◌, ◌≤◌, List, [], ◌∷◌, ◌++◌, length, drop, map, refl, sym, ap, ◌∙◌, arith, add-one, append_assoc, append-nil, Option, Some, Result, Ok, Err, codes}
use Rattle.std.proofs.lemmas.List.{drop_all}
use Rattle.std.specs.Prelude.{slice_get}
use Rattle.vocab.specs.Terms.{terms_of}
use Rattle.vocab.specs.NamedView.{named_term_tree, named_terms_tree, arguments_of}
use Rattle.vocab.specs.declared.named.NamedTerm.{NamedTerm}
use Rattle.vocab.specs.declared.named.Terms.{Terms}
use Rattle.syntax.specs.Canonical.{term_text, list_text, more_text}
use Rattle.std.specs.Result.{IsErr}
use Rattle.vocab.proofs.TermLemmas.{named_terms_tree-items}
use Rattle.texts.specs.Page.{Pours}
use Rattle.texts.proofs.PourLemmas.{Added, added_nothing, stops, goes_on, ends, renamed}
use Rattle.syntax.proofs.Pouring.{cut}

-- the terms after the first ones, each after a comma
abbrev pub texts : List NamedTerm → List ℕ
texts xs = more_text (arguments_of (map named_term_tree xs))

-- the terms below the place were added, and nothing failed
pub record ArePoured (terms : Terms) (place : ℕ) (t t' : Option (List ℕ)) (h h' : List ℕ) (f f' : ℕ) : Type 0 where
  pub poured : List ℕ
  pub whole : list_text (named_terms_tree terms) ≡ poured ++ texts (drop place (terms_of terms))
  pub part : Added t t' h h' f f' poured

first_of : (xs : List NamedTerm) (x : NamedTerm) → slice_get xs 0 ≡ Some x → list_text (arguments_of (map named_term_tree xs)) ≡ term_text (named_term_tree x) ++ texts (drop 1 xs)
first_of [] x h = absurd cc
first_of (y ∷ xs) x h = let e : y ≡ x = cc in ap (λ t. term_text (named_term_tree t) ++ texts xs) e

next_of : (xs : List NamedTerm) (i : ℕ) (x : NamedTerm) → slice_get xs i ≡ Some x → texts (drop i xs) ≡ codes ", " ++ term_text (named_term_tree x) ++ texts (drop (suc i) xs)
next_of [] i x h = absurd cc
next_of (y ∷ xs) zero x h = let e : y ≡ x = cc in ap (λ t. codes ", " ++ term_text (named_term_tree t) ++ texts xs) e
next_of (y ∷ xs) (suc i) x h = next_of xs i x h

first_whole : (ts : Terms) (x : NamedTerm) → slice_get (terms_of ts) 0 ≡ Some x → list_text (named_terms_tree ts) ≡ term_text (named_term_tree x) ++ texts (drop 1 (terms_of ts))
first_whole ts x h = ap list_text (named_terms_tree-items ts) ∙ first_of (terms_of ts) x h

-- what was added, the next term, and what follows it
next_whole : (ts : Terms) (i : ℕ) (x : NamedTerm) (front : List ℕ) → list_text (named_terms_tree ts) ≡ front ++ texts (drop i (terms_of ts)) → slice_get (terms_of ts) i ≡ Some x
    → list_text (named_terms_tree ts) ≡ front ++ (codes ", " ++ (term_text (named_term_tree x) ++ texts (drop (i + 1) (terms_of ts))))
next_whole ts i x front whole at =
    let t = term_text (named_term_tree x) in
    let r = texts (drop (suc i) (terms_of ts)) in
    rw add-one (whole ∙ ap (λ l. front ++ l) (next_of (terms_of ts) i x at ∙ append_assoc (codes ", ") t r))

module _ {T E : Type 0} (ts : Terms) (x : NamedTerm) (t t' : Option (List ℕ)) (h h' : List ℕ) (f f' : ℕ) (at : slice_get (terms_of ts) 0 ≡ Some x) where
  -- the first term was added
  pub list_begins : (d : T) → Pours {T = T} {E = E} t t' h h' f f' (Ok d) (term_text (named_term_tree x)) → ArePoured ts 1 t t' h h' f f'
  list_begins d w = record { poured = term_text (named_term_tree x); whole = first_whole ts x at; part = record { bytes = w.ok; grown = w.grown; tells = w.tells; later = w.cause.later } }

  -- it failed
  pub list_stops_first : {T' : Type 0} (e : E) (r : Result T E) → IsErr r → Pours {T = T'} {E = E} t t' h h' f f' (Err e) (term_text (named_term_tree x)) → Pours t t' h h' f f' r (list_text (named_terms_tree ts))
  list_stops_first e r is w = renamed t t' h h' f f' r _ _ (sym (first_whole ts x at)) (cut r (texts (drop 1 (terms_of ts)) ∷ []) is w)

regroup : (a b c d : List ℕ) → a ++ (b ++ (c ++ d)) ≡ ((a ++ b) ++ c) ++ d
regroup a b c d = simp append_assoc

module _ {T E : Type 0} (ts : Terms) (i : ℕ) (x : NamedTerm) (t t' : Option (List ℕ)) (h h' : List ℕ) (f f' : ℕ) (so_far : ArePoured ts i t t' h h' f f') (at : slice_get (terms_of ts) i ≡ Some x) where
  -- the comma before the next term failed
  pub list_stops_comma : {T' : Type 0} (t'' : Option (List ℕ)) (h'' : List ℕ) (f'' : ℕ) (e : E) (r : Result T E) → IsErr r → Pours {T = T'} {E = E} t' t'' h' h'' f' f'' (Err e) (codes ", ") → Pours t t'' h h'' f f'' r (list_text (named_terms_tree ts))
  list_stops_comma t'' h'' f'' e r is w =
      stops t t' h h' f f' so_far.poured so_far.part t'' h'' f'' e r (codes ", ") (term_text (named_term_tree x) ++ texts (drop (i + 1) (terms_of ts))) (list_text (named_terms_tree ts)) (next_whole ts i x so_far.poured so_far.whole at) is w

  module _ (t'' : Option (List ℕ)) (h'' : List ℕ) (f'' : ℕ) (d : T) (comma : Pours {T = T} {E = E} t' t'' h' h'' f' f'' (Ok d) (codes ", ")) (u : Option (List ℕ)) (k : List ℕ) (g : ℕ) where
    after_comma : Added t t'' h h'' f f'' (so_far.poured ++ codes ", ")
    after_comma = goes_on {T = T} {E = E} t t' h h' f f' so_far.poured so_far.part t'' h'' f'' d (codes ", ") (so_far.poured ++ codes ", ") refl comma

    -- the next term failed
    pub list_stops_next : {T' : Type 0} (e : E) (r : Result T E) → IsErr r → Pours {T = T'} {E = E} t'' u h'' k f'' g (Err e) (term_text (named_term_tree x)) → Pours t u h k f g r (list_text (named_terms_tree ts))
    list_stops_next e r is w =
        stops t t'' h h'' f f'' (so_far.poured ++ codes ", ") after_comma u k g e r (term_text (named_term_tree x)) (texts (drop (i + 1) (terms_of ts))) (list_text (named_terms_tree ts))
        (next_whole ts i x so_far.poured so_far.whole at ∙ sym (append_assoc so_far.poured (codes ", ") (term_text (named_term_tree x) ++ texts (drop (i + 1) (terms_of ts))))) is w

    -- both were added
    pub list_goes_on : (y : T) → Pours {T = T} {E = E} t'' u h'' k f'' g (Ok y) (term_text (named_term_tree x)) → ArePoured ts (i + 1) t u h k f g
    list_goes_on y w = record {
      poured = (so_far.poured ++ codes ", ") ++ term_text (named_term_tree x);
      whole = next_whole ts i x so_far.poured so_far.whole at ∙ regroup so_far.poured (codes ", ") (term_text (named_term_tree x)) (texts (drop (i + 1) (terms_of ts)));
      part = goes_on {T = T} {E = E} t t'' h h'' f f'' (so_far.poured ++ codes ", ") after_comma u k g y (term_text (named_term_tree x)) ((so_far.poured ++ codes ", ") ++ term_text (named_term_tree x)) refl w;
    }

-- no term is left
pub list_ends : {T E : Type 0} (ts : Terms) (n : ℕ) (t t' : Option (List ℕ)) (h h' : List ℕ) (f f' : ℕ) (d : T) → ArePoured ts n t t' h h' f f' → length (terms_of ts) ≤ n → Pours {T = T} {E = E} t t' h h' f f' (Ok d) (list_text (named_terms_tree ts))
list_ends ts n t t' h h' f f' d w past = ends t t' h h' f f' w.poured w.part d (list_text (named_terms_tree ts)) (sym (w.whole ∙ ap (λ l. w.poured ++ texts l) (drop_all n (terms_of ts) past) ∙ append-nil w.poured))

no_list_text : (ts : Terms) → length (terms_of ts) ≡ 0 → list_text (named_terms_tree ts) ≡ []
no_list_text ts h = ap list_text (named_terms_tree-items ts) ∙ empty_text (terms_of ts) h
  where
    empty_text : (xs : List NamedTerm) → length xs ≡ 0 → list_text (arguments_of (map named_term_tree xs)) ≡ []
    empty_text [] h = refl
    empty_text (x ∷ xs) h = absurd (omega arith)

pub empty_list : {T E : Type 0} (ts : Terms) (t : Option (List ℕ)) (h : List ℕ) (f : ℕ) (d : T) → length (terms_of ts) ≡ 0 → Pours {T = T} {E = E} t t h h f f (Ok d) (list_text (named_terms_tree ts))
empty_list ts t h f d none = ends t t h h f f [] (added_nothing t h f) d (list_text (named_terms_tree ts)) (sym (no_list_text ts none))
