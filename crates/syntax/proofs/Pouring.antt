-- Texts that are poured piece by piece.
use Rattle.std.proofs.Common.{ℕ, List, [], ◌∷◌, ◌++◌, refl, Option, Result, Ok, Err}
use Rattle.std.proofs.lemmas.Bool.{false≢true}
use Rattle.std.specs.Result.{IsErr}
use Rattle.texts.specs.Page.{Pours}
use Rattle.texts.proofs.PourLemmas.{stopped, followed}

-- one piece after another
abbrev pub all_of : List ℕ → List (List ℕ) → List ℕ
all_of xs [] = xs
all_of xs (piece ∷ pieces) = all_of (xs ++ piece) pieces

-- a piece after what was added
pub goes_on : {T T' E : Type 0} {t t' t'' : Option (List ℕ)} {h h' h'' : List ℕ} {f f' f'' : ℕ} {xs ys : List ℕ} {x : T'} {r : Result T E}
    → Pours {T = T'} {E = E} t t' h h' f f' (Ok x) xs → Pours t' t'' h' h'' f' f'' r ys → Pours t t'' h h'' f f'' r (xs ++ ys)
goes_on {t} {t'} {t''} {h} {h'} {h''} {f} {f'} {f''} {xs} {ys} {x} {r} v w = followed t t' h h' f f' xs ys t'' h'' f'' x r v w

module _ {T E : Type 0} {t t' : Option (List ℕ)} {h h' : List ℕ} {f f' : ℕ} where
  -- pieces that are left play no part where one failed
  more : (d : E) (pieces : List (List ℕ)) (text : List ℕ) → Pours {T = T} {E = E} t t' h h' f f' (Err d) text → Pours {T = T} {E = E} t t' h h' f f' (Err d) (all_of text pieces)
  more d [] text w = w
  more d (piece ∷ pieces) text w = more d pieces (text ++ piece) (stopped {T = T} {E = E} t t' h h' f f' text piece d (Err d) refl w)

  -- a piece failed, and others are left
  pub cut : {T' : Type 0} {e : E} {xs : List ℕ} (r : Result T E) (pieces : List (List ℕ)) → IsErr r → Pours {T = T'} {E = E} t t' h h' f f' (Err e) xs → Pours t t' h h' f f' r (all_of xs pieces)
  cut {T'} {e} {xs} (Ok x) pieces is w = absurd (false≢true is)
  cut {T'} {e} {xs} (Err d) pieces is w =
      more d pieces xs (record { ok = tt; err = w.err; grown = w.grown; tells = w.tells; cause = record { later = w.cause.later; failed = w.cause.failed } })
