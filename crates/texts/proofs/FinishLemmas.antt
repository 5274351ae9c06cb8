-- A text that is poured through an empty page, which is then handed on.
use Rattle.std.proofs.Common.{◌≡◌, refl, sym, ap, ◌∙◌, subst, ℕ, min, length, List, [], ◌∷◌, ◌++◌, take, take_all, le_refl, Option, None, Some, Result, Ok, Err, OnErr, zero, suc, append-nil, append_assoc, arith}
use Rattle.std.specs.Io.KnownBytes.{Appends, Keeps, append_known}
use Rattle.texts.specs.Page.{Grows, Pours}
use Rattle.edge.specs.Told.{AppendsPrefix}
use Rattle.texts.proofs.PageLemmas.{grows_more, appends_kept}
use Rattle.std.proofs.lemmas.List.{append_cancel_left}
use lib.Seq.{take-append_seam}

take_twice : (m n : ℕ) (l : List ℕ) → take m (take n l) ≡ take (min m n) l
take_twice zero n l = rw (none n) refl
  where
    none : (n : ℕ) → min 0 n ≡ 0
    none n = omega arith
take_twice (suc m) zero l = rw (none m) refl
  where
    none : (m : ℕ) → min (suc m) 0 ≡ 0
    none m = omega arith
take_twice (suc m) (suc n) [] = rw (least m n) refl
  where
    least : (n k : ℕ) → min (suc n) (suc k) ≡ suc (min n k)
    least n k = omega arith
take_twice (suc m) (suc n) (x ∷ l) = rw (least m n) (ap (λ xs. x ∷ xs) (take_twice m n l))
  where
    least : (n k : ℕ) → min (suc n) (suc k) ≡ suc (min n k)
    least n k = omega arith

-- of what a page gave on, the sink took the front
front : (t t' : Option (List ℕ)) (h : List ℕ) (text : List ℕ) → Appends (append_known t []) (append_known t' h) text → Grows t t' → AppendsPrefix t t' text
front None t' h text w g = (0, tt)
front (Some x) None h text w g = (0, absurd w)
front (Some x) (Some y) h text w g =
    let same : text ≡ g.0 ++ h = sym (append_cancel_left x (g.0 ++ h) text (sym (append_assoc x g.0 h) ∙ ap (λ (l : List ℕ). l ++ h) (sym g.1) ∙ w ∙ ap (λ (l : List ℕ). l ++ text) (append-nil x))) in
    (length g.0, g.1 ∙ ap (λ (l : List ℕ). x ++ l) (sym (ap (take (length g.0)) same ∙ take-append_seam g.0 h)))

front_of_front : (t t' : Option (List ℕ)) (text : List ℕ) (n : ℕ) → AppendsPrefix t t' (take n text) → AppendsPrefix t t' text
front_of_front t t' text n p = (min p.0 n, subst (λ (l : List ℕ). Appends t t' l) (take_twice p.0 n text) p.1)

broken : {T E : Type 0} (t t' : Option (List ℕ)) (h' : List ℕ) (f f' : ℕ) (e : E) (text : List ℕ) → Pours {T = T} {E = E} t t' [] h' f f' (Err e) text → AppendsPrefix t t' text
broken t t' h' f f' e text w = front_of_front t t' text w.err.0 (front t t' h' (take w.err.0 text) w.err.1 w.grown)

kept_all : (a b c : Option (List ℕ)) (text : List ℕ) → Appends a b text → Keeps b c → Appends a c (take (length text) text)
kept_all None b c text h k = tt
kept_all (Some a) None c text h k = absurd h
kept_all (Some a) (Some b) None text h k = absurd k
kept_all (Some a) (Some b) (Some c) text h k = rw (take_all (length text) text (le_refl (length text))) (k ∙ h)

-- where a flush fails, the whole text was written
pub flushed : {T E : Type 0} (r : Result T E) (a b c : Option (List ℕ)) (text : List ℕ) → Appends a b text → Keeps b c → OnErr r (AppendsPrefix a c text)
flushed (Ok x) a b c text h k = tt
flushed (Err e) a b c text h k = (length text, kept_all a b c text h k)

-- the text was not added whole, from an empty page
pub stopped_err : {T T' E : Type 0} (t t' : Option (List ℕ)) (h h' : List ℕ) (f f' : ℕ) (e : E) (text : List ℕ) (r : Result T E) → h ≡ [] → Pours {T = T'} {E = E} t t' h h' f f' (Err e) text → OnErr r (AppendsPrefix t t' text)
stopped_err t t' h h' f f' e text (Ok x) empty w = tt
stopped_err {T} {T'} {E} t t' h h' f f' e text (Err d) empty w = broken {T = T'} {E = E} t t' h' f f' e text (subst (λ (l : List ℕ). Pours {T = T'} {E = E} t t' l h' f f' (Err e) text) empty w)

-- it was, and was handed on
pub finish_err : {T T' E : Type 0} (t t' t'' : Option (List ℕ)) (h h' h'' : List ℕ) (f f' : ℕ) (x : T') (text : List ℕ) (r : Result T E) → h ≡ [] → Pours {T = T'} {E = E} t t' h h' f f' (Ok x) text → Keeps (append_known t' h') (append_known t'' h'') → Grows t' t'' → OnErr r (AppendsPrefix t t'' text)
finish_err t t' t'' h h' h'' f f' x text (Ok y) empty w kept grown = tt
finish_err t t' t'' h h' h'' f f' x text (Err d) empty w kept grown =
    front t t'' h'' text (subst (λ (l : List ℕ). Appends (append_known t l) (append_known t'' h'') text) empty (appends_kept (append_known t h) (append_known t' h') (append_known t'' h'') text w.ok kept)) (grows_more t t' t'' w.grown grown)
