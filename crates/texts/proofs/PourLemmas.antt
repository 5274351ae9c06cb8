-- Texts that are poured one after another.
use Rattle.std.proofs.Common.{◌≡◌, refl, sym, ap, ◌∙◌, subst, ℕ, ◌+◌, ◌≤◌, min, length, List, [], ◌∷◌, ◌++◌, take, Option, None, Some, Result, Ok, Err, zero, suc, append-nil, arith}
use Rattle.std.proofs.lemmas.Bool.{false≢true}
use Rattle.std.specs.Result.{IsErr}
use Rattle.std.specs.Io.KnownBytes.{Appends, append_known}
use Rattle.texts.specs.Page.{Grows, Pours}
use Rattle.edge.specs.Told.{TellsAsBefore}
use Rattle.edge.proofs.Known.{Appends-more}
use Rattle.texts.proofs.PageLemmas.{grows_nothing, grows_more}
use lib.Seq.{take-append-add}

-- the first bytes of a text are the first of a longer one
take_of_more : (n : ℕ) (a b : List ℕ) → take (min n (length a)) (a ++ b) ≡ take n a
take_of_more zero a b = rw (none (length a)) refl
  where
    none : (k : ℕ) → min 0 k ≡ 0
    none k = omega arith
take_of_more (suc n) [] b = rw (none n) refl
  where
    none : (n : ℕ) → min (suc n) 0 ≡ 0
    none n = omega arith
take_of_more (suc n) (x ∷ a) b = rw (least n (length a)) (ap (λ xs. x ∷ xs) (take_of_more n a b))
  where
    least : (n k : ℕ) → min (suc n) (suc k) ≡ suc (min n k)
    least n k = omega arith

-- what was added, in other words
pub renamed : {T E : Type 0} (t t' : Option (List ℕ)) (h h' : List ℕ) (f f' : ℕ) (r : Result T E) (a b : List ℕ) → a ≡ b → Pours t t' h h' f f' r a → Pours t t' h h' f f' r b
renamed t t' h h' f f' r a b same w = subst (λ (text : List ℕ). Pours t t' h h' f f' r text) same w

module _ {T E : Type 0} (t t' : Option (List ℕ)) (h h' : List ℕ) (f f' : ℕ) (a b : List ℕ) where
  -- where the first text failed, a prefix of both was added
  pub stopped : {T' : Type 0} (e : E) (r : Result T E) → IsErr r → Pours {T = T'} {E = E} t t' h h' f f' (Err e) a → Pours t t' h h' f f' r (a ++ b)
  stopped e (Ok x) is w = absurd (false≢true is)
  stopped e (Err d) is w = record {
    ok = tt;
    err = (min w.err.0 (length a), rw (take_of_more w.err.0 a b) w.err.1);
    grown = w.grown;
    tells = w.tells;
    cause = record { later = w.cause.later; failed = w.cause.failed };
  }

  -- where it did not, the second was added after it
  pub followed : {T' : Type 0} (t'' : Option (List ℕ)) (h'' : List ℕ) (f'' : ℕ) (x : T') (r : Result T E) → Pours {T = T'} {E = E} t t' h h' f f' (Ok x) a → Pours t' t'' h' h'' f' f'' r b → Pours t t'' h h'' f f'' r (a ++ b)
  followed t'' h'' f'' x (Ok y) v w = record {
    ok = Appends-more (append_known t h) (append_known t' h') (append_known t'' h'') a b v.ok w.ok;
    err = tt;
    grown = grows_more t t' t'' v.grown w.grown;
    tells = w.tells ∙ v.tells;
    cause = record { later = omega (arith, v.cause.later, w.cause.later); failed = tt };
  }
  followed t'' h'' f'' x (Err d) v w = record {
    ok = tt;
    err = (length a + w.err.0, rw (take-append-add a b w.err.0) (Appends-more (append_known t h) (append_known t' h') (append_known t'' h'') a (take w.err.0 b) v.ok w.err.1));
    grown = grows_more t t' t'' v.grown w.grown;
    tells = w.tells ∙ v.tells;
    cause = record { later = omega (arith, v.cause.later, w.cause.later); failed = omega (arith, v.cause.later, w.cause.failed) };
  }

-- so far this text was added, and nothing failed
pub record Added (t t' : Option (List ℕ)) (h h' : List ℕ) (f f' : ℕ) (text : List ℕ) : Type 0 where
  pub bytes : Appends (append_known t h) (append_known t' h') text
  pub grown : Grows t t'
  pub tells : TellsAsBefore t t'
  pub later : f ≤ f'

nothing_more : (t : Option (List ℕ)) → Appends t t []
nothing_more None = tt
nothing_more (Some xs) = sym (append-nil xs)

pub added_nothing : (t : Option (List ℕ)) (h : List ℕ) (f : ℕ) → Added t t h h f f []
added_nothing t h f = record { bytes = nothing_more (append_known t h); grown = grows_nothing t; tells = refl; later = omega arith }

pub of_added : {T E : Type 0} (t t' : Option (List ℕ)) (h h' : List ℕ) (f f' : ℕ) (a : List ℕ) (x : T) → Added t t' h h' f f' a → Pours {T = T} {E = E} t t' h h' f f' (Ok x) a
of_added t t' h h' f f' a x so_far = record { ok = so_far.bytes; err = tt; grown = so_far.grown; tells = so_far.tells; cause = record { later = so_far.later; failed = tt } }

module _ {T E : Type 0} (t t' : Option (List ℕ)) (h h' : List ℕ) (f f' : ℕ) (before : List ℕ) (so_far : Added t t' h h' f f' before) where
  -- the text that comes next was not added whole
  pub stops : {T' : Type 0} (t'' : Option (List ℕ)) (h'' : List ℕ) (f'' : ℕ) (e : E) (r : Result T E) (here after all : List ℕ) → all ≡ before ++ (here ++ after) → IsErr r → Pours {T = T'} {E = E} t' t'' h' h'' f' f'' (Err e) here
      → Pours t t'' h h'' f f'' r all
  stops t'' h'' f'' e (Ok y) here after all is err w = absurd (false≢true err)
  stops t'' h'' f'' e (Err y) here after all is err w =
      renamed t t'' h h'' f f'' (Err y) _ all (sym is)
      (followed t t' h h' f f' before (here ++ after) t'' h'' f'' tt (Err y) (of_added {T = Unit {0}} t t' h h' f f' before tt so_far)
      (stopped {T = T} {E = E} t' t'' h' h'' f' f'' here after e (Err y) refl w))

  -- it was
  pub goes_on : (t'' : Option (List ℕ)) (h'' : List ℕ) (f'' : ℕ) (x : T) (here next : List ℕ) → before ++ here ≡ next → Pours {T = T} {E = E} t' t'' h' h'' f' f'' (Ok x) here → Added t t'' h h'' f f'' next
  goes_on t'' h'' f'' x here next is w =
      subst (λ (all : List ℕ). Added t t'' h h'' f f'' all) is
      (record {
        bytes = Appends-more (append_known t h) (append_known t' h') (append_known t'' h'') before here so_far.bytes w.ok;
        grown = grows_more t t' t'' so_far.grown w.grown;
        tells = w.tells ∙ so_far.tells;
        later = omega (arith, so_far.later, w.cause.later);
      })

  -- nothing comes any more
  pub ends : (x : T) (all : List ℕ) → before ≡ all → Pours {T = T} {E = E} t t' h h' f f' (Ok x) all
  ends x all is = renamed t t' h h' f f' (Ok x) before all is (of_added t t' h h' f f' before x so_far)
