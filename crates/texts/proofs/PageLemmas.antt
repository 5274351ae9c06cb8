-- Bytes that wait in front of a sink.
use Rattle.std.proofs.Common.{◌≡◌, ℕ, ◌+◌, ◌-◌, ◌≤◌, length, List, [], ◌++◌, take, drop, Option, None, Some, append_assoc, append-nil, sym, ap, ◌∙◌, refl, take-append-drop, drop-drop, length-drop, Result, Ok, Err, arith}
use Rattle.std.proofs.lemmas.Bool.{false≢true}
use Rattle.std.specs.Result.{IsErr}
use Rattle.edge.specs.Faults.{HasCause}
use Rattle.std.proofs.lemmas.List.{take_rest}
use Rattle.std.specs.Io.KnownBytes.{Appends, Keeps, append_known}
use Rattle.texts.specs.Page.{Grows, Pours}
use Rattle.edge.specs.Told.{TellsAsBefore}
use Rattle.edge.proofs.Known.{Appends-more}

pub grows_nothing : (a : Option (List ℕ)) → Grows a a
grows_nothing None = ([], tt)
grows_nothing (Some xs) = ([], sym (append-nil xs))

pub grows_more : (a b c : Option (List ℕ)) → Grows a b → Grows b c → Grows a c
grows_more a b c g h = (g.0 ++ h.0, Appends-more a b c g.0 h.0 g.1 h.1)

pub keeps_same : (a : Option (List ℕ)) → Keeps a a
keeps_same None = tt
keeps_same (Some xs) = refl

pub keeps_more : (a b c : Option (List ℕ)) → Keeps a b → Keeps b c → Keeps a c
keeps_more None b c h k = tt
keeps_more (Some x) None c h k = absurd h
keeps_more (Some x) (Some y) None h k = absurd k
keeps_more (Some x) (Some y) (Some z) h k = k ∙ h

-- the sink took the front of what waits
pub moved : (a b : Option (List ℕ)) (front rest all : List ℕ) → Appends a b front → all ≡ front ++ rest → Keeps (append_known a all) (append_known b rest)
moved None b front rest all p e = tt
moved (Some x) None front rest all p e = absurd p
moved (Some x) (Some y) front rest all p e = ap (λ l. l ++ rest) p ∙ append_assoc x front rest ∙ ap (λ l. x ++ l) (sym e)

drop_take_more : (n m : ℕ) (xs : List ℕ) → drop n xs ≡ take m (take (length xs - n) (drop n xs)) ++ drop (n + m) xs
drop_take_more n m xs = sym (take-append-drop m (drop n xs)) ∙ ap (λ (rest : List ℕ). take m (drop n xs) ++ rest) (drop-drop m n xs) ∙ ap (λ (w : List ℕ). take m w ++ drop (n + m) xs) (sym (take_rest xs n))

-- a write of what follows the first n bytes
pub moved_on : (a b c : Option (List ℕ)) (all bytes : List ℕ) (n m : ℕ) → Keeps (append_known a all) (append_known b (drop n bytes)) → Appends b c (take m (take (length bytes - n) (drop n bytes)))
    → Keeps (append_known a all) (append_known c (drop (n + m) bytes))
moved_on a b c all bytes n m h k =
    keeps_more (append_known a all) (append_known b (drop n bytes)) (append_known c (drop (n + m) bytes)) h (moved b c _ (drop (n + m) bytes) (drop n bytes) k (drop_take_more n m bytes))

-- so far the sink took what stood before a place
pub record Drained (t t' : Option (List ℕ)) (f f' : ℕ) (bytes : List ℕ) (from place : ℕ) : Type 0 where
  pub order : from ≤ place
  pub within : place ≤ length bytes
  pub bytes_kept : Keeps (append_known t (drop from bytes)) (append_known t' (drop place bytes))
  pub grown : Grows t t'
  pub tells : TellsAsBefore t t'
  pub later : f ≤ f'

-- so far the first bytes of a piece were added
pub record Poured (t t' : Option (List ℕ)) (h h' : List ℕ) (f f' : ℕ) (piece : List ℕ) (done : ℕ) : Type 0 where
  pub within : done ≤ length piece
  pub bytes : Appends (append_known t h) (append_known t' h') (take done piece)
  pub grown : Grows t t'
  pub tells : TellsAsBefore t t'
  pub later : f ≤ f'

pub rest_length : (n : ℕ) (xs : List ℕ) → length (take (length xs - n) (drop n xs)) ≡ length xs - n
rest_length n xs = ap length (take_rest xs n) ∙ length-drop n xs

pub appends_kept : (a b c : Option (List ℕ)) (xs : List ℕ) → Appends a b xs → Keeps b c → Appends a c xs
appends_kept None b c xs h k = tt
appends_kept (Some x) None c xs h k = absurd h
appends_kept (Some x) (Some y) None xs h k = absurd k
appends_kept (Some x) (Some y) (Some z) xs h k = k ∙ h

-- the rest of the piece was not added
pub pour_stops : {T T' E : Type 0} (t t' t'' : Option (List ℕ)) (h h' h'' : List ℕ) (f f' f'' : ℕ) (piece : List ℕ) (done : ℕ) (e : E) (r : Result T E) → IsErr r → Poured t t' h h' f f' piece done
    → Keeps (append_known t' h') (append_known t'' h'') → Grows t' t'' → TellsAsBefore t' t'' → HasCause {T = T'} {E = E} f' f'' (Err e) → Pours t t'' h h'' f f'' r piece
pour_stops t t' t'' h h' h'' f f' f'' piece done e (Ok x) is so_far kept grown tells cause = absurd (false≢true is)
pour_stops t t' t'' h h' h'' f f' f'' piece done e (Err d) is so_far kept grown tells cause = record {
  ok = tt;
  err = (done, appends_kept (append_known t h) (append_known t' h') (append_known t'' h'') (take done piece) so_far.bytes kept);
  grown = grows_more t t' t'' so_far.grown grown;
  tells = tells ∙ so_far.tells;
  cause = record { later = omega (arith, so_far.later, cause.later); failed = omega (arith, so_far.later, cause.failed) };
}
