-- A byte is written after a text that is held in place.
use Rattle.std.proofs.Common.{◌≡◌, sym, ◌∙◌, ap, ℕ, ◌+◌, ◌-◌, ◌<◌, List, drop, set, replicate, arith, length-set}
use Rattle.std.proofs.lemmas.List.{drop-set-lt, drop-replicate, drop-drop}
use Rattle.vocab.specs.InPlace.{IsPadded}

pub IsPadded-set : (n len : ℕ) (cells : List ℕ) (byte : ℕ) → IsPadded n len cells → len < n → IsPadded n (len + 1) (set cells len byte)
IsPadded-set n len cells byte h room = record {
  fits = omega arith;
  whole = length-set cells len byte ∙ h.whole;
  rest = drop-set-lt (len + 1) cells len byte (omega arith) ∙ sym (drop-drop 1 len cells) ∙ ap (drop 1) h.rest ∙ drop-replicate 1 (n - len) 0 ∙ ap (λ k. replicate k 0) (let left : n - len - 1 ≡ n - (len + 1) = omega arith in left);
}
