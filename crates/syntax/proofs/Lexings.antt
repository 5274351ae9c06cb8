-- Lexemes of a text, one after another.
use Rattle.std.proofs.Common.{◌≡◌, ℕ, ◌+◌, ◌-◌, ◌≤◌, ◌<◌, true, false, List, [], ◌∷◌, ◌++◌, length, refl, sym, ap, ◌∙◌, subst, arith, append_assoc, append-nil, length-append, None, ◌||◌, ◌==◌, inl, inr, eqb-true}
use Rattle.std.proofs.lemmas.Bool.{or_cases}
use Rattle.syntax.proofs.Starting.{none_starts, one_start}
use Rattle.syntax.specs.declared.lexemes.Lexeme.{Lexeme}
use Rattle.syntax.specs.declared.lexemes.Lexeme.TheVariants as lexeme
use Rattle.syntax.specs.Lexemes.{IsSpelled, Starts, NoLexeme, Lexes, no_more, blank, one_more, is_white_space, IsStuck, IsLexed}
use Rattle.syntax.specs.Scanning.{lexeme_at}
use Rattle.syntax.specs.Sentence.{AreFew}

-- What stands before the rest is so many lexemes, of which the first 600 are kept.
pub record SoFar (text : List ℕ) (kept : List Lexeme) (count : ℕ) (rest : List ℕ) : Type 0 where
  pub before : List Lexeme
  pub lexed : (ls : List Lexeme) (end : List ℕ) → Lexes rest ls end → Lexes text (before ++ ls) end
  pub counted : length before ≡ count
  pub all_kept : count ≤ 600 → kept ≡ before
  pub within : count + length rest ≤ length text

pub so_far_blank : (text rest more : List ℕ) (kept : List Lexeme) (count c : ℕ) → SoFar text kept count rest → rest ≡ c ∷ more → is_white_space c ≡ true → SoFar text kept count more
so_far_blank text rest more kept count c s e b = record {
  before = s.before;
  lexed = λ ls end d. s.lexed ls end (subst (λ r. Lexes r ls end) (sym e) (blank b d));
  counted = s.counted;
  all_kept = s.all_kept;
  within = (let w = s.within in let n = ap length e in omega arith);
}

spelled_some : (l : Lexeme) (text : List ℕ) → IsSpelled l text → 1 ≤ length text
spelled_some (lexeme.Word []) text h = absurd (let e = h.1 in cc)
spelled_some (lexeme.Word (c ∷ cs)) text h = omega (arith, ap length h.0)
spelled_some (lexeme.Voter n) text h = omega (arith, ap length h.1)
spelled_some (lexeme.Alt a) text h = omega (arith, ap length h.1)
spelled_some (lexeme.Ballot b) text h = omega (arith, ap length h.0)
spelled_some _ text h = omega (arith, ap length h)

pub starts_longer : (bytes rest : List ℕ) (l : Lexeme) → Starts bytes l rest → length rest < length bytes
starts_longer bytes rest l s = let n = spelled_some l s.text s.spelled in let w = ap length s.whole in omega (arith, length-append s.text rest)

pub so_far_more : (text rest more : List ℕ) (kept kept' : List Lexeme) (count : ℕ) (l : Lexeme) → SoFar text kept count rest → Starts rest l more → (count < 600 → kept' ≡ kept ++ l ∷ []) → SoFar text kept' (count + 1) more
so_far_more text rest more kept kept' count l s t k = record {
  before = s.before ++ l ∷ [];
  lexed = λ ls end d. subst (λ b. Lexes text b end) (sym (append_assoc s.before (l ∷ []) ls)) (s.lexed (l ∷ ls) end (one_more t d));
  counted = (let n = s.counted in omega (arith, length-append s.before (l ∷ [])));
  all_kept = λ h. k (omega arith) ∙ ap (λ b. b ++ l ∷ []) (s.all_kept (omega arith));
  within = (let w = s.within in let n = starts_longer rest more l t in omega arith);
}

lexed_all : (text : List ℕ) (kept : List Lexeme) (count : ℕ) (rest : List ℕ) (s : SoFar text kept count rest) → rest ≡ [] → IsLexed text s.before
lexed_all text kept count rest s e = subst (λ b. Lexes text b []) (append-nil s.before) (s.lexed [] [] (subst (λ r. Lexes r [] []) (sym e) no_more))

pub few_lexed : (text : List ℕ) (kept : List Lexeme) (count : ℕ) (rest : List ℕ) → SoFar text kept count rest → rest ≡ [] → count ≤ 600 → AreFew text kept
few_lexed text kept count rest s e h =
    let same = s.all_kept h in
    let n = s.counted in
    record { lexed = subst (λ b. IsLexed text b) (sym same) (lexed_all text kept count rest s e); few = omega (arith, ap length same) }

pub many_lexed : (text : List ℕ) (kept : List Lexeme) (count : ℕ) (rest : List ℕ) → SoFar text kept count rest → rest ≡ [] → 600 < count → (ls : List Lexeme) × IsLexed text ls × (length ls ≡ count) × (600 < count)
many_lexed text kept count rest s e h = (s.before, lexed_all text kept count rest s e, s.counted, h)

pub stuck : (text : List ℕ) (kept : List Lexeme) (count : ℕ) (rest more : List ℕ) (c : ℕ) → SoFar text kept count rest → rest ≡ c ∷ more → is_white_space c ≡ false → lexeme_at rest ≡ None → IsStuck text (length text - length rest)
stuck text kept count rest more c s e b h =
    let w = s.within in
    record {
      before = s.before;
      byte = c;
      more = more;
      lexed = subst (λ b. Lexes text b (c ∷ more)) (append-nil s.before) (s.lexed [] (c ∷ more) (subst (λ r. Lexes r [] (c ∷ more)) (sym e) no_more));
      not_blank = b;
      none = none_starts (c ∷ more) (ap lexeme_at (sym e) ∙ h);
      place = omega (arith, ap length e);
    }

-- ---- a blank begins no lexeme

none_at : (c d : ℕ) (bytes : List ℕ) → (c == d) ≡ true → lexeme_at (d ∷ bytes) ≡ None → lexeme_at (c ∷ bytes) ≡ None
none_at c d bytes h k = ap (λ b. lexeme_at (b ∷ bytes)) (eqb-true c d h) ∙ k

none_at_blank : (c : ℕ) (bytes : List ℕ) → is_white_space c ≡ true → lexeme_at (c ∷ bytes) ≡ None
none_at_blank c bytes b =
    elim (or_cases (c == 9 || c == 10 || c == 13) (c == 32) b) [
      | inl b1 ↦ elim (or_cases (c == 9 || c == 10) (c == 13) b1) [
        | inl b2 ↦ elim (or_cases (c == 9) (c == 10) b2) [ inl h ↦ none_at c 9 bytes h refl | inr h ↦ none_at c 10 bytes h refl ]
        | inr h ↦ none_at c 13 bytes h refl
      ]
      | inr h ↦ none_at c 32 bytes h refl
    ]

pub starts_not_blank : (c : ℕ) (bytes more : List ℕ) (l : Lexeme) → is_white_space c ≡ true → Starts (c ∷ bytes) l more → ⊥
starts_not_blank c bytes more l b s = none_starts (c ∷ bytes) (none_at_blank c bytes b) l more s

-- ---- a text has one answer

-- nothing more is lexed there
abbrev pub Halts : List ℕ → Type 0
Halts [] = Unit {0}
Halts (c ∷ bytes) = (is_white_space c ≡ false) × NoLexeme (c ∷ bytes)

halt_blank : (c : ℕ) (bytes : List ℕ) → Halts (c ∷ bytes) → is_white_space c ≡ true → ⊥
halt_blank c bytes h b = let p = h.0 in cc

halt_starts : (bytes more : List ℕ) (l : Lexeme) → Halts bytes → Starts bytes l more → ⊥
halt_starts [] more l h s = let n = starts_longer [] more l s in omega arith
halt_starts (c ∷ bytes) more l h s = h.1 l more s

pub one_halt : {text xs ys : List ℕ} {ks ls : List Lexeme} → Lexes text ks xs → Lexes text ls ys → Halts xs → Halts ys → (ks ≡ ls) × (xs ≡ ys)
one_halt no_more no_more h k = (refl, refl)
one_halt no_more (blank {c = c} {bytes = bs} b e) h k = absurd (halt_blank c bs h b)
one_halt {xs} no_more (one_more {more = m} {l = l} s e) h k = absurd (halt_starts xs m l h s)
one_halt (blank {c = c} {bytes = bs} b d) no_more h k = absurd (halt_blank c bs k b)
one_halt (blank b d) (blank b' e) h k = one_halt d e h k
one_halt (blank {c = c} {bytes = bs} b d) (one_more {more = m} {l = l} s e) h k = absurd (starts_not_blank c bs m l b s)
one_halt {ys} (one_more {more = m} {l = l} s d) no_more h k = absurd (halt_starts ys m l k s)
one_halt (one_more {more = m} {l = l} s d) (blank {c = c} {bytes = bs} b e) h k = absurd (starts_not_blank c bs m l b s)
one_halt {text} {ys} (one_more {more = m} {l = k'} s d) (one_more {more = n} {l = l} {ls = ls} t e) h k =
    let same = one_start text m n k' l s t in
    let others = one_halt d (subst (λ r. Lexes r ls ys) (sym same.1) e) h k in
    (cc, others.1)
