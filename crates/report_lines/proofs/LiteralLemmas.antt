-- What a literal is named by.
use Rattle.std.proofs.Common.{◌≡◌, ◌≢◌, sym, ap, ap₂, ◌∙◌, subst, ℕ, ◌<◌, not, ◌&&◌, Option, Some, None, List, ◌∷◌, MatchOption, IsTrue, ltb-true, true≢false}
use Rattle.std.specs.Prelude.{nat_lt, ◌==◌}
use Rattle.std.proofs.lemmas.Bool.{and_parts}
use Rattle.std.proofs.lemmas.Bool.Decides.{Decides-eqb}
use Rattle.lists.proofs.PlaceLaws.{head_same, tail_same}
use Rattle.vocab.specs.declared.kinds.Kind.{Kind}
use Rattle.vocab.specs.declared.kinds.Kind.TheVariants.{Ranking}
use Rattle.vocab.specs.declared.kinds.Sort.TheVariants.{Profile}
use Rattle.vocab.specs.declared.literals.Literal.{Literal}
use Rattle.vocab.specs.declared.literals.Literal.TheVariants.{Wins, Loses, Above}
use Rattle.vocab.specs.Size.{Extent, IsSize, sort_count}
use Rattle.meaning.specs.Literals.{is_literal_of}
use Rattle.meaning.specs.Space.{below}
use Rattle.meaning.specs.Texts.{letter, profile_text}
use Rattle.verdicts.specs.Texts.{literals, literal_text, read_profile, read_literal}
use Rattle.verdicts.proofs.WordLaws.{in_below, from_below, text_named, named_in}
use Rattle.verdicts.proofs.PrintLaws.{named_none, named_nothing}
use Rattle.verdicts.proofs.FitLaws.{literal_in}
use Rattle.verdicts.proofs.ReadLaws.{literal_read}

module _ (size : Extent) where
  abbrev count : ℕ
  count = sort_count size Profile

  -- a text that names a profile
  pub named_profile : (text : List ℕ) (p : ℕ) → Some p ≡ read_profile size text → (p < count) × (text ≡ profile_text size p)
  named_profile text p e = (from_below count p (named_in (profile_text size) (below count) text p (sym e)), text_named (profile_text size) (below count) text p (sym e))

  pub unnamed_profile : (text : List ℕ) → None ≡ read_profile size text → (p : ℕ) → p < count → text ≢ profile_text size p
  unnamed_profile text e p l = named_none (profile_text size) (below count) text (sym e) p (in_below count p l)

  module _ (word : List ℕ) where
    -- no text of a winner, or that of one
    abbrev pub IsNoWinner : Type 0
    IsNoWinner = (x p : ℕ) → x < size.alternatives → p < count → word ≢ letter x ∷ 64 ∷ profile_text size p

    abbrev pub IsWinner : ℕ → ℕ → Type 0
    IsWinner x p = (x < size.alternatives) × (p < count) × (word ≡ letter x ∷ 64 ∷ profile_text size p)

    pub no_letter : (byte mark : ℕ) (text : List ℕ) → word ≡ byte ∷ mark ∷ text → ((x : ℕ) → x < size.alternatives → byte ≢ letter x) → IsNoWinner
    no_letter byte mark text e none x p l h same = none x l (head_same byte (letter x) (mark ∷ text) (64 ∷ profile_text size p) (sym e ∙ same))

    pub no_profile : (byte mark : ℕ) (text : List ℕ) → word ≡ byte ∷ mark ∷ text → None ≡ read_profile size text → IsNoWinner
    no_profile byte mark text e none x p l h same =
        unnamed_profile text none p h (tail_same mark 64 text (profile_text size p) (tail_same byte (letter x) (mark ∷ text) (64 ∷ profile_text size p) (sym e ∙ same)))

    pub a_winner : (byte x p : ℕ) (text : List ℕ) → word ≡ byte ∷ 64 ∷ text → (x < size.alternatives) × (byte ≡ letter x) → Some p ≡ read_profile size text → IsWinner x p
    a_winner byte x p text e h named =
        let q = named_profile text p named in
        (h.0, q.0, e ∙ ap₂ (λ b t. b ∷ 64 ∷ t) h.1 q.1)

    -- no literal of a kind has this text, or this one has it
    abbrev pub IsNone : Kind → Type 0
    IsNone k = (l : Literal) → IsTrue (is_literal_of size k l) → word ≢ literal_text size l

    abbrev pub IsOne : Kind → Literal → Type 0
    IsOne k l = IsTrue (is_literal_of size k l) × (word ≡ literal_text size l)

    above_in : (x y p : ℕ) → IsTrue (is_literal_of size Ranking (Above x y p)) → (x < size.alternatives) × (y < size.alternatives) × (x ≢ y) × (p < count)
    above_in x y p h =
        let q = and_parts (nat_lt x size.alternatives && nat_lt y size.alternatives && not (x == y)) (nat_lt p count) h in
        let r = and_parts (nat_lt x size.alternatives && nat_lt y size.alternatives) (not (x == y)) q.0 in
        let s = and_parts (nat_lt x size.alternatives) (nat_lt y size.alternatives) r.0 in
        (ltb-true x size.alternatives s.0, ltb-true y size.alternatives s.1, λ same. true≢false (sym r.1 ∙ ap not ((Decides-eqb x y).1 same)), ltb-true p count q.1)

    pub no_upper : (byte : ℕ) (text : List ℕ) → word ≡ byte ∷ 62 ∷ text → ((x : ℕ) → x < size.alternatives → byte ≢ letter x) → IsNone Ranking
    no_upper byte text e none (Wins x p) h same = true≢false (sym h)
    no_upper byte text e none (Loses x p) h same = true≢false (sym h)
    no_upper byte text e none (Above x y p) h same = none x (above_in x y p h).0 (head_same byte (letter x) (62 ∷ text) (62 ∷ letter y ∷ 64 ∷ profile_text size p) (sym e ∙ same))

    -- what is told of a literal is that of the size
    pub literal_is : IsSize size → (k : Kind) → k ≡ size.kind → (r : Option Literal) → MatchOption r (IsNone k) (IsOne k) → r ≡ read_literal size word
    literal_is is k e None none = sym (named_nothing (literal_text size) (literals size) word (λ l i same. none l (subst (λ j. IsTrue (is_literal_of size j l)) (sym e) (literal_in size l i)) same))
    literal_is is k e (Some l) one = sym (ap (read_literal size) one.1 ∙ literal_read size is l (subst (λ j. IsTrue (is_literal_of size j l)) e one.0))
