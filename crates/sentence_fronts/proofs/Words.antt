-- The kinds of names.
use Rattle.std.proofs.Common.{◌≡◌, ℕ, true, false, List, refl, sym, ap, subst, inl, inr, codes}
use Rattle.std.specs.Str.{bytes_eq}
use Rattle.std.proofs.lemmas.Bool.{cases_Bool}
use Rattle.lists.proofs.TextLaws.{differs, same_from_test}
use Rattle.vocab.specs.declared.kinds.Sort.{Sort}
use Rattle.vocab.specs.declared.kinds.Sort.TheVariants as sort
use Rattle.syntax.specs.declared.lexemes.Quantifier.{Quantifier}
use Rattle.syntax.specs.declared.lexemes.Quantifier.TheVariants as quantifier
use Rattle.syntax.specs.Grammar.{IsFree, word_of_sort, word_of_quantifier}
use Rattle.syntax.proofs.Unique.{free_is_no_quantifier}
use Rattle.sentence_fronts.specs.declared.lexeme_kinds.LexemeKind.{LexemeKind}
use Rattle.sentence_fronts.specs.declared.lexeme_kinds.LexemeKind.TheVariants as kind
use Rattle.sentence_fronts.specs.LexemeKinds.{word_kind}

-- a name is one of the words of the grammar or none
pub data WordView (name : List ℕ) : Type 0 where
  quantifier_word : (q : Quantifier) → name ≡ word_of_quantifier q → word_kind name ≡ kind.Quantifier → WordView name
  sort_word : (s : Sort) → name ≡ word_of_sort s → IsFree name → word_kind name ≡ kind.Sort → WordView name
  plain_word : IsFree name → word_kind name ≡ kind.Name → WordView name

free_word : (name : List ℕ) → bytes_eq name (codes "all") ≡ false → bytes_eq name (codes "some") ≡ false → IsFree name
free_word name h k = record { not_all = differs name (codes "all") h; not_some = differs name (codes "some") k }

pub sort_kind : (s : Sort) (name : List ℕ) → name ≡ word_of_sort s → word_kind name ≡ kind.Sort
sort_kind sort.Voter name e = ap word_kind e
sort_kind sort.Alt name e = ap word_kind e
sort_kind sort.Ballot name e = ap word_kind e
sort_kind sort.Profile name e = ap word_kind e

pub quantifier_kind : (q : Quantifier) (name : List ℕ) → name ≡ word_of_quantifier q → word_kind name ≡ kind.Quantifier
quantifier_kind quantifier.All name e = ap word_kind e
quantifier_kind quantifier.Exists name e = ap word_kind e

sort_view : (s : Sort) (name : List ℕ) → bytes_eq name (word_of_sort s) ≡ true → IsFree name → WordView name
sort_view s name h free = let e = same_from_test name (word_of_sort s) h in sort_word s e free (sort_kind s name e)

pub word_view : (name : List ℕ) → WordView name
word_view name =
    elim (cases_Bool (bytes_eq name (codes "all"))) [
      | inl h ↦ (let e = same_from_test name (codes "all") h in quantifier_word quantifier.All e (ap word_kind e))
      | inr all ↦ elim (cases_Bool (bytes_eq name (codes "some"))) [
        | inl h ↦ (let e = same_from_test name (codes "some") h in quantifier_word quantifier.Exists e (ap word_kind e))
        | inr some ↦ (let free = free_word name all some in elim (cases_Bool (bytes_eq name (codes "voter"))) [
          | inl h ↦ sort_view sort.Voter name h free
          | inr voter ↦ elim (cases_Bool (bytes_eq name (codes "alt"))) [
            | inl h ↦ sort_view sort.Alt name h free
            | inr alt ↦ elim (cases_Bool (bytes_eq name (codes "ballot"))) [
              | inl h ↦ sort_view sort.Ballot name h free
              | inr ballot ↦ elim (cases_Bool (bytes_eq name (codes "profile"))) [
                | inl h ↦ sort_view sort.Profile name h free
                | inr profile ↦ plain_word free (rw (all, some, voter, alt, ballot, profile) refl)
              ]
            ]
          ]
        ])
      ]
    ]

-- what holds of both kinds of free names holds of the kind of each
pub free_kind : (P : LexemeKind → Type 0) (name : List ℕ) → IsFree name → P kind.Name → P kind.Sort → P (word_kind name)
free_kind P name f x y =
    elim (word_view name) [
      | quantifier_word q e k ↦ absurd (free_is_no_quantifier q name f e)
      | sort_word s e g k ↦ subst P (sym k) y
      | plain_word g k ↦ subst P (sym k) x
    ]

-- what holds of the kinds of all names holds of the kind of each
pub each_kind : (P : LexemeKind → Type 0) (name : List ℕ) → P kind.Quantifier → P kind.Name → P kind.Sort → P (word_kind name)
each_kind P name w x y =
    elim (word_view name) [
      | quantifier_word q e k ↦ subst P (sym k) w
      | sort_word s e g k ↦ subst P (sym k) y
      | plain_word g k ↦ subst P (sym k) x
    ]
