-- What `export` writes is within the limit of files, and is read again as it was written.
use Rattle.std.proofs.Common.{◌≡◌, refl, ◌∙◌, ap, ℕ, ◌+◌, ◌*◌, ◌/◌, ◌<◌, ◌≤◌, Bool, true, false, not, ◌&&◌, inl, inr, cond, List, [], ◌∷◌, ◌++◌, length, length-append, codes, None, Ok, arith, leb-true}
use Rattle.std.specs.Prelude.{◌==◌, nat_le, sum_by}
use Rattle.std.specs.List.{flat_map, list_all}
use Rattle.std.proofs.lemmas.Bool.{and_parts, and_from, cases_lt}
use Rattle.std.proofs.lemmas.List.Folds.{list_all-append}
use Rattle.std.proofs.lemmas.List.Sums.{sum_by-cons}
use Rattle.edge.specs.Shelf.{Files}
use Rattle.vocab.specs.declared.kinds.Kind.{Kind}
use Rattle.vocab.specs.declared.kinds.Kind.TheVariants.{Choice, Ranking, Sets}
use Rattle.vocab.specs.Size.{Extent, IsSize}
use Rattle.vocab.specs.Study.{Question}
use Rattle.cnf.specs.Signed.{Signed}
use Rattle.cnf.specs.Sat.{Clause}
use Rattle.cnf.specs.Fresh.{is_over}
use Rattle.meaning.specs.Texts.{kind_text}
use Rattle.meaning.specs.Variables.{variable_count}
use Rattle.verdicts.specs.Numbers.{number_text}
use Rattle.verdicts.proofs.NumberLaws.{text_small, text_large}
use Rattle.clause_form.proofs.OverLaws.{clauses_over}
use Rattle.clause_text.specs.Dimacs.{signed_text, clause_text, size_text, dimacs_text}
use Rattle.clause_text.specs.ReadDimacs.{read_dimacs}
use Rattle.clause_text.proofs.RoundLemmas.{plain_line, number_plain, written_is_read}
use Rattle.search_logs.specs.Spent.{all_places}
use Rattle.study.proofs.WholeStudies.{studies_whole}
use Rattle.answers.specs.Studies.{GivesStudy}
use Rattle.answers.specs.Grounding.{all_clauses, clauses_fault}
use Rattle.answers.specs.Export.{export_text}
use Rattle.answers.proofs.LimitLemmas.{AreFew, clauses_few, variables_few}

-- ---- how long the texts of numbers and clauses are

-- numbers below ten times a bound have one digit more
one_digit : (b k : ℕ) → ((n : ℕ) → n < b → length (number_text n) ≤ k) → 1 ≤ k → (n : ℕ) → n < 10 * b → length (number_text n) ≤ k + 1
one_digit b k short some n low = elim (cases_lt n 10) [
  | inl small ↦ let one : length (number_text n) ≡ 1 = ap (λ (t : List ℕ). length t) (text_small n small) in omega (arith, one)
  | inr large ↦
      let front : length (number_text (n / 10)) ≤ k = short (n / 10) (omega (arith, low)) in
      let more : length (number_text n) ≡ length (number_text (n / 10)) + 1 = ap (λ (t : List ℕ). length t) (text_large n large) ∙ length-append (number_text (n / 10)) _ in
      omega (arith, front, more)
]

digits_one : (n : ℕ) → n < 10 → length (number_text n) ≤ 1
digits_one n small = let one : length (number_text n) ≡ 1 = ap (λ (t : List ℕ). length t) (text_small n small) in omega (arith, one)

digits_seven : (n : ℕ) → n < 10000000 → length (number_text n) ≤ 7
digits_seven =
    one_digit 1000000 6 (one_digit 100000 5 (one_digit 10000 4 (one_digit 1000 3 (one_digit 100 2 (one_digit 10 1 digits_one (omega arith)) (omega arith)) (omega arith)) (omega arith)) (omega arith)) (omega arith)

digits_six : (n : ℕ) → n < 1000000 → length (number_text n) ≤ 6
digits_six = one_digit 100000 5 (one_digit 10000 4 (one_digit 1000 3 (one_digit 100 2 (one_digit 10 1 digits_one (omega arith)) (omega arith)) (omega arith)) (omega arith)) (omega arith)

literal_short : (v : ℕ) (l : Signed) → v ≤ 200000 → (nat_le 1 l.variable && nat_le l.variable v) ≡ true → length (signed_text l) ≤ 7
literal_short v l few within = by_sign l.positive
  where
    digits : length (number_text l.variable) ≤ 6
    digits = let high : l.variable ≤ v = leb-true l.variable v (and_parts (nat_le 1 l.variable) (nat_le l.variable v) within).1 in digits_six l.variable (omega (arith, high, few))

    by_sign : (b : Bool) → length (cond b (number_text l.variable) (45 ∷ number_text l.variable)) ≤ 7
    by_sign true = omega (arith, digits)
    by_sign false = omega (arith, digits)

module _ (v : ℕ) (few : v ≤ 200000) where
  literals_short : (clause : Clause) → is_over v clause ≡ true → length (flat_map (λ (l : Signed). signed_text l ++ 32 ∷ []) clause) ≤ 8 * length clause
  literals_short [] over = omega arith
  literals_short (l ∷ ls) over =
      let p = and_parts (nat_le 1 l.variable && nat_le l.variable v) (is_over v ls) over in
      let here : length (signed_text l) ≤ 7 = literal_short v l few p.0 in
      let rest = literals_short ls p.1 in
      let one : length (signed_text l ++ 32 ∷ []) ≡ length (signed_text l) + 1 = length-append (signed_text l) (32 ∷ []) in
      let all = length-append (signed_text l ++ 32 ∷ []) (flat_map (λ (l : Signed). signed_text l ++ 32 ∷ []) ls) in
      omega (arith, here, rest, one, all)

  clause_short : (clause : Clause) → is_over v clause ≡ true → length (clause_text clause ++ 10 ∷ []) ≤ 8 * length clause + 2
  clause_short clause over =
      let literals = literals_short clause over in
      let front : length (clause_text clause) ≡ length (flat_map (λ (l : Signed). signed_text l ++ 32 ∷ []) clause) + 1 = length-append (flat_map (λ (l : Signed). signed_text l ++ 32 ∷ []) clause) (48 ∷ []) in
      let all : length (clause_text clause ++ 10 ∷ []) ≡ length (clause_text clause) + 1 = length-append (clause_text clause) (10 ∷ []) in
      omega (arith, literals, front, all)

  clauses_short : (clauses : List Clause) → list_all (is_over v) clauses ≡ true → length (flat_map (λ (c : Clause). clause_text c ++ 10 ∷ []) clauses) ≤ 8 * sum_by length clauses + 2 * length clauses
  clauses_short [] over = omega arith
  clauses_short (c ∷ cs) over =
      let p = and_parts (is_over v c) (list_all (is_over v) cs) over in
      let here : length (clause_text c ++ 10 ∷ []) ≤ 8 * length c + 2 = clause_short c p.0 in
      let rest = clauses_short cs p.1 in
      let sum : sum_by length (c ∷ cs) ≡ length c + sum_by length cs = sum_by-cons length c cs in
      let all = length-append (clause_text c ++ 10 ∷ []) (flat_map (λ (c : Clause). clause_text c ++ 10 ∷ []) cs) in
      omega (arith, here, rest, sum, all)

-- ---- the line of a size

abbrev is_no_end : ℕ → Bool
is_no_end b = not (b == 10)

joined : (xs ys : List ℕ) → list_all is_no_end xs ≡ true → list_all is_no_end ys ≡ true → list_all is_no_end (xs ++ ys) ≡ true
joined xs ys h k = list_all-append is_no_end xs ys ∙ and_from (list_all is_no_end xs) (list_all is_no_end ys) h k

number_line : (n : ℕ) → list_all is_no_end (number_text n) ≡ true
number_line n = plain_line (number_text n) (number_plain n)

kind_line : (kind : Kind) → list_all is_no_end (codes "kind " ++ kind_text kind) ≡ true
kind_line Choice = refl
kind_line Ranking = refl
kind_line Sets = refl

size_line : (size : Extent) → list_all is_no_end (size_text size) ≡ true
size_line size =
    joined (codes "kind " ++ kind_text size.kind ++ codes " voters " ++ number_text size.voters ++ codes " alternatives ") (number_text size.alternatives)
    (joined (codes "kind " ++ kind_text size.kind ++ codes " voters " ++ number_text size.voters) (codes " alternatives ")
    (joined (codes "kind " ++ kind_text size.kind ++ codes " voters ") (number_text size.voters)
    (joined (codes "kind " ++ kind_text size.kind) (codes " voters ") (kind_line size.kind) refl) (number_line size.voters)) refl) (number_line size.alternatives)

kind_short : (kind : Kind) → length (codes "kind " ++ kind_text kind) ≤ 12
kind_short Choice = omega arith
kind_short Ranking = omega arith
kind_short Sets = omega arith

size_short : (size : Extent) → IsSize size → length (size_text size) ≤ 40
size_short size is =
    let kind = kind_short size.kind in
    let front : length (codes "kind " ++ kind_text size.kind ++ codes " voters ") ≡ length (codes "kind " ++ kind_text size.kind) + 8 = length-append (codes "kind " ++ kind_text size.kind) (codes " voters ") in
    let voters = length-append (codes "kind " ++ kind_text size.kind ++ codes " voters ") (number_text size.voters) in
    let middle : length (codes "kind " ++ kind_text size.kind ++ codes " voters " ++ number_text size.voters ++ codes " alternatives ")
    ≡ length (codes "kind " ++ kind_text size.kind ++ codes " voters " ++ number_text size.voters) + 14 = length-append (codes "kind " ++ kind_text size.kind ++ codes " voters " ++ number_text size.voters) (codes " alternatives ") in
    let all = length-append (codes "kind " ++ kind_text size.kind ++ codes " voters " ++ number_text size.voters ++ codes " alternatives ") (number_text size.alternatives) in
    let few : length (number_text size.voters) ≤ 1 = let low = is.few_voters in digits_one size.voters (omega (arith, low)) in
    let small : length (number_text size.alternatives) ≤ 1 = let low = is.few_alternatives in digits_one size.alternatives (omega (arith, low)) in
    omega (arith, kind, front, voters, middle, all, few, small)

-- ---- the text

six_parts : (a b c d e f g h : List ℕ) → length (a ++ b ++ c ++ d ++ e ++ f ++ g ++ h) ≡ length a + length b + length c + length d + length e + length f + length g + length h
six_parts a b c d e f g h =
    length-append (a ++ b ++ c ++ d ++ e ++ f ++ g) h
    ∙ ap (λ (n : ℕ). n + length h) (length-append (a ++ b ++ c ++ d ++ e ++ f) g
    ∙ ap (λ (n : ℕ). n + length g) (length-append (a ++ b ++ c ++ d ++ e) f
    ∙ ap (λ (n : ℕ). n + length f) (length-append (a ++ b ++ c ++ d) e
    ∙ ap (λ (n : ℕ). n + length e) (length-append (a ++ b ++ c) d
    ∙ ap (λ (n : ℕ). n + length d) (length-append (a ++ b) c
    ∙ ap (λ (n : ℕ). n + length c) (length-append a b))))))

text_short : (head : List ℕ) (v : ℕ) (clauses : List Clause) → length head ≤ 40 → v ≤ 200000 → AreFew clauses → list_all (is_over v) clauses ≡ true → length (dimacs_text head v clauses) ≤ 536870912
text_short head v clauses narrow few within over =
    let body = clauses_short v few clauses over in
    let short = within.short in
    let light = within.light in
    let variables : length (number_text v) ≤ 6 = digits_six v (omega (arith, few)) in
    let count : length (number_text (length clauses)) ≤ 7 = digits_seven (length clauses) (omega (arith, short)) in
    let all : length (dimacs_text head v clauses) ≡ 19 + length head + 7 + length (number_text v) + 1 + length (number_text (length clauses)) + 1 + length (flat_map (λ (c : Clause). clause_text c ++ 10 ∷ []) clauses) =
    six_parts (codes "c bench export 1\nc ") head (codes "\np cnf ") (number_text v) (codes " ") (number_text (length clauses)) (codes "\n") (flat_map (λ (c : Clause). clause_text c ++ 10 ∷ []) clauses) in
    omega (arith, narrow, body, short, light, variables, count, all)

-- what is written of the clauses of a study that is read, where they are not refused
pub record IsReadAgain (study : Question) : Type 0 where
  pub fits : length (export_text study) ≤ 536870912
  pub read : read_dimacs (export_text study) ≡ Ok (record { variables = variable_count study.size; clauses = all_clauses study })
  pub few : AreFew (all_clauses study)

pub export_read : (files : Files) (name : List ℕ) (study : Question) → GivesStudy files name study → clauses_fault study ≡ None → IsReadAgain study
export_read files name study g none =
    let size : IsSize study.size = (studies_whole g.bytes study g.read).1 in
    let few = clauses_few study size none in
    let variables = variables_few study.size size in
    let over = clauses_over study.size study.axioms (studies_whole g.bytes study g.read).0.sentences (all_places study) in
    record {
      fits = text_short (size_text study.size) (variable_count study.size) (all_clauses study) (size_short study.size size) variables few over;
      read = written_is_read (size_text study.size) (variable_count study.size) (all_clauses study) (size_line study.size) (omega (arith, variables)) few.short few.light over;
      few = few;
    }
