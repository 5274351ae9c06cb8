-- The variables of the lines that are read are in range, and the lines of a text are few.
use Rattle.std.proofs.Common.{◌≡◌, refl, ap, ◌∙◌, subst, ℕ, suc, ◌+◌, ◌-◌, ◌^◌, ◌<◌, ◌≤◌, arith, Bool, true, false, cond, List, [], ◌∷◌, length, filter, Option, Some, None, Result, Ok, Err}
use Rattle.std.proofs.lemmas.Bool.{eqb-false, leb-false, le-leb}
use Rattle.std.proofs.lemmas.List.{length-map}
use Rattle.std.proofs.lemmas.List.Sums.{length-filter, count_by-le-length}
use Rattle.std.proofs.lemmas.List.Splits.{length-slice_split}
use Rattle.std.proofs.lemmas.List.FromFn.{length-enumerate_from}
use Rattle.std.specs.Prelude.{◌==◌, ◌&&◌, nat_le, IfOk, IfSome, IsTrue, codes}
use Rattle.std.specs.List.{list_all, slice_split, enumerate_from}
use Rattle.std.specs.Str.{bytes_eq}
use Rattle.cnf.specs.Sat.{Clause}
use Rattle.cnf.specs.Fresh.{is_over, added_by, AreOver}
use Rattle.cnf.specs.declared.derivations.Line.{Line}
use Rattle.verdicts.specs.Numbers.{number_within}
use Rattle.verdicts.proofs.NumberLaws.{IsWithin, number_is_within}
use Rattle.clause_text.specs.declared.faults.LratFault.{LratFault}
use Rattle.clause_text.specs.declared.steps.Told.{Told}
use Rattle.clause_text.specs.declared.steps.Told.TheVariants.{Read, Negative, Formless}
use Rattle.clause_text.specs.Words.{WordedLine, words_in_line, says, said_lines, Token, Ends, Says, plain_token, minus_token, token_of}
use Rattle.clause_text.specs.ReadLrat.{most_id, id_of, ids_of, hints_of, literals_read, after_token, added_clause, adding, dropping, told, before_rest, steps_of, read_lrat}

some_number : (n : ℕ) → (n == 0) ≡ false → nat_le 1 n ≡ true
some_number n e = by_test (nat_le 1 n) refl
  where
    by_test : (t : Bool) → nat_le 1 n ≡ t → nat_le 1 n ≡ true
    by_test true h = h
    by_test false h = absurd (eqb-false n 0 e (omega (arith, leb-false 1 n h)))

module _ (v : ℕ) where
  -- a number is at most this one
  abbrev IsUpTo : Option ℕ → Type 0
  IsUpTo None = Unit {0}
  IsUpTo (Some n) = IsTrue (nat_le n v)

  number_is_up_to : (word : List ℕ) → IsUpTo (number_within 0 v word)
  number_is_up_to word = by_number (number_within 0 v word) (number_is_within 0 v word)
    where
      by_number : (o : Option ℕ) → IfSome o (IsWithin 0 v) → IsUpTo o
      by_number None h = tt
      by_number (Some n) h = le-leb n v h.1

  -- ---- literals

  -- a literal is over these variables
  abbrev IsTokenOver : Option Token → Type 0
  IsTokenOver None = Unit {0}
  IsTokenOver (Some Ends) = Unit {0}
  IsTokenOver (Some (Says l)) = IsTrue (nat_le 1 l.variable && nat_le l.variable v)

  within : (n : ℕ) → (n == 0) ≡ false → nat_le n v ≡ true → (nat_le 1 n && nat_le n v) ≡ true
  within n some high = ap (λ (t : Bool). t && nat_le n v) (some_number n some) ∙ high

  plain_is_over : (number : Option ℕ) → IsUpTo number → IsTokenOver (plain_token number)
  plain_is_over None high = tt
  plain_is_over (Some n) high = by_test (n == 0) refl
    where
      by_test : (t : Bool) → (n == 0) ≡ t → IsTokenOver (cond t (Some Ends) (Some (Says (record { variable = n; positive = true }))))
      by_test true h = tt
      by_test false h = within n h high

  minus_is_over : (number : Option ℕ) → IsUpTo number → IsTokenOver (minus_token number)
  minus_is_over None high = tt
  minus_is_over (Some n) high = by_test (n == 0) refl
    where
      by_test : (t : Bool) → (n == 0) ≡ t → IsTokenOver (cond t None (Some (Says (record { variable = n; positive = false }))))
      by_test true h = tt
      by_test false h = within n h high

  token_is_over : (word : List ℕ) → IsTokenOver (token_of v word)
  token_is_over [] = tt
  token_is_over (c ∷ cs) = by_test (c == 45)
    where
      by_test : (t : Bool) → IsTokenOver (cond t (minus_token (number_within 0 v cs)) (plain_token (number_within 0 v (c ∷ cs))))
      by_test true = minus_is_over (number_within 0 v cs) (number_is_up_to cs)
      by_test false = plain_is_over (number_within 0 v (c ∷ cs)) (number_is_up_to (c ∷ cs))

  -- ---- clauses

  abbrev AreLiteralsOver : Option (Clause × List (List ℕ)) → Type 0
  AreLiteralsOver None = Unit {0}
  AreLiteralsOver (Some found) = IsTrue (is_over v found.0)

  literals_are_over : (words : List (List ℕ)) → AreLiteralsOver (literals_read v words)
  literals_are_over [] = tt
  literals_are_over (word ∷ rest) = by_token (token_of v word) (token_is_over word) (literals_read v rest) (literals_are_over rest)
    where
      by_token : (token : Option Token) → IsTokenOver token → (more : Option (Clause × List (List ℕ))) → AreLiteralsOver more → AreLiteralsOver (after_token token rest more)
      by_token None one more others = tt
      by_token (Some Ends) one more others = refl
      by_token (Some (Says l)) one None others = tt
      by_token (Some (Says l)) one (Some found) others = ap (λ (t : Bool). t && is_over v found.0) one ∙ others

  -- ---- lines

  abbrev IsToldOver : Told → Type 0
  IsToldOver (Read step) = IsTrue (is_over v (added_by step))
  IsToldOver Negative = Unit {0}
  IsToldOver Formless = Unit {0}

  dropping_is_over : (id : Option ℕ) (ids : Option (List ℕ)) → IsToldOver (dropping id ids)
  dropping_is_over None ids = tt
  dropping_is_over (Some id) None = tt
  dropping_is_over (Some id) (Some ids) = refl

  added_is_over : (id : ℕ) (clause : Clause) (hints : Option (Bool × List ℕ)) → is_over v clause ≡ true → IsToldOver (added_clause id clause hints)
  added_is_over id clause None over = tt
  added_is_over id clause (Some (true, hints)) over = tt
  added_is_over id clause (Some (false, hints)) over = over

  adding_is_over : (id : Option ℕ) (found : Option (Clause × List (List ℕ))) → AreLiteralsOver found → IsToldOver (adding id found)
  adding_is_over None found over = tt
  adding_is_over (Some id) None over = tt
  adding_is_over (Some id) (Some (clause, rest)) over = added_is_over id clause (hints_of rest) over

  told_is_over : (words : List (List ℕ)) → IsToldOver (told v words)
  told_is_over [] = tt
  told_is_over (id ∷ []) = tt
  told_is_over (id ∷ word ∷ rest) = by_test (bytes_eq word (codes "d"))
    where
      by_test : (t : Bool) → IsToldOver (cond t (dropping (number_within 0 most_id id) (ids_of rest)) (adding (id_of id) (literals_read v (word ∷ rest))))
      by_test true = dropping_is_over (number_within 0 most_id id) (ids_of rest)
      by_test false = adding_is_over (id_of id) (literals_read v (word ∷ rest)) (literals_are_over (word ∷ rest))

  steps_are_over : (lines : List WordedLine) → IfOk (steps_of v lines) (AreOver v)
  steps_are_over [] = refl
  steps_are_over (line ∷ lines) = by_told (told v line.words) (told_is_over line.words) (steps_of v lines) (steps_are_over lines)
    where
      by_told : (t : Told) → IsToldOver t → (rest : Result (List Line) LratFault) → IfOk rest (AreOver v) → IfOk (before_rest line.at t rest) (AreOver v)
      by_told Formless one rest others = tt
      by_told Negative one rest others = tt
      by_told (Read step) one (Err e) others = tt
      by_told (Read step) one (Ok more) others = ap (λ (t : Bool). t && list_all (λ (l : Line). is_over v (added_by l.step)) more) one ∙ others

  -- a step for each line
  steps_are_as_many : (lines : List WordedLine) → IfOk (steps_of v lines) (λ read. length read ≡ length lines)
  steps_are_as_many [] = refl
  steps_are_as_many (line ∷ lines) = by_told (told v line.words) (steps_of v lines) (steps_are_as_many lines)
    where
      by_told : (t : Told) (rest : Result (List Line) LratFault) → IfOk rest (λ read. length read ≡ length lines) → IfOk (before_rest line.at t rest) (λ read. length read ≡ length (line ∷ lines))
      by_told Formless rest others = tt
      by_told Negative rest others = tt
      by_told (Read step) (Err e) others = tt
      by_told (Read step) (Ok more) others = ap (λ (n : ℕ). suc n) others

  -- ---- texts

  -- the variables of the lines that a text gives are from 1 to their number
  pub read_lines_are_over : (text : List ℕ) (lines : List Line) → read_lrat v text ≡ Ok lines → AreOver v lines
  read_lines_are_over text lines is = subst (λ (r : Result (List Line) LratFault). IfOk r (AreOver v)) is (steps_are_over (said_lines text))

  read_lines_are_said : (text : List ℕ) (lines : List Line) → read_lrat v text ≡ Ok lines → length lines ≡ length (said_lines text)
  read_lines_are_said text lines is =
      subst (λ (r : Result (List Line) LratFault). IfOk r (λ read. length read ≡ length (said_lines text))) is (steps_are_as_many (said_lines text))

-- a line ends at a byte, or at the end of the text
said_lines_are_few : (text : List ℕ) → length (said_lines text) ≤ length text + 1
said_lines_are_few text =
    let parts : List (List ℕ) = slice_split (λ c. c == 10) text in
    let numbered : List (ℕ × List ℕ) = enumerate_from 1 parts in
    let said : length (said_lines text) ≡ length (filter says numbered) = length-map {B = WordedLine} (filter says numbered) (λ line. record { at = line.0; words = words_in_line line.1 }) in
    omega (arith, said, length-filter says numbered, count_by-le-length says numbered, length-enumerate_from 1 parts, length-slice_split (λ c. c == 10) text, count_by-le-length (λ c. c == 10) text)

-- a text gives fewer lines than there are numbers for them
pub read_lines_are_few : (v : ℕ) (text : List ℕ) (lines : List Line) → length text ≤ 536870912 → read_lrat v text ≡ Ok lines → length lines < 2 ^ 32 - 1
read_lines_are_few v text lines short is = omega (arith, short, read_lines_are_said v text lines is, said_lines_are_few text)
