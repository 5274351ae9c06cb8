-- Commands over two files, of which the second is read where the first is not refused.
use Rattle.std.proofs.Common.{◌≡◌, ◌∙◌, sym, refl, subst, ℕ, ◌≤◌, true, false, List, [], ◌∷◌, Option, IfSome, Result, Ok, Err, IfOk, IsErrOf, arith, zero, suc, Bool, cond, take}
use Rattle.std.specs.Prelude.{◌==◌, Contains}
use Rattle.std.specs.List.{list_any}
use Rattle.edge.specs.Shelf.{Files, OthersStay, NoneFell}
use Rattle.edge.specs.Faults.{Rose}
use Rattle.words.specs.Words.{Request}
use Rattle.answers.specs.Runs.{IsBare}
use Rattle.answers.specs.Lawful.{IsBenchAnswer}
use Rattle.answers.specs.Call.{AreFiles, IsFirstTaken, at_first, at_second, files_of, statuses_of, touched_at}
use Rattle.answers.proofs.AmongLemmas.{found_among, not_alone, not_first, not_later}
use Rattle.command_parts.specs.declared.answer.Answer.{Answer}
use Rattle.command_parts.specs.declared.answer.Stop.{Stop}
use Rattle.command_parts.specs.declared.answer.Stop.TheVariants as stop
use Rattle.command_parts.specs.Answers.{HasText, run_of, answer_status, text_of}
use Rattle.command_parts.specs.Answered.{Answers}

-- ---- statuses

abbrev pub pair_statuses : List ℕ
pair_statuses = 0 ∷ 1 ∷ 3 ∷ 5 ∷ 6 ∷ 7 ∷ []

low_status : (s : ℕ) → s ≤ 1 → list_any (λ n. n == s) pair_statuses ≡ true
low_status zero low = refl
low_status (suc zero) low = refl
low_status (suc (suc s)) low = absurd (omega (arith, low))

-- a status lets no other files be touched than those of the command
pub not_in_front : (name : List ℕ) (s : ℕ) (names : List (List ℕ)) → ¬ Contains names name → ¬ Contains (touched_at s names) name
not_in_front name s names free = by_status (s == 3) names free
  where
    first_alone : (names : List (List ℕ)) → ¬ Contains names name → ¬ Contains (take 1 names) name
    first_alone [] free = free
    first_alone (other ∷ names) free = not_alone name other (not_first name other names free)

    by_status : (b : Bool) (names : List (List ℕ)) → ¬ Contains names name → ¬ Contains (cond b (take 1 names) names) name
    by_status true names free = first_alone names free
    by_status false names free = free

-- with a status of at most 1 both files may be touched
pub both_touched : (s : ℕ) (names : List (List ℕ)) → s ≤ 1 → touched_at s names ≡ names
both_touched zero names low = refl
both_touched (suc zero) names low = refl
both_touched (suc (suc s)) names low = absurd (omega (arith, low))

pub rose_since : (a b c : ℕ) → a ≤ b → Rose b c → Rose a c
rose_since a b c h k = omega arith

-- a command reads these two files, with these statuses
pub record IsPairCommand (request : Option Request) (name second : List ℕ) : Type 0 where
  pub two : files_of request ≡ name ∷ second ∷ []
  pub statuses : statuses_of request ≡ pair_statuses

module _ (request : Option Request) (name second : List ℕ) (command : IsPairCommand request name second)
    (told : Option Files) (left_before left_middle : Files) (faults_before faults_middle : List ℕ → ℕ) (others : OthersStay left_before left_middle name) where
  status_is : (s : ℕ) → list_any (λ n. n == s) pair_statuses ≡ true → Contains (statuses_of request) s
  status_is s h = subst (λ (ss : List ℕ). Contains ss s) (sym command.statuses) (found_among pair_statuses s h)

  reads_two : files_of request ≡ [] → ⊥
  reads_two e = let no : name ∷ second ∷ [] ≡ [] = sym command.two ∙ e in cc

  files_are : (files : Files) → AreFiles told (files_of request) files → AreFiles told (name ∷ second ∷ []) files
  files_are files h = subst (λ (names : List (List ℕ)). AreFiles told names files) command.two h

  -- a name that is none of those that a status lets be touched
  free_at : (s : ℕ) (other : List ℕ) → ¬ Contains (touched_at s (files_of request)) other → ¬ Contains (touched_at s (name ∷ second ∷ [])) other
  free_at s other free = subst (λ (names : List (List ℕ)). ¬ Contains (touched_at s names) other) command.two free

  module _ (left_now : Files) (faults_now : List ℕ → ℕ) where
    abbrev Promised : Result Answer Stop → Type 0
    Promised result = Answers request told left_before left_now faults_before faults_now result

    two_files : OthersStay left_middle left_now second → (other : List ℕ) → ¬ Contains (name ∷ second ∷ []) other → left_now other ≡ left_before other
    two_files more other free =
        more other (not_first other second [] (not_later other name (second ∷ []) free)) ∙ others other (not_first other name (second ∷ []) free)

    -- the first file is taken, and the second was judged
    pub second_judged : (result : Result Answer Stop) → IfSome told (λ files. IsFirstTaken request files name) → NoneFell faults_before faults_middle
        → ((files : Files) → AreFiles told (name ∷ second ∷ []) files → IfOk result (λ answer. IsBenchAnswer request files (run_of answer) (text_of answer)))
        → IfOk result (λ answer. answer_status answer ≤ 1) → IfOk result HasText
        → (IsErrOf result stop.ReadFault → Rose (faults_middle second) (faults_now second)) → OthersStay left_middle left_now second → Promised result
    second_judged (Ok answer) taken fell row low has_text rose more = record {
      lawful = λ files h. row files (files_are files h);
      status = status_is (answer_status answer) (low_status (answer_status answer) low);
      low = omega (arith, low);
      has_text = has_text;
      read_fault = λ e. absurd (cc);
      untouched = λ other free. two_files more other
          (subst (λ (names : List (List ℕ)). ¬ Contains names other) (both_touched (answer_status answer) (name ∷ second ∷ []) low) (free_at (answer_status answer) other free));
      uncounted = λ e. absurd (reads_two e);
    }
    second_judged (Err stop.ReadFault) taken fell row low has_text rose more = record {
      lawful = λ files h. tt;
      status = status_is 5 refl;
      low = tt;
      has_text = tt;
      read_fault = λ e. at_second name second command.two (rose_since (faults_before second) (faults_middle second) (faults_now second) (fell second) (rose refl)) taken;
      untouched = λ other free. two_files more other (free_at 5 other free);
      uncounted = λ e. absurd (reads_two e);
    }
    second_judged (Err stop.NoMemory) taken fell row low has_text rose more = record {
      lawful = λ files h. tt;
      status = status_is 7 refl;
      low = tt;
      has_text = tt;
      read_fault = λ e. absurd (cc);
      untouched = λ other free. two_files more other (free_at 7 other free);
      uncounted = λ e. absurd (reads_two e);
    }

  -- the first file is refused, and the second was not opened
  pub first_refused : (answer : Answer) → IsBare (run_of answer) 3 → HasText answer
      → ((files : Files) → AreFiles told (name ∷ second ∷ []) files → IsBenchAnswer request files (run_of answer) (text_of answer))
      → Promised left_middle faults_middle (Ok answer)
  first_refused answer bare has_text row = record {
    lawful = λ files h. row files (files_are files h);
    status = status_is (answer_status answer) (subst (λ (s : ℕ). list_any (λ n. n == s) pair_statuses ≡ true) (sym bare.ends) refl);
    low = let three = bare.ends in omega (arith, three);
    has_text = has_text;
    read_fault = λ e. absurd (cc);
    untouched = λ other free. others other (not_first other name []
        (subst (λ (s : ℕ). ¬ Contains (touched_at s (name ∷ second ∷ [])) other) bare.ends (free_at (answer_status answer) other free)));
    uncounted = λ e. absurd (reads_two e);
  }

  -- the first file could not be read, or memory was wanting
  pub first_stopped : {T : Type 0} (e : Stop) → (IsErrOf {T = T} (Err e) stop.ReadFault → Rose (faults_before name) (faults_middle name)) → Promised left_middle faults_middle (Err e)
  first_stopped stop.ReadFault rose = record {
    lawful = λ files h. tt;
    status = status_is 5 refl;
    low = tt;
    has_text = tt;
    read_fault = λ e. at_first name (second ∷ []) command.two (rose refl) others;
    untouched = λ other free. others other (not_first other name (second ∷ []) (free_at 5 other free));
    uncounted = λ e. absurd (reads_two e);
  }
  first_stopped stop.NoMemory rose = record {
    lawful = λ files h. tt;
    status = status_is 7 refl;
    low = tt;
    has_text = tt;
    read_fault = λ e. absurd (cc);
    untouched = λ other free. others other (not_first other name (second ∷ []) (free_at 7 other free));
    uncounted = λ e. absurd (reads_two e);
  }
