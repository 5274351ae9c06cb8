-- What is among known facts, and all of them.
use Rattle.std.proofs.Common.{◌≡◌, refl, sym, subst, ℕ, Bool, true, List, [], ◌∷◌, ◌++◌, Result, Ok, Err, IfOk}
use Rattle.std.specs.Prelude.{◌==◌}
use Rattle.std.specs.List.{list_all}
use Rattle.std.proofs.lemmas.Bool.{and_from, or_left, or_right}
use Rattle.lists.proofs.TestLaws.{all_kept, all_weaker, kept_pass}
use Rattle.vocab.specs.declared.literals.Literal.{Literal}
use Rattle.vocab.specs.Literal.{has, profile_of, same_literal}
use Rattle.vocab.specs.Size.{Extent}
use Rattle.vocab.specs.Titled.{Titled}
use Rattle.meaning.specs.declared.stories.Lemma.{Lemma}
use Rattle.meaning.specs.declared.stories.Reason.{Reason}
use Rattle.meaning.specs.declared.stories.Reason.TheVariants.{Outcome as ByOutcome}
use Rattle.meaning.specs.Stories.{refutes}
use Rattle.meaning.proofs.LiteralLaws.{same_literal-refl}
use Rattle.worlds.proofs.BoardLemmas.{all_has}
use Rattle.tellings.specs.Laws.{facts_at}
use Rattle.tellings.proofs.OutcomeLaws.{leave_nothing, own_facts}
use Rattle.needed_facts.specs.Rests.{are_there, RestsOn}

pub has_itself : (ls : List Literal) → list_all (has ls) ls ≡ true
has_itself [] = refl
has_itself (l ∷ ls) =
    and_from (has (l ∷ ls) l) (list_all (has (l ∷ ls)) ls) (or_left (same_literal l l) (has ls l) (same_literal-refl l))
    (all_weaker (has ls) (has (l ∷ ls)) (λ k h. or_right (same_literal k l) (has ls k) h) ls (has_itself ls))

-- all that is among facts that stand, stands
pub all_among : (t : Literal → Bool) (known rests : List Literal) → list_all t known ≡ true → list_all (has known) rests ≡ true → list_all t rests ≡ true
all_among t known rests all kept = all_weaker (has known) t (λ q h. all_has t known q all h) rests kept

module _ (size : Extent) (axioms : List Titled) (core : List ℕ) (earlier : List Lemma) where
  -- of what is left at a profile the facts there are enough
  pub there_rest : {E : Type 0} (known others : List Literal) (reason : Reason) (p : ℕ) (r : Result (List Literal) E) → reason ≡ ByOutcome p → IfOk r (λ found. found ≡ facts_at p known) →
      refutes size axioms core earlier (known ++ others) reason ≡ true → IfOk r (λ rests. RestsOn size axioms core earlier known others reason rests)
  there_rest known others reason p (Err e) is same h = tt
  there_rest known others reason p (Ok found) is same h = record {
    kept = subst (λ (ls : List Literal). list_all (has known) ls ≡ true) (sym same) (all_kept (has known) (λ (l : Literal). profile_of l == p) known (has_itself known));
    refuted = subst (λ (k : Reason). refutes size axioms core earlier (found ++ others) k ≡ true) (sym is)
        (subst (λ (ls : List Literal). refutes size axioms core earlier (ls ++ others) (ByOutcome p) ≡ true) (sym same)
        (subst (λ (ls : List Literal). leave_nothing size ls ≡ true) (sym (own_facts p known others)) (subst (λ (k : Reason). refutes size axioms core earlier (known ++ others) k ≡ true) is h)));
  }

  pub are_found : {E : Type 0} (known : List Literal) (reason : Reason) (p : ℕ) (r : Result (List Literal) E) → reason ≡ ByOutcome p → IfOk r (λ found. found ≡ facts_at p known) →
      IfOk r (λ rests. are_there reason rests ≡ true)
  are_found known reason p (Err e) is same = tt
  are_found known reason p (Ok found) is same =
      subst (λ (k : Reason). are_there k found ≡ true) (sym is)
      (subst (λ (ls : List Literal). are_there (ByOutcome p) ls ≡ true) (sym same) (kept_pass (λ (l : Literal). profile_of l == p) known))

  pub all_rest : {E : Type 0} (known others : List Literal) (reason : Reason) (r : Result (List Literal) E) → IfOk r (λ all. all ≡ known) → refutes size axioms core earlier (known ++ others) reason ≡ true →
      IfOk r (λ rests. RestsOn size axioms core earlier known others reason rests)
  all_rest known others reason (Err e) same h = tt
  all_rest known others reason (Ok all) same h = record {
    kept = subst (λ (ls : List Literal). list_all (has known) ls ≡ true) (sym same) (has_itself known);
    refuted = subst (λ (ls : List Literal). refutes size axioms core earlier (ls ++ others) reason ≡ true) (sym same) h;
  }
