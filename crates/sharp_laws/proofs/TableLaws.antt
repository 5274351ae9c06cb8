-- The fault of the table of a mark is the first of the other instances whose body is false of it.
use Rattle.std.proofs.Common.{◌≡◌, refl, sym, ap, ◌∙◌, ℕ, Bool, true, false, ◌&&◌, List, [], ◌∷◌, ◌++◌, Some, None, cond, ◌↔◌}
use Rattle.std.specs.List.{list_all}
use Rattle.std.proofs.lemmas.Bool.{and_parts, and_from}
use Rattle.vocab.specs.Study.{Question}
use Rattle.verdicts.specs.declared.refusals.Refusal.TheVariants.{Fails}
use Rattle.verdicts.specs.Lines.{name_at}
use Rattle.sharp_verdicts.specs.declared.instances.Cited.{Cited}
use Rattle.sharp_verdicts.specs.declared.refusals.SharpRefusal.{SharpRefusal}
use Rattle.sharp_verdicts.specs.declared.refusals.SharpRefusal.TheVariants.{Report}
use Rattle.sharp_verdicts.specs.Instances.{is_true_of}
use Rattle.sharp_verdicts.specs.SharpFaults.{instances_fault}
use Rattle.sharp_laws.specs.Laws.{IsFirstFalse}

module _ (study : Question) (table : List ℕ) where
  abbrev test : Cited → Bool
  test c = is_true_of study table c

  -- the word that names an instance
  abbrev word_of : Cited → SharpRefusal
  word_of c = Report (Fails (name_at study.axioms c.«axiom») c.number)

  pub none_from : (cs : List Cited) → list_all test cs ≡ true → instances_fault study table cs ≡ None
  none_from [] h = refl
  none_from (c ∷ cs) h =
      let p = and_parts (test c) (list_all test cs) h in
      ap (λ b. cond b (instances_fault study table cs) (Some (word_of c))) p.0 ∙ none_from cs p.1

  pub true_from : (cs : List Cited) → instances_fault study table cs ≡ None → list_all test cs ≡ true
  true_from [] e = refl
  true_from (c ∷ cs) e = by_test (test c) e (true_from cs)
    where
      by_test : (b : Bool) → cond b (instances_fault study table cs) (Some (word_of c)) ≡ None → (instances_fault study table cs ≡ None → list_all test cs ≡ true) → (b && list_all test cs) ≡ true
      by_test true f go = go f
      by_test false f go = absurd (cc)

  next_false : (c : Cited) (cs : List Cited) (word : SharpRefusal) → test c ≡ true → IsFirstFalse study table cs word → IsFirstFalse study table (c ∷ cs) word
  next_false c cs word h f = record {
    before = c ∷ f.before;
    cited = f.cited;
    after = f.after;
    split = ap (λ ds. c ∷ ds) f.split;
    named = f.named;
    true_before = and_from _ _ h f.true_before;
    fails = f.fails;
  }

  false_from : (cs : List Cited) (word : SharpRefusal) → instances_fault study table cs ≡ Some word → IsFirstFalse study table cs word
  false_from [] word e = absurd (cc)
  false_from (c ∷ cs) word e = by_test (test c) refl e (false_from cs word)
    where
      by_test : (b : Bool) → test c ≡ b → cond b (instances_fault study table cs) (Some (word_of c)) ≡ Some word
          → (instances_fault study table cs ≡ Some word → IsFirstFalse study table cs word) → IsFirstFalse study table (c ∷ cs) word
      by_test true h f go = next_false c cs word h (go f)
      by_test false h f go =
          let same : word_of c ≡ word = cc in
          record { before = []; cited = c; after = cs; split = refl; named = sym same; true_before = refl; fails = h }

  false_to : (before : List Cited) (c : Cited) (after : List Cited) → list_all test before ≡ true → test c ≡ false → instances_fault study table (before ++ c ∷ after) ≡ Some (word_of c)
  false_to [] c after h f = ap (λ b. cond b (instances_fault study table after) (Some (word_of c))) f
  false_to (d ∷ before) c after h f =
      let p = and_parts (test d) (list_all test before) h in
      ap (λ b. cond b (instances_fault study table (before ++ c ∷ after)) (Some (word_of d))) p.0 ∙ false_to before c after p.1 f

  pub table_faults : (cs : List Cited) → ((instances_fault study table cs ≡ None) ↔ (list_all test cs ≡ true)) × ((word : SharpRefusal) → (instances_fault study table cs ≡ Some word) ↔ IsFirstFalse study table cs word)
  table_faults cs = (
    (true_from cs, none_from cs),
    λ word. (false_from cs word, λ f. ap (instances_fault study table) f.split ∙ false_to f.before f.cited f.after f.true_before f.fails ∙ ap Some (sym f.named)),
  )
