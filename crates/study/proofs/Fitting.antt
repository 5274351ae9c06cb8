-- Sentences that pass each test of a study, and the study of a listing whose texts read as such.
use Rattle.std.proofs.Common.{◌≡◌, refl, sym, ℕ, List, [], ◌∷◌, Bool, true, false, true≢false, Result, Ok, Err}
use Rattle.std.specs.Prelude.{◌&&◌, nat_le}
use Rattle.std.proofs.lemmas.Bool.{and_parts}
use Rattle.vocab.specs.NamedTree.{NamedTree}
use Rattle.vocab.specs.Size.{Extent}
use Rattle.vocab.specs.Sorted.{is_askable}
use Rattle.vocab.specs.Study.{Question}
use Rattle.vocab.specs.Titled.{Titled}
use Rattle.vocab.specs.Tree.{Tree}
use Rattle.syntax.specs.Sentence.{IsSentence}
use Rattle.sorts.specs.declared.faults.SortFault.{SortFault}
use Rattle.sorts.specs.Answers.{answer_of}
use Rattle.axiom_library.specs.Library.{Entry}
use Rattle.study.specs.declared.limits.Limit.{Limit}
use Rattle.study.specs.declared.limits.Limit.TheVariants.{Instances, Body, Work}
use Rattle.study.specs.Sentences.{Worded, AreReadAs, resolved_all, limit_number, count_of, within, opened, study_of}
use Rattle.study.specs.Reading.{IsListingAnswer, read}

-- ---- an axiom at a size

-- its text reads as a sentence that is well sorted, may be asked and is within the limits
pub record Fits (size : Extent) (e : Entry) : Type 0 where
  pub tree : NamedTree
  pub reads : IsSentence e.text tree
  pub sentence : Tree
  pub resolves : answer_of size tree ≡ Ok sentence
  pub askable : is_askable size sentence ≡ true
  pub few : (limit : Limit) → nat_le (count_of size limit sentence) (limit_number limit) ≡ true

-- it is within a limit
abbrev pub is_few : Extent → Limit → Tree → Bool
is_few size limit f = nat_le (count_of size limit f) (limit_number limit)

-- a tree without names may be asked and is within the limits
abbrev pub is_fit : Extent → Result Tree SortFault → Bool
is_fit size (Ok f) = is_askable size f && (is_few size Instances f && (is_few size Body f && is_few size Work f))
is_fit size (Err fault) = false

each_few : (size : Extent) (f : Tree) → is_few size Instances f ≡ true → is_few size Body f ≡ true → is_few size Work f ≡ true → (limit : Limit) → is_few size limit f ≡ true
each_few size f a b c Instances = a
each_few size f a b c Body = b
each_few size f a b c Work = c

pub fits_by : (size : Extent) (e : Entry) (f : NamedTree) (r : Result Tree SortFault) → IsSentence e.text f → answer_of size f ≡ r → is_fit size r ≡ true → Fits size e
fits_by size e f (Err fault) reads is fit = absurd (true≢false (sym fit))
fits_by size e f (Ok t) reads is fit =
    let a = and_parts (is_askable size t) _ fit in
    let b = and_parts (is_few size Instances t) _ a.1 in
    let c = and_parts (is_few size Body t) _ b.1 in
    record { tree = f; reads = reads; sentence = t; resolves = is; askable = a.0; few = each_few size t b.0 c.0 c.1 }

-- ---- some axioms

-- the texts of all read as sentences that together pass each test
pub record AreFit (size : Extent) (entries : List Entry) : Type 0 where
  pub sentences : List Worded
  pub axioms : List Titled
  pub reads : AreReadAs entries sentences
  pub resolves : resolved_all size sentences ≡ Ok axioms
  pub askable : opened size axioms ≡ Ok tt
  pub few : (limit : Limit) → within size limit axioms ≡ Ok tt

module _ (size : Extent) where
  pub none_fit : AreFit size []
  none_fit = record { sentences = []; axioms = []; reads = tt; resolves = refl; askable = refl; few = λ limit. refl }

  pub more_fit : (e : Entry) (entries : List Entry) → Fits size e → AreFit size entries → AreFit size (e ∷ entries)
  more_fit e entries f all = record {
    sentences = record { name = e.name; sentence = f.tree } ∷ all.sentences;
    axioms = record { name = e.name; sentence = f.sentence } ∷ all.axioms;
    reads = (refl, f.reads, all.reads);
    resolves = rw (f.resolves, all.resolves) refl;
    askable = rw f.askable all.askable;
    few = λ limit. rw (f.few limit) (all.few limit);
  }

  -- so the listing of these has a study
  pub study_given : (conflicts : ℕ) (entries : List Entry) → AreFit size entries → (study : Question) × IsListingAnswer (record { size = size; conflicts = conflicts; axioms = entries }) (Ok study)
  unfolding study_of
  study_given conflicts entries all = (record { size = size; conflicts = conflicts; axioms = all.axioms }, read all.sentences all.reads (sym given))
    where
      given : study_of size conflicts all.sentences ≡ Ok (record { size = size; conflicts = conflicts; axioms = all.axioms })
      given = rw (all.resolves, all.askable, all.few Instances, all.few Body, all.few Work) refl
