-- Sentences, gathered one after another.
use Rattle.std.proofs.Common.{◌≡◌, ◌<◌, ◌+◌, ℕ, zero, suc, arith, List, [], ◌∷◌, ◌++◌, length, get_or, take, drop, map, Result, Ok, Err, refl, sym, ap, ◌∙◌, subst, append_assoc, take-append-drop}
use Rattle.std.proofs.lemmas.List.{append-nil, take_more, drop_more}
use Rattle.vocab.specs.Size.{Extent}
use Rattle.vocab.specs.Titled.{Titled}
use Rattle.axiom_library.specs.Library.{Entry}
use Rattle.study.specs.declared.faults.StudyFault.{StudyFault}
use Rattle.study.specs.declared.sentences.Unresolved.{Unresolved}
use Rattle.study.specs.Refusing.{and_then}
use Rattle.study.specs.Sentences.{AreReadAs, resolved_one, resolved_all}
use Rattle.study.specs.Unresolved.{worded_of, IsReadAs, IsTextRefused, IsFirstRefused, IsSmall, AreSmall}

-- one more text that reads
read_more : (before : List Entry) (e : Entry) (ws : List Unresolved) (w : Unresolved) → AreReadAs before (map worded_of ws) → IsReadAs e (worded_of w) → AreReadAs (before ++ e ∷ []) (map worded_of (ws ++ w ∷ []))
read_more [] e [] w r one = (one.name, one.sentence, tt)
read_more [] e (v ∷ ws) w r one = absurd r
read_more (x ∷ before) e [] w r one = absurd r
read_more (x ∷ before) e (v ∷ ws) w r one = (r.0, r.1, read_more before e ws w r.2 one)

pub read_next : (entries : List Entry) (place : ℕ) (e : Entry) (ws : List Unresolved) (w : Unresolved) → place < length entries → e ≡ get_or entries place e → AreReadAs (take place entries) (map worded_of ws) → IsReadAs e (worded_of w)
    → AreReadAs (take (place + 1) entries) (map worded_of (ws ++ w ∷ []))
read_next entries place e ws w within is r one = rw (take_more entries place e within, ← is) (read_more (take place entries) e ws w r one)

-- the first that does not
pub read_stops : (entries : List Entry) (place : ℕ) (e : Entry) (ws : List Unresolved) (refusal : StudyFault) → place < length entries → e ≡ get_or entries place e → AreReadAs (take place entries) (map worded_of ws) → IsTextRefused e refusal
    → IsFirstRefused entries refusal
read_stops entries place e ws refusal within is r one = record {
  name = e.name;
  reason = one.reason;
  unread = record {
    before = take place entries;
    text = e.text;
    after = drop (place + 1) entries;
    listed = sym (take-append-drop place entries) ∙ ap (λ rest. take place entries ++ rest) (drop_more entries place e within ∙ ap (λ x. x ∷ drop (place + 1) entries) (sym is));
    sentences = map worded_of ws;
    read = r;
    unread = one.unread;
    not_memory = one.not_memory;
  };
  told = one.told;
}

-- the axioms of sentences, after those before
abbrev pub resolved_after : Extent → List Titled → List Unresolved → Result (List Titled) StudyFault
resolved_after size before [] = Ok before
resolved_after size before (w ∷ ws) = and_then (λ a. resolved_after size (before ++ a ∷ []) ws) (resolved_one size (worded_of w))

more_axioms : (before : List Titled) (a : Titled) (found : Result (List Titled) StudyFault)
    → and_then (λ axioms. Ok ((before ++ a ∷ []) ++ axioms)) found ≡ and_then (λ axioms. Ok (before ++ axioms)) (and_then (λ axioms. Ok (a ∷ axioms)) found)
more_axioms before a (Err f) = refl
more_axioms before a (Ok axioms) = ap Ok (append_assoc before (a ∷ []) axioms)

one_axiom : (before : List Titled) (gather : List Titled → Result (List Titled) StudyFault) (found : Result (List Titled) StudyFault)
    → ((others : List Titled) → gather others ≡ and_then (λ axioms. Ok (others ++ axioms)) found) → (axiom_found : Result Titled StudyFault)
    → and_then (λ a. gather (before ++ a ∷ [])) axiom_found ≡ and_then (λ axioms. Ok (before ++ axioms)) (and_then (λ a. and_then (λ axioms. Ok (a ∷ axioms)) found) axiom_found)
one_axiom before gather found goes_on (Err f) = refl
one_axiom before gather found goes_on (Ok a) = goes_on (before ++ a ∷ []) ∙ more_axioms before a found

resolved_each : (size : Extent) (ws : List Unresolved) (before : List Titled) → resolved_after size before ws ≡ and_then (λ axioms. Ok (before ++ axioms)) (resolved_all size (map worded_of ws))
resolved_each size [] before = rw append-nil
resolved_each size (w ∷ ws) before = one_axiom before (λ others. resolved_after size others ws) (resolved_all size (map worded_of ws)) (resolved_each size ws) (resolved_one size (worded_of w))

all_axioms : (found : Result (List Titled) StudyFault) → and_then (λ axioms. Ok ([] ++ axioms)) found ≡ found
all_axioms (Err f) = refl
all_axioms (Ok axioms) = refl

pub resolved_every : (size : Extent) (ws : List Unresolved) → resolved_after size [] ws ≡ resolved_all size (map worded_of ws)
resolved_every size ws = resolved_each size ws [] ∙ all_axioms (resolved_all size (map worded_of ws))

-- one of some small sentences is small
pub small_at : (ws : List Unresolved) (place : ℕ) (w : Unresolved) → place < length ws → w ≡ get_or ws place w → AreSmall (map worded_of ws) → IsSmall (worded_of w)
small_at ws place w within is small = subst (λ x. IsSmall (worded_of x)) (sym is) (small_in ws place w within small)
  where
    small_in : (ws : List Unresolved) (place : ℕ) (d : Unresolved) → place < length ws → AreSmall (map worded_of ws) → IsSmall (worded_of (get_or ws place d))
    small_in [] place d within small = absurd (omega arith)
    small_in (w ∷ ws) zero d within small = small.0
    small_in (w ∷ ws) (suc place) d within small = small_in ws place d (omega arith) small.1
