-- What the values of an array and of a table say, gathered one after another.
use Rattle.std.proofs.Common.{◌≡◌, ℕ, List, [], ◌∷◌, ◌++◌, Option, Some, None, option_map, option_and_then, Result, Ok, Err, refl, ap, ◌∙◌, append_assoc}
use Rattle.std.proofs.lemmas.List.{append-nil}
use Rattle.toml.specs.Data.{Items, no_items, item, Members, no_members, member, as_str}
use Rattle.axiom_library.specs.Library.{Entry}
use Rattle.study.specs.Document.{texts_in, own_sentence, sentences_in}
use Rattle.study.specs.Refusing.{and_then}

-- the texts of items, after those before
abbrev pub texts_after : List (List ℕ) → Items → Option (List (List ℕ))
texts_after before no_items = Some before
texts_after before (item value rest) = option_and_then (λ text. texts_after (before ++ text ∷ []) rest) (as_str value)

more_texts : (before : List (List ℕ)) (text : List ℕ) (found : Option (List (List ℕ)))
    → option_map (λ texts. (before ++ text ∷ []) ++ texts) found ≡ option_map (λ texts. before ++ texts) (option_map (λ texts. text ∷ texts) found)
more_texts before text None = refl
more_texts before text (Some texts) = ap Some (append_assoc before (text ∷ []) texts)

one_text : (before : List (List ℕ)) (gather : List (List ℕ) → Option (List (List ℕ))) (found : Option (List (List ℕ)))
    → ((others : List (List ℕ)) → gather others ≡ option_map (λ texts. others ++ texts) found) → (text : Option (List ℕ))
    → option_and_then (λ t. gather (before ++ t ∷ [])) text ≡ option_map (λ texts. before ++ texts) (option_and_then (λ t. option_map (λ texts. t ∷ texts) found) text)
one_text before gather found goes_on None = refl
one_text before gather found goes_on (Some t) = goes_on (before ++ t ∷ []) ∙ more_texts before t found

texts_each : (items : Items) (before : List (List ℕ)) → texts_after before items ≡ option_map (λ texts. before ++ texts) (texts_in items)
texts_each no_items before = rw append-nil
texts_each (item value rest) before = one_text before (λ others. texts_after others rest) (texts_in rest) (texts_each rest) (as_str value)

all_there : (found : Option (List (List ℕ))) → option_map (λ texts. [] ++ texts) found ≡ found
all_there None = refl
all_there (Some texts) = refl

pub texts_all : (items : Items) → texts_after [] items ≡ texts_in items
texts_all items = texts_each items [] ∙ all_there (texts_in items)

-- the sentences of members, after those before
abbrev pub sentences_after : List Entry → Members → Result (List Entry) (List ℕ)
sentences_after before no_members = Ok before
sentences_after before (member key value rest) = and_then (λ e. sentences_after (before ++ e ∷ []) rest) (own_sentence key value)

more_sentences : (before : List Entry) (e : Entry) (found : Result (List Entry) (List ℕ))
    → and_then (λ own. Ok ((before ++ e ∷ []) ++ own)) found ≡ and_then (λ own. Ok (before ++ own)) (and_then (λ own. Ok (e ∷ own)) found)
more_sentences before e (Err key) = refl
more_sentences before e (Ok own) = ap Ok (append_assoc before (e ∷ []) own)

one_sentence : (before : List Entry) (gather : List Entry → Result (List Entry) (List ℕ)) (found : Result (List Entry) (List ℕ))
    → ((others : List Entry) → gather others ≡ and_then (λ own. Ok (others ++ own)) found) → (sentence : Result Entry (List ℕ))
    → and_then (λ e. gather (before ++ e ∷ [])) sentence ≡ and_then (λ own. Ok (before ++ own)) (and_then (λ e. and_then (λ own. Ok (e ∷ own)) found) sentence)
one_sentence before gather found goes_on (Err key) = refl
one_sentence before gather found goes_on (Ok e) = goes_on (before ++ e ∷ []) ∙ more_sentences before e found

sentences_each : (members : Members) (before : List Entry) → sentences_after before members ≡ and_then (λ own. Ok (before ++ own)) (sentences_in members)
sentences_each no_members before = rw append-nil
sentences_each (member key value rest) before = one_sentence before (λ others. sentences_after others rest) (sentences_in rest) (sentences_each rest) (own_sentence key value)

all_own : (found : Result (List Entry) (List ℕ)) → and_then (λ own. Ok ([] ++ own)) found ≡ found
all_own (Err key) = refl
all_own (Ok own) = refl

pub sentences_all : (members : Members) → sentences_after [] members ≡ sentences_in members
sentences_all members = sentences_each members [] ∙ all_own (sentences_in members)
