-- What the values of a TOML document say of a study, key by key. The members of a table stand in the byte order of their keys.
use Rattle.std.specs.Prelude.{ℕ, List, [], ◌∷◌, Bool, false, ◌||◌, if◌then◌else◌, ℤ, pos, Option, None, Some, option_map, option_and_then, Result, Ok, Err, codes}
use Rattle.std.specs.Option.{ok_or}
use Rattle.std.specs.Str.{bytes_eq, is_utf8}
use Rattle.toml.specs.Data.{Data, string, integer, boolean, array, table, Items, no_items, item, Members, no_members, member, get_member, as_str}
use Rattle.toml.specs.Parse.{parse_document}
use Rattle.vocab.specs.declared.kinds.Kind.{Kind}
use Rattle.vocab.specs.declared.kinds.Kind.TheVariants.{Choice, Ranking, Sets}
use Rattle.vocab.specs.Name.{is_name}
use Rattle.axiom_library.specs.Library.{Entry}
use Rattle.study.specs.declared.drafts.Draft.{Draft}
use Rattle.study.specs.declared.drafts.Head.{Head}
use Rattle.study.specs.Refusing.{◌>>=◌}

-- the document that the bytes are, if they are UTF-8 and TOML
abbrev pub document_of : List ℕ → Option Members
document_of bytes = if is_utf8 bytes then parse_document bytes else None

-- `kind`: the string `choice`, `ranking` or `sets`
abbrev pub document_kind : Option Data → Option Kind
document_kind (Some (string text)) = if bytes_eq text (codes "choice") then Some Choice else if bytes_eq text (codes "ranking") then Some Ranking else if bytes_eq text (codes "sets") then Some Sets else None
document_kind _ = None

-- `voters`, `alternatives`: an integer
abbrev pub integer_of : Option Data → Option ℤ
integer_of (Some (integer z)) = Some z
integer_of _ = None

-- `absent`: a truth value, or nothing, which stands for `false`
abbrev pub absent_of : Option Data → Option Bool
absent_of None = Some false
absent_of (Some (boolean b)) = Some b
absent_of _ = None

-- `conflicts`: an integer, or nothing, which stands for 100,000
abbrev pub conflicts_of : Option Data → Option ℤ
conflicts_of None = Some (pos 100000)
conflicts_of (Some (integer z)) = Some z
conflicts_of _ = None

-- the texts that are the items of an array, if each is a string
abbrev pub texts_in : Items → Option (List (List ℕ))
texts_in no_items = Some []
texts_in (item value rest) = option_and_then (λ text. option_map (λ texts. text ∷ texts) (texts_in rest)) (as_str value)

-- `ballots`: an array of strings, or nothing, which stands for all rankings
abbrev pub ballots_of : Option Data → Result (Option (List (List ℕ))) (List ℕ)
ballots_of None = Ok None
ballots_of (Some (array items)) = ok_or (option_map Some (texts_in items)) (codes "ballots")
ballots_of _ = Err (codes "ballots")

-- `axioms`: an array of strings
abbrev pub axioms_of : Option Data → Option (List (List ℕ))
axioms_of (Some (array items)) = texts_in items
axioms_of _ = None

-- a sentence of the study's own: a name, and the text of a sentence
abbrev pub own_sentence : List ℕ → Data → Result Entry (List ℕ)
own_sentence key (string text) = if is_name key then Ok (record { name = key; text = text }) else Err key
own_sentence key _ = Err key

-- the sentences of a table, or its first key that is no name or has no string
abbrev pub sentences_in : Members → Result (List Entry) (List ℕ)
sentences_in no_members = Ok []
sentences_in (member key value rest) = own_sentence key value >>= (λ e. sentences_in rest >>= (λ own. Ok (e ∷ own)))

-- `sentences`: a table of such, or nothing, which stands for none
abbrev pub sentences_of : Option Data → Result (List Entry) (List ℕ)
sentences_of None = Ok []
sentences_of (Some (table members)) = sentences_in members
sentences_of _ = Err (codes "sentences")

-- the keys that a study may have
abbrev pub is_key : List ℕ → Bool
is_key key =
    bytes_eq key (codes "kind") || bytes_eq key (codes "voters") || bytes_eq key (codes "alternatives") || bytes_eq key (codes "ballots")
    || bytes_eq key (codes "absent") || bytes_eq key (codes "conflicts") || bytes_eq key (codes "axioms") || bytes_eq key (codes "sentences")

-- there is no other key; else the first of them
abbrev pub known_keys : Members → Result (Unit {0}) (List ℕ)
known_keys no_members = Ok tt
known_keys (member key value rest) = if is_key key then known_keys rest else Err key

-- the kind, the numbers, the ballots and the word on absence that a document says, or its first key that has not its form
unfoldable pub head_of : Members → Result Head (List ℕ)
head_of document = do
  kind ← ok_or (document_kind (get_member (codes "kind") document)) (codes "kind")
  voters ← ok_or (integer_of (get_member (codes "voters") document)) (codes "voters")
  alternatives ← ok_or (integer_of (get_member (codes "alternatives") document)) (codes "alternatives")
  ballots ← ballots_of (get_member (codes "ballots") document)
  absent ← ok_or (absent_of (get_member (codes "absent") document)) (codes "absent")
  conflicts ← ok_or (conflicts_of (get_member (codes "conflicts") document)) (codes "conflicts")
  Ok (record { kind = kind; voters = voters; alternatives = alternatives; ballots = ballots; absent = absent; conflicts = conflicts })

-- all that a document says, or its first key that has not its form
unfoldable pub draft_of : Members → Result Draft (List ℕ)
draft_of document = do
  head ← head_of document
  axioms ← ok_or (axioms_of (get_member (codes "axioms") document)) (codes "axioms")
  sentences ← sentences_of (get_member (codes "sentences") document)
  _ ← known_keys document
  Ok (record { head = head; axioms = axioms; sentences = sentences })
