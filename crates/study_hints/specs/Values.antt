-- What was perhaps meant, by the values of a size and by names that are known.
use Rattle.std.specs.Prelude.{ℕ, ◌+◌, ◌==◌, Bool, false, ◌&&◌, nat_lt, nat_le, List, [], ◌∷◌, ◌++◌, length, slice_get, codes, decimal, if◌then◌else◌, Option, None, Some, is_some}
use Rattle.std.specs.List.{flat_map}
use Rattle.toml.specs.Data.{Data, table, Members, no_members, member, get_member}
use Rattle.vocab.specs.declared.kinds.Kind.{Kind}
use Rattle.vocab.specs.declared.kinds.Sort.TheVariants.{Ballot}
use Rattle.vocab.specs.Range.{below}
use Rattle.vocab.specs.Size.{Extent, sort_count}
use Rattle.meaning.specs.Texts.{ballot_text, kind_text}
use Rattle.sorts.specs.Constants.{ballot_constant_text, ballot_value}
use Rattle.axiom_library.specs.Library.{Entry, library}
use Rattle.study.specs.Document.{document_kind}

-- ---- a variable that nothing binds

-- a letter of an alternative of the size
abbrev pub is_alternative : Extent → List ℕ → Bool
is_alternative size (c ∷ []) = nat_le 97 c && nat_lt c (97 + size.alternatives)
is_alternative size _ = false

-- the constant that was perhaps meant
abbrev pub perhaps : Extent → List ℕ → List ℕ
perhaps size name =
    if is_alternative size name then codes "help perhaps @" ++ name ++ codes "\n"
    else if is_some (ballot_value size name) then codes "help perhaps <" ++ name ++ codes ">\n"
    else codes "help a variable: all or some before it names it\n"

-- ---- a constant that is no value

-- a ballot as a constant, after a blank
abbrev pub ballot_constant : Extent → ℕ → List ℕ
ballot_constant size b = codes " " ++ ballot_constant_text (ballot_text size b)

-- those that may be cast
abbrev pub ballot_constants : Extent → List ℕ
ballot_constants size = flat_map (ballot_constant size) (below (sort_count size Ballot))

-- the voters, the alternatives and the ballots of the size
abbrev pub voters_line : Extent → List ℕ
voters_line size = codes "help voters: #1 to #" ++ decimal size.voters ++ codes "\n"

abbrev pub alternatives_line : Extent → List ℕ
alternatives_line size = codes "help alternatives: @a to @" ++ (96 + size.alternatives) ∷ [] ++ codes "\n"

abbrev pub ballots_line : Extent → List ℕ
ballots_line size = codes "help ballots:" ++ ballot_constants size ++ codes "\n"

-- the values of the sort of a constant, by its first byte
abbrev pub values_of : Extent → List ℕ → List ℕ
values_of size [] = []
values_of size (c ∷ cs) = if c == 35 then voters_line size else if c == 64 then alternatives_line size else ballots_line size

-- ---- an unknown axiom

-- a name after a blank
abbrev pub name_text : Option Entry → List ℕ
name_text None = []
name_text (Some e) = codes " " ++ e.name

-- the names of the library of a kind
abbrev pub library_names : Kind → List ℕ
library_names kind = flat_map (λ place. name_text (slice_get (library kind) place)) (below (length (library kind)))

-- the keys of a table, each after a blank
abbrev pub keys_in : Members → List ℕ
keys_in no_members = []
keys_in (member key value rest) = codes " " ++ key ++ keys_in rest

-- the sentences of a table
abbrev pub own_names : Members → List ℕ
own_names members = codes "help sentences of the study:" ++ keys_in members ++ codes "\n"

-- the study's own sentences, where there is a table of them
abbrev pub own_line : Option Data → List ℕ
own_line (Some (table members)) = own_names members
own_line _ = []

-- the library of the kind
abbrev pub library_line : Option Kind → List ℕ
library_line None = []
library_line (Some kind) = codes "help axioms of " ++ kind_text kind ++ codes ":" ++ library_names kind ++ codes "\n"

-- the axioms that a document may list
abbrev pub document_lines : Members → List ℕ
document_lines document = library_line (document_kind (get_member (codes "kind") document)) ++ own_line (get_member (codes "sentences") document)

-- the same of a document that may be missing
abbrev pub axiom_words : Option Members → List ℕ
axiom_words None = []
axiom_words (Some document) = document_lines document
