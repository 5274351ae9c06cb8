-- What a page says before its proof or its rule: the size, the axioms, and how profiles and tables are read.
use Rattle.std.specs.Prelude.{ℕ, nat_lt, Bool, List, [], ◌++◌, codes, slice_get, Option, Some, None, if◌then◌else◌}
use Rattle.std.specs.Fmt.{decimal}
use Rattle.std.specs.List.{flat_map}
use Rattle.std.specs.Option.{unwrap_or}
use Rattle.vocab.specs.declared.kinds.Kind.{Kind}
use Rattle.vocab.specs.declared.kinds.Kind.TheVariants.{Choice, Ranking, Sets}
use Rattle.vocab.specs.declared.kinds.Sort.TheVariants.{Profile, Ballot}
use Rattle.vocab.specs.Range.{below}
use Rattle.vocab.specs.Size.{Extent, is_full, sort_count}
use Rattle.vocab.specs.Titled.{Titled}
use Rattle.syntax.specs.Canonical.{canonical_text}
use Rattle.axiom_library.specs.Library.{text_under}
use Rattle.instance_text.specs.Bodies.{named_sentence}
use Rattle.verdicts.specs.Lines.{name_at}
use Rattle.html.specs.Escapes.{escaped}
use Rattle.html.specs.Facts.{alternative_html, ballot_html, profile_html}
use Rattle.html.specs.Grids.{is_gridded}
use Rattle.story_pages.specs.Sentences.{axiom_html}
use Rattle.pages.specs.Words.{library_words}

-- ---- the size

-- what a rule gives at a profile
abbrev pub gives_words : Kind → List ℕ
gives_words Choice = codes "one alternative, the winner"
gives_words Ranking = codes "one ranking of the alternatives"
gives_words Sets = codes "a set of alternatives that is not empty, the winners"

-- whether voters may stay away
abbrev pub absent_words : Extent → List ℕ
absent_words size = if size.absent then codes ", or stays away (-)" else []

-- an alternative, a blank before it
abbrev pub lettered_html : ℕ → List ℕ
lettered_html x = codes " " ++ alternative_html x

module _ (size : Extent) where
  -- a ballot, a blank before it
  abbrev pub listed_ballot_html : ℕ → List ℕ
  listed_ballot_html b = codes " " ++ ballot_html size b

  -- the ballots that voters may cast
  abbrev pub some_ballots : List ℕ
  some_ballots = codes "one of the rankings" ++ flat_map listed_ballot_html (below (sort_count size Ballot))

  abbrev pub allowed_ballots_html : List ℕ
  allowed_ballots_html = if is_full size then codes "any ranking of them" else some_ballots

  -- the size, and what a rule is
  abbrev pub size_html : List ℕ
  size_html =
      codes "<p>Voters: " ++ decimal size.voters ++ codes ". Alternatives:"
      ++ flat_map lettered_html (below size.alternatives) ++ codes ". Each voter casts " ++ allowed_ballots_html
      ++ absent_words size
      ++ codes ". A rule gives " ++ gives_words size.kind ++ codes ", at each of the "
      ++ decimal (sort_count size Profile) ++ codes " profiles of ballots.</p>\n"

-- ---- the axioms

-- a sentence, as code
abbrev pub code_html : List ℕ → List ℕ
code_html text = codes " <code>" ++ escaped text ++ codes "</code>"

module _ (size : Extent) where
  -- the sentence of an axiom: that which the library has under its name, or else its own, each variable
  -- by the letter of its sort and its place
  abbrev pub sentence_text : Titled → List ℕ
  sentence_text a = unwrap_or (text_under size.kind a.name) (canonical_text (named_sentence size a.sentence))

  abbrev pub sentence_of : Option Titled → List ℕ
  sentence_of None = []
  sentence_of (Some a) = code_html (sentence_text a)

  module _ (axioms : List Titled) where
    -- the axiom at a place: its name, its words and its sentence
    abbrev pub axiom_item : ℕ → List ℕ
    axiom_item k =
        codes "<li>" ++ axiom_html axioms k ++ library_words size.kind (name_at axioms k)
        ++ sentence_of (slice_get axioms k) ++ codes "</li>\n"

    -- axioms by their places
    abbrev pub axioms_html : List ℕ → List ℕ
    axioms_html places = codes "<ul class=a>\n" ++ flat_map axiom_item places ++ codes "</ul>\n"

-- ---- how to read

-- what follows by what is left, in a proof
abbrev pub left_words : Bool → List ℕ
left_words told =
    if told then codes " What follows by what is left holds in every outcome that agrees with the facts named there; where nothing is left, no outcome agrees with them." else []

-- a fact in a table of a proof
abbrev pub mark_words : Kind → List ℕ
mark_words Choice = codes "a struck letter does not win"
mark_words Ranking = codes "<code>ab</code> says that a is above b"
mark_words Sets = codes "a struck letter does not win"

module _ (size : Extent) where
  -- how a profile is read, by one of them
  abbrev pub example_html : List ℕ
  example_html =
      profile_html size 1
      ++ codes " is a profile: voter 1's ballot comes first, and in each ballot the best alternative."

  abbrev pub profile_words : List ℕ
  profile_words = if nat_lt 1 (sort_count size Profile) then example_html else []

  -- how a table of a proof is read: a fact, what is grey, and what small numbers are
  abbrev pub told_words : List ℕ
  told_words =
      codes " In the tables of the proof " ++ mark_words size.kind
      ++ codes "; grey is supposed, or forced without a supposition; a small number is that of the sentence which states the fact, a grey one among those without any supposition."

  abbrev pub grey_words : Bool → List ℕ
  grey_words told = if told then told_words else []

  -- how tables are read, with or without a proof
  abbrev pub gridded_words : Bool → List ℕ
  gridded_words told =
      codes " In a table the row is voter 1's ballot, and the column voter 2's." ++ grey_words told

  abbrev pub table_words : Bool → List ℕ
  table_words told = if is_gridded size 25 then gridded_words told else []

  abbrev pub reading_html : Bool → List ℕ
  reading_html told = codes "<p class=z>" ++ profile_words ++ left_words told ++ table_words told ++ codes "</p>\n"
