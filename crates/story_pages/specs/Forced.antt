-- Facts that axioms force without a supposition.
use Rattle.std.specs.Prelude.{ℕ, ◌==◌, List, [], ◌++◌, codes, length, if◌then◌else◌}
use Rattle.vocab.specs.Size.{Extent}
use Rattle.vocab.specs.Titled.{Titled}
use Rattle.tellings.specs.declared.tellings.Passage.{Passage}
use Rattle.story_pages.specs.Sentences.{items_html}

-- forced facts, of which there are some
abbrev pub list_html : Extent → List Titled → Passage → List ℕ
list_html size axioms forced = codes "<section>\n<h3>Without any supposition</h3>\n<ol class=z>\n" ++ items_html size axioms forced ++ codes "</ol></section>\n"

-- forced facts, if there are any
abbrev pub forced_html : Extent → List Titled → Passage → List ℕ
forced_html size axioms forced = if length forced.sentences == 0 then [] else list_html size axioms forced
