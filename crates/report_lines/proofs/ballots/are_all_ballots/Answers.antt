use Rattle.std.proofs.Common.{◌≡◌, ◌∙◌, ◌+◌, ◌<◌, ◌&&◌, Bool, get_or, sym, ap, drop, arith}
use Rattle.std.specs.Cmp.Lexicographic.{pointwise}
use Rattle.std.specs.Str.{bytes_eq}
use Rattle.vocab.specs.Size.{ballot_count, ballot_places}
use Rattle.meaning.specs.Texts.{ranking_text}
use Rattle.meaning.proofs.BallotLaws.{place_of_ballot}
use Rattle.profiles.proofs.ProfileTexts.{ballot_letters}
use Rattle.report_lines.specs.Rest.{words_after}
use Rattle.report_lines.proofs.BallotLemmas.{ballot_words}
use Rattle.report_lines.proofs.NameLemmas.{texts_more}
use Rattle.report_lines.proofs.ballots.are_all_ballots.Goals as goal

pub returns-then-not-is_same : goal.returns-then-not-is_same
returns-then-not-is_same c =
    let size = c.args.space.now in
    let b = c.loop-b.b in
    let within : b < ballot_count size = omega (arith, c.ballots-b-end.ensures.value) in
    let place = get_or (ballot_places size) b 0 in
    let same : c.is_same.result ≡ bytes_eq c.in-Some.word.now (ranking_text size.alternatives place) = c.is_same.ensures ∙ ap (bytes_eq c.in-Some.word.now) (c.bytes.ensures ∙ c.ballot_text-text.ensures ∙ ballot_letters size b within) in
    let more = texts_more (ranking_text size.alternatives) (ballot_places size) b place (words_after c.loop-b.left.now) (words_after c.in-Some.more.now) c.in-Some.word.now c.is_same.result (place_of_ballot size b within) c.in-Some.ensures.0 same in
    sym (c.loop-b.invariant ∙ more ∙ ap (λ (t : Bool). t && pointwise bytes_eq (words_after c.in-Some.more.now) (drop (b + 1) (ballot_words size))) c.if-not-is_same.true)

pub loop-b-preserved : goal.loop-b-preserved
loop-b-preserved c =
    let size = c.args.space.now in
    let b = c.loop-b.b in
    let within : b < ballot_count size = omega (arith, c.ballots-b-end.ensures.value) in
    let place = get_or (ballot_places size) b 0 in
    let same : c.is_same.result ≡ bytes_eq c.in-Some.word.now (ranking_text size.alternatives place) = c.is_same.ensures ∙ ap (bytes_eq c.in-Some.word.now) (c.bytes.ensures ∙ c.ballot_text-text.ensures ∙ ballot_letters size b within) in
    let more = texts_more (ranking_text size.alternatives) (ballot_places size) b place (words_after c.loop-b.left.now) (words_after c.in-Some.more.now) c.in-Some.word.now c.is_same.result (place_of_ballot size b within) c.in-Some.ensures.0 same in
    c.loop-b.invariant ∙ more ∙ ap (λ (t : Bool). t && pointwise bytes_eq (words_after c.in-Some.more.now) (drop (b + 1) (ballot_words size))) c.if-not-is_same.false
