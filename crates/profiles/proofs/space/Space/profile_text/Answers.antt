use Rattle.std.proofs.Common.{◌∙◌, ◌<◌, ◌≤◌, ◌++◌, [], ◌∷◌, ap, ap₂, sym, length, arith, length-append}
use Rattle.std.specs.List.{join_with_byte}
use Rattle.std.proofs.lemmas.List.{take_all}
use Rattle.meaning.specs.Texts.{cast_text}
use Rattle.profiles.proofs.ProfileTexts.{texts_of, length-texts_of, next_text}
use Rattle.profiles.proofs.space.Space.profile_text.Goals as goal

pub loop-i-preserved : goal.loop-i-preserved
loop-i-preserved c =
    let inner : c.loop-i.i < c.args.self.now.voters = omega arith in
    let some : 0 < c.loop-i.i = omega arith in
    record {
      text = c.append_cast-in-loop-i.ensures.value ∙ ap₂ (λ a b. a ++ cast_text c.args.self.now b) (c.push.ensures ∙ ap (λ t. t ++ 124 ∷ []) c.loop-i.invariant.text) c.ballot_of-in-loop-i.ensures.value ∙ sym (next_text c.args.self.now c.args.p c.loop-i.i some inner);
      short = omega (arith, ap length c.push.ensures, length-append c.loop-i.text (124 ∷ []), c.append_cast-in-loop-i.ensures.short);
    }

pub returns : goal.returns
returns c =
    let whole : length (texts_of c.args.self.now c.args.p) ≤ c.loop-i.i = omega (arith, length-texts_of c.args.self.now c.args.p) in
    c.loop-i.invariant.text ∙ ap (join_with_byte 124) (take_all c.loop-i.i (texts_of c.args.self.now c.args.p) whole)
