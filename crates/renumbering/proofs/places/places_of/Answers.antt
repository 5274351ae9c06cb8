use Rattle.std.proofs.Common.{Some, [], sym, ◌∙◌, ap, arith, true≢false}
use Rattle.std.proofs.lemmas.Option.{slice_get_within, slice_get-get_or}
use Rattle.renumbering.proofs.PlaceLemmas.{places_more, found_at}
use Rattle.renumbering.proofs.places.places_of.Goals as goal
use Rattle.renumbering.proofs.places.places_of.Goals.{then-flags-j+in_ok-push, else-flags-j+in_ok-push-2}

pub overflow_add-next : goal.overflow_add-next
overflow_add-next c =
    let within = slice_get_within c.args.new.now.clauses c.find-place.result _ c.find-place.ensures in
    omega (arith, within, c.len-few.ensures.limits.few_clauses)

pub loop-j-preserved : goal.loop-j-preserved
loop-j-preserved c = elim c.if-flags-j.branch [
  | then-flags-j+in_ok-push w ↦
      let within = slice_get_within c.args.new.now.clauses w.find-place.result _ w.find-place.ensures in
      let items = ap (λ v. v.items) w.places-is ∙ w.in_ok-push.ensures.items in
      record {
        places = places_more c.args.old.now.clauses c.args.new.now.clauses c.args.flags.now c.loop-j.j c.loop-j.places.items _ w.find-place.result c.loop-j.invariant.places items
            (λ _. found_at c.args.old.now.clauses c.args.new.now.clauses c.loop-j.j w.find-place.result _ (slice_get-get_or c.args.old.now.clauses c.loop-j.j [] (omega arith)) (w.find-place.ensures ∙ ap Some w.get.ensures));
        next = omega (arith, within, w.next-is);
      }
  | else-flags-j+in_ok-push-2 w ↦
      let items = ap (λ v. v.items) w.places-is ∙ w.in_ok-push-2.ensures.items in
      record {
        places = places_more c.args.old.now.clauses c.args.new.now.clauses c.args.flags.now c.loop-j.j c.loop-j.places.items _ 0 c.loop-j.invariant.places items (λ up. absurd (true≢false (sym up ∙ w.if-flags-j.false)));
        next = omega (arith, c.loop-j.invariant.next, w.next-is);
      }
]
